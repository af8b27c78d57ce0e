use Rattle.tests_hostile.proofs.Pairs.{distinct_pair}
use Rattle.tests_hostile.proofs.circles.posts.show_built.Goals as goal

pub build-requires : goal.build-requires
build-requires c = distinct_pair c.args.late.name c.args.early.name c.requires
