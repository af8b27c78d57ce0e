use Rattle.tests_trees.proofs.Good.{good_tree}
use Rattle.tests_trees.proofs.sums.becomes_at.Goals as goal

pub manifest-written-requires-clause-good : goal.manifest-written-requires-clause-good
manifest-written-requires-clause-good c = good_tree c.args.tree.now c.in-Ok.items c.in-Ok.ensures.tree
