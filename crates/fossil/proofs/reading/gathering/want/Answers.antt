use Rattle.fossil.specs.Taking.{is_noted}
use Rattle.fossil.proofs.GatherLemmas.{wanted_more}
use Rattle.std.proofs.Common.{rules}
use Rattle.fossil.proofs.reading.gathering.want.Goals as goal

pub returns : goal.returns
returns c = wanted_more c.args.wanted.now c.insert.new.self c.args.name (is_noted c.args.facts.now) c.in_ok-insert.ensures.updates (search rules)
