use Rattle.fossil.specs.Taking.{is_noted}
use Rattle.fossil.proofs.GatherLemmas.{wanted_next}
use Rattle.fossil.proofs.reading.gathering.want_all.Goals as goal

pub loop-name-preserved : goal.loop-name-preserved
loop-name-preserved c =
    wanted_next c.args.names.now c.loop-name.name-index c.name-item.result c.args.wanted.now c.loop-name.wanted c.want.new.wanted (is_noted c.args.facts.now)
    c.loop-name-test.true c.name-item.is c.loop-name.invariant c.in_ok-want.ensures
