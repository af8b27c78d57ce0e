use Rattle.fsl_scrub.proofs.GrowingLemmas.{end_of, same_bytes, shuns_more, writes_on}
use Rattle.fsl_scrub.proofs.growing.append_shuns.Goals as goal

pub append_record-requires-clause-end : goal.append_record-requires-clause-end
append_record-requires-clause-end g c = end_of c.args.at c.loop-name.end _ _ _ c.requires c.loop-name.invariant

pub loop-name-preserved : goal.loop-name-preserved
loop-name-preserved g c =
    let more = writes_on c.args.at c.loop-name.end _ _ _ _ _ _ c.loop-name.invariant (rw c.in_ok-end.was at c.append_record.ensures.writes) in
    same_bytes c.args.at _ _ _ _ _ (shuns_more c.args.names.now c.loop-name.name-index c.name-item.result c.loop-name-test.true c.name-item.is) more
