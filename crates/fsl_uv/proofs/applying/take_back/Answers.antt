use Rattle.std.proofs.Common.{◌∙◌}
use Rattle.fsl_uv.proofs.UndoLemmas.{one-turns, one-less}
use Rattle.fsl_uv.proofs.applying.take_back.Goals as goal

pub take_one_back-requires-clause-turns : goal.take_one_back-requires-clause-turns
take_one_back-requires-clause-turns c =
    one-turns c.loop-change.journal c.loop-change.held c.loop-change.left.items c.pop.new.self.items c.in-Some.change c.in-Some.ensures.items c.loop-change.invariant.can

pub loop-change-preserved : goal.loop-change-preserved
loop-change-preserved c =
    let left =
    one-less c.loop-change.journal c.loop-change.held c.loop-change.left.items c.pop.new.self.items c.in-Some.change c.in-Some.ensures.items c.loop-change.invariant.can
    c.take_one_back.new.journal c.take_one_back.new.held c.take_one_back.ensures.journal c.take_one_back.ensures.held in
    record { can = left.can; log = left.logs ∙ c.loop-change.invariant.log; map = left.maps ∙ c.loop-change.invariant.map }
