use Rattle.fsl_cross.specs.Gone.{is_gone}
use Rattle.fsl_cross.specs.Mixed.{rows_mixed}
use Rattle.std.proofs.Common.{sym, ◌∙◌}
use Rattle.fsl_cross.proofs.Going.{goes-stay}
use Rattle.fsl_cross.proofs.Retiring.{gone-goes, others-retired}
use Rattle.fsl_cross.proofs.change.gone.retire.Goals as goal

pub retire-requires : goal.retire-requires
retire-requires g c = c.requires.shown (sym c.is_gone.ensures ∙ c.if-is_gone.true)

pub returns-then-is_gone-clause-facts : goal.returns-then-is_gone-clause-facts
returns-then-is_gone-clause-facts g c =
    gone-goes c.args.items.now c.requires.new.rising c.args.item.now.name c.retire.result c.args.name c.args.timeline.now.facts c.retire.new.timeline.facts (sym c.is_gone.ensures ∙ c.if-is_gone.true) c.retire.ensures.facts

pub returns-then-is_gone-clause-others : goal.returns-then-is_gone-clause-others
returns-then-is_gone-clause-others g c = others-retired c.retire.result c.args.name c.args.timeline.now.facts c.retire.new.timeline.facts c.retire.ensures.facts

pub returns-else-is_gone-clause-facts : goal.returns-else-is_gone-clause-facts
returns-else-is_gone-clause-facts g c =
    goes-stay (rows_mixed c.args.items.now c.args.item.now.name) (is_gone c.args.items.now c.args.item.now.name) c.args.name c.args.timeline.now.facts (sym c.is_gone.ensures ∙ c.if-is_gone.false)
