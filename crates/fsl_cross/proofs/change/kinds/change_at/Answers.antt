use Rattle.std.proofs.Common.{sym, ◌∙◌}
use Rattle.fsl_cross.proofs.Rekinded.{kinds-there, kinds-goes}
use Rattle.fsl_cross.proofs.change.kinds.change_at.Goals as goal

pub change-requires : goal.change-requires
change-requires g c =
    kinds-there c.args.items.now c.requires.new.rising c.args.item.now c.requires.new.there c.args.kind c.args.name c.in-Some.row c.args.timeline.now.facts (sym c.in_ok-row.ensures ∙ c.in-Some.is) c.requires.facts

pub returns-in-Some-clause-facts : goal.returns-in-Some-clause-facts
returns-in-Some-clause-facts g c =
    kinds-goes c.args.items.now c.requires.new.rising c.args.item.now c.requires.new.there c.change.result c.args.kind c.args.name c.in-Some.row c.args.timeline.now.facts c.change.new.timeline.facts
    (sym c.in_ok-row.ensures ∙ c.in-Some.is) c.requires.kind c.change.ensures.facts
