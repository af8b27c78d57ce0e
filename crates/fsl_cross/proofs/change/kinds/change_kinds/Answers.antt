use Rattle.std.proofs.Common.{Some, None, sym, ap, ◌∙◌, subst}
use Rattle.fsl_table.proofs.Outcomes.{on_ok_map}
use Rattle.fsl_cross.specs.Kinds.{KindsGo, own_id}
use Rattle.fsl_cross.specs.Tables.{without}
use Rattle.fsl_cross.proofs.Kinded.{own-kind-is, own-names-are}
use Rattle.fsl_cross.proofs.change.kinds.change_kinds.Goals as goal

pub change_all-requires-clause-before : goal.change_all-requires-clause-before
change_all-requires-clause-before g c =
    let item = c.args.item.now in
    c.requires.before ∙ sym (own-kind-is (without item.name c.args.items.now) item.artifact (Some c.in-Some.id) (ap own_id (sym c.artifact.ensures) ∙ sym c.id_of.ensures ∙ c.in-Some.is))

pub returns-in-Some-clause-facts : goal.returns-in-Some-clause-facts
returns-in-Some-clause-facts g c = on_ok_map c.change_all.result
    (λ go. subst (λ l. KindsGo c.args.items.now c.args.item.now.name l c.args.timeline.now.facts c.change_all.new.timeline.facts)
    (own-names-are c.args.attached.now c.args.item.now.artifact (Some c.in-Some.id) (ap own_id (sym c.artifact.ensures) ∙ sym c.id_of.ensures ∙ c.in-Some.is)) go) c.change_all.ensures.facts

pub returns-in-None-clause-facts : goal.returns-in-None-clause-facts
returns-in-None-clause-facts g c =
    subst (λ l. KindsGo c.args.items.now c.args.item.now.name l c.args.timeline.now.facts c.args.timeline.now.facts)
    (own-names-are c.args.attached.now c.args.item.now.artifact None (ap own_id (sym c.artifact.ensures) ∙ sym c.id_of.ensures ∙ c.in-None.is)) (λ done e. e)
