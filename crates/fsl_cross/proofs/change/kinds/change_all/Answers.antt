use Rattle.std.proofs.Common.{rules, ◌≡◌, sym, ◌∙◌, subst}
use Rattle.fsl_table.proofs.Outcomes.{on_ok_map}
use Rattle.fsl_cross.specs.Kinds.{AreOfKind, KindsGo}
use Rattle.fsl_cross.proofs.Rekinded.{kinds-at, kinds-same}
use Rattle.fsl_cross.proofs.change.kinds.change_all.Goals as goal

pub seconds-requires : goal.seconds-requires
seconds-requires g c = c.requires.attached.targets.ordered

pub change_each-requires-clause-kinds : goal.change_each-requires-clause-kinds
change_each-requires-clause-kinds g c =
    let items = c.args.items.now in
    subst (AreOfKind c.kind_of-kind.result items) (sym (c.items.ensures ∙ c.in_ok-names.ensures.seconds))
    (kinds-at items c.requires.new.rising c.args.attached.now c.requires.attached c.args.id c.kind_of-kind.result (c.kind_of-kind.ensures items c.requires.kinds c.requires.attached c.requires.pages))

pub returns-then-eq-clause-facts : goal.returns-then-eq-clause-facts
returns-then-eq-clause-facts g c =
    let items = c.args.items.now in
    let same : c.kind_of-kind.result ≡ c.args.before = search rules in
    kinds-same items c.requires.new.rising c.args.item.now c.requires.new.there c.args.attached.now c.requires.attached c.args.id
    (sym (c.kind_of-kind.ensures items c.requires.kinds c.requires.attached c.requires.pages) ∙ same ∙ c.requires.before) c.args.timeline.now.facts

pub returns-clause-facts : goal.returns-clause-facts
returns-clause-facts g c = on_ok_map c.change_each.result
    (λ go. subst (λ l. KindsGo c.args.items.now c.args.item.now.name l c.args.timeline.now.facts c.change_each.new.timeline.facts) (c.items.ensures ∙ c.in_ok-names.ensures.seconds) go) c.change_each.ensures.facts
