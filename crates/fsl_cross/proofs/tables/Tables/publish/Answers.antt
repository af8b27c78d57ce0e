use Rattle.std.proofs.Common.{◌≡◌, true, false, Some, All, map, refl, sym, ap, ◌∙◌, subst}
use Rattle.std.specs.Prelude.{option_map}
use Rattle.std.specs.List.Sorted.{IsStrictlySortedBy}
use Rattle.fsl_order.specs.Names.{bytes_cmp}
use Rattle.fsl_order.specs.Rows.{named}
use Rattle.fsl_cross.specs.declared.Item.{Item}
use Rattle.fsl_cross.specs.declared.undos.What.TheVariants.{Published}
use Rattle.fsl_cross.specs.Built.{AreTablesOf}
use Rattle.fsl_cross.specs.Back.{IsBack, AreAsSeen}
use Rattle.fsl_cross.specs.Marks.{private_at}
use Rattle.fsl_cross.specs.Tables.{Seen, IsItem, IsAsBefore}
use Rattle.fsl_cross.proofs.Moved.{item_name}
use Rattle.fsl_cross.proofs.Making.{is-back, can-fail, went-failed}
use Rattle.fsl_cross.proofs.Published.{again-private, public-named}
use Rattle.fsl_cross.proofs.Seeing.{seen_of, seen-tables, seen-before, whole-seen}
use Rattle.fsl_cross.proofs.Undoing.{names-private, kinds-private}
use Rattle.fsl_cross.proofs.tables.Tables.publish.Goals as goal

pub publish_named-requires-clause-rising : goal.publish_named-requires-clause-rising
publish_named-requires-clause-rising g c =
    let s = c.self.inside in
    let name = c.args.name in
    subst (λ l. IsStrictlySortedBy bytes_cmp (map item_name l)) (sym c.set_private.ensures) (subst (IsStrictlySortedBy bytes_cmp) (sym (names-private name false s.items)) c.self.invariant.rising)

pub publish_named-requires-clause-items : goal.publish_named-requires-clause-items
publish_named-requires-clause-items g c =
    let s = c.self.inside in
    let name = c.args.name in
    subst (All IsItem) (sym c.set_private.ensures) (kinds-private name false s.items c.self.invariant.kinds)

pub publish_named-requires-clause-public : goal.publish_named-requires-clause-public
publish_named-requires-clause-public g c =
    let s = c.self.inside in
    let name = c.args.name in
    let hidden : option_map (λ (i : Item). i.private) (named item_name s.items name) ≡ Some true = ap (λ (x : Seen). option_map (λ (i : Item). i.private) (named item_name x.items name)) c.self.view_is ∙ c.requires in
    ap (λ l. option_map (λ (i : Item). i.private) (named item_name l name)) c.set_private.ensures ∙ public-named name s.items hidden

pub publish_named-requires-clause-tables : goal.publish_named-requires-clause-tables
publish_named-requires-clause-tables g c =
    let s = c.self.inside in
    let name = c.args.name in
    let hidden : option_map (λ (i : Item). i.private) (named item_name s.items name) ≡ Some true = ap (λ (x : Seen). option_map (λ (i : Item). i.private) (named item_name x.items name)) c.self.view_is ∙ c.requires in
    let again : map (private_at name true) c.set_private.new.self ≡ s.items = ap (map (private_at name true)) c.set_private.ensures ∙ again-private name s.items c.self.invariant.rising hidden in
    subst (λ l. AreTablesOf s.derived.contents.tickets.fields l s.derived) (sym again) (subst (λ fs. AreTablesOf fs s.items s.derived) (sym c.self.invariant.contents.configured) c.self.invariant)

pub take_back-requires : goal.take_back-requires
take_back-requires g c =
    let s = c.self.inside in
    can-fail s.fields s.items s.derived c.publish_named.new.derived c.new-undos.result c.publish_named.new.undos c.self.invariant c.new-undos.ensures c.publish_named.ensures.led

pub invariant_of-result : goal.invariant_of-result
invariant_of-result g c =
    let s = c.self.inside in
    let name = c.args.name in
    let hidden : option_map (λ (i : Item). i.private) (named item_name s.items name) ≡ Some true = ap (λ (x : Seen). option_map (λ (i : Item). i.private) (named item_name x.items name)) c.self.view_is ∙ c.requires in
    let again : map (private_at name true) c.set_private.new.self ≡ s.items = ap (map (private_at name true)) c.set_private.ensures ∙ again-private name s.items c.self.invariant.rising hidden in
    let a1 : AreTablesOf s.fields c.set_private.new.self c.publish_named.new.derived = subst (λ fs. AreTablesOf fs c.set_private.new.self c.publish_named.new.derived) c.self.invariant.contents.configured c.in-Ok.ensures.tables in
    subst (λ a. IsBack Published name c.publish_named.new.undos c.of-before.result.value a) (sym c.of-after.ensures)
    (subst (λ b. IsBack Published name c.publish_named.new.undos b (seen_of s.fields c.set_private.new.self c.publish_named.new.derived)) (c.self.view_is ∙ sym c.of-before.ensures)
    (is-back s.fields s.items s.derived c.publish_named.new.derived c.new-undos.result c.publish_named.new.undos c.self.invariant c.new-undos.ensures c.publish_named.ensures.led Published name c.set_private.new.self a1 (sym again)))

pub invariant_of-self-in-Err-1 : goal.invariant_of-self-in-Err-1
invariant_of-self-in-Err-1 g c =
    let s = c.self.inside in
    let name = c.args.name in
    let hidden : option_map (λ (i : Item). i.private) (named item_name s.items name) ≡ Some true = ap (λ (x : Seen). option_map (λ (i : Item). i.private) (named item_name x.items name)) c.self.view_is ∙ c.requires in
    let again : map (private_at name true) c.set_private.new.self ≡ s.items = ap (map (private_at name true)) c.set_private.ensures ∙ again-private name s.items c.self.invariant.rising hidden in
    let was : AreAsSeen (seen_of s.fields s.items s.derived) c.take_back.new.derived = went-failed s.fields s.items s.derived c.publish_named.new.derived c.new-undos.result c.publish_named.new.undos c.self.invariant c.new-undos.ensures c.publish_named.ensures.led c.take_back.new.derived c.take_back.ensures in
    let items : c.set_private-in-Err.new.self ≡ s.items = c.set_private-in-Err.ensures ∙ again in
    subst (λ l. AreTablesOf s.fields l c.take_back.new.derived) (sym items) (seen-tables (seen_of s.fields s.items s.derived) c.take_back.new.derived was c.self.invariant.rising c.self.invariant.kinds)

pub returns-in-Err-clause-err : goal.returns-in-Err-clause-err
returns-in-Err-clause-err g c =
    let s = c.self.inside in
    let name = c.args.name in
    let hidden : option_map (λ (i : Item). i.private) (named item_name s.items name) ≡ Some true = ap (λ (x : Seen). option_map (λ (i : Item). i.private) (named item_name x.items name)) c.self.view_is ∙ c.requires in
    let again : map (private_at name true) c.set_private.new.self ≡ s.items = ap (map (private_at name true)) c.set_private.ensures ∙ again-private name s.items c.self.invariant.rising hidden in
    let was : AreAsSeen (seen_of s.fields s.items s.derived) c.take_back.new.derived = went-failed s.fields s.items s.derived c.publish_named.new.derived c.new-undos.result c.publish_named.new.undos c.self.invariant c.new-undos.ensures c.publish_named.ensures.led c.take_back.new.derived c.take_back.ensures in
    let items : c.set_private-in-Err.new.self ≡ s.items = c.set_private-in-Err.ensures ∙ again in
    subst (λ x. IsAsBefore x (seen_of s.fields c.set_private-in-Err.new.self c.take_back.new.derived)) c.self.view_is
    (seen-before (seen_of s.fields s.items s.derived) s.fields c.set_private-in-Err.new.self c.take_back.new.derived (whole-seen s.fields s.items s.derived) was refl items)
