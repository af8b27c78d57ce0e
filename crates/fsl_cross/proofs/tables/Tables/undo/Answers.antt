use Rattle.std.proofs.Common.{◌≡◌, sym, ap, subst, ◌∙◌, All, map}
use Rattle.std.specs.List.Sorted.{IsStrictlySortedBy}
use Rattle.fsl_order.specs.Names.{bytes_cmp}
use Rattle.fsl_cross.specs.Built.{AreTablesOf}
use Rattle.fsl_cross.specs.Back.{AreAsSeen, unmade}
use Rattle.fsl_cross.specs.Tables.{Change, IsAsBefore, IsItem}
use Rattle.fsl_cross.proofs.Moved.{item_name}
use Rattle.fsl_cross.proofs.Seeing.{seen_of, as-seen, seen-tables, seen-before}
use Rattle.fsl_cross.proofs.Undoing.{can-go-back, went-back, rising-unmade, kinds-unmade}
use Rattle.fsl_cross.proofs.tables.Tables.undo.Goals as goal

pub take_back-requires : goal.take_back-requires
take_back-requires c =
    let s = c.self.inside in
    let b = c.back.inside in
    let same : IsAsBefore b.after.value (seen_of s.fields s.items s.derived)
    = subst (λ x. IsAsBefore x (seen_of s.fields s.items s.derived)) (sym (ap (λ (x : Change). x.after) c.back.view_is)) (subst (IsAsBefore c.args.back.after) (sym c.self.view_is) c.requires) in
    can-go-back b.what b.name b.undos b.before.value b.after.value s.derived c.back.invariant (as-seen b.after.value s.fields s.items s.derived c.self.invariant same)

pub invariant_of-self : goal.invariant_of-self
invariant_of-self c =
    let s = c.self.inside in
    let b = c.back.inside in
    let same : IsAsBefore b.after.value (seen_of s.fields s.items s.derived)
    = subst (λ x. IsAsBefore x (seen_of s.fields s.items s.derived)) (sym (ap (λ (x : Change). x.after) c.back.view_is)) (subst (IsAsBefore c.args.back.after) (sym c.self.view_is) c.requires) in
    let seen = as-seen b.after.value s.fields s.items s.derived c.self.invariant same in
    let was : AreAsSeen b.before.value c.take_back.new.derived = went-back b.what b.name b.undos b.before.value b.after.value s.derived c.take_back.new.derived c.back.invariant seen c.take_back.ensures in
    let items : c.unmake.new.items ≡ b.before.value.items = c.unmake.ensures ∙ ap (unmade b.what b.name) same.items ∙ sym c.back.invariant.items in
    let fields : s.fields ≡ b.before.value.fields = same.fields ∙ sym c.back.invariant.fields in
    let rising : IsStrictlySortedBy bytes_cmp (map item_name b.before.value.items) = subst (λ l. IsStrictlySortedBy bytes_cmp (map item_name l)) (sym c.unmake.ensures ∙ items) (rising-unmade b.what b.name s.items c.self.invariant.rising) in
    let kinds : All IsItem b.before.value.items = subst (All IsItem) (sym c.unmake.ensures ∙ items) (kinds-unmade b.what b.name s.items c.self.invariant.kinds) in
    subst (λ l. AreTablesOf s.fields l c.take_back.new.derived) (sym items) (subst (λ fs. AreTablesOf fs b.before.value.items c.take_back.new.derived) (sym fields) (seen-tables b.before.value c.take_back.new.derived was rising kinds))

pub returns : goal.returns
returns c =
    let s = c.self.inside in
    let b = c.back.inside in
    let same : IsAsBefore b.after.value (seen_of s.fields s.items s.derived)
    = subst (λ x. IsAsBefore x (seen_of s.fields s.items s.derived)) (sym (ap (λ (x : Change). x.after) c.back.view_is)) (subst (IsAsBefore c.args.back.after) (sym c.self.view_is) c.requires) in
    let seen = as-seen b.after.value s.fields s.items s.derived c.self.invariant same in
    let was : AreAsSeen b.before.value c.take_back.new.derived = went-back b.what b.name b.undos b.before.value b.after.value s.derived c.take_back.new.derived c.back.invariant seen c.take_back.ensures in
    let items : c.unmake.new.items ≡ b.before.value.items = c.unmake.ensures ∙ ap (unmade b.what b.name) same.items ∙ sym c.back.invariant.items in
    let fields : s.fields ≡ b.before.value.fields = same.fields ∙ sym c.back.invariant.fields in
    subst (λ x. IsAsBefore x (seen_of s.fields c.unmake.new.items c.take_back.new.derived)) (ap (λ (x : Change). x.before) c.back.view_is)
    (seen-before b.before.value s.fields c.unmake.new.items c.take_back.new.derived c.back.invariant.whole was fields items)
