-- The keys of the fields that changes replace: with one change more or less, and the newest change that replaces a field.
use Rattle.std.proofs.Common.{◌≡◌, ℕ, List, [], ◌∷◌, Bool, true, false, cond, not, ◌&&◌, ◌||◌, if◌then◌else◌, Option, Some, None, is_some, filter, refl, sym, ap, ◌∙◌}
use mathlib.Core.Bool.{true≢false}
use Rattle.std.specs.List.{AllByRecursion}
use Rattle.std.specs.Str.{bytes_eq}
use Rattle.std.specs.Ordering.{is_eq, is_lt, nat_cmp, ordering_then}
use Rattle.std.specs.Cmp.Lexicographic.{texts_ties, bytes_decides, nat_list_eq_equiv}
use Rattle.std.specs.List.Sorted.{IsStrictlySortedBy}
use Rattle.std.specs.Map.{keys_of}
use Rattle.std.specs.declared.cmp.Ordering.{Ordering}
use Rattle.std.specs.declared.cmp.Ordering.TheVariants.{Less, Equal, Greater}
use Rattle.fsl_order.specs.Names.{bytes_cmp}
use Rattle.fsl_order.proofs.Booleans.{and_false}
use Rattle.fsl_table.specs.Contents.{value_at, with_entry, without_key, first_of}
use Rattle.fsl_table.specs.Within.{within, is_second}
use Rattle.fsl_table.proofs.Belonging.{key_eq, value-within, within_sorted}
use Rattle.fsl_table.proofs.Entries.{lookup-insert_entry}
use Rattle.fsl_table.proofs.Finding.{lookup-without, value-with, value-without, same_found, same_units}
use Rattle.fsl_ticket.specs.declared.FieldChange.{FieldChange}
use Rattle.fsl_ticket.specs.declared.entry.Entry.{Entry}
use Rattle.fsl_ticket.specs.declared.field.TicketField.{TicketField}
use Rattle.fsl_ticket.specs.Newest.{newest_cmp}
use Rattle.fsl_ticket.specs.NewestOrder.{newest_cmp-IsTotalOrder, newest_cmp-IsAntisymmetric}
use Rattle.fsl_ticket.specs.FieldOrder.{field_cmp, exact_field}
use Rattle.fsl_ticket.specs.Kept.{Lines, Setting, Settings, setting, setting_cmp, AreSets, IsKept, Rows, laid_in, is_of, is_set, is_set_at, is_setting, is_kept_set, is_keyed, is_card_set, is_set_of}
use Rattle.fsl_ticket.specs.Walked.{Down, is_masked, is_newer}
use Rattle.fsl_ticket.proofs.Canonical.{field_cmp-IsTotalOrder, setting_cmp-IsTotalOrder, setting_cmp-exact}
use Rattle.fsl_ticket.proofs.Placing.{same_place}
use Rattle.fsl_ticket.proofs.Walking.{sorted_within, at_spot}

both : (r s : Ordering) → is_eq (ordering_then r s) ≡ (is_eq r && is_eq s)
both Less s = refl
both Equal s = refl
both Greater s = refl

swap : (a b c : Bool) → ((a && b) && c) ≡ ((a && c) && b)
swap false b c = refl
swap true false false = refl
swap true false true = refl
swap true true false = refl
swap true true true = refl

-- keys tie where the tickets, the fields and the places do
setting_eq : (k : Setting) (id field : List ℕ) (p : ℕ × List ℕ) → is_eq (setting_cmp k (setting id field p)) ≡ (is_keyed id p k && bytes_eq field k.first.field)
setting_eq k id field p =
    key_eq field_cmp newest_cmp k (record { id = id; field = field }) p
    ∙ ap (λ b. b && is_second newest_cmp k.second p)
    (both (bytes_cmp k.first.id id) (bytes_cmp k.first.field field) ∙ (λ i. sym (texts_ties k.first.id id) i && (sym (texts_ties k.first.field field) ∙ nat_list_eq_equiv.symm k.first.field field) i))
    ∙ swap (bytes_eq k.first.id id) (bytes_eq field k.first.field) (is_second newest_cmp k.second p)

-- ---- one key more, and one less

-- where a card puts something at the end, nothing is to be put or taken
pub appends : (id : List ℕ) (p : ℕ × List ℕ) (card : FieldChange) (k : Setting) → card.append ≡ true → is_card_set id p card k ≡ false
appends id p card k h = ap (λ a. is_keyed id p k && (bytes_eq card.field k.first.field && not a)) h ∙ ap (λ b. is_keyed id p k && b) (and_false (bytes_eq card.field k.first.field)) ∙ and_false (is_keyed id p k)

puts : (id : List ℕ) (p : ℕ × List ℕ) (card : FieldChange) (k : Setting) → card.append ≡ false → is_card_set id p card k ≡ (is_keyed id p k && bytes_eq card.field k.first.field)
puts id p card k h = ap (λ a. is_keyed id p k && (bytes_eq card.field k.first.field && not a)) h ∙ ap (λ b. is_keyed id p k && b) (same (bytes_eq card.field k.first.field))
  where
    same : (b : Bool) → (b && true) ≡ b
    same true = refl
    same false = refl

pub set_put : (id : List ℕ) (p : ℕ × List ℕ) (card : FieldChange) (ss : Settings) (k : Setting) → card.append ≡ false
    → is_kept_set (with_entry setting_cmp (setting id card.field p) tt ss) k ≡ (is_card_set id p card k || is_kept_set ss k)
set_put id p card ss k h =
    ap is_some (lookup-insert_entry setting_cmp-IsTotalOrder k (setting id card.field p) tt ss)
    ∙ some_or (is_eq (setting_cmp k (setting id card.field p))) (value_at setting_cmp k ss)
    ∙ ap (λ b. b || is_kept_set ss k) (setting_eq k id card.field p ∙ sym (puts id p card k h))
  where
    some_or : (b : Bool) (r : Option (Unit {0})) → is_some (cond b (Some tt) r) ≡ (b || is_some r)
    some_or true r = refl
    some_or false r = refl

pub set_taken : (id : List ℕ) (p : ℕ × List ℕ) (card : FieldChange) (ss : Settings) → IsStrictlySortedBy setting_cmp (keys_of ss) → (k : Setting) → card.append ≡ false
    → is_kept_set (without_key setting_cmp (setting id card.field p) ss) k ≡ (not (is_card_set id p card k) && is_kept_set ss k)
set_taken id p card ss sorted k h =
    ap is_some (lookup-without setting_cmp-IsTotalOrder setting_cmp-exact (setting id card.field p) ss sorted k)
    ∙ none_or (is_eq (setting_cmp k (setting id card.field p))) (value_at setting_cmp k ss)
    ∙ ap (λ b. not b && is_kept_set ss k) (setting_eq k id card.field p ∙ sym (puts id p card k h))
  where
    none_or : (b : Bool) (r : Option (Unit {0})) → is_some (cond b None r) ≡ (not b && is_some r)
    none_or true r = refl
    none_or false r = refl

-- ---- the keys of one change more, and of one less

keyed_none : (a s : Bool) → ((a && false) && s) ≡ false
keyed_none true s = refl
keyed_none false s = refl

not_both : (b : Bool) → (not b && b) ≡ false
not_both true = refl
not_both false = refl

-- a date and a name are those of a change where both are
abbrev at_key : ℕ × List ℕ → List ℕ → Entry → List ℕ → Bool → Bool
at_key p name e id b = bytes_eq id e.id && (b && is_eq (nat_cmp p.0 e.date))

keyed_is : (f : TicketField) (p : ℕ × List ℕ) (name : List ℕ) (e : Entry) → is_keyed e.id (e.date, name) (record { first = f; second = Some p }) ≡ at_key p name e f.id (bytes_eq p.1 name)
keyed_is f p name e = ap (λ b. bytes_eq f.id e.id && b) (same_place p e.date name)

module _ (es : Lines) (ss rs : Settings) (name : List ℕ) (e : Entry) where
  more : value_at bytes_cmp name es ≡ None → (f : TicketField) (s : Option (ℕ × List ℕ))
      → (is_setting es f s || is_set_of e.id (e.date, name) e.changes (record { first = f; second = s })) ≡ is_setting (with_entry bytes_cmp name e es) f s
  more none f None = keyed_none (bytes_eq f.id e.id) (is_set e.changes f.field)
  more none f (Some p) =
      ap (λ b. is_setting es f (Some p) || (b && is_set e.changes f.field)) (keyed_is f p name e)
      ∙ elim (bytes_eq p.1 name) as (λ b. bytes_eq p.1 name ≡ b
      → ((is_of (value_at bytes_cmp p.1 es) f.id p.0 && is_set_at (value_at bytes_cmp p.1 es) f.field) || (at_key p name e f.id b && is_set e.changes f.field))
      ≡ (is_of (cond b (Some e) (value_at bytes_cmp p.1 es)) f.id p.0 && is_set_at (cond b (Some e) (value_at bytes_cmp p.1 es)) f.field)) [
        | true ↦ λ h. ap (λ o. (is_of o f.id p.0 && is_set_at o f.field) || ((bytes_eq f.id e.id && is_eq (nat_cmp p.0 e.date)) && is_set e.changes f.field)) (ap (λ n. value_at bytes_cmp n es) ((bytes_decides p.1 name).0 h) ∙ none)
        | false ↦ λ h. ap (λ b. (is_of (value_at bytes_cmp p.1 es) f.id p.0 && is_set_at (value_at bytes_cmp p.1 es) f.field) || b) (keyed_none (bytes_eq f.id e.id) (is_set e.changes f.field)) ∙ or_none (is_of (value_at bytes_cmp p.1 es) f.id p.0 && is_set_at (value_at bytes_cmp p.1 es) f.field)
      ] refl
      ∙ ap (λ o. is_of o f.id p.0 && is_set_at o f.field) (sym (value-with name e es p.1))
    where
      or_none : (b : Bool) → (b || false) ≡ b
      or_none true = refl
      or_none false = refl

  pub sets_with : AreSets es ss → value_at bytes_cmp name es ≡ None → IsStrictlySortedBy setting_cmp (keys_of rs)
      → ((k : Setting) → is_kept_set rs k ≡ (is_kept_set ss k || is_set_of e.id (e.date, name) e.changes k)) → AreSets (with_entry bytes_cmp name e es) rs
  sets_with kept none sorted h = record {
    ordered = sorted;
    are = λ k. h k ∙ ap (λ b. b || is_set_of e.id (e.date, name) e.changes k) (kept.are k) ∙ more none k.first k.second;
  }

  less : IsStrictlySortedBy bytes_cmp (keys_of es) → value_at bytes_cmp name es ≡ Some e → (f : TicketField) (s : Option (ℕ × List ℕ))
      → (not (is_set_of e.id (e.date, name) e.changes (record { first = f; second = s })) && is_setting es f s) ≡ is_setting (without_key bytes_cmp name es) f s
  less sorted here f None = and_false (not (is_set_of e.id (e.date, name) e.changes (record { first = f; second = None })))
  less sorted here f (Some p) =
      ap (λ b. not (b && is_set e.changes f.field) && is_setting es f (Some p)) (keyed_is f p name e)
      ∙ elim (bytes_eq p.1 name) as (λ b. bytes_eq p.1 name ≡ b
      → (not (at_key p name e f.id b && is_set e.changes f.field) && (is_of (value_at bytes_cmp p.1 es) f.id p.0 && is_set_at (value_at bytes_cmp p.1 es) f.field))
      ≡ (is_of (cond b None (value_at bytes_cmp p.1 es)) f.id p.0 && is_set_at (cond b None (value_at bytes_cmp p.1 es)) f.field)) [
        | true ↦ λ h.
            let own = (bytes_eq f.id e.id && is_eq (nat_cmp p.0 e.date)) && is_set e.changes f.field in
            ap (λ o. not own && (is_of o f.id p.0 && is_set_at o f.field)) (ap (λ n. value_at bytes_cmp n es) ((bytes_decides p.1 name).0 h) ∙ here) ∙ not_both own
        | false ↦ λ h. ap (λ b. not b && (is_of (value_at bytes_cmp p.1 es) f.id p.0 && is_set_at (value_at bytes_cmp p.1 es) f.field)) (keyed_none (bytes_eq f.id e.id) (is_set e.changes f.field))
      ] refl
      ∙ ap (λ o. is_of o f.id p.0 && is_set_at o f.field) (sym (value-without name es sorted p.1))

  pub sets_without : AreSets es ss → IsStrictlySortedBy bytes_cmp (keys_of es) → value_at bytes_cmp name es ≡ Some e → IsStrictlySortedBy setting_cmp (keys_of rs)
      → ((k : Setting) → is_kept_set rs k ≡ (not (is_set_of e.id (e.date, name) e.changes k) && is_kept_set ss k)) → AreSets (without_key bytes_cmp name es) rs
  sets_without kept up here sorted h = record {
    ordered = sorted;
    are = λ k. h k ∙ ap (λ b. not (is_set_of e.id (e.date, name) e.changes k) && b) (kept.are k) ∙ less up here k.first k.second;
  }

-- where the change isn't there, its keys stay
pub sets_stay : (es : Lines) (ss : Settings) (name : List ℕ) → AreSets es ss → IsStrictlySortedBy bytes_cmp (keys_of es) → value_at bytes_cmp name es ≡ None → AreSets (without_key bytes_cmp name es) ss
sets_stay es ss name kept sorted none = record { ordered = kept.ordered; are = λ k. kept.are k ∙ stays k.first k.second }
  where
    stays : (f : TicketField) (s : Option (ℕ × List ℕ)) → is_setting es f s ≡ is_setting (without_key bytes_cmp name es) f s
    stays f None = refl
    stays f (Some p) = ap (λ o. is_of o f.id p.0 && is_set_at o f.field)
        (elim (bytes_eq p.1 name) as (λ b. bytes_eq p.1 name ≡ b → value_at bytes_cmp p.1 es ≡ cond b None (value_at bytes_cmp p.1 es)) [
          | true ↦ λ h. ap (λ n. value_at bytes_cmp n es) ((bytes_decides p.1 name).0 h) ∙ none
          | false ↦ λ h. refl
        ] refl
        ∙ sym (value-without name es sorted p.1))

-- ---- the newest change that replaces a field

all_filtered : (f : ℕ × List ℕ → Bool) (x : ℕ × List ℕ) (ws : Down) → AllByRecursion (λ y. newest_cmp x y ≡ Less) (keys_of ws) → AllByRecursion (λ y. newest_cmp x y ≡ Less) (keys_of (filter (λ w. f w.0) ws))
all_filtered f x [] h = tt
all_filtered f x (w ∷ ws) h =
    elim (f w.0) as (λ b. AllByRecursion (λ y. newest_cmp x y ≡ Less) (keys_of (cond b (w ∷ filter (λ w. f w.0) ws) (filter (λ w. f w.0) ws)))) [ true ↦ (h.0, all_filtered f x ws h.1) | false ↦ all_filtered f x ws h.1 ]

sorted_filtered : (f : ℕ × List ℕ → Bool) (ws : Down) → IsStrictlySortedBy newest_cmp (keys_of ws) → IsStrictlySortedBy newest_cmp (keys_of (filter (λ w. f w.0) ws))
unfolding IsStrictlySortedBy
sorted_filtered f [] h = tt
sorted_filtered f (w ∷ ws) h =
    elim (f w.0) as (λ b. IsStrictlySortedBy newest_cmp (keys_of (cond b (w ∷ filter (λ w. f w.0) ws) (filter (λ w. f w.0) ws)))) [ true ↦ (all_filtered f w.0 ws h.0, sorted_filtered f ws h.1) | false ↦ sorted_filtered f ws h.1 ]

equal : (r : Ordering) → is_eq r ≡ true → r ≡ Equal
equal Less h = absurd (true≢false (sym h))
equal Equal h = refl
equal Greater h = absurd (true≢false (sym h))

-- what is found among those of a kind
found_filtered : (f : ℕ × List ℕ → Bool) (c : ℕ × List ℕ) (ws : Down) → is_some (value_at newest_cmp c (filter (λ w. f w.0) ws)) ≡ (is_some (value_at newest_cmp c ws) && f c)
found_filtered f c [] = refl
found_filtered f c (w ∷ ws) =
    let rest = filter (λ w. f w.0) ws in
    elim (f w.0) as (λ b. f w.0 ≡ b → is_some (value_at newest_cmp c (cond b (w ∷ rest) rest)) ≡ (is_some (value_at newest_cmp c (w ∷ ws)) && f c)) [
      | true ↦ λ h.
          elim (is_eq (newest_cmp c w.0)) as (λ t. is_eq (newest_cmp c w.0) ≡ t → is_some (cond t (Some w.1) (value_at newest_cmp c rest)) ≡ (is_some (cond t (Some w.1) (value_at newest_cmp c ws)) && f c)) [
            | true ↦ λ t. sym (ap f (newest_cmp-IsAntisymmetric c w.0 (equal (newest_cmp c w.0) t)) ∙ h)
            | false ↦ λ t. found_filtered f c ws
          ] refl
      | false ↦ λ h.
          elim (is_eq (newest_cmp c w.0)) as (λ t. is_eq (newest_cmp c w.0) ≡ t → is_some (value_at newest_cmp c rest) ≡ (is_some (cond t (Some w.1) (value_at newest_cmp c ws)) && f c)) [
            | true ↦ λ t.
                let no : f c ≡ false = ap f (newest_cmp-IsAntisymmetric c w.0 (equal (newest_cmp c w.0) t)) ∙ h in
                found_filtered f c ws ∙ ap (λ b. is_some (value_at newest_cmp c ws) && b) no ∙ and_false (is_some (value_at newest_cmp c ws)) ∙ sym no
            | false ↦ λ t. found_filtered f c ws
          ] refl
    ] refl

less_is : (r : Ordering) → is_lt r ≡ true → r ≡ Less
less_is Less h = refl
less_is Equal h = absurd (true≢false (sym h))
less_is Greater h = absurd (true≢false (sym h))

-- below what isn't newer nothing is
older : (p x y : ℕ × List ℕ) → is_lt (newest_cmp x p) ≡ false → newest_cmp x y ≡ Less → is_lt (newest_cmp y p) ≡ false
older p x y h less =
    elim (is_lt (newest_cmp y p)) as (λ b. is_lt (newest_cmp y p) ≡ b → b ≡ false) [
      | true ↦ λ e. absurd (true≢false (sym (ap is_lt (newest_cmp-IsTotalOrder.trans x y p less (less_is (newest_cmp y p) e))) ∙ h))
      | false ↦ λ e. refl
    ] refl

none_masked : (es : Lines) (p : ℕ × List ℕ) (q : List ℕ) (x : ℕ × List ℕ) (ws : Down) → is_lt (newest_cmp x p) ≡ false → AllByRecursion (λ y. newest_cmp x y ≡ Less) (keys_of ws) → is_masked es p q ws ≡ false
none_masked es p q x [] h all = refl
none_masked es p q x (w ∷ ws) h all = ap (λ b. if b then (is_set_at (value_at bytes_cmp w.0.1 es) q || is_masked es p q ws) else false) (older p x w.0 h all.0)

-- a newer change replaces the field where the newest that does is newer
masked_first : (es : Lines) (p : ℕ × List ℕ) (q : List ℕ) (ws : Down) → IsStrictlySortedBy newest_cmp (keys_of ws)
    → is_newer p (first_of (filter (λ w. is_set_at (value_at bytes_cmp w.0.1 es) q) ws)) ≡ is_masked es p q ws
unfolding IsStrictlySortedBy
masked_first es p q [] sorted = refl
masked_first es p q (w ∷ ws) sorted =
    let rest = filter (λ w. is_set_at (value_at bytes_cmp w.0.1 es) q) ws in
    elim (is_set_at (value_at bytes_cmp w.0.1 es) q) as (λ b. is_newer p (first_of (cond b (w ∷ rest) rest)) ≡ (if is_lt (newest_cmp w.0 p) then (b || is_masked es p q ws) else false)) [
      | true ↦ itself (is_lt (newest_cmp w.0 p))
      | false ↦
          masked_first es p q ws sorted.1
          ∙ elim (is_lt (newest_cmp w.0 p)) as (λ b. is_lt (newest_cmp w.0 p) ≡ b → is_masked es p q ws ≡ (if b then is_masked es p q ws else false)) [
            | true ↦ λ h. refl
            | false ↦ λ h. none_masked es p q w.0 ws h sorted.0
          ] refl
    ]
  where
    itself : (b : Bool) → b ≡ (if b then true else false)
    itself true = refl
    itself false = refl

module _ (m : Rows) (k : IsKept m) (id q : List ℕ) where
  abbrev has_set : ℕ × List ℕ → Bool
  has_set p = is_set_at (value_at bytes_cmp p.1 m.facts.entries) q

  abbrev f : TicketField
  f = record { id = id; field = q }

  -- the keys of a field are those of the changes of its ticket that replace it
  settings_are : within field_cmp f m.sets.entries ≡ filter (λ w. has_set w.0) (within bytes_cmp id m.spots.entries)
  settings_are =
      let vs = within field_cmp f m.sets.entries in
      let ws = within bytes_cmp id m.spots.entries in
      same_found newest_cmp newest_cmp-IsTotalOrder newest_cmp-IsAntisymmetric vs (filter (λ w. has_set w.0) ws)
      (within_sorted field_cmp newest_cmp field_cmp-IsTotalOrder exact_field f m.sets.entries k.sets.ordered)
      (sorted_filtered has_set ws (sorted_within (laid_in m) k.laid id))
      (λ c. same_units (value_at newest_cmp c vs) (value_at newest_cmp c (filter (λ w. has_set w.0) ws))
      (ap is_some (value-within field_cmp newest_cmp f c m.sets.entries)
      ∙ k.sets.are (setting id q c)
      ∙ ap (λ b. b && has_set c) (sym (at_spot (laid_in m) k.laid id c))
      ∙ sym (found_filtered has_set c ws)))

  pub masked_is : (p : ℕ × List ℕ) → is_newer p (first_of (within field_cmp f m.sets.entries)) ≡ is_masked m.facts.entries p q (within bytes_cmp id m.spots.entries)
  masked_is p = ap (λ l. is_newer p (first_of l)) settings_are ∙ masked_first m.facts.entries p q (within bytes_cmp id m.spots.entries) (sorted_within (laid_in m) k.laid id)
