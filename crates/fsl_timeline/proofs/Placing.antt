-- The places of one row more, and of one less.
use Rattle.std.proofs.Common.{◌≡◌, ℕ, List, Bool, true, false, cond, not, ◌||◌, ◌&&◌, Option, Some, None, is_some, refl, sym, ap, ◌∙◌}
use Rattle.std.specs.Str.{bytes_eq}
use Rattle.std.specs.Ordering.{is_eq, nat_cmp, ordering_then}
use Rattle.std.specs.Cmp.Lexicographic.{texts_ties, bytes_decides}
use Rattle.std.specs.List.Sorted.{IsStrictlySortedBy}
use Rattle.std.specs.Map.{keys_of}
use Rattle.std.specs.declared.cmp.Ordering.{Ordering}
use Rattle.std.specs.declared.cmp.Ordering.TheVariants.{Less, Equal, Greater}
use Rattle.fsl_order.specs.Names.{bytes_cmp, latest_first}
use Rattle.fsl_order.proofs.Orders.{latest_first-IsTotalOrder, latest_first-IsAntisymmetric}
use Rattle.fsl_order.proofs.Booleans.{or_false}
use Rattle.fsl_table.specs.Contents.{value_at, with_entry, without_key}
use Rattle.fsl_table.proofs.Entries.{lookup-insert_entry}
use Rattle.fsl_table.proofs.Finding.{lookup-without, value-with, value-without}
use Rattle.fsl_timeline.specs.declared.entry.Entry.{Entry}
use Rattle.fsl_timeline.specs.Kept.{Lines, Places, is_time}

-- places tie where both parts do
pub place_eq : (k : ℕ × List ℕ) (t : ℕ) (name : List ℕ) → is_eq (latest_first k (t, name)) ≡ (bytes_eq k.1 name && is_eq (nat_cmp t k.0))
place_eq k t name = parts (nat_cmp t k.0) (bytes_cmp k.1 name) ∙ ap (λ b. b && is_eq (nat_cmp t k.0)) (sym (texts_ties k.1 name))
  where
    parts : (r s : Ordering) → is_eq (ordering_then r s) ≡ (is_eq s && is_eq r)
    parts Less Less = refl
    parts Less Equal = refl
    parts Less Greater = refl
    parts Equal Less = refl
    parts Equal Equal = refl
    parts Equal Greater = refl
    parts Greater Less = refl
    parts Greater Equal = refl
    parts Greater Greater = refl

pub places_with : (es : Lines) (ps : Places) (name : List ℕ) (e : Entry) → ((k : ℕ × List ℕ) → is_some (value_at latest_first k ps) ≡ is_time (value_at bytes_cmp k.1 es) k.0) → value_at bytes_cmp name es ≡ None
    → (k : ℕ × List ℕ) → is_some (value_at latest_first k (with_entry latest_first (e.time, name) tt ps)) ≡ is_time (value_at bytes_cmp k.1 (with_entry bytes_cmp name e es)) k.0
places_with es ps name e places none k =
    let key : ℕ × List ℕ = (e.time, name) in
    ap is_some (lookup-insert_entry latest_first-IsTotalOrder k key tt ps) ∙ some_or (is_eq (latest_first k key)) (value_at latest_first k ps)
    ∙ (λ i. place_eq k e.time name i || places k i)
    ∙ elim (bytes_eq k.1 name) as (λ b. bytes_eq k.1 name ≡ b → ((b && is_eq (nat_cmp e.time k.0)) || is_time (value_at bytes_cmp k.1 es) k.0) ≡ is_time (cond b (Some e) (value_at bytes_cmp k.1 es)) k.0) [
      | true ↦ λ h. ap (λ o. is_eq (nat_cmp e.time k.0) || is_time o k.0) (ap (λ n. value_at bytes_cmp n es) ((bytes_decides k.1 name).0 h) ∙ none) ∙ or_false (is_eq (nat_cmp e.time k.0))
      | false ↦ λ h. refl
    ] refl
    ∙ ap (λ o. is_time o k.0) (sym (value-with name e es k.1))
  where
    some_or : (b : Bool) (r : Option (Unit {0})) → is_some (cond b (Some tt) r) ≡ (b || is_some r)
    some_or true r = refl
    some_or false r = refl

-- one key less
pub place_out : (ps : Places) (name : List ℕ) (e : Entry) → IsStrictlySortedBy latest_first (keys_of ps) → (k : ℕ × List ℕ)
    → is_some (value_at latest_first k (without_key latest_first (e.time, name) ps)) ≡ (not (bytes_eq k.1 name && is_eq (nat_cmp e.time k.0)) && is_some (value_at latest_first k ps))
place_out ps name e sorted k =
    let key : ℕ × List ℕ = (e.time, name) in
    ap is_some (lookup-without latest_first-IsTotalOrder latest_first-IsAntisymmetric key ps sorted k) ∙ none_or (is_eq (latest_first k key)) (value_at latest_first k ps)
    ∙ ap (λ b. not b && is_some (value_at latest_first k ps)) (place_eq k e.time name)
  where
    none_or : (b : Bool) (r : Option (Unit {0})) → is_some (cond b None r) ≡ (not b && is_some r)
    none_or true r = refl
    none_or false r = refl

not-and : (b : Bool) → (not b && b) ≡ false
not-and true = refl
not-and false = refl

pub places_without : (es : Lines) (ps : Places) (name : List ℕ) → IsStrictlySortedBy bytes_cmp (keys_of es) → ((k : ℕ × List ℕ) → is_some (value_at latest_first k ps) ≡ is_time (value_at bytes_cmp k.1 es) k.0)
    → (k : ℕ × List ℕ) → (not (bytes_eq k.1 name && is_time (value_at bytes_cmp name es) k.0) && is_some (value_at latest_first k ps)) ≡ is_time (value_at bytes_cmp k.1 (without_key bytes_cmp name es)) k.0
places_without es ps name sorted places k =
    ap (λ b. not (bytes_eq k.1 name && is_time (value_at bytes_cmp name es) k.0) && b) (places k)
    ∙ elim (bytes_eq k.1 name) as (λ b. bytes_eq k.1 name ≡ b → (not (b && is_time (value_at bytes_cmp name es) k.0) && is_time (value_at bytes_cmp k.1 es) k.0) ≡ is_time (cond b None (value_at bytes_cmp k.1 es)) k.0) [
      | true ↦ λ h. ap (λ n. not (is_time (value_at bytes_cmp name es) k.0) && is_time (value_at bytes_cmp n es) k.0) ((bytes_decides k.1 name).0 h) ∙ not-and (is_time (value_at bytes_cmp name es) k.0)
      | false ↦ λ h. refl
    ] refl
    ∙ ap (λ o. is_time o k.0) (sym (value-without name es sorted k.1))
