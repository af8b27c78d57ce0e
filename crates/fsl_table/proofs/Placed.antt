-- The keys of one entry more, and of one less.
use Rattle.std.proofs.Common.{◌≡◌, ℕ, List, Bool, true, false, cond, not, ◌||◌, ◌&&◌, Option, Some, None, is_some, refl, sym, ap, ◌∙◌}
use mathlib.Core.Bool.{true≢false}
use Rattle.std.specs.Option.{option_and_then}
use Rattle.std.specs.Str.{bytes_eq}
use Rattle.std.specs.Ordering.{is_eq}
use Rattle.std.specs.List.Sorted.{IsStrictlySortedBy}
use Rattle.std.specs.Map.{keys_of}
use Rattle.std.specs.Cmp.{IsTotalOrder}
use Rattle.std.specs.Cmp.Lexicographic.{bytes_decides}
use Rattle.std.specs.declared.cmp.Ordering.{Ordering}
use Rattle.std.specs.declared.cmp.Ordering.TheVariants.{Less, Equal, Greater}
use Rattle.fsl_order.specs.Names.{bytes_cmp}
use Rattle.fsl_order.proofs.Booleans.{or_false, and_false}
use Rattle.fsl_table.specs.Contents.{value_at, with_entry, without_key}
use Rattle.fsl_table.specs.ExactWithin.{exact_within}
use Rattle.fsl_table.specs.Placed.{is_key, key_at, is_placed, ArePlaced, with_place, without_place}
use Rattle.fsl_table.specs.Within.{within_cmp, is_second}
use Rattle.fsl_table.specs.declared.within.Within.{Within}
use Rattle.fsl_table.proofs.Belonging.{key_eq, within-IsTotalOrder}
use Rattle.fsl_table.proofs.Entries.{lookup-insert_entry, sorted-insert_entry}
use Rattle.fsl_table.proofs.Finding.{lookup-without, same_found, same_units, value-with, value-without}

not-and : (b : Bool) → (not b && b) ≡ false
not-and true = refl
not-and false = refl

some_or : (b : Bool) (r : Option (Unit {0})) → is_some (cond b (Some tt) r) ≡ (b || is_some r)
some_or true r = refl
some_or false r = refl

none_or : (b : Bool) (r : Option (Unit {0})) → is_some (cond b None r) ≡ (not b && is_some r)
none_or true r = refl
none_or false r = refl

equal : (r : Ordering) → is_eq r ≡ true → r ≡ Equal
equal Less h = absurd (true≢false (sym h))
equal Equal h = refl
equal Greater h = absurd (true≢false (sym h))

module _ {A B E : Type 0} (RA : A → A → Ordering) (RB : B → B → Ordering) (oa : IsTotalOrder RA) (ob : IsTotalOrder RB)
    (exact_a : (x y : A) → RA x y ≡ Equal → x ≡ y) (exact_b : (x y : B) → RB x y ≡ Equal → x ≡ y)
    (name_in : B → List ℕ) (key : List ℕ × E → Option (A × B)) (own : (e : List ℕ × E) (k : A × B) → key e ≡ Some k → name_in k.1 ≡ e.0) where
  abbrev Lines : Type 0
  Lines = List (List ℕ × E)

  abbrev Spots : Type 0
  Spots = List (Within A B × Unit {0})

  abbrev spot : A × B → Within A B
  spot k = record { first = k.0; second = Some k.1 }

  -- a place of another name isn't that of an entry
  other_place : (k : A × B) (name : List ℕ) (e : E) (c : B) → key (name, e) ≡ Some k → bytes_eq (name_in c) name ≡ false → is_eq (RB c k.1) ≡ false
  other_place k name e c has h =
      elim (is_eq (RB c k.1)) as (λ b. is_eq (RB c k.1) ≡ b → b ≡ false) [
        | true ↦ λ t. sym ((bytes_decides (name_in c) name).1 (ap name_in (exact_b c k.1 (equal (RB c k.1) t)) ∙ own (name, e) k has)) ∙ h
        | false ↦ λ t. refl
      ] refl

  -- ---- an entry more

  with_key : (es : Lines) (name : List ℕ) (e : E) (k : A × B) → key (name, e) ≡ Some k → value_at bytes_cmp name es ≡ None → (a : A) (s : Option B)
      → ((is_eq (RA a k.0) && is_second RB s k.1) || is_placed RA RB name_in key es a s) ≡ is_placed RA RB name_in key (with_entry bytes_cmp name e es) a s
  with_key es name e k has none a None = ap (λ b. b || false) (and_false (is_eq (RA a k.0)))
  with_key es name e k has none a (Some c) =
      elim (bytes_eq (name_in c) name) as (λ b. bytes_eq (name_in c) name ≡ b
      → ((is_eq (RA a k.0) && is_eq (RB c k.1)) || is_key RA RB name_in key (key_at RA RB name_in key es (name_in c)) a c) ≡ is_key RA RB name_in key (option_and_then (λ e. key (name_in c, e)) (cond b (Some e) (value_at bytes_cmp (name_in c) es))) a c) [
        | true ↦ λ h.
            let same : name_in c ≡ name = (bytes_decides (name_in c) name).0 h in
            ap (λ n. (is_eq (RA a k.0) && is_eq (RB c k.1)) || is_key RA RB name_in key (key_at RA RB name_in key es n) a c) same
            ∙ ap (λ o. (is_eq (RA a k.0) && is_eq (RB c k.1)) || is_key RA RB name_in key (option_and_then (λ e. key (name, e)) o) a c) none
            ∙ or_false (is_eq (RA a k.0) && is_eq (RB c k.1))
            ∙ ap (λ o. is_key RA RB name_in key o a c) (sym has ∙ ap (λ n. key (n, e)) (sym same))
        | false ↦ λ h.
            ap (λ b. (is_eq (RA a k.0) && b) || is_key RA RB name_in key (key_at RA RB name_in key es (name_in c)) a c) (other_place k name e c has h)
            ∙ ap (λ b. b || is_key RA RB name_in key (key_at RA RB name_in key es (name_in c)) a c) (and_false (is_eq (RA a k.0)))
      ] refl
      ∙ ap (λ o. is_key RA RB name_in key (option_and_then (λ e. key (name_in c, e)) o) a c) (sym (value-with name e es (name_in c)))

  with_none : (es : Lines) (name : List ℕ) (e : E) → key (name, e) ≡ None → value_at bytes_cmp name es ≡ None → (a : A) (s : Option B)
      → is_placed RA RB name_in key es a s ≡ is_placed RA RB name_in key (with_entry bytes_cmp name e es) a s
  with_none es name e has none a None = refl
  with_none es name e has none a (Some c) =
      elim (bytes_eq (name_in c) name) as (λ b. bytes_eq (name_in c) name ≡ b
      → is_key RA RB name_in key (key_at RA RB name_in key es (name_in c)) a c ≡ is_key RA RB name_in key (option_and_then (λ e. key (name_in c, e)) (cond b (Some e) (value_at bytes_cmp (name_in c) es))) a c) [
        | true ↦ λ h.
            let same : name_in c ≡ name = (bytes_decides (name_in c) name).0 h in
            ap (λ n. is_key RA RB name_in key (key_at RA RB name_in key es n) a c) same
            ∙ ap (λ o. is_key RA RB name_in key (option_and_then (λ e. key (name, e)) o) a c) none
            ∙ ap (λ o. is_key RA RB name_in key o a c) (sym has ∙ ap (λ n. key (n, e)) (sym same))
        | false ↦ λ h. refl
      ] refl
      ∙ ap (λ o. is_key RA RB name_in key (option_and_then (λ e. key (name_in c, e)) o) a c) (sym (value-with name e es (name_in c)))

  pub placed_with : (es : Lines) (ss : Spots) (name : List ℕ) (e : E) → ArePlaced RA RB name_in key es ss → value_at bytes_cmp name es ≡ None
      → (o : Option (A × B)) → key (name, e) ≡ o → ArePlaced RA RB name_in key (with_entry bytes_cmp name e es) (with_place RA RB name_in key o ss)
  placed_with es ss name e placed none None has = λ q. placed q ∙ with_none es name e has none q.first q.second
  placed_with es ss name e placed none (Some k) has = λ q.
      ap is_some (lookup-insert_entry (within-IsTotalOrder RA RB oa ob) q (spot k) tt ss) ∙ some_or (is_eq (within_cmp RA RB q (spot k))) (value_at (within_cmp RA RB) q ss)
      ∙ (λ i. key_eq RA RB q k.0 k.1 i || placed q i)
      ∙ with_key es name e k has none q.first q.second

  pub sorted_with : (ss : Spots) → IsStrictlySortedBy (within_cmp RA RB) (keys_of ss) → (o : Option (A × B)) → IsStrictlySortedBy (within_cmp RA RB) (keys_of (with_place RA RB name_in key o ss))
  sorted_with ss sorted None = sorted
  sorted_with ss sorted (Some k) = sorted-insert_entry (within-IsTotalOrder RA RB oa ob) (spot k) tt ss sorted

  -- ---- the same entries have the same keys

  pub same_placed : (es : Lines) (ss rs : Spots) → IsStrictlySortedBy (within_cmp RA RB) (keys_of ss) → IsStrictlySortedBy (within_cmp RA RB) (keys_of rs)
      → ArePlaced RA RB name_in key es ss → ArePlaced RA RB name_in key es rs → ss ≡ rs
  same_placed es ss rs sorted rising placed other =
      same_found (within_cmp RA RB) (within-IsTotalOrder RA RB oa ob) (exact_within RA RB exact_a exact_b) ss rs sorted rising
      (λ q. same_units (value_at (within_cmp RA RB) q ss) (value_at (within_cmp RA RB) q rs) (placed q ∙ sym (other q)))

  -- ---- an entry less

  without_key_of : (es : Lines) (name : List ℕ) (e : E) (k : A × B) → key (name, e) ≡ Some k → value_at bytes_cmp name es ≡ Some e → IsStrictlySortedBy bytes_cmp (keys_of es) → (a : A) (s : Option B)
      → (not (is_eq (RA a k.0) && is_second RB s k.1) && is_placed RA RB name_in key es a s) ≡ is_placed RA RB name_in key (without_key bytes_cmp name es) a s
  without_key_of es name e k has here sorted a None = and_false (not (is_eq (RA a k.0) && false))
  without_key_of es name e k has here sorted a (Some c) =
      elim (bytes_eq (name_in c) name) as (λ b. bytes_eq (name_in c) name ≡ b
      → (not (is_eq (RA a k.0) && is_eq (RB c k.1)) && is_key RA RB name_in key (key_at RA RB name_in key es (name_in c)) a c) ≡ is_key RA RB name_in key (option_and_then (λ e. key (name_in c, e)) (cond b None (value_at bytes_cmp (name_in c) es))) a c) [
        | true ↦ λ h.
            let same : name_in c ≡ name = (bytes_decides (name_in c) name).0 h in
            ap (λ n. not (is_eq (RA a k.0) && is_eq (RB c k.1)) && is_key RA RB name_in key (key_at RA RB name_in key es n) a c) same
            ∙ ap (λ o. not (is_eq (RA a k.0) && is_eq (RB c k.1)) && is_key RA RB name_in key (option_and_then (λ e. key (name, e)) o) a c) here
            ∙ ap (λ o. not (is_eq (RA a k.0) && is_eq (RB c k.1)) && is_key RA RB name_in key o a c) has
            ∙ not-and (is_eq (RA a k.0) && is_eq (RB c k.1))
        | false ↦ λ h.
            ap (λ b. not (is_eq (RA a k.0) && b) && is_key RA RB name_in key (key_at RA RB name_in key es (name_in c)) a c) (other_place k name e c has h)
            ∙ ap (λ b. not b && is_key RA RB name_in key (key_at RA RB name_in key es (name_in c)) a c) (and_false (is_eq (RA a k.0)))
      ] refl
      ∙ ap (λ o. is_key RA RB name_in key (option_and_then (λ e. key (name_in c, e)) o) a c) (sym (value-without name es sorted (name_in c)))

  without_none : (es : Lines) (name : List ℕ) → key_at RA RB name_in key es name ≡ None → IsStrictlySortedBy bytes_cmp (keys_of es) → (a : A) (s : Option B)
      → is_placed RA RB name_in key es a s ≡ is_placed RA RB name_in key (without_key bytes_cmp name es) a s
  without_none es name none sorted a None = refl
  without_none es name none sorted a (Some c) =
      elim (bytes_eq (name_in c) name) as (λ b. bytes_eq (name_in c) name ≡ b
      → is_key RA RB name_in key (key_at RA RB name_in key es (name_in c)) a c ≡ is_key RA RB name_in key (option_and_then (λ e. key (name_in c, e)) (cond b None (value_at bytes_cmp (name_in c) es))) a c) [
        | true ↦ λ h. ap (λ n. is_key RA RB name_in key (key_at RA RB name_in key es n) a c) ((bytes_decides (name_in c) name).0 h) ∙ ap (λ o. is_key RA RB name_in key o a c) none
        | false ↦ λ h. refl
      ] refl
      ∙ ap (λ o. is_key RA RB name_in key (option_and_then (λ e. key (name_in c, e)) o) a c) (sym (value-without name es sorted (name_in c)))

  pub placed_without : (es : Lines) (ss : Spots) (name : List ℕ) (e : E) → IsStrictlySortedBy bytes_cmp (keys_of es) → IsStrictlySortedBy (within_cmp RA RB) (keys_of ss) → ArePlaced RA RB name_in key es ss
      → value_at bytes_cmp name es ≡ Some e → (o : Option (A × B)) → key (name, e) ≡ o → ArePlaced RA RB name_in key (without_key bytes_cmp name es) (without_place RA RB name_in key o ss)
  placed_without es ss name e sorted rising placed here None has = λ q.
      placed q ∙ without_none es name (ap (option_and_then (λ e. key (name, e))) here ∙ has) sorted q.first q.second
  placed_without es ss name e sorted rising placed here (Some k) has = λ q.
      ap is_some (lookup-without (within-IsTotalOrder RA RB oa ob) (exact_within RA RB exact_a exact_b) (spot k) ss rising q) ∙ none_or (is_eq (within_cmp RA RB q (spot k))) (value_at (within_cmp RA RB) q ss)
      ∙ (λ i. not (key_eq RA RB q k.0 k.1 i) && placed q i)
      ∙ without_key_of es name e k has here sorted q.first q.second
