-- Rows in order, none of them empty, with one more or one less.
use mathlib.Core.Bool.{true≢false}
use Rattle.std.proofs.Math.Dec.{eqb-suc-zero}
use Rattle.std.specs.Prelude.{length, ◌==◌, ◌≡◌, ℕ, List, [], ◌∷◌, true, false, cond, Some, None, unwrap_or}
use Rattle.std.proofs.Common.{refl, sym, ap, ◌∙◌, subst}
use Rattle.std.specs.Str.{bytes_eq}
use Rattle.std.specs.BTreeMap.{is_at}
use Rattle.std.specs.Cmp.Lexicographic.{bytes_decides}
use Rattle.fsl_order.specs.Names.{bytes_cmp}
use Rattle.fsl_order.proofs.Orders.{bytes_cmp-IsTotalOrder}
use Rattle.fsl_table.proofs.Finding.{value-with, value-without}
use Rattle.fsl_table.specs.Contents.{value_at, with_entry, without_key}
use Rattle.fsl_table.proofs.Entries.{sorted-insert_entry, sorted-remove_entry}
use Rattle.fsl_tags.specs.declared.Assertion.{Assertion}
use Rattle.fsl_tags.specs.Laid.{row_in, filled, AreFull, IsNote}

pub row-with : (k : List ℕ) (row : List Assertion) (es : List (List ℕ × List Assertion)) (x : List ℕ) → row_in (with_entry bytes_cmp k row es) x ≡ cond (bytes_eq x k) row (row_in es x)
row-with k row es x = ap (λ o. unwrap_or o []) (value-with k row es x) ∙ elim (bytes_eq x k) as (λ b. unwrap_or (cond b (Some row) (value_at bytes_cmp x es)) [] ≡ cond b row (row_in es x)) [ true ↦ refl | false ↦ refl ]

pub row-without : (k : List ℕ) (es : List (List ℕ × List Assertion)) → AreFull es → (x : List ℕ) → row_in (without_key bytes_cmp k es) x ≡ cond (bytes_eq x k) [] (row_in es x)
row-without k es full x = ap (λ o. unwrap_or o []) (value-without k es full.ordered x) ∙ elim (bytes_eq x k) as (λ b. unwrap_or (cond b None (value_at bytes_cmp x es)) [] ≡ cond b [] (row_in es x)) [ true ↦ refl | false ↦ refl ]

pub full-with : (k : List ℕ) (a : Assertion) (row : List Assertion) (es : List (List ℕ × List Assertion)) → AreFull es → AreFull (with_entry bytes_cmp k (a ∷ row) es)
full-with k a row es full = record {
  ordered = sorted-insert_entry bytes_cmp-IsTotalOrder k (a ∷ row) es full.ordered;
  full = λ x.
      value-with k (a ∷ row) es x
      ∙ elim (bytes_eq x k) as (λ b. cond b (Some (a ∷ row)) (value_at bytes_cmp x es) ≡ filled (cond b (a ∷ row) (row_in es x))) [ true ↦ refl | false ↦ full.full x ]
      ∙ ap filled (sym (row-with k (a ∷ row) es x));
}

pub full-without : (k : List ℕ) (es : List (List ℕ × List Assertion)) → AreFull es → AreFull (without_key bytes_cmp k es)
full-without k es full = record {
  ordered = sorted-remove_entry bytes_cmp-IsTotalOrder (is_at (bytes_cmp k)) es full.ordered;
  full = λ x.
      value-without k es full.ordered x
      ∙ elim (bytes_eq x k) as (λ b. cond b None (value_at bytes_cmp x es) ≡ filled (cond b [] (row_in es x))) [ true ↦ refl | false ↦ full.full x ]
      ∙ ap filled (sym (row-without k es full x));
}

-- the same, where the row is said not to be empty
pub full-put : (k : List ℕ) (row : List Assertion) (es : List (List ℕ × List Assertion)) → (row ≡ [] → ⊥) → AreFull es → AreFull (with_entry bytes_cmp k row es)
full-put k [] es some full = absurd (some refl)
full-put k (a ∷ row) es some full = full-with k a row es full

-- ---- what was noted

module _ (before : List ℕ → List Assertion) (noted now then : List (List ℕ × List Assertion)) (name : List ℕ) (else : (x : List ℕ) → bytes_eq x name ≡ false → row_in then x ≡ row_in now x)
    (all : (x : List ℕ) → IsNote (before x) (row_in now x) (value_at bytes_cmp x noted)) where
  pub noted-kept : (v : List Assertion) → value_at bytes_cmp name noted ≡ Some v → (x : List ℕ) → IsNote (before x) (row_in then x) (value_at bytes_cmp x noted)
  noted-kept v there x =
      elim (bytes_eq x name) as (λ b. bytes_eq x name ≡ b → IsNote (before x) (row_in then x) (value_at bytes_cmp x noted)) [
        | true ↦ λ h.
            let e : value_at bytes_cmp x noted ≡ Some v = ap (λ q. value_at bytes_cmp q noted) ((bytes_decides x name).0 h) ∙ there in
            subst (IsNote (before x) (row_in then x)) (sym e) (let a : IsNote (before x) (row_in now x) (Some v) = subst (IsNote (before x) (row_in now x)) e (all x) in a)
        | false ↦ λ h. subst (λ r. IsNote (before x) r (value_at bytes_cmp x noted)) (sym (else x h)) (all x)
      ] refl

  pub noted-more : (row : List Assertion) → value_at bytes_cmp name noted ≡ None → row ≡ row_in now name → (x : List ℕ) → IsNote (before x) (row_in then x) (value_at bytes_cmp x (with_entry bytes_cmp name row noted))
  noted-more row absent is x =
      subst (IsNote (before x) (row_in then x)) (sym (value-with name row noted x))
      (elim (bytes_eq x name) as (λ b. bytes_eq x name ≡ b → IsNote (before x) (row_in then x) (cond b (Some row) (value_at bytes_cmp x noted))) [
        | true ↦ λ h.
            let same : x ≡ name = (bytes_decides x name).0 h in
            let a : IsNote (before name) (row_in now name) None = subst (IsNote (before name) (row_in now name)) absent (all name) in
            is ∙ a ∙ sym (ap before same)
        | false ↦ λ h. subst (λ r. IsNote (before x) r (value_at bytes_cmp x noted)) (sym (else x h)) (all x)
      ] refl)

-- where the row of a name is another, the others are as they were
pub else_of : (name : List ℕ) (row : List Assertion) (now then : List (List ℕ × List Assertion)) → ((x : List ℕ) → row_in then x ≡ cond (bytes_eq x name) row (row_in now x)) → (x : List ℕ) → bytes_eq x name ≡ false → row_in then x ≡ row_in now x
else_of name row now then all x h = all x ∙ ap (λ b. cond b row (row_in now x)) h

-- the same row again
pub unchanged : (name : List ℕ) (row : List Assertion) (now : List (List ℕ × List Assertion)) → row_in now name ≡ row → (x : List ℕ) → row_in now x ≡ cond (bytes_eq x name) row (row_in now x)
unchanged name row now same x =
    elim (bytes_eq x name) as (λ b. bytes_eq x name ≡ b → row_in now x ≡ cond b row (row_in now x)) [
      | true ↦ λ h. ap (row_in now) ((bytes_decides x name).0 h) ∙ same
      | false ↦ λ _. refl
    ] refl

pub is_none : (row : List Assertion) → (length row == 0) ≡ true → row ≡ []
is_none [] h = refl
is_none (a ∷ row) h = absurd (true≢false (sym h ∙ eqb-suc-zero (length row)))
