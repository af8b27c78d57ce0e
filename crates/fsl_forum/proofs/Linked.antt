-- Pairs of a name and the one to which it belongs, where one name comes to belong to another.
use Rattle.std.specs.Prelude.{◌≡◌, ℕ, List, Bool, true, false, ◌&&◌, ◌||◌, not, cond, Option, Some, None, is_some, option_and_then}
use Rattle.std.proofs.Common.{refl, sym, ap, ◌∙◌, subst}
use Rattle.std.specs.Str.{bytes_eq}
use Rattle.std.specs.List.Sorted.{IsStrictlySortedBy}
use Rattle.std.specs.Map.{keys_of}
use Rattle.std.specs.Cmp.Lexicographic.{bytes_decides}
use Rattle.fsl_table.specs.declared.key.Pair.{Pair}
use Rattle.fsl_table.specs.Contents.{value_at}
use Rattle.fsl_table.specs.Exact.{pair_cmp}
use Rattle.fsl_table.specs.Pairs.{is_name}
use Rattle.fsl_forum.specs.Held.{AreOf}
use Rattle.fsl_forum.specs.Rows.{Row, place_of}

-- the same names belong to the same ones
pub of-alike : (first other : List ℕ → Option (List ℕ)) (es : List (Pair × Unit {0})) → ((x : List ℕ) → first x ≡ other x) → AreOf first es → AreOf other es
of-alike first other es same of_ = subst (λ f. AreOf f es) (λ i x. same x i) of_

-- the pairs after the old one was taken out and the new one put
pub relinked : (first : List ℕ → Option (List ℕ)) (name : List ℕ) (was up : Option (List ℕ)) (old mid new : List (Pair × Unit {0})) → AreOf first old → first name ≡ was → IsStrictlySortedBy pair_cmp (keys_of new)
    → ((k : Pair) → is_some (value_at pair_cmp k mid) ≡ (not (is_name k.second name && is_name was k.first) && is_some (value_at pair_cmp k old)))
    → ((k : Pair) → is_some (value_at pair_cmp k new) ≡ ((is_name k.second name && is_name up k.first) || is_some (value_at pair_cmp k mid)))
    → AreOf (λ x. cond (bytes_eq x name) up (first x)) new
relinked first name was up old mid new of_ is ordered gone come = record {
  ordered = ordered;
  pairs = λ k. come k ∙ ap (λ b. (is_name k.second name && is_name up k.first) || b) (gone k ∙ ap (λ b. not (is_name k.second name && is_name was k.first) && b) (of_.pairs k)) ∙ by k k.second;
}
  where
    own : (u o : Bool) → (u || (not o && o)) ≡ u
    own true o = refl
    own false true = refl
    own false false = refl

    by : (k : Pair) (s : Option (List ℕ)) → ((is_name s name && is_name up k.first) || (not (is_name s name && is_name was k.first) && is_name (option_and_then first s) k.first))
        ≡ is_name (option_and_then (λ x. cond (bytes_eq x name) up (first x)) s) k.first
    by k None = refl
    by k (Some c) =
        elim (bytes_eq c name) as (λ b. bytes_eq c name ≡ b → ((b && is_name up k.first) || (not (b && is_name was k.first) && is_name (first c) k.first)) ≡ is_name (cond b up (first c)) k.first) [
          | true ↦ λ h. ap (λ o. is_name up k.first || (not (is_name was k.first) && is_name o k.first)) (ap first ((bytes_decides c name).0 h) ∙ is) ∙ own (is_name up k.first) (is_name was k.first)
          | false ↦ λ _. refl
        ] refl

-- ---- by rows

module _ (first : List ℕ → Option (List ℕ)) (name : List ℕ) (rows : List ℕ → Row) (es : List (Pair × Unit {0})) where
  -- the name belongs to the thread of its row
  pub of-row : (up : Option (List ℕ)) → up ≡ place_of (rows name) → AreOf (λ x. cond (bytes_eq x name) up (first x)) es → AreOf (λ x. cond (bytes_eq x name) (place_of (rows x)) (first x)) es
  of-row up is of_ =
      of-alike (λ x. cond (bytes_eq x name) up (first x)) (λ x. cond (bytes_eq x name) (place_of (rows x)) (first x)) es
      (λ x. elim (bytes_eq x name) as (λ b. bytes_eq x name ≡ b → cond b up (first x) ≡ cond b (place_of (rows x)) (first x)) [
        | true ↦ λ h. is ∙ ap (λ n. place_of (rows n)) (sym ((bytes_decides x name).0 h))
        | false ↦ λ _. refl
      ] refl) of_

  -- it did so already
  pub of-stays : first name ≡ place_of (rows name) → AreOf first es → AreOf (λ x. cond (bytes_eq x name) (place_of (rows x)) (first x)) es
  of-stays is of_ =
      of-alike first (λ x. cond (bytes_eq x name) (place_of (rows x)) (first x)) es
      (λ x. elim (bytes_eq x name) as (λ b. bytes_eq x name ≡ b → first x ≡ cond b (place_of (rows x)) (first x)) [
        | true ↦ λ h. ap first ((bytes_decides x name).0 h) ∙ is ∙ ap (λ n. place_of (rows n)) (sym ((bytes_decides x name).0 h))
        | false ↦ λ _. refl
      ] refl) of_
