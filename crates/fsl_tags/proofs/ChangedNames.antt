-- What differs from what was noted is what has changed.
use mathlib.Core.Bool.{true≢false}
use Rattle.std.specs.Prelude.{◌≡◌, ◌≢◌, ℕ, List, [], ◌∷◌, ◌++◌, length, ◌+◌, Bool, true, false, ◌||◌, not, cond, Option, Some, None}
use Rattle.std.proofs.Common.{refl, sym, ap, ◌∙◌, subst, arith}
use Rattle.std.proofs.lemmas.List.{append-nil, append_assoc}
use Rattle.std.specs.Bool.{MatchBool}
use Rattle.std.specs.Str.{bytes_eq}
use Rattle.std.specs.List.{AllByRecursion}
use Rattle.std.specs.List.Sorted.{IsStrictlySortedBy}
use Rattle.std.specs.Map.{keys_of}
use Rattle.std.specs.Option.{option_map_or}
use Rattle.std.specs.Ordering.{is_eq}
use Rattle.std.specs.Cmp.Lexicographic.{texts_ties, bytes_decides}
use Rattle.std.specs.declared.cmp.Ordering.TheVariants.{Less}
use Rattle.fsl_order.specs.Names.{bytes_cmp, has}
use Rattle.fsl_order.specs.Rows.{ListsChanged}
use Rattle.fsl_table.specs.Contents.{value_at}
use Rattle.fsl_tags.specs.declared.Assertion.{Assertion}
use Rattle.fsl_tags.specs.Same.{same_rows}
use Rattle.fsl_tags.specs.Laid.{row_in, IsNote, AreNoted}
use Rattle.fsl_tags.specs.Changed.{changed_of}
use Rattle.fsl_tags.proofs.SameRows.{rows-one, rows-same}

module _ (rows : List (List ℕ × List Assertion)) where
  within : (P : List ℕ → Type 0) (noted : List (List ℕ × List Assertion)) → AllByRecursion P (keys_of noted) → AllByRecursion P (changed_of noted rows)
  within P [] all = tt
  within P (e ∷ noted) all = elim (same_rows e.1 (row_in rows e.0)) as (λ b. AllByRecursion P (cond b (changed_of noted rows) (e.0 ∷ changed_of noted rows))) [ true ↦ within P noted all.1 | false ↦ (all.0, within P noted all.1) ]

  changed-rises : (noted : List (List ℕ × List Assertion)) → IsStrictlySortedBy bytes_cmp (keys_of noted) → IsStrictlySortedBy bytes_cmp (changed_of noted rows)
  unfolding IsStrictlySortedBy
  changed-rises [] up = tt
  changed-rises (e ∷ noted) up =
      elim (same_rows e.1 (row_in rows e.0)) as (λ b. IsStrictlySortedBy bytes_cmp (cond b (changed_of noted rows) (e.0 ∷ changed_of noted rows))) [
        | true ↦ changed-rises noted up.1
        | false ↦ (within (λ y. bytes_cmp e.0 y ≡ Less) noted up.0, changed-rises noted up.1)
      ]

  none-has : (x : List ℕ) (names : List (List ℕ)) → AllByRecursion (λ y. bytes_cmp x y ≡ Less) names → has names x ≡ false
  none-has x [] all = refl
  none-has x (y ∷ names) all = (λ i. (texts_ties x y ∙ ap is_eq all.0) i || has names x) ∙ none-has x names all.1

  abbrev differs : List ℕ → Option (List Assertion) → Bool
  differs x o = option_map_or (λ r. not (same_rows r (row_in rows x))) o false

  has-changed : (noted : List (List ℕ × List Assertion)) → IsStrictlySortedBy bytes_cmp (keys_of noted) → (x : List ℕ) → has (changed_of noted rows) x ≡ differs x (value_at bytes_cmp x noted)
  unfolding IsStrictlySortedBy
  has-changed [] up x = refl
  has-changed (e ∷ noted) up x =
      elim (bytes_eq x e.0) as (λ b. bytes_eq x e.0 ≡ b → has (changed_of (e ∷ noted) rows) x ≡ differs x (cond b (Some e.1) (value_at bytes_cmp x noted))) [
        | true ↦ λ h.
            let same : x ≡ e.0 = (bytes_decides x e.0).0 h in
            let gone : has (changed_of noted rows) x ≡ false = ap (has (changed_of noted rows)) same ∙ none-has e.0 (changed_of noted rows) (within (λ y. bytes_cmp e.0 y ≡ Less) noted up.0) in
            elim (same_rows e.1 (row_in rows e.0)) as (λ b. has (cond b (changed_of noted rows) (e.0 ∷ changed_of noted rows)) x ≡ not b) [
              | true ↦ gone
              | false ↦ ap (λ b. b || has (changed_of noted rows) x) h
            ]
            ∙ ap (λ y. not (same_rows e.1 (row_in rows y))) (sym same)
        | false ↦ λ h.
            elim (same_rows e.1 (row_in rows e.0)) as (λ b. has (cond b (changed_of noted rows) (e.0 ∷ changed_of noted rows)) x ≡ has (changed_of noted rows) x) [
              | true ↦ refl
              | false ↦ ap (λ b. b || has (changed_of noted rows) x) h
            ]
            ∙ has-changed noted up.1 x
      ] refl
      ∙ ap (λ b. differs x (cond b (Some e.1) (value_at bytes_cmp x noted))) (texts_ties x e.0)

  module _ (before : List ℕ → List Assertion) (noted : List (List ℕ × List Assertion)) (up : IsStrictlySortedBy bytes_cmp (keys_of noted)) (all : AreNoted before noted rows) where
    one : (x : List ℕ) (o : Option (List Assertion)) → IsNote (before x) (row_in rows x) o → MatchBool (differs x o) (before x ≢ row_in rows x) (before x ≡ row_in rows x)
    one x None e = sym e
    one x (Some r) e =
        elim (same_rows r (row_in rows x)) as (λ b. same_rows r (row_in rows x) ≡ b → MatchBool (not b) (before x ≢ row_in rows x) (before x ≡ row_in rows x)) [
          | true ↦ λ h. sym e ∙ rows-one r (row_in rows x) h
          | false ↦ λ h same. true≢false (sym (rows-same r (row_in rows x) (e ∙ same)) ∙ h)
        ] refl

    pub lists_changed : ListsChanged before (row_in rows) (changed_of noted rows)
    lists_changed = record {
      rising = changed-rises noted up;
      differ = λ x. subst (λ b. MatchBool b (before x ≢ row_in rows x) (before x ≡ row_in rows x)) (sym (has-changed noted up x)) (one x (value_at bytes_cmp x noted) (all x));
    }

-- ---- the list so far, with what is left

module _ (rows : List (List ℕ × List Assertion)) (list whole : List (List ℕ)) (left : List (List ℕ × List Assertion)) (so_far : list ++ changed_of left rows ≡ whole) where
  pub list_on : (e : List ℕ × List Assertion) (rest : List (List ℕ × List Assertion)) (now : List (List ℕ)) → left ≡ e ∷ rest → now ≡ list ++ cond (same_rows e.1 (row_in rows e.0)) [] (e.0 ∷ []) → now ++ changed_of rest rows ≡ whole
  list_on e rest now is more =
      ap (λ (l : List (List ℕ)). l ++ changed_of rest rows) more
      ∙ append_assoc list (cond (same_rows e.1 (row_in rows e.0)) [] (e.0 ∷ [])) (changed_of rest rows)
      ∙ ap (λ (l : List (List ℕ)). list ++ l) (one (same_rows e.1 (row_in rows e.0)))
      ∙ sym (ap (λ es. list ++ changed_of es rows) is)
      ∙ so_far
    where
      one : (b : Bool) → cond b [] (e.0 ∷ []) ++ changed_of rest rows ≡ cond b (changed_of rest rows) (e.0 ∷ changed_of rest rows)
      one true = refl
      one false = refl

  pub list_end : left ≡ [] → list ≡ whole
  list_end none = sym (append-nil list) ∙ sym (ap (λ es. list ++ changed_of es rows) none) ∙ so_far

pub one_less : (left rest : List (List ℕ × List Assertion)) (e : List ℕ × List Assertion) → left ≡ e ∷ rest → length left ≡ length rest + 1
one_less left rest e is = let size = ap length is in omega (arith, size)
