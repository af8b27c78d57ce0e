-- The names whose rows show a tag are its holders.
use mathlib.Core.Bool.{true≢false}
use Rattle.std.specs.Prelude.{◌≡◌, ◌+◌, ℕ, List, [], ◌∷◌, ◌++◌, Bool, true, false, ◌&&◌, not, cond, if◌then◌else◌, Some, None, is_some, filter, unwrap_or, length}
use Rattle.std.proofs.Common.{refl, sym, ap, ◌∙◌, subst, arith}
use Rattle.std.specs.Option.{option_map}
use Rattle.std.specs.Ordering.{is_lt}
use Rattle.std.specs.List.Sorted.{IsStrictlySortedBy}
use Rattle.std.specs.Map.{keys_of}
use Rattle.fsl_order.specs.Names.{bytes_cmp, has}
use Rattle.fsl_order.proofs.RowLemmas.{has-filter}
use Rattle.fsl_order.proofs.SortedLemmas.{ascending-from, same_names}
use Rattle.fsl_name.proofs.Rising.{rising-filter}
use Rattle.fsl_table.specs.Contents.{value_at, first_of, entries_after}
use Rattle.fsl_table.specs.Pairs.{rest_after}
use Rattle.fsl_tags.specs.declared.Fact.{Fact}
use Rattle.fsl_tags.specs.Tags.{cancels, effective, holders, force, only}
use Rattle.fsl_tags.specs.Gathered.{subjects, is_shown}
use Rattle.fsl_tags.specs.Laying.{shows}
use Rattle.fsl_tags.specs.Held.{Rows, IsKept, facts_of}
use Rattle.fsl_tags.proofs.Chosen.{none_outside}
use Rattle.fsl_tags.proofs.Effective.{kept-finds}
use Rattle.fsl_tags.proofs.RowsOf.{of_tag}
use Rattle.fsl_tags.proofs.Settled.{has-keys}

-- the name of the next entry is the next name
pub next_name : {X : Type 0} (k : List ℕ) (es : List (List ℕ × X)) → option_map (λ e. e.0) (first_of (entries_after bytes_cmp k es)) ≡ first_of (rest_after (Some k) (keys_of es))
next_name k [] = refl
next_name k (e ∷ es) =
    elim (is_lt (bytes_cmp k e.0)) as (λ b. option_map (λ e. e.0) (first_of (cond b (e ∷ entries_after bytes_cmp k es) (entries_after bytes_cmp k es))) ≡ first_of (cond b (e.0 ∷ rest_after (Some k) (keys_of es)) (rest_after (Some k) (keys_of es)))) [
      | true ↦ refl
      | false ↦ next_name k es
    ]

pub first_name : {X : Type 0} (es : List (List ℕ × X)) → option_map (λ e. e.0) (first_of es) ≡ first_of (keys_of es)
first_name [] = refl
first_name (e ∷ es) = refl

pub shorter : (a b : List (List ℕ)) (c : List ℕ) (r : List (List ℕ)) → a ≡ r → b ≡ c ∷ r → length b ≡ length a + 1
shorter a b c r p q = let n : length a ≡ length r = ap length p in let m : length b ≡ length (c ∷ r) = ap length q in omega (arith, n, m)

-- one name more
pub shown_next : (p : List ℕ → Bool) (name : List ℕ) (some : List (List ℕ)) (wanted : Bool) → wanted ≡ p name → filter p (name ∷ some) ≡ cond wanted (name ∷ []) [] ++ filter p some
shown_next p name some wanted is =
    ap (λ b. cond b (name ∷ filter p some) (filter p some)) (sym is)
    ∙ elim wanted as (λ b. cond b (name ∷ filter p some) (filter p some) ≡ cond b (name ∷ []) [] ++ filter p some) [ true ↦ refl | false ↦ refl ]

holds-is : (facts : List Fact) (tag name : List ℕ) → is_shown (effective facts name tag) ≡ is_some (force facts name tag)
holds-is facts tag name = elim (effective facts name tag) as (λ o. is_shown o ≡ is_some (only (λ a. not (cancels a.prefix)) o)) [
  | None ↦ refl
  | Some a ↦ elim (not (cancels a.prefix)) as (λ b. b ≡ is_some (if b then Some a else None)) [ true ↦ refl | false ↦ refl ]
]

module _ (r : Rows) (kept : IsKept r) (tag : List ℕ) where
  -- a row shows what is in force
  pub shows-is : (x : List ℕ) → shows r.rows.entries tag x ≡ is_some (force (facts_of r.facts.entries) x tag)
  shows-is x = ap is_shown (kept-finds r kept x tag) ∙ holds-is (facts_of r.facts.entries) tag x

  -- a name without a row shows nothing
  none-shown : (x : List ℕ) → has (keys_of r.rows.entries) x ≡ false → shows r.rows.entries tag x ≡ false
  none-shown x none =
      elim (value_at bytes_cmp x r.rows.entries) as (λ o. is_some o ≡ false → is_shown (of_tag (unwrap_or o []) tag) ≡ false) [
        | None ↦ λ _. refl
        | Some row ↦ λ h. absurd (true≢false h)
      ] (sym (has-keys x r.rows.entries) ∙ none)

  and-false : (b : Bool) → (b && false) ≡ false
  and-false true = refl
  and-false false = refl

  pub holders-shown : filter (shows r.rows.entries tag) (keys_of r.rows.entries) ≡ holders (facts_of r.facts.entries) tag
  holders-shown =
      let facts = facts_of r.facts.entries in
      let p = shows r.rows.entries tag in
      let q : List ℕ → Bool = λ x. is_some (force facts x tag) in
      let names = keys_of r.rows.entries in
      ascending-from (filter q (subjects facts)) (filter p names)
      (subst (IsStrictlySortedBy bytes_cmp) (same_names (filter p names)) (rising-filter (λ name. name) p names (subst (IsStrictlySortedBy bytes_cmp) (sym (same_names names)) kept.right.full.ordered)))
      (λ x. has-filter p names x ∙ same x ∙ sym (has-filter q (subjects facts) x))
    where
      same : (x : List ℕ) → (has (keys_of r.rows.entries) x && shows r.rows.entries tag x) ≡ (has (subjects (facts_of r.facts.entries)) x && is_some (force (facts_of r.facts.entries) x tag))
      same x =
          named-side x ∙ shows-is x ∙ sym (subject-side x)
        where
          named-side : (x : List ℕ) → (has (keys_of r.rows.entries) x && shows r.rows.entries tag x) ≡ shows r.rows.entries tag x
          named-side x = elim (has (keys_of r.rows.entries) x) as (λ b. has (keys_of r.rows.entries) x ≡ b → (b && shows r.rows.entries tag x) ≡ shows r.rows.entries tag x) [
            | true ↦ λ _. refl
            | false ↦ λ h. sym (none-shown x h)
          ] refl

          subject-side : (x : List ℕ) → (has (subjects (facts_of r.facts.entries)) x && is_some (force (facts_of r.facts.entries) x tag)) ≡ is_some (force (facts_of r.facts.entries) x tag)
          subject-side x = elim (has (subjects (facts_of r.facts.entries)) x) as (λ b. has (subjects (facts_of r.facts.entries)) x ≡ b → (b && is_some (force (facts_of r.facts.entries) x tag)) ≡ is_some (force (facts_of r.facts.entries) x tag)) [
            | true ↦ λ _. refl
            | false ↦ λ h. sym (ap (λ o. is_some (only (λ a. not (cancels a.prefix)) o)) (none_outside (facts_of r.facts.entries) kept.fit x tag h))
          ] refl
