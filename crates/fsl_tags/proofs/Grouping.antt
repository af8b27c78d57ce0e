-- Assertions in groups by their targets, and a row with those of one group.
use Rattle.std.specs.Prelude.{◌≡◌, ℕ, List, [], ◌∷◌, ◌++◌, true, false, ◌&&◌, cond, Option, Some, None, filter, unwrap_or}
use Rattle.std.proofs.Common.{refl, sym, ap, ◌∙◌, subst}
use Rattle.std.proofs.lemmas.List.{append-nil}
use Rattle.std.specs.Str.{bytes_eq}
use Rattle.std.specs.List.Sorted.{IsStrictlySortedBy}
use Rattle.std.specs.Map.{keys_of}
use Rattle.std.specs.Cmp.Lexicographic.{texts_ties, bytes_decides, nat_list_eq_equiv}
use Rattle.fsl_order.specs.Names.{bytes_cmp}
use Rattle.fsl_order.specs.Rows.{greater, greatest}
use Rattle.fsl_order.proofs.Orders.{bytes_cmp-IsTotalOrder}
use Rattle.fsl_table.specs.Contents.{value_at}
use Rattle.fsl_table.proofs.Entries.{none_above}
use Rattle.fsl_tags.specs.declared.Assertion.{Assertion}
use Rattle.fsl_tags.specs.Laying.{AreElsewhere}
use Rattle.fsl_tags.specs.Tags.{newer_cmp}
use Rattle.fsl_tags.specs.Kept.{newest_on, newest_of, on_target}
use Rattle.fsl_tags.specs.Laid.{Rises, row_in}
use Rattle.fsl_tags.proofs.RowsOf.{of_tag}
use Rattle.fsl_tags.proofs.Newest.{greater-none}
use Rattle.fsl_tags.proofs.EffectiveLaw.{newer_cmp-IsTotalOrder}
use Rattle.fsl_tags.proofs.Limits.{Low, low-itself, low-more}

-- ---- groups

-- what was taken out is put back with one more
pub group_more : (a : Assertion) (target : List ℕ) (old mid now : List (List ℕ × List Assertion)) (group : List Assertion) → group ≡ row_in old target
    → ((x : List ℕ) → row_in mid x ≡ cond (bytes_eq x target) [] (row_in old x)) → ((x : List ℕ) → row_in now x ≡ cond (bytes_eq x target) (group ++ a ∷ []) (row_in mid x))
    → (x : List ℕ) → row_in now x ≡ row_in old x ++ cond (bytes_eq x target) (a ∷ []) []
group_more a target old mid now group was gone put x =
    put x ∙ (λ i. cond (bytes_eq x target) (was i ++ a ∷ []) (gone x i))
    ∙ elim (bytes_eq x target) as (λ b. bytes_eq x target ≡ b → cond b (row_in old target ++ a ∷ []) (cond b [] (row_in old x)) ≡ row_in old x ++ cond b (a ∷ []) []) [
      | true ↦ λ h. ap (λ y. row_in old y ++ a ∷ []) (sym ((bytes_decides x target).0 h))
      | false ↦ λ _. sym (append-nil (row_in old x))
    ] refl

pub joined_some : (xs : List Assertion) (a : Assertion) → xs ++ a ∷ [] ≡ [] → ⊥
joined_some [] a e = cc
joined_some (x ∷ xs) a e = cc

-- one more that is or isn't on the name
pub group-step : (x : List ℕ) (group : List Assertion) (a : Assertion) (rest : List Assertion) → (group ++ cond (bytes_eq x a.target) (a ∷ []) []) ++ on_target x rest ≡ group ++ on_target x (a ∷ rest)
group-step x [] a rest =
    ap (λ b. cond b (a ∷ []) [] ++ on_target x rest) (nat_list_eq_equiv.symm x a.target)
    ∙ elim (bytes_eq a.target x) as (λ b. cond b (a ∷ []) [] ++ on_target x rest ≡ cond b (a ∷ on_target x rest) (on_target x rest)) [ true ↦ refl | false ↦ refl ]
group-step x (g ∷ group) a rest = ap (λ l. g ∷ l) (group-step x group a rest)

-- a name that no assertion is on
pub elsewhere_more : (x : List ℕ) (as_ : List Assertion) (a : Assertion) → AreElsewhere x as_ → bytes_eq x a.target ≡ false → AreElsewhere x (as_ ++ a ∷ [])
elsewhere_more x [] a all one = (one, tt)
elsewhere_more x (b ∷ as_) a all one = (all.0, elsewhere_more x as_ a all.1 one)

-- ---- the newest of a group

on_both : (x tag : List ℕ) (as_ : List Assertion) → filter (λ a. bytes_eq a.tag tag) (on_target x as_) ≡ filter (λ a. bytes_eq a.target x && bytes_eq a.tag tag) as_
on_both x tag [] = refl
on_both x tag (a ∷ as_) =
    elim (bytes_eq a.target x) as (λ b. filter (λ a. bytes_eq a.tag tag) (cond b (a ∷ on_target x as_) (on_target x as_)) ≡ cond (b && bytes_eq a.tag tag) (a ∷ filter (λ a. bytes_eq a.target x && bytes_eq a.tag tag) as_) (filter (λ a. bytes_eq a.target x && bytes_eq a.tag tag) as_)) [
      | true ↦ ap (λ l. cond (bytes_eq a.tag tag) (a ∷ l) l) (on_both x tag as_)
      | false ↦ on_both x tag as_
    ]

pub newest_of-group : (x tag : List ℕ) (as_ : List Assertion) → newest_of tag (on_target x as_) ≡ newest_on x tag as_
newest_of-group x tag as_ = ap (greatest newer_cmp) (on_both x tag as_)

-- a group is empty where no assertion is on the name
pub on_target-none : (x : List ℕ) (as_ : List Assertion) → AreElsewhere x as_ → on_target x as_ ≡ []
on_target-none x [] all = refl
on_target-none x (a ∷ as_) all = ap (λ b. cond b (a ∷ on_target x as_) (on_target x as_)) (nat_list_eq_equiv.symm a.target x ∙ all.0) ∙ on_target-none x as_ all.1

-- a row in which nothing is found is empty
pub found_none : (row : List Assertion) → ((t : List ℕ) → of_tag row t ≡ None) → row ≡ []
found_none [] none = refl
found_none (a ∷ row) none = some_none (sym (ap (λ b. cond b (Some a) (of_tag row a.tag)) ((bytes_decides a.tag a.tag).1 refl)) ∙ none a.tag)
  where
    some_none : Some a ≡ None → a ∷ row ≡ []
    some_none e = cc

-- ---- an own row that has a group more

module _ (target : List ℕ) (row : List Assertion) (newest : List ℕ → Option Assertion) (own now : List (List ℕ × List Assertion))
    (put : (x : List ℕ) → row_in now x ≡ cond (bytes_eq x target) row (row_in own x)) (finds : (t : List ℕ) → of_tag row t ≡ greater newer_cmp (of_tag (row_in own target) t) (newest t)) where
  pub put-else : (x : List ℕ) → bytes_eq x target ≡ false → row_in own x ≡ row_in now x
  put-else x h = sym (put x ∙ ap (λ b. cond b row (row_in own x)) h)

  pub put-rises : Rises row → ((x : List ℕ) → Rises (row_in own x)) → (x : List ℕ) → Rises (row_in now x)
  put-rises up rise x = subst Rises (sym (put x)) (elim (bytes_eq x target) as (λ b. Rises (cond b row (row_in own x))) [ true ↦ up | false ↦ rise x ])

  pub put-older : (t : List ℕ) → Low (of_tag (row_in now target) t) (of_tag (row_in own target) t)
  put-older t =
      subst (λ o. Low o (of_tag (row_in own target) t)) (sym (ap (λ r. of_tag r t) (put target ∙ ap (λ b. cond b row (row_in own target)) ((bytes_decides target target).1 refl)) ∙ finds t))
      (low-more (of_tag (row_in own target) t) (of_tag (row_in own target) t) (newest t) (low-itself (of_tag (row_in own target) t)))

  pub put-finds : (x t : List ℕ) → of_tag (row_in now x) t ≡ cond (bytes_eq x target) (greater newer_cmp (of_tag (row_in own x) t) (newest t)) (of_tag (row_in own x) t)
  put-finds x t =
      ap (λ r. of_tag r t) (put x)
      ∙ elim (bytes_eq x target) as (λ b. bytes_eq x target ≡ b → of_tag (cond b row (row_in own x)) t ≡ cond b (greater newer_cmp (of_tag (row_in own x) t) (newest t)) (of_tag (row_in own x) t)) [
        | true ↦ λ h. finds t ∙ ap (λ y. greater newer_cmp (of_tag (row_in own y) t) (newest t)) (sym ((bytes_decides x target).0 h))
        | false ↦ λ _. refl
      ] refl

-- the first group is taken in
pub group-next : (left rest own now : List (List ℕ × List Assertion)) (e : List ℕ × List Assertion) → left ≡ e ∷ rest → IsStrictlySortedBy bytes_cmp (keys_of left) → (x t : List ℕ)
    → of_tag (row_in now x) t ≡ cond (bytes_eq x e.0) (greater newer_cmp (of_tag (row_in own x) t) (newest_of t e.1)) (of_tag (row_in own x) t)
    → greater newer_cmp (of_tag (row_in now x) t) (newest_of t (row_in rest x)) ≡ greater newer_cmp (of_tag (row_in own x) t) (newest_of t (row_in left x))
unfolding IsStrictlySortedBy
group-next left rest own now e cut sorted x t step =
    let found = of_tag (row_in own x) t in
    ap (λ o. greater newer_cmp o (newest_of t (row_in rest x))) step
    ∙ elim (bytes_eq x e.0) as (λ b. bytes_eq x e.0 ≡ b → greater newer_cmp (cond b (greater newer_cmp found (newest_of t e.1)) found) (newest_of t (row_in rest x)) ≡ greater newer_cmp found (newest_of t (unwrap_or (cond b (Some e.1) (value_at bytes_cmp x rest)) []))) [
      | true ↦ λ h.
          let gone : value_at bytes_cmp x rest ≡ None = ap (λ q. value_at bytes_cmp q rest) ((bytes_decides x e.0).0 h) ∙ none_above bytes_cmp-IsTotalOrder e.0 rest (subst (λ es. IsStrictlySortedBy bytes_cmp (keys_of es)) cut sorted).0 in
          ap (λ o. greater newer_cmp (greater newer_cmp found (newest_of t e.1)) (newest_of t (unwrap_or o []))) gone
          ∙ greater-none newer_cmp newer_cmp-IsTotalOrder (greater newer_cmp found (newest_of t e.1))
      | false ↦ λ _. refl
    ] refl
    ∙ ap (λ b. greater newer_cmp found (newest_of t (unwrap_or (cond b (Some e.1) (value_at bytes_cmp x rest)) []))) (texts_ties x e.0)
    ∙ ap (λ es. greater newer_cmp found (newest_of t (row_in es x))) (sym cut)

-- the group of a name that is taken out is taken in
pub left-next : (target : List ℕ) (left then own now : List (List ℕ × List Assertion)) → ((x : List ℕ) → row_in then x ≡ cond (bytes_eq x target) [] (row_in left x)) → (x t : List ℕ)
    → of_tag (row_in now x) t ≡ cond (bytes_eq x target) (greater newer_cmp (of_tag (row_in own x) t) (newest_of t (row_in left target))) (of_tag (row_in own x) t)
    → greater newer_cmp (of_tag (row_in now x) t) (newest_of t (row_in then x)) ≡ greater newer_cmp (of_tag (row_in own x) t) (newest_of t (row_in left x))
left-next target left then own now gone x t step =
    let found = of_tag (row_in own x) t in
    (λ i. greater newer_cmp (step i) (newest_of t (gone x i)))
    ∙ elim (bytes_eq x target) as (λ b. bytes_eq x target ≡ b → greater newer_cmp (cond b (greater newer_cmp found (newest_of t (row_in left target))) found) (newest_of t (cond b [] (row_in left x))) ≡ greater newer_cmp found (newest_of t (row_in left x))) [
      | true ↦ λ h. greater-none newer_cmp newer_cmp-IsTotalOrder (greater newer_cmp found (newest_of t (row_in left target))) ∙ ap (λ q. greater newer_cmp found (newest_of t (row_in left q))) (sym ((bytes_decides x target).0 h))
      | false ↦ λ _. refl
    ] refl

-- what is left of the groups has no assertion on a name that none of the rest is on
pub gone-next : (target : List ℕ) (left then : List (List ℕ × List Assertion)) (as_ more : List Assertion) (a : Assertion) → a.target ≡ target → more ≡ as_ ++ a ∷ []
    → ((x : List ℕ) → row_in then x ≡ cond (bytes_eq x target) [] (row_in left x)) → ((x : List ℕ) → AreElsewhere x more → row_in left x ≡ []) → (x : List ℕ) → AreElsewhere x as_ → row_in then x ≡ []
gone-next target left then as_ more a is cut gone before x all =
    gone x
    ∙ elim (bytes_eq x target) as (λ b. bytes_eq x target ≡ b → cond b [] (row_in left x) ≡ []) [
      | true ↦ λ _. refl
      | false ↦ λ h. before x (subst (AreElsewhere x) (sym cut) (elsewhere_more x as_ a all (ap (bytes_eq x) is ∙ h)))
    ] refl

-- an empty group changes nothing
pub none_in : (target : List ℕ) (own left : List (List ℕ × List Assertion)) → row_in left target ≡ [] → (x t : List ℕ)
    → of_tag (row_in own x) t ≡ cond (bytes_eq x target) (greater newer_cmp (of_tag (row_in own x) t) (newest_of t (row_in left target))) (of_tag (row_in own x) t)
none_in target own left none x t =
    let found = of_tag (row_in own x) t in
    elim (bytes_eq x target) as (λ b. found ≡ cond b (greater newer_cmp found (newest_of t (row_in left target))) found) [
      | true ↦ sym (ap (λ l. greater newer_cmp found (newest_of t l)) none ∙ greater-none newer_cmp newer_cmp-IsTotalOrder found)
      | false ↦ refl
    ]
