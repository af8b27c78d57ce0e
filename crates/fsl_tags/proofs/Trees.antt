-- Rows as trees: where the assertion of a tag stands, and where one more is put.
use Rattle.std.specs.Prelude.{◌≡◌, ℕ, List, [], ◌∷◌, ◌++◌, true, false, ◌&&◌, if◌then◌else◌, cond, Some, None, map, filter}
use Rattle.std.proofs.Common.{refl, sym, ap, ◌∙◌, subst}
use Rattle.std.proofs.lemmas.Bool.{and_parts}
use Rattle.std.specs.Ordering.{is_eq, match_ordering, ordering_reverse}
use Rattle.std.specs.declared.cmp.Ordering.TheVariants.{Less, Equal, Greater}
use Rattle.std.specs.List.{AllByRecursion, list_all}
use Rattle.std.specs.List.Sorted.{IsStrictlySortedBy}
use Rattle.std.specs.Str.{bytes_eq}
use Rattle.std.specs.Cmp.Lexicographic.{texts_ties, nat_list_eq_equiv, bytes_decides}
use Rattle.fsl_order.specs.Names.{bytes_cmp}
use Rattle.fsl_order.proofs.Orders.{bytes_cmp-IsTotalOrder, bytes_cmp-IsAntisymmetric}
use Rattle.fsl_tags.specs.declared.Assertion.{Assertion}
use Rattle.fsl_tags.specs.Passing.{passes}
use Rattle.fsl_tags.specs.Put.{put_in}
use Rattle.fsl_tags.proofs.RowsOf.{Rise, of_tag}
use Rattle.fsl_tags.proofs.Merging.{Before, before-sooner, turned, none_before}

-- ---- the parts of a row

module _ (x : Assertion) (r : List Assertion) where
  pub rise-rest : (l : List Assertion) → Rise (l ++ x ∷ r) → Rise (x ∷ r)
  unfolding IsStrictlySortedBy
  rise-rest [] h = h
  rise-rest (y ∷ l) h = rise-rest l h.1

  pub rise-right : (l : List Assertion) → Rise (l ++ x ∷ r) → Rise r
  unfolding IsStrictlySortedBy
  rise-right l h = (rise-rest l h).1

  pub rise-before : (l : List Assertion) → Rise (l ++ x ∷ r) → Before x.tag r
  unfolding IsStrictlySortedBy
  rise-before l h = (rise-rest l h).0

  kept : (P : List ℕ → Type 0) (l : List Assertion) → AllByRecursion P (map (λ a. a.tag) (l ++ x ∷ r)) → AllByRecursion P (map (λ a. a.tag) l)
  kept P [] h = tt
  kept P (y ∷ l) h = (h.0, kept P l h.1)

  picked : (P : List ℕ → Type 0) (l : List Assertion) → AllByRecursion P (map (λ a. a.tag) (l ++ x ∷ r)) → P x.tag
  picked P [] h = h.0
  picked P (y ∷ l) h = picked P l h.1

  pub rise-left : (l : List Assertion) → Rise (l ++ x ∷ r) → Rise l
  unfolding IsStrictlySortedBy
  rise-left [] h = tt
  rise-left (y ∷ l) h = (kept (λ q. bytes_cmp y.tag q ≡ Less) l h.0, rise-left l h.1)

  pub rise-under : (l : List Assertion) → Rise (l ++ x ∷ r) → AllByRecursion (λ y. bytes_cmp y.tag x.tag ≡ Less) l
  unfolding IsStrictlySortedBy
  rise-under [] h = tt
  rise-under (y ∷ l) h = (picked (λ q. bytes_cmp y.tag q ≡ Less) l h.0, rise-under l h.1)

-- ---- the assertion of a tag

same_tag : (x : Assertion) (t : List ℕ) → bytes_eq x.tag t ≡ is_eq (bytes_cmp t x.tag)
same_tag x t = nat_list_eq_equiv.symm x.tag t ∙ texts_ties t x.tag

-- one that is less isn't it
pub no_match : (y : Assertion) (t : List ℕ) → bytes_cmp y.tag t ≡ Less → bytes_eq y.tag t ≡ false
no_match y t h = same_tag y t ∙ ap is_eq (bytes_cmp-IsTotalOrder.antisymm t y.tag ∙ ap ordering_reverse h)

passed_over : (l rest : List Assertion) (t : List ℕ) → AllByRecursion (λ y. bytes_cmp y.tag t ≡ Less) l → of_tag (l ++ rest) t ≡ of_tag rest t
passed_over [] rest t h = refl
passed_over (y ∷ l) rest t h = ap (λ b. cond b (Some y) (of_tag (l ++ rest) t)) (no_match y t h.0) ∙ passed_over l rest t h.1

less_on : (x : List ℕ) (t : List ℕ) (l : List Assertion) → bytes_cmp x t ≡ Less → AllByRecursion (λ y. bytes_cmp y.tag x ≡ Less) l → AllByRecursion (λ y. bytes_cmp y.tag t ≡ Less) l
less_on x t [] e h = tt
less_on x t (y ∷ l) e h = (bytes_cmp-IsTotalOrder.trans y.tag x t h.0 e, less_on x t l e h.1)

pub found-right : (l : List Assertion) (x : Assertion) (r : List Assertion) (t : List ℕ) → Rise (l ++ x ∷ r) → bytes_cmp x.tag t ≡ Less → of_tag r t ≡ of_tag (l ++ x ∷ r) t
found-right l x r t h e =
    sym (passed_over l (x ∷ r) t (less_on x.tag t l e (rise-under x r l h)) ∙ ap (λ b. cond b (Some x) (of_tag r t)) (no_match x t e))

pub found-here : (l : List Assertion) (x : Assertion) (r : List Assertion) (t : List ℕ) → Rise (l ++ x ∷ r) → bytes_cmp x.tag t ≡ Equal → Some x ≡ of_tag (l ++ x ∷ r) t
found-here l x r t h e =
    let one : x.tag ≡ t = bytes_cmp-IsAntisymmetric x.tag t e in
    sym (passed_over l (x ∷ r) t (subst (λ q. AllByRecursion (λ y. bytes_cmp y.tag q ≡ Less) l) one (rise-under x r l h))
    ∙ ap (λ b. cond b (Some x) (of_tag r t)) ((bytes_decides x.tag t).1 one))

none_later : (l : List Assertion) (rest : List Assertion) (t : List ℕ) → of_tag rest t ≡ None → of_tag (l ++ rest) t ≡ of_tag l t
none_later [] rest t h = h
none_later (y ∷ l) rest t h = ap (cond (bytes_eq y.tag t) (Some y)) (none_later l rest t h)

pub found-left : (l : List Assertion) (x : Assertion) (r : List Assertion) (t : List ℕ) → Rise (l ++ x ∷ r) → bytes_cmp x.tag t ≡ Greater → of_tag l t ≡ of_tag (l ++ x ∷ r) t
found-left l x r t h e =
    let less = turned x.tag t e in
    sym (none_later l (x ∷ r) t (none_before t (x ∷ r) (less, before-sooner t x.tag less r (rise-before x r l h))))

-- ---- one more in its place

pub put-left : (l : List Assertion) (x : Assertion) (r : List Assertion) (a : Assertion) → bytes_cmp x.tag a.tag ≡ Greater → put_in l a ++ x ∷ r ≡ put_in (l ++ x ∷ r) a
put-left [] x r a e = sym (ap (λ o. match_ordering o (x ∷ put_in r a) (a ∷ r) (a ∷ x ∷ r)) e)
put-left (y ∷ l) x r a e =
    elim (bytes_cmp y.tag a.tag) as (λ o. match_ordering o (y ∷ put_in l a) (a ∷ l) (a ∷ y ∷ l) ++ x ∷ r ≡ match_ordering o (y ∷ put_in (l ++ x ∷ r) a) (a ∷ l ++ x ∷ r) (a ∷ y ∷ l ++ x ∷ r)) [
      | Less ↦ ap (λ m. y ∷ m) (put-left l x r a e)
      | Equal ↦ refl
      | Greater ↦ refl
    ]

put_over : (l rest : List Assertion) (a : Assertion) → AllByRecursion (λ y. bytes_cmp y.tag a.tag ≡ Less) l → put_in (l ++ rest) a ≡ l ++ put_in rest a
put_over [] rest a h = refl
put_over (y ∷ l) rest a h = ap (λ o. match_ordering o (y ∷ put_in (l ++ rest) a) (a ∷ l ++ rest) (a ∷ y ∷ l ++ rest)) h.0 ∙ ap (λ m. y ∷ m) (put_over l rest a h.1)

pub put-here : (l : List Assertion) (x : Assertion) (r : List Assertion) (a : Assertion) → Rise (l ++ x ∷ r) → bytes_cmp x.tag a.tag ≡ Equal → l ++ a ∷ r ≡ put_in (l ++ x ∷ r) a
put-here l x r a h e =
    sym (put_over l (x ∷ r) a (subst (λ q. AllByRecursion (λ y. bytes_cmp y.tag q ≡ Less) l) (bytes_cmp-IsAntisymmetric x.tag a.tag e) (rise-under x r l h))
    ∙ ap (λ o. l ++ match_ordering o (x ∷ put_in r a) (a ∷ r) (a ∷ x ∷ r)) e)

pub put-right : (l : List Assertion) (x : Assertion) (r : List Assertion) (a : Assertion) → Rise (l ++ x ∷ r) → bytes_cmp x.tag a.tag ≡ Less → l ++ x ∷ put_in r a ≡ put_in (l ++ x ∷ r) a
put-right l x r a h e =
    sym (put_over l (x ∷ r) a (less_on x.tag a.tag l e (rise-under x r l h))
    ∙ ap (λ o. l ++ match_ordering o (x ∷ put_in r a) (a ∷ r) (a ∷ x ∷ r)) e)

put-all : (P : List ℕ → Type 0) (xs : List Assertion) (a : Assertion) → P a.tag → AllByRecursion P (map (λ a. a.tag) xs) → AllByRecursion P (map (λ a. a.tag) (put_in xs a))
put-all P [] a p h = (p, tt)
put-all P (x ∷ xs) a p h =
    elim (bytes_cmp x.tag a.tag) as (λ o. AllByRecursion P (map (λ a. a.tag) (match_ordering o (x ∷ put_in xs a) (a ∷ xs) (a ∷ x ∷ xs)))) [
      | Less ↦ (h.0, put-all P xs a p h.1)
      | Equal ↦ (p, h.1)
      | Greater ↦ (p, h)
    ]

pub put-rises : (xs : List Assertion) (a : Assertion) → Rise xs → Rise (put_in xs a)
unfolding IsStrictlySortedBy
put-rises [] a h = (tt, tt)
put-rises (x ∷ xs) a h =
    elim (bytes_cmp x.tag a.tag) as (λ o. bytes_cmp x.tag a.tag ≡ o → IsStrictlySortedBy bytes_cmp (map (λ a. a.tag) (match_ordering o (x ∷ put_in xs a) (a ∷ xs) (a ∷ x ∷ xs)))) [
      | Less ↦ λ e. (put-all (λ q. bytes_cmp x.tag q ≡ Less) xs a e h.0, put-rises xs a h.1)
      | Equal ↦ λ e. (subst (λ t. Before t xs) (bytes_cmp-IsAntisymmetric x.tag a.tag e) h.0, h.1)
      | Greater ↦ λ e. let less = turned x.tag a.tag e in ((less, before-sooner a.tag x.tag less xs h.0), h)
    ] refl

pub put-finds : (xs : List Assertion) (a : Assertion) (t : List ℕ) → of_tag (put_in xs a) t ≡ cond (bytes_eq a.tag t) (Some a) (of_tag xs t)
put-finds [] a t = refl
put-finds (x ∷ xs) a t =
    elim (bytes_cmp x.tag a.tag) as (λ o. bytes_cmp x.tag a.tag ≡ o → of_tag (match_ordering o (x ∷ put_in xs a) (a ∷ xs) (a ∷ x ∷ xs)) t ≡ cond (bytes_eq a.tag t) (Some a) (cond (bytes_eq x.tag t) (Some x) (of_tag xs t))) [
      | Less ↦ λ e. ap (cond (bytes_eq x.tag t) (Some x)) (put-finds xs a t) ∙ swapped e
      | Equal ↦ λ e. replaced (bytes_cmp-IsAntisymmetric x.tag a.tag e)
      | Greater ↦ λ _. refl
    ] refl
  where
    swapped : bytes_cmp x.tag a.tag ≡ Less → cond (bytes_eq x.tag t) (Some x) (cond (bytes_eq a.tag t) (Some a) (of_tag xs t)) ≡ cond (bytes_eq a.tag t) (Some a) (cond (bytes_eq x.tag t) (Some x) (of_tag xs t))
    swapped e =
        elim (bytes_eq a.tag t) as (λ b. bytes_eq a.tag t ≡ b → cond (bytes_eq x.tag t) (Some x) (cond b (Some a) (of_tag xs t)) ≡ cond b (Some a) (cond (bytes_eq x.tag t) (Some x) (of_tag xs t))) [
          | true ↦ λ h. ap (λ b. cond b (Some x) (Some a)) (no_match x t (subst (λ q. bytes_cmp x.tag q ≡ Less) ((bytes_decides a.tag t).0 h) e))
          | false ↦ λ _. refl
        ] refl

    replaced : x.tag ≡ a.tag → cond (bytes_eq a.tag t) (Some a) (of_tag xs t) ≡ cond (bytes_eq a.tag t) (Some a) (cond (bytes_eq x.tag t) (Some x) (of_tag xs t))
    replaced e =
        elim (bytes_eq a.tag t) as (λ b. bytes_eq a.tag t ≡ b → cond b (Some a) (of_tag xs t) ≡ cond b (Some a) (cond (bytes_eq x.tag t) (Some x) (of_tag xs t))) [
          | true ↦ λ _. refl
          | false ↦ λ h. sym (ap (λ b. cond b (Some x) (of_tag xs t)) (ap (λ q. bytes_eq q t) e ∙ h))
        ] refl

-- ---- rows whose items all pass

pub all_pass : (xs : List Assertion) → list_all passes xs ≡ true → filter passes xs ≡ xs
all_pass [] h = refl
all_pass (x ∷ xs) h =
    let s = and_parts (passes x) (list_all passes xs) (sym (all_first x xs) ∙ h) in
    ap (λ b. if b then x ∷ filter passes xs else filter passes xs) s.0 ∙ ap (λ l. x ∷ l) (all_pass xs s.1)
  where
    all_first : (x : Assertion) (xs : List Assertion) → list_all passes (x ∷ xs) ≡ (passes x && list_all passes xs)
    all_first x xs = refl
