-- Items in order, what a function gives of them, and those of them that pass a test.
use Rattle.std.specs.Prelude.{◌≡◌, ℕ, List, [], ◌∷◌, Bool, true, false, cond, Option, Some, None, map, filter, filter_map, ⊤, IsPermutation}
use Rattle.std.proofs.Common.{refl, sym, ap, ◌∙◌, subst}
use Rattle.std.specs.declared.cmp.Ordering.{Ordering}
use Rattle.std.specs.declared.cmp.Ordering.TheVariants.{Less, Equal, Greater}
use Rattle.std.specs.Ordering.{eq_by_cmp, is_eq, ordering_reverse}
use Rattle.std.specs.List.{IsDistinct, AllByRecursion, cons_option}
use Rattle.std.specs.Cmp.{IsTotalOrder}
use Rattle.std.specs.FinMap.{put}
use Rattle.std.specs.FinMap.Entries.{by_order}
use Rattle.std.specs.Str.{bytes_eq}
use Rattle.std.specs.Cmp.Lexicographic.{texts_ties}
use Rattle.fsl_order.specs.Names.{bytes_cmp}
use Rattle.fsl_order.specs.Rows.{keyed, in_order, by_name, AreDistinct}
use Rattle.fsl_order.proofs.Orders.{bytes_cmp-IsTotalOrder}
use Rattle.fsl_order.proofs.MovedLemmas.{IsPermutation-by_name}

module _ {K : Type 0} (R : K → K → Ordering) (o : IsTotalOrder R) where
  module _ {X : Type 0} where
    abbrev After : K → List (K × X) → Type 0
    After k es = AllByRecursion (λ e. R k e.0 ≡ Less) es

    abbrev Apart : K → List (K × X) → Type 0
    Apart k es = AllByRecursion (λ e. is_eq (R k e.0) ≡ false) es

    abbrev Rising : List (K × X) → Type 0
    Rising [] = ⊤
    Rising (e ∷ es) = After e.0 es × Rising es

    After-later : (k j : K) (es : List (K × X)) → R k j ≡ Less → After j es → After k es
    After-later k j [] h a = tt
    After-later k j (e ∷ es) h a = (o.trans k j e.0 h a.0, After-later k j es h a.1)

    After-put : (j k : K) (x : X) (es : List (K × X)) → R j k ≡ Less → After j es → After j (put R k x es)
    After-put j k x [] h a = (h, tt)
    After-put j k x (e ∷ es) h a =
        elim (R k e.0) as (λ r. After j (by_order r ((k, x) ∷ e ∷ es) ((e.0, x) ∷ es) (e ∷ put R k x es))) [
          | Less ↦ (h, a)
          | Equal ↦ (a.0, a.1)
          | Greater ↦ (a.0, After-put j k x es h a.1)
        ]

    Apart-put : (q k : K) (x : X) (es : List (K × X)) → is_eq (R q k) ≡ false → Apart q es → Apart q (put R k x es)
    Apart-put q k x [] h a = (h, tt)
    Apart-put q k x (e ∷ es) h a =
        elim (R k e.0) as (λ r. Apart q (by_order r ((k, x) ∷ e ∷ es) ((e.0, x) ∷ es) (e ∷ put R k x es))) [
          | Less ↦ (h, a)
          | Equal ↦ (a.0, a.1)
          | Greater ↦ (a.0, Apart-put q k x es h a.1)
        ]

    Rising-put : (k : K) (x : X) (es : List (K × X)) → Rising es → Rising (put R k x es)
    Rising-put k x [] r = (tt, tt)
    Rising-put k x (e ∷ es) r =
        elim (R k e.0) as (λ p. R k e.0 ≡ p → Rising (by_order p ((k, x) ∷ e ∷ es) ((e.0, x) ∷ es) (e ∷ put R k x es))) [
          | Less ↦ λ h. ((h, After-later k e.0 es h r.0), r)
          | Equal ↦ λ h. (r.0, r.1)
          | Greater ↦ λ h. (After-put e.0 k x es (o.antisymm e.0 k ∙ ap ordering_reverse h) r.0, Rising-put k x es r.1)
        ] refl

    front : (k : K) (x : X) (es : List (K × X)) → After k es → put R k x es ≡ (k, x) ∷ es
    front k x [] a = refl
    front k x (e ∷ es) a = ap (λ r. by_order r ((k, x) ∷ e ∷ es) ((e.0, x) ∷ es) (e ∷ put R k x es)) a.0

    module _ (key : X → K) where
      Rising-keyed : (xs : List X) → Rising (keyed R key xs)
      Rising-keyed [] = tt
      Rising-keyed (x ∷ xs) = Rising-put (key x) x (keyed R key xs) (Rising-keyed xs)

      Apart-keyed : (q : K) (xs : List X) → AllByRecursion (λ y. eq_by_cmp R q y ≡ false) (map key xs) → Apart q (keyed R key xs)
      Apart-keyed q [] a = tt
      Apart-keyed q (x ∷ xs) a = Apart-put q (key x) x (keyed R key xs) a.0 (Apart-keyed q xs a.1)

  module _ {X Y : Type 0} (h : X → Option Y) where
    abbrev beside : K → Option Y → Option (K × Y)
    beside k None = None
    beside k (Some y) = Some (k, y)

    -- the entries whose items give something
    abbrev kept : List (K × X) → List (K × Y)
    kept es = filter_map (λ e. beside e.0 (h e.1)) es

    abbrev put_if : K → Option Y → List (K × Y) → List (K × Y)
    put_if k None es = es
    put_if k (Some y) es = put R k y es

    After-kept : (k : K) (es : List (K × X)) → After k es → After k (kept es)
    After-kept k [] a = tt
    After-kept k (e ∷ es) a = elim (h e.1) as (λ p. After k (cons_option (beside e.0 p) (kept es))) [ None ↦ After-kept k es a.1 | Some y ↦ (a.0, After-kept k es a.1) ]

    passed : (k : K) (p : Option Y) (j : K) (q : Option Y) (es : List (K × Y)) → R k j ≡ Greater → cons_option (beside j q) (put_if k p es) ≡ put_if k p (cons_option (beside j q) es)
    passed k None j q es g = refl
    passed k (Some y) j None es g = refl
    passed k (Some y) j (Some z) es g = sym (ap (λ r. by_order r ((k, y) ∷ (j, z) ∷ es) ((j, y) ∷ es) ((j, z) ∷ put R k y es)) g)

    put-kept : (k : K) (x : X) (es : List (K × X)) → Rising es → Apart k es → kept (put R k x es) ≡ put_if k (h x) (kept es)
    put-kept k x [] r a = elim (h x) as (λ p. cons_option (beside k p) [] ≡ put_if k p []) [ None ↦ refl | Some y ↦ refl ]
    put-kept k x (e ∷ es) r a =
        elim (R k e.0) as (λ q. R k e.0 ≡ q → kept (by_order q ((k, x) ∷ e ∷ es) ((e.0, x) ∷ es) (e ∷ put R k x es)) ≡ put_if k (h x) (kept (e ∷ es))) [
          | Less ↦ λ l. elim (h x) as (λ p. cons_option (beside k p) (kept (e ∷ es)) ≡ put_if k p (kept (e ∷ es))) [
            | None ↦ refl
            | Some y ↦ sym (front k y (kept (e ∷ es)) (After-kept k (e ∷ es) (l, After-later k e.0 es l r.0)))
          ]
          | Equal ↦ λ e. absurd (no (sym (ap is_eq e) ∙ a.0))
          | Greater ↦ λ g. ap (cons_option (beside e.0 (h e.1))) (put-kept k x es r.1 a.1) ∙ passed k (h x) e.0 (h e.1) (kept es) g
        ] refl
      where
        no : true ≡ false → ⊥
        no e = cc

    values-kept : (es : List (K × X)) → map (λ e. e.1) (kept es) ≡ filter_map h (map (λ e. e.1) es)
    values-kept [] = refl
    values-kept (e ∷ es) =
        elim (h e.1) as (λ p. map (λ e. e.1) (cons_option (beside e.0 p) (kept es)) ≡ cons_option p (filter_map h (map (λ e. e.1) es))) [
          | None ↦ values-kept es
          | Some y ↦ ap (λ l. y ∷ l) (values-kept es)
        ]

    -- what is given of an item has the key of the item
    module _ (key : X → K) (own : Y → K) (same : (x : X) (y : Y) → h x ≡ Some y → own y ≡ key x) where
      keyed-kept : (xs : List X) → IsDistinct (eq_by_cmp R) (map key xs) → kept (keyed R key xs) ≡ keyed R own (filter_map h xs)
      unfolding IsDistinct
      keyed-kept [] d = refl
      keyed-kept (x ∷ xs) d =
          put-kept (key x) x (keyed R key xs) (Rising-keyed key xs) (Apart-keyed key (key x) xs d.0)
          ∙ ap (put_if (key x) (h x)) (keyed-kept xs d.1)
          ∙ elim (h x) as (λ p. h x ≡ p → put_if (key x) p (keyed R own (filter_map h xs)) ≡ keyed R own (cons_option p (filter_map h xs))) [
            | None ↦ λ _. refl
            | Some y ↦ λ e. ap (λ k. put R k y (keyed R own (filter_map h xs))) (sym (same x y e))
          ] refl

      -- what is given of items in order is in order what is given of the items
      pub in_order-filter_map : (xs : List X) → IsDistinct (eq_by_cmp R) (map key xs) → in_order R own (filter_map h xs) ≡ filter_map h (in_order R key xs)
      in_order-filter_map xs d = ap (map (λ e. e.1)) (sym (keyed-kept xs d)) ∙ values-kept (keyed R key xs)

-- ---- those that pass a test

module _ {X : Type 0} (p : X → Bool) where
  abbrev passing : X → Option X
  passing x = cond (p x) (Some x) None

  filter-is : (xs : List X) → filter p xs ≡ filter_map passing xs
  filter-is [] = refl
  filter-is (x ∷ xs) =
      elim (p x) as (λ b. cond b (x ∷ filter p xs) (filter p xs) ≡ cons_option (cond b (Some x) None) (filter_map passing xs)) [
        | true ↦ ap (λ l. x ∷ l) (filter-is xs)
        | false ↦ filter-is xs
      ]

  module _ {K : Type 0} (key : X → K) where
    passing-own : (x y : X) → passing x ≡ Some y → key y ≡ key x
    passing-own x y e = elim (p x) as (λ b. cond b (Some x) None ≡ Some y → key y ≡ key x) [ true ↦ λ h. own h | false ↦ λ h. cc ] e
      where
        own : Some x ≡ Some y → key y ≡ key x
        own h = let same : x ≡ y = cc in ap key (sym same)

    -- those that pass a test, in order, are those in order that pass it
    pub in_order-filter : (R : K → K → Ordering) → IsTotalOrder R → (xs : List X) → IsDistinct (eq_by_cmp R) (map key xs) → in_order R key (filter p xs) ≡ filter p (in_order R key xs)
    in_order-filter R o xs d =
        ap (in_order R key) (filter-is xs) ∙ in_order-filter_map R o passing key key passing-own xs d ∙ sym (filter-is (in_order R key xs))

-- ---- what is given of items with distinct names

module _ {X Y : Type 0} (give : X → Option Y) (name_of : X → List ℕ) (name : Y → List ℕ) (same : (x : X) (y : Y) → give x ≡ Some y → name y ≡ name_of x) where
  away : (q : List ℕ) (xs : List X) → AllByRecursion (λ n. bytes_eq q n ≡ false) (map name_of xs) → AllByRecursion (λ n. bytes_eq q n ≡ false) (map name (filter_map give xs))
  away q [] a = tt
  away q (x ∷ xs) a =
      elim (give x) as (λ p. give x ≡ p → AllByRecursion (λ n. bytes_eq q n ≡ false) (map name (cons_option p (filter_map give xs)))) [
        | None ↦ λ _. away q xs a.1
        | Some y ↦ λ e. (ap (bytes_eq q) (same x y e) ∙ a.0, away q xs a.1)
      ] refl

  -- it has distinct names
  pub distinct-given : (xs : List X) → AreDistinct (map name_of xs) → AreDistinct (map name (filter_map give xs))
  unfolding IsDistinct
  distinct-given [] d = tt
  distinct-given (x ∷ xs) d =
      elim (give x) as (λ p. give x ≡ p → AreDistinct (map name (cons_option p (filter_map give xs)))) [
        | None ↦ λ _. distinct-given xs d.1
        | Some y ↦ λ e. (subst (λ n. AllByRecursion (λ q. bytes_eq n q ≡ false) (map name (filter_map give xs))) (sym (same x y e)) (away (name_of x) xs d.0), distinct-given xs d.1)
      ] refl

  -- it is the same, in another order, for the items by name
  pub moved-given : (xs : List X) → AreDistinct (map name_of xs) → IsPermutation (filter_map give xs) (filter_map give (by_name name_of xs))
  moved-given xs d =
      let tied : bytes_eq ≡ eq_by_cmp bytes_cmp = λ i x y. texts_ties x y i in
      subst (IsPermutation (filter_map give xs)) (in_order-filter_map bytes_cmp bytes_cmp-IsTotalOrder give name_of name same xs (subst (λ e. IsDistinct e (map name_of xs)) tied d))
      (IsPermutation-by_name name (filter_map give xs) (distinct-given xs d))

-- .. as those that pass a test
module _ {X : Type 0} (p : X → Bool) (name : X → List ℕ) (xs : List X) (d : AreDistinct (map name xs)) where
  pub distinct-filter : AreDistinct (map name (filter p xs))
  distinct-filter = subst (λ l. AreDistinct (map name l)) (sym (filter-is p xs)) (distinct-given (passing p) name name (passing-own p name) xs d)

  pub moved-filter : IsPermutation (filter p xs) (filter p (by_name name xs))
  moved-filter =
      subst (λ l. IsPermutation l (filter p (by_name name xs))) (sym (filter-is p xs))
      (subst (IsPermutation (filter_map (passing p) xs)) (sym (filter-is p (by_name name xs))) (moved-given (passing p) name name (passing-own p name) xs d))
