-- Two rising lists put into one order, item by item.
use Rattle.std.proofs.Common.{◌≡◌, ℕ, List, [], ◌∷◌, ◌++◌, length, map, refl, sym, ap, subst, ◌∙◌, arith}
use Rattle.std.specs.declared.cmp.Ordering.TheVariants.{Less, Equal, Greater}
use Rattle.std.specs.List.{AllByRecursion}
use Rattle.std.specs.List.Sorted.{IsStrictlySortedBy}
use Rattle.std.specs.Ordering.{ordering_reverse}
use Rattle.std.specs.FinMap.{put}
use Rattle.std.specs.FinMap.Entries.{by_order}
use Rattle.fsl_order.specs.Names.{bytes_cmp}
use Rattle.fsl_order.specs.Rows.{keyed, in_order}
use Rattle.fsl_order.proofs.Orders.{bytes_cmp-IsTotalOrder, bytes_cmp-IsAntisymmetric}

module _ {X : Type 0} (name : X → List ℕ) where
  abbrev pub Entries : Type 0
  Entries = List (List ℕ × X)

  -- each stands after the name
  abbrev pub After : List ℕ → List X → Type 0
  After k xs = AllByRecursion (λ x. bytes_cmp k (name x) ≡ Less) xs

  abbrev pub AfterKeys : List ℕ → Entries → Type 0
  AfterKeys k es = AllByRecursion (λ e. bytes_cmp k e.0 ≡ Less) es

  After-append : (k : List ℕ) (xs ys : List X) → After k xs → After k ys → After k (xs ++ ys)
  After-append k [] ys a b = b
  After-append k (x ∷ xs) ys a b = (a.0, After-append k xs ys a.1 b)

  -- what stands after a name stands after those before it
  pub After-later : (j k : List ℕ) (xs : List X) → bytes_cmp j k ≡ Less → After k xs → After j xs
  After-later j k [] h a = tt
  After-later j k (x ∷ xs) h a = (bytes_cmp-IsTotalOrder.trans j k (name x) h a.0, After-later j k xs h a.1)

  pub After-names : (k : List ℕ) (xs : List X) → AllByRecursion (λ q. bytes_cmp k q ≡ Less) (map name xs) → After k xs
  After-names k [] a = tt
  After-names k (x ∷ xs) a = (a.0, After-names k xs a.1)

  -- the first of a rising list stands before the others
  pub After-first : (x : X) (xs : List X) → IsStrictlySortedBy bytes_cmp (map name (x ∷ xs)) → After (name x) xs
  unfolding IsStrictlySortedBy
  After-first x xs h = After-names (name x) xs h.0

  pub rest_rises : (x : X) (xs : List X) → IsStrictlySortedBy bytes_cmp (map name (x ∷ xs)) → IsStrictlySortedBy bytes_cmp (map name xs)
  unfolding IsStrictlySortedBy
  rest_rises x xs h = h.1

  pub After-put : (j k : List ℕ) (x : X) (es : Entries) → bytes_cmp j k ≡ Less → AfterKeys j es → AfterKeys j (put bytes_cmp k x es)
  After-put j k x [] h a = (h, tt)
  After-put j k x (e ∷ es) h a =
      elim (bytes_cmp k e.0) as (λ r. AfterKeys j (by_order r ((k, x) ∷ e ∷ es) ((e.0, x) ∷ es) (e ∷ put bytes_cmp k x es))) [
        | Less ↦ (h, a)
        | Equal ↦ (a.0, a.1)
        | Greater ↦ (a.0, After-put j k x es h a.1)
      ]

  After-keyed : (j : List ℕ) (xs : List X) → After j xs → AfterKeys j (keyed bytes_cmp name xs)
  After-keyed j [] a = tt
  After-keyed j (x ∷ xs) a = After-put j (name x) x (keyed bytes_cmp name xs) a.0 (After-keyed j xs a.1)

  front : (k : List ℕ) (x : X) (es : Entries) → AfterKeys k es → put bytes_cmp k x es ≡ (k, x) ∷ es
  front k x [] a = refl
  front k x (e ∷ es) a = ap (λ r. by_order r ((k, x) ∷ e ∷ es) ((e.0, x) ∷ es) (e ∷ put bytes_cmp k x es)) a.0

  -- an item before all others comes first, where it is the first of the first list
  pub first_left : (x : X) (xs ys : List X) → After (name x) xs → After (name x) ys → in_order bytes_cmp name ((x ∷ xs) ++ ys) ≡ x ∷ in_order bytes_cmp name (xs ++ ys)
  first_left x xs ys a b =
      ap (map (λ e. e.1)) (front (name x) x (keyed bytes_cmp name (xs ++ ys)) (After-keyed (name x) (xs ++ ys) (After-append (name x) xs ys a b)))

  early : (y : X) (xs ys : List X) → After (name y) xs → After (name y) ys → keyed bytes_cmp name (xs ++ y ∷ ys) ≡ (name y, y) ∷ keyed bytes_cmp name (xs ++ ys)
  early y [] ys a b = front (name y) y (keyed bytes_cmp name ys) (After-keyed (name y) ys b)
  early y (x ∷ xs) ys a b =
      ap (put bytes_cmp (name x) x) (early y xs ys a.1 b)
      ∙ ap (λ r. by_order r ((name x, x) ∷ (name y, y) ∷ keyed bytes_cmp name (xs ++ ys)) ((name y, x) ∷ keyed bytes_cmp name (xs ++ ys)) ((name y, y) ∷ put bytes_cmp (name x) x (keyed bytes_cmp name (xs ++ ys))))
      (bytes_cmp-IsTotalOrder.antisymm (name x) (name y) ∙ ap ordering_reverse a.0)

  -- .. and where it is the first of the second list
  pub first_right : (y : X) (xs ys : List X) → After (name y) xs → After (name y) ys → in_order bytes_cmp name (xs ++ y ∷ ys) ≡ y ∷ in_order bytes_cmp name (xs ++ ys)
  first_right y xs ys a b = ap (map (λ e. e.1)) (early y xs ys a b)

  -- of two firsts with one name, that of the first list comes
  pub first_both : (x y : X) (xs ys : List X) → bytes_cmp (name x) (name y) ≡ Equal → After (name x) xs → After (name y) ys → in_order bytes_cmp name ((x ∷ xs) ++ y ∷ ys) ≡ x ∷ in_order bytes_cmp name (xs ++ ys)
  first_both x y xs ys e a b =
      ap (map (λ e. e.1)) (
      ap (put bytes_cmp (name x) x) (early y xs ys (subst (λ k. After k xs) same a) b)
      ∙ ap (λ r. by_order r ((name x, x) ∷ (name y, y) ∷ keyed bytes_cmp name (xs ++ ys)) ((name y, x) ∷ keyed bytes_cmp name (xs ++ ys)) ((name y, y) ∷ put bytes_cmp (name x) x (keyed bytes_cmp name (xs ++ ys)))) e
      )
    where
      same : name x ≡ name y
      same = bytes_cmp-IsAntisymmetric (name x) (name y) e

  abbrev pub Rise : List X → Type 0
  Rise xs = IsStrictlySortedBy bytes_cmp (map name xs)

  abbrev pub merged : List X → List X → List X
  merged xs ys = in_order bytes_cmp name (xs ++ ys)

  nothing : (xs : List X) → length xs ≡ 0 → xs ≡ []
  nothing [] e = refl
  nothing (x ∷ xs) e = absurd (omega (arith, e))

  -- the first of two rising lists as they are walked: xs is x with `more` behind it, ys is y with `rest` behind it
  module _ (xs ys : List X) (rx : Rise xs) (ry : Rise ys) where
    after_x : (x : X) (more : List X) → xs ≡ x ∷ more → After (name x) more
    after_x x more e = After-first x more (subst Rise e rx)

    after_y : (y : X) (rest : List X) → ys ≡ y ∷ rest → After (name y) rest
    after_y y rest e = After-first y rest (subst Rise e ry)

    pub more_rises : (x : X) (more : List X) → xs ≡ x ∷ more → Rise more
    more_rises x more e = rest_rises x more (subst Rise e rx)

    pub others_rise : (y : X) (rest : List X) → ys ≡ y ∷ rest → Rise rest
    others_rise y rest e = rest_rises y rest (subst Rise e ry)

    pub take_left : (x : X) (more : List X) → xs ≡ x ∷ more → length ys ≡ 0 → merged xs ys ≡ x ∷ merged more ys
    take_left x more e f =
        ap (λ l. merged l ys) e ∙ first_left x more ys (after_x x more e) (subst (After (name x)) (sym (nothing ys f)) tt)

    pub take_right : (y : X) (rest : List X) → length xs ≡ 0 → ys ≡ y ∷ rest → merged xs ys ≡ y ∷ merged xs rest
    take_right y rest e f =
        ap (merged xs) f ∙ first_right y xs rest (subst (After (name y)) (sym (nothing xs e)) tt) (after_y y rest f)

    module _ (x y : X) (more rest : List X) (e : xs ≡ x ∷ more) (f : ys ≡ y ∷ rest) where
      pub take_less : bytes_cmp (name x) (name y) ≡ Less → merged xs ys ≡ x ∷ merged more ys
      take_less o =
          ap (λ l. merged l ys) e
          ∙ first_left x more ys (after_x x more e) (subst (After (name x)) (sym f) (o, After-later (name x) (name y) rest o (after_y y rest f)))

      pub take_equal : bytes_cmp (name x) (name y) ≡ Equal → merged xs ys ≡ x ∷ merged more rest
      take_equal o = (λ i. merged (e i) (f i)) ∙ first_both x y more rest o (after_x x more e) (after_y y rest f)

      pub take_greater : bytes_cmp (name x) (name y) ≡ Greater → merged xs ys ≡ y ∷ merged xs rest
      take_greater o =
          let less : bytes_cmp (name y) (name x) ≡ Less = bytes_cmp-IsTotalOrder.antisymm (name y) (name x) ∙ ap ordering_reverse o in
          ap (merged xs) f
          ∙ first_right y xs rest (subst (After (name y)) (sym e) (less, After-later (name y) (name x) more less (after_x x more e))) (after_y y rest f)
