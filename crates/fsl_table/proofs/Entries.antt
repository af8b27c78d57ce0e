-- Entries in the order of their keys: what a put and a removal do, alone and one after another.
use Rattle.std.proofs.Common.{◌≡◌, ◌+◌, Bool, true, false, cond, List, [], ◌∷◌, length, refl, sym, ap, ◌∙◌, arith}
use mathlib.Core.Bool.{true≢false}
use Rattle.std.specs.declared.option.Option.{Option}
use Rattle.std.specs.declared.option.Option.TheVariants.{Some, None}
use Rattle.std.specs.declared.cmp.Ordering.{Ordering}
use Rattle.std.specs.declared.cmp.Ordering.TheVariants.{Less, Equal, Greater}
use Rattle.std.specs.Ordering.{match_ordering, is_eq, is_lt, ordering_reverse}
use Rattle.std.specs.Cmp.{IsTotalOrder, alike_right, tied_back, Equal-is}
use Rattle.std.specs.List.{AllByRecursion, filter, slice_get}
use Rattle.std.specs.List.Sorted.{IsStrictlySortedBy}
use Rattle.std.specs.Map.{lookup, remove_entry, keys_of}
use Rattle.std.specs.BTreeMap.{is_at, insert_entry}
use Rattle.fsl_table.specs.Weave.{lower}

-- a test that is repeated: the inner branch is never reached
shadowed : {A : Type 0} (b : Bool) (x y z : A) → cond b x z ≡ cond b x (cond b y z)
shadowed true x y z = refl
shadowed false x y z = refl

swapped : {A : Type 0} (a b : Bool) (x y z : A) → (a ≡ true → b ≡ true → ⊥) → cond a x (cond b y z) ≡ cond b y (cond a x z)
swapped true true x y z apart = absurd (apart refl refl)
swapped true false x y z apart = refl
swapped false b x y z apart = refl

-- a look-up that found nothing did not find the first
none_first : {X : Type 0} (b : Bool) (x : X) (r : Option X) → cond b (Some x) r ≡ None → (b ≡ false) × (r ≡ None)
none_first true x r h = cc
none_first false x r h = (refl, h)

Less-is : (r : Ordering) → is_lt r ≡ true → r ≡ Less
Less-is Less h = refl
Less-is Equal h = absurd (true≢false (sym h))
Less-is Greater h = absurd (true≢false (sym h))

module _ {K : Type 0} {R : K → K → Ordering} (o : IsTotalOrder R) where
  pub back : (x y : K) (r : Ordering) → R x y ≡ r → R y x ≡ ordering_reverse r
  back x y r h = o.antisymm y x ∙ ap ordering_reverse h

  -- two keys that both tie with q tie with each other
  joins : (q x y : K) → is_eq (R q x) ≡ true → is_eq (R q y) ≡ true → R x y ≡ Equal
  joins q x y a b = sym (o.congr q x y ((Equal-is (R q x)).0 a)) ∙ (Equal-is (R q y)).0 b

  below_chain : (x y : K) (ys : List K) → R x y ≡ Less → AllByRecursion (λ z. R y z ≡ Less) ys → AllByRecursion (λ z. R x z ≡ Less) ys
  below_chain x y [] p h = tt
  below_chain x y (z ∷ ys) p h = (o.trans x y z p h.0, below_chain x y ys p h.1)

  below_tied : (x y : K) (ys : List K) → R x y ≡ Equal → AllByRecursion (λ z. R y z ≡ Less) ys → AllByRecursion (λ z. R x z ≡ Less) ys
  below_tied x y [] p h = tt
  below_tied x y (z ∷ ys) p h = (o.congr x y z p ∙ h.0, below_tied x y ys p h.1)

  not_tied : (j k : K) → (R k j ≡ Equal → ⊥) → (b : Bool) → is_eq (R j k) ≡ b → b ≡ false
  not_tied j k apart true h = absurd (apart (tied_back o j k ((Equal-is (R j k)).0 h)))
  not_tied j k apart false h = refl

  pub apart_test : (j k : K) → (R k j ≡ Equal → ⊥) → is_eq (R j k) ≡ false
  apart_test j k apart = not_tied j k apart (is_eq (R j k)) refl

  pub is_lt-trans : (q x y : K) → is_lt (R q x) ≡ true → R x y ≡ Less → is_lt (R q y) ≡ true
  is_lt-trans q x y h p = ap is_lt (o.trans q x y (Less-is (R q x) h) p)

  module _ {X : Type 0} where
    -- ---- what a look-up finds after a put
    looked : (q k : K) (v : X) (e : K × X) (es : List (K × X)) (r : Ordering) → R k e.0 ≡ r
        → lookup (is_at (R q)) (insert_entry R es k v) ≡ cond (is_eq (R q k)) (Some v) (lookup (is_at (R q)) es)
        → lookup (is_at (R q)) (match_ordering r ((k, v) ∷ e ∷ es) ((e.0, v) ∷ es) (e ∷ insert_entry R es k v)) ≡ cond (is_eq (R q k)) (Some v) (cond (is_eq (R q e.0)) (Some e.1) (lookup (is_at (R q)) es))
    looked q k v e es Less h ih = refl
    looked q k v e es Equal h ih =
        shadowed (is_eq (R q e.0)) (Some v) (Some e.1) (lookup (is_at (R q)) es)
        ∙ ap (λ b. cond b (Some v) (cond (is_eq (R q e.0)) (Some e.1) (lookup (is_at (R q)) es))) (sym (ap is_eq (alike_right o k e.0 q h)))
    looked q k v e es Greater h ih =
        ap (λ m. cond (is_eq (R q e.0)) (Some e.1) m) ih
        ∙ swapped (is_eq (R q e.0)) (is_eq (R q k)) (Some e.1) (Some v) (lookup (is_at (R q)) es) (λ a b. true≢false (ap is_eq (sym (joins q k e.0 b a) ∙ h)))

    pub lookup-insert_entry : (q k : K) (v : X) (es : List (K × X)) → lookup (is_at (R q)) (insert_entry R es k v) ≡ cond (is_eq (R q k)) (Some v) (lookup (is_at (R q)) es)
    lookup-insert_entry q k v [] = refl
    lookup-insert_entry q k v (e ∷ es) = looked q k v e es (R k e.0) refl (lookup-insert_entry q k v es)

    -- ---- the keys stay in order
    below_put : (x k : K) (v : X) (es : List (K × X)) → R x k ≡ Less → AllByRecursion (λ y. R x y ≡ Less) (keys_of es) → AllByRecursion (λ y. R x y ≡ Less) (keys_of (insert_entry R es k v))
    below_put x k v [] p h = (p, tt)
    below_put x k v (e ∷ es) p h =
        elim (R k e.0) as (λ r. AllByRecursion (λ y. R x y ≡ Less) (keys_of (match_ordering r ((k, v) ∷ e ∷ es) ((e.0, v) ∷ es) (e ∷ insert_entry R es k v)))) [
          | Less ↦ (p, h)
          | Equal ↦ h
          | Greater ↦ (h.0, below_put x k v es p h.1)
        ]

    pub sorted-insert_entry : (k : K) (v : X) (es : List (K × X)) → IsStrictlySortedBy R (keys_of es) → IsStrictlySortedBy R (keys_of (insert_entry R es k v))
    unfolding IsStrictlySortedBy
    sorted-insert_entry k v [] h = (tt, tt)
    sorted-insert_entry k v (e ∷ es) h =
        elim (R k e.0) as (λ r. R k e.0 ≡ r → IsStrictlySortedBy R (keys_of (match_ordering r ((k, v) ∷ e ∷ es) ((e.0, v) ∷ es) (e ∷ insert_entry R es k v)))) [
          | Less ↦ λ p. ((p, below_chain k e.0 (keys_of es) p h.0), h)
          | Equal ↦ λ p. h
          | Greater ↦ λ p. (below_put e.0 k v es (back k e.0 Greater p) h.0, sorted-insert_entry k v es h.1)
        ] refl

    below_removed : (x : K) (test : K → Bool) (es : List (K × X)) → AllByRecursion (λ y. R x y ≡ Less) (keys_of es) → AllByRecursion (λ y. R x y ≡ Less) (keys_of (remove_entry test es))
    below_removed x test [] h = tt
    below_removed x test (e ∷ es) h =
        elim (test e.0) as (λ b. AllByRecursion (λ y. R x y ≡ Less) (keys_of (cond b es (e ∷ remove_entry test es)))) [
          | true ↦ h.1
          | false ↦ (h.0, below_removed x test es h.1)
        ]

    pub sorted-remove_entry : (test : K → Bool) (es : List (K × X)) → IsStrictlySortedBy R (keys_of es) → IsStrictlySortedBy R (keys_of (remove_entry test es))
    unfolding IsStrictlySortedBy
    sorted-remove_entry test [] h = tt
    sorted-remove_entry test (e ∷ es) h =
        elim (test e.0) as (λ b. IsStrictlySortedBy R (keys_of (cond b es (e ∷ remove_entry test es)))) [
          | true ↦ h.1
          | false ↦ (below_removed e.0 test es h.0, sorted-remove_entry test es h.1)
        ]

    -- where all keys are above k, it goes to the front, and a look-up at it finds nothing
    put_front : (k : K) (v : X) (es : List (K × X)) → AllByRecursion (λ y. R k y ≡ Less) (keys_of es) → insert_entry R es k v ≡ (k, v) ∷ es
    put_front k v [] h = refl
    put_front k v (e ∷ es) h = ap (λ r. match_ordering r ((k, v) ∷ e ∷ es) ((e.0, v) ∷ es) (e ∷ insert_entry R es k v)) h.0

    pub none_above : (k : K) (es : List (K × X)) → AllByRecursion (λ y. R k y ≡ Less) (keys_of es) → lookup (is_at (R k)) es ≡ None
    none_above k [] h = refl
    none_above k (e ∷ es) h = ap (λ r. cond (is_eq r) (Some e.1) (lookup (is_at (R k)) es)) h.0 ∙ none_above k es h.1

    pub lookup-none-remove_entry : (q : K) (test : K → Bool) (es : List (K × X)) → lookup (is_at (R q)) es ≡ None → lookup (is_at (R q)) (remove_entry test es) ≡ None
    lookup-none-remove_entry q test [] h = refl
    lookup-none-remove_entry q test (e ∷ es) h =
        let n = none_first (is_eq (R q e.0)) e.1 (lookup (is_at (R q)) es) h in
        elim (test e.0) as (λ b. lookup (is_at (R q)) (cond b es (e ∷ remove_entry test es)) ≡ None) [
          | true ↦ n.1
          | false ↦ ap (λ b. cond b (Some e.1) (lookup (is_at (R q)) (remove_entry test es))) n.0 ∙ lookup-none-remove_entry q test es n.1
        ]

    -- ---- one step of a put, where the comparison is known
    step : (e : K × X) (es : List (K × X)) (k : K) (v : X) (r : Ordering) → R k e.0 ≡ r → insert_entry R (e ∷ es) k v ≡ match_ordering r ((k, v) ∷ e ∷ es) ((e.0, v) ∷ es) (e ∷ insert_entry R es k v)
    step e es k v r h = ap (λ r. match_ordering r ((k, v) ∷ e ∷ es) ((e.0, v) ∷ es) (e ∷ insert_entry R es k v)) h

    -- ---- two puts at different keys may change places
    two : (j k : K) (w v : X) (r : Ordering) → R k j ≡ r → (r ≡ Equal → ⊥) → insert_entry R ((k, v) ∷ []) j w ≡ insert_entry R ((j, w) ∷ []) k v
    two j k w v Less h apart = step (k, v) [] j w Greater (back k j Less h) ∙ sym (step (j, w) [] k v Less h)
    two j k w v Equal h apart = absurd (apart refl)
    two j k w v Greater h apart = step (k, v) [] j w Less (back k j Greater h) ∙ sym (step (j, w) [] k v Greater h)

    -- both in front
    two_front : (j k : K) (w v : X) (e : K × X) (es : List (K × X)) → R k e.0 ≡ Less → R j e.0 ≡ Less → (u : Ordering) → R k j ≡ u → (u ≡ Equal → ⊥) → insert_entry R ((k, v) ∷ e ∷ es) j w ≡ insert_entry R ((j, w) ∷ e ∷ es) k v
    two_front j k w v e es p q Less h apart = step (k, v) (e ∷ es) j w Greater (back k j Less h) ∙ ap (λ l. (k, v) ∷ l) (step e es j w Less q) ∙ sym (step (j, w) (e ∷ es) k v Less h)
    two_front j k w v e es p q Equal h apart = absurd (apart refl)
    two_front j k w v e es p q Greater h apart = step (k, v) (e ∷ es) j w Less (back k j Greater h) ∙ sym (step (j, w) (e ∷ es) k v Greater h ∙ ap (λ l. (j, w) ∷ l) (step e es k v Less p))

    crossed : (j k : K) (w v : X) (e : K × X) (es : List (K × X)) → (R k j ≡ Equal → ⊥)
        → insert_entry R (insert_entry R es k v) j w ≡ insert_entry R (insert_entry R es j w) k v
        → (r s : Ordering) → R k e.0 ≡ r → R j e.0 ≡ s
        → insert_entry R (match_ordering r ((k, v) ∷ e ∷ es) ((e.0, v) ∷ es) (e ∷ insert_entry R es k v)) j w ≡ insert_entry R (match_ordering s ((j, w) ∷ e ∷ es) ((e.0, w) ∷ es) (e ∷ insert_entry R es j w)) k v
    crossed j k w v e es apart ih Less Less p q = two_front j k w v e es p q (R k j) refl apart
    crossed j k w v e es apart ih Less Equal p q =
        let u : R k j ≡ Less = alike_right o j e.0 k q ∙ p in
        step (k, v) (e ∷ es) j w Greater (back k j Less u) ∙ ap (λ l. (k, v) ∷ l) (step e es j w Equal q) ∙ sym (step (e.0, w) es k v Less p)
    crossed j k w v e es apart ih Less Greater p q =
        let u : R k j ≡ Less = o.trans k e.0 j p (back j e.0 Greater q) in
        step (k, v) (e ∷ es) j w Greater (back k j Less u) ∙ ap (λ l. (k, v) ∷ l) (step e es j w Greater q) ∙ sym (step e (insert_entry R es j w) k v Less p)
    crossed j k w v e es apart ih Equal Less p q =
        let u : R j k ≡ Less = alike_right o k e.0 j p ∙ q in
        step (e.0, v) es j w Less q ∙ ap (λ l. (j, w) ∷ l) (sym (step e es k v Equal p)) ∙ sym (step (j, w) (e ∷ es) k v Greater (back j k Less u))
    crossed j k w v e es apart ih Equal Equal p q = absurd (apart (alike_right o j e.0 k q ∙ p))
    crossed j k w v e es apart ih Equal Greater p q = step (e.0, v) es j w Greater q ∙ sym (step e (insert_entry R es j w) k v Equal p)
    crossed j k w v e es apart ih Greater Less p q =
        let u : R j k ≡ Less = o.trans j e.0 k q (back k e.0 Greater p) in
        step e (insert_entry R es k v) j w Less q ∙ ap (λ l. (j, w) ∷ l) (sym (step e es k v Greater p)) ∙ sym (step (j, w) (e ∷ es) k v Greater (back j k Less u))
    crossed j k w v e es apart ih Greater Equal p q = step e (insert_entry R es k v) j w Equal q ∙ sym (step (e.0, w) es k v Greater p)
    crossed j k w v e es apart ih Greater Greater p q = step e (insert_entry R es k v) j w Greater q ∙ ap (λ l. e ∷ l) ih ∙ sym (step e (insert_entry R es j w) k v Greater p)

    pub insert_entry-swap : (j k : K) (w v : X) (es : List (K × X)) → (R k j ≡ Equal → ⊥) → insert_entry R (insert_entry R es k v) j w ≡ insert_entry R (insert_entry R es j w) k v
    insert_entry-swap j k w v [] apart = two j k w v (R k j) refl apart
    insert_entry-swap j k w v (e ∷ es) apart = crossed j k w v e es apart (insert_entry-swap j k w v es apart) (R k e.0) (R j e.0) refl refl

    -- ---- a put over a put
    again : (j k : K) (w v : X) (e : K × X) (es : List (K × X)) → R k j ≡ Equal
        → insert_entry R (insert_entry R es k v) j w ≡ insert_entry R es k w
        → (r : Ordering) → R k e.0 ≡ r
        → insert_entry R (match_ordering r ((k, v) ∷ e ∷ es) ((e.0, v) ∷ es) (e ∷ insert_entry R es k v)) j w ≡ match_ordering r ((k, w) ∷ e ∷ es) ((e.0, w) ∷ es) (e ∷ insert_entry R es k w)
    again j k w v e es same ih Less p = step (k, v) (e ∷ es) j w Equal (back k j Equal same)
    again j k w v e es same ih Equal p = step (e.0, v) es j w Equal (sym (o.congr k j e.0 same) ∙ p)
    again j k w v e es same ih Greater p = step e (insert_entry R es k v) j w Greater (sym (o.congr k j e.0 same) ∙ p) ∙ ap (λ l. e ∷ l) ih

    pub insert_entry-again : (j k : K) (w v : X) (es : List (K × X)) → R k j ≡ Equal → insert_entry R (insert_entry R es k v) j w ≡ insert_entry R es k w
    insert_entry-again j k w v [] same = step (k, v) [] j w Equal (back k j Equal same)
    insert_entry-again j k w v (e ∷ es) same = again j k w v e es same (insert_entry-again j k w v es same) (R k e.0) refl

    -- ---- a removal at one key and a put at another may change places
    without : (j k : K) (v : X) (e : K × X) (es : List (K × X)) → (R k j ≡ Equal → ⊥) → AllByRecursion (λ y. R e.0 y ≡ Less) (keys_of es)
        → remove_entry (is_at (R j)) (insert_entry R es k v) ≡ insert_entry R (remove_entry (is_at (R j)) es) k v
        → (r : Ordering) (b : Bool) → R k e.0 ≡ r → is_eq (R j e.0) ≡ b → is_eq (R j k) ≡ false
        → remove_entry (is_at (R j)) (match_ordering r ((k, v) ∷ e ∷ es) ((e.0, v) ∷ es) (e ∷ insert_entry R es k v)) ≡ insert_entry R (cond b es (e ∷ remove_entry (is_at (R j)) es)) k v
    without j k v e es apart above ih Less true p q n =
        ap (λ b. cond b (e ∷ es) ((k, v) ∷ cond (is_eq (R j e.0)) es (e ∷ remove_entry (is_at (R j)) es))) n
        ∙ ap (λ b. (k, v) ∷ cond b es (e ∷ remove_entry (is_at (R j)) es)) q
        ∙ sym (put_front k v es (below_chain k e.0 (keys_of es) p above))
    without j k v e es apart above ih Less false p q n =
        ap (λ b. cond b (e ∷ es) ((k, v) ∷ cond (is_eq (R j e.0)) es (e ∷ remove_entry (is_at (R j)) es))) n
        ∙ ap (λ b. (k, v) ∷ cond b es (e ∷ remove_entry (is_at (R j)) es)) q
        ∙ sym (step e (remove_entry (is_at (R j)) es) k v Less p)
    without j k v e es apart above ih Equal true p q n = absurd (apart (alike_right o j e.0 k ((Equal-is (R j e.0)).0 q) ∙ p))
    without j k v e es apart above ih Equal false p q n =
        ap (λ b. cond b es ((e.0, v) ∷ remove_entry (is_at (R j)) es)) q
        ∙ sym (step e (remove_entry (is_at (R j)) es) k v Equal p)
    without j k v e es apart above ih Greater true p q n = ap (λ b. cond b (insert_entry R es k v) (e ∷ remove_entry (is_at (R j)) (insert_entry R es k v))) q
    without j k v e es apart above ih Greater false p q n =
        ap (λ b. cond b (insert_entry R es k v) (e ∷ remove_entry (is_at (R j)) (insert_entry R es k v))) q
        ∙ ap (λ l. e ∷ l) ih
        ∙ sym (step e (remove_entry (is_at (R j)) es) k v Greater p)

    pub remove_entry-insert_entry : (j k : K) (v : X) (es : List (K × X)) → (R k j ≡ Equal → ⊥) → IsStrictlySortedBy R (keys_of es) → remove_entry (is_at (R j)) (insert_entry R es k v) ≡ insert_entry R (remove_entry (is_at (R j)) es) k v
    unfolding IsStrictlySortedBy
    remove_entry-insert_entry j k v [] apart sorted = ap (λ b. cond b [] ((k, v) ∷ [])) (apart_test j k apart)
    remove_entry-insert_entry j k v (e ∷ es) apart sorted = without j k v e es apart sorted.0 (remove_entry-insert_entry j k v es apart sorted.1) (R k e.0) (is_eq (R j e.0)) refl refl (apart_test j k apart)

    -- ---- a removal undoes the put of a new key
    undone : (j k : K) (v : X) (e : K × X) (es : List (K × X)) → R k j ≡ Equal → is_eq (R k e.0) ≡ false
        → remove_entry (is_at (R j)) (insert_entry R es k v) ≡ es
        → (r : Ordering) → R k e.0 ≡ r
        → remove_entry (is_at (R j)) (match_ordering r ((k, v) ∷ e ∷ es) ((e.0, v) ∷ es) (e ∷ insert_entry R es k v)) ≡ e ∷ es
    undone j k v e es same n ih Less p = ap (λ r. cond (is_eq r) (e ∷ es) ((k, v) ∷ remove_entry (is_at (R j)) (e ∷ es))) (tied_back o k j same)
    undone j k v e es same n ih Equal p = absurd (true≢false (ap is_eq (sym p) ∙ n))
    undone j k v e es same n ih Greater p =
        ap (λ r. cond (is_eq r) (insert_entry R es k v) (e ∷ remove_entry (is_at (R j)) (insert_entry R es k v))) (sym (o.congr k j e.0 same) ∙ p)
        ∙ ap (λ l. e ∷ l) ih

    pub remove_entry-undoes : (j k : K) (v : X) (es : List (K × X)) → R k j ≡ Equal → lookup (is_at (R k)) es ≡ None → remove_entry (is_at (R j)) (insert_entry R es k v) ≡ es
    remove_entry-undoes j k v [] same none = ap (λ r. cond (is_eq r) [] ((k, v) ∷ [])) (tied_back o k j same)
    remove_entry-undoes j k v (e ∷ es) same none =
        let n = none_first (is_eq (R k e.0)) e.1 (lookup (is_at (R k)) es) none in
        undone j k v e es same n.0 (remove_entry-undoes j k v es same n.1) (R k e.0) refl

    -- ---- lengths
    longer : (k : K) (v : X) (e : K × X) (es : List (K × X)) → is_eq (R k e.0) ≡ false → length (insert_entry R es k v) ≡ length es + 1
        → (r : Ordering) → R k e.0 ≡ r → length (match_ordering r ((k, v) ∷ e ∷ es) ((e.0, v) ∷ es) (e ∷ insert_entry R es k v)) ≡ length (e ∷ es) + 1
    longer k v e es n ih Less p = omega arith
    longer k v e es n ih Equal p = absurd (true≢false (ap is_eq (sym p) ∙ n))
    longer k v e es n ih Greater p = omega arith

    pub length-insert_entry : (k : K) (v : X) (es : List (K × X)) → lookup (is_at (R k)) es ≡ None → length (insert_entry R es k v) ≡ length es + 1
    length-insert_entry k v [] none = refl
    length-insert_entry k v (e ∷ es) none =
        let n = none_first (is_eq (R k e.0)) e.1 (lookup (is_at (R k)) es) none in
        longer k v e es n.0 (length-insert_entry k v es n.1) (R k e.0) refl

    pub length-remove_entry : (k : K) (v : X) (es : List (K × X)) → lookup (is_at (R k)) es ≡ Some v → length (remove_entry (is_at (R k)) es) + 1 ≡ length es
    length-remove_entry k v [] some = cc
    length-remove_entry k v (e ∷ es) some =
        elim (is_eq (R k e.0)) as (λ b. cond b (Some e.1) (lookup (is_at (R k)) es) ≡ Some v → length (cond b es (e ∷ remove_entry (is_at (R k)) es)) + 1 ≡ length (e ∷ es)) [
          | true ↦ λ _. omega arith
          | false ↦ λ h. let ih = length-remove_entry k v es h in omega (arith, ih)
        ] some

    -- ---- a value that is there is put over by itself, and put back where it was removed
    kept : (k : K) (v : X) (e : K × X) (es : List (K × X)) → AllByRecursion (λ y. R e.0 y ≡ Less) (keys_of es)
        → (lookup (is_at (R k)) es ≡ Some v → insert_entry R es k v ≡ es)
        → (r : Ordering) → R k e.0 ≡ r → cond (is_eq r) (Some e.1) (lookup (is_at (R k)) es) ≡ Some v
        → match_ordering r ((k, v) ∷ e ∷ es) ((e.0, v) ∷ es) (e ∷ insert_entry R es k v) ≡ e ∷ es
    kept k v e es above ih Less p h = let n = none_above k es (below_chain k e.0 (keys_of es) p above) in cc
    kept k v e es above ih Equal p h = let same : e.1 ≡ v = cc in ap (λ w. (e.0, w) ∷ es) (sym same)
    kept k v e es above ih Greater p h = ap (λ l. e ∷ l) (ih h)

    pub insert_entry-kept : (k : K) (v : X) (es : List (K × X)) → IsStrictlySortedBy R (keys_of es) → lookup (is_at (R k)) es ≡ Some v → insert_entry R es k v ≡ es
    unfolding IsStrictlySortedBy
    insert_entry-kept k v [] sorted h = cc
    insert_entry-kept k v (e ∷ es) sorted h = kept k v e es sorted.0 (insert_entry-kept k v es sorted.1) (R k e.0) refl h

    restored : ((x y : K) → R x y ≡ Equal → x ≡ y) → (k : K) (v : X) (e : K × X) (es : List (K × X)) → AllByRecursion (λ y. R e.0 y ≡ Less) (keys_of es)
        → (lookup (is_at (R k)) es ≡ Some v → insert_entry R (remove_entry (is_at (R k)) es) k v ≡ es)
        → (r : Ordering) → R k e.0 ≡ r → cond (is_eq r) (Some e.1) (lookup (is_at (R k)) es) ≡ Some v
        → insert_entry R (cond (is_eq r) es (e ∷ remove_entry (is_at (R k)) es)) k v ≡ e ∷ es
    restored exact k v e es above ih Less p h = let n = none_above k es (below_chain k e.0 (keys_of es) p above) in cc
    restored exact k v e es above ih Equal p h =
        let value : e.1 ≡ v = cc in
        let key : k ≡ e.0 = exact k e.0 p in
        put_front k v es (below_tied k e.0 (keys_of es) p above) ∙ ap (λ x. (x, v) ∷ es) key ∙ ap (λ w. (e.0, w) ∷ es) (sym value)
    restored exact k v e es above ih Greater p h = step e (remove_entry (is_at (R k)) es) k v Greater p ∙ ap (λ l. e ∷ l) (ih h)

    pub insert_entry-restores : ((x y : K) → R x y ≡ Equal → x ≡ y) → (k : K) (v : X) (es : List (K × X)) → IsStrictlySortedBy R (keys_of es) → lookup (is_at (R k)) es ≡ Some v → insert_entry R (remove_entry (is_at (R k)) es) k v ≡ es
    unfolding IsStrictlySortedBy
    insert_entry-restores exact k v [] sorted h = cc
    insert_entry-restores exact k v (e ∷ es) sorted h = restored exact k v e es sorted.0 (insert_entry-restores exact k v es sorted.1) (R k e.0) refl h

    -- ---- the first entry, and the first above a key
    first_put : (k : K) (v : X) (e : K × X) (es : List (K × X)) → is_eq (R k e.0) ≡ false → (r : Ordering) → R k e.0 ≡ r
        → slice_get (match_ordering r ((k, v) ∷ e ∷ es) ((e.0, v) ∷ es) (e ∷ insert_entry R es k v)) 0 ≡ match_ordering r (Some (k, v)) (Some e) (Some e)
    first_put k v e es n Less p = refl
    first_put k v e es n Equal p = absurd (true≢false (ap is_eq (sym p) ∙ n))
    first_put k v e es n Greater p = refl

    pub first-insert_entry : (k : K) (v : X) (es : List (K × X)) → lookup (is_at (R k)) es ≡ None → slice_get (insert_entry R es k v) 0 ≡ lower R (k, v) (slice_get es 0)
    first-insert_entry k v [] none = refl
    first-insert_entry k v (e ∷ es) none = first_put k v e es (none_first (is_eq (R k e.0)) e.1 (lookup (is_at (R k)) es) none).0 (R k e.0) refl

    next_less : (k : K) (v : X) (e : K × X) (f : List (K × X)) (s t : Bool) → (t ≡ true → s ≡ true) → R k e.0 ≡ Less
        → slice_get (cond t ((k, v) ∷ cond s (e ∷ f) f) (cond s (e ∷ f) f)) 0 ≡ cond t (lower R (k, v) (slice_get (cond s (e ∷ f) f) 0)) (slice_get (cond s (e ∷ f) f) 0)
    next_less k v e f true true h p = let new : Option (K × X) = Some (k, v) in sym (ap (λ r. match_ordering r new (Some e) (Some e)) p)
    next_less k v e f false true h p = absurd (true≢false (sym (h refl)))
    next_less k v e f s false h p = refl

    next_greater : (k : K) (v : X) (e : K × X) (f g : List (K × X)) (s t : Bool) → (s ≡ true → t ≡ true) → R k e.0 ≡ Greater
        → slice_get g 0 ≡ cond t (lower R (k, v) (slice_get f 0)) (slice_get f 0)
        → slice_get (cond s (e ∷ g) g) 0 ≡ cond t (lower R (k, v) (slice_get (cond s (e ∷ f) f) 0)) (slice_get (cond s (e ∷ f) f) 0)
    next_greater k v e f g true true h p ih = let new : Option (K × X) = Some (k, v) in sym (ap (λ r. match_ordering r new (Some e) (Some e)) p)
    next_greater k v e f g true false h p ih = absurd (true≢false (sym (h refl)))
    next_greater k v e f g false t h p ih = ih

    next_put : (q k : K) (v : X) (e : K × X) (es : List (K × X)) → is_eq (R k e.0) ≡ false
        → slice_get (filter (λ f. is_lt (R q f.0)) (insert_entry R es k v)) 0 ≡ cond (is_lt (R q k)) (lower R (k, v) (slice_get (filter (λ f. is_lt (R q f.0)) es) 0)) (slice_get (filter (λ f. is_lt (R q f.0)) es) 0)
        → (r : Ordering) → R k e.0 ≡ r
        → slice_get (filter (λ f. is_lt (R q f.0)) (match_ordering r ((k, v) ∷ e ∷ es) ((e.0, v) ∷ es) (e ∷ insert_entry R es k v))) 0
        ≡ cond (is_lt (R q k)) (lower R (k, v) (slice_get (filter (λ f. is_lt (R q f.0)) (e ∷ es)) 0)) (slice_get (filter (λ f. is_lt (R q f.0)) (e ∷ es)) 0)
    next_put q k v e es n ih Less p = next_less k v e (filter (λ f. is_lt (R q f.0)) es) (is_lt (R q e.0)) (is_lt (R q k)) (λ h. is_lt-trans q k e.0 h p) p
    next_put q k v e es n ih Equal p = absurd (true≢false (ap is_eq (sym p) ∙ n))
    next_put q k v e es n ih Greater p = next_greater k v e (filter (λ f. is_lt (R q f.0)) es) (filter (λ f. is_lt (R q f.0)) (insert_entry R es k v)) (is_lt (R q e.0)) (is_lt (R q k)) (λ h. is_lt-trans q e.0 k h (back k e.0 Greater p)) p ih

    next_alone : (e : K × X) (b : Bool) → slice_get (cond b (e ∷ []) []) 0 ≡ cond b (Some e) None
    next_alone e true = refl
    next_alone e false = refl

    pub next-insert_entry : (q k : K) (v : X) (es : List (K × X)) → lookup (is_at (R k)) es ≡ None
        → slice_get (filter (λ f. is_lt (R q f.0)) (insert_entry R es k v)) 0 ≡ cond (is_lt (R q k)) (lower R (k, v) (slice_get (filter (λ f. is_lt (R q f.0)) es) 0)) (slice_get (filter (λ f. is_lt (R q f.0)) es) 0)
    next-insert_entry q k v [] none = next_alone (k, v) (is_lt (R q k))
    next-insert_entry q k v (e ∷ es) none =
        let n = none_first (is_eq (R k e.0)) e.1 (lookup (is_at (R k)) es) none in
        next_put q k v e es n.0 (next-insert_entry q k v es n.1) (R k e.0) refl
