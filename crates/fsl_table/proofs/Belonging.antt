-- What belongs to a first part, one after another.
use Rattle.std.proofs.Common.{◌≡◌, ◌⊎◌, inl, inr, List, [], ◌∷◌, Bool, true, false, cond, if◌then◌else◌, ◌&&◌, Option, Some, None, refl, sym, ap, ◌∙◌}
use mathlib.Core.Bool.{true≢false}
use Rattle.std.specs.List.{AllByRecursion}
use Rattle.std.specs.List.Sorted.{IsStrictlySortedBy}
use Rattle.std.specs.Map.{keys_of}
use Rattle.std.specs.Ordering.{is_eq, is_lt, ordering_then}
use Rattle.std.specs.Option.{option_cmp, option_and_then, option_map}
use Rattle.std.specs.declared.cmp.Ordering.{Ordering}
use Rattle.std.specs.declared.cmp.Ordering.TheVariants.{Less, Equal, Greater}
use Rattle.std.specs.Cmp.{IsTotalOrder, then_total, on_total}
use Rattle.std.specs.Cmp.Lexicographic.{options_total}
use Rattle.fsl_table.specs.declared.within.Within.{Within}
use Rattle.fsl_table.specs.Contents.{value_at, first_of, entries_after}
use Rattle.fsl_table.specs.Within.{within_cmp, second_in, put_key, within, above, is_second}

less_first : (r s : Ordering) → is_eq r ≡ false → is_lt (ordering_then r s) ≡ true → r ≡ Less
less_first Less s n h = refl
less_first Equal s n h = absurd (true≢false n)
less_first Greater s n h = absurd (true≢false (sym h))

not_greater : (r s : Ordering) → ordering_then r s ≡ Less → (r ≡ Less) ⊎ (r ≡ Equal)
not_greater Less s h = inl refl
not_greater Equal s h = inr refl
not_greater Greater s h = cc

then_less : (r s : Ordering) → is_eq r ≡ true → ordering_then r s ≡ Less → s ≡ Less
then_less Less s e h = absurd (true≢false (sym e))
then_less Equal s e h = h
then_less Greater s e h = absurd (true≢false (sym e))

equal : (r : Ordering) → is_eq r ≡ true → r ≡ Equal
equal Less h = absurd (true≢false (sym h))
equal Equal h = refl
equal Greater h = absurd (true≢false (sym h))

abbrev Keys : Type 0 → Type 0 → Type 0
Keys A B = List (Within A B × Unit {0})

abbrev unit : {B : Type 0} → B → B × Unit {0}
unit b = (b, tt)

-- whether it comes after what may be there
abbrev comes_after : {B : Type 0} → (B → B → Ordering) → Option B → B → Bool
comes_after RB None c = true
comes_after RB (Some b) c = is_lt (RB b c)

abbrev comes_some : {B : Type 0} → (B → B → Ordering) → Option B → Option B → Bool
comes_some RB s None = false
comes_some RB s (Some c) = comes_after RB s c

none_above : {B : Type 0} (RB : B → B → Ordering) (s : Option B) → first_of (above RB s []) ≡ None
none_above RB None = refl
none_above RB (Some b) = refl

module _ {A B : Type 0} (RA : A → A → Ordering) (RB : B → B → Ordering) (oa : IsTotalOrder RA) (exact : (x y : A) → RA x y ≡ Equal → x ≡ y) where
  after_is : (s t : Option B) → is_lt (option_cmp RB s t) ≡ comes_some RB s t
  after_is None None = refl
  after_is None (Some c) = refl
  after_is (Some a) None = refl
  after_is (Some a) (Some c) = refl

  in_first : (a : A) (s : Option B) (e : Within A B) → is_eq (RA a e.first) ≡ true → is_lt (within_cmp RA RB (record { first = a; second = s }) e) ≡ comes_some RB s e.second
  in_first a s e h = ap (λ r. is_lt (ordering_then r (option_cmp RB s e.second))) (equal (RA a e.first) h) ∙ after_is s e.second

  first_above : (s t : Option B) (bs : List (B × Unit {0})) → first_of (above RB s (put_key t bs)) ≡ cond (comes_some RB s t) (option_map unit t) (first_of (above RB s bs))
  first_above s None bs = refl
  first_above None (Some c) bs = refl
  first_above (Some b) (Some c) bs =
      elim (is_lt (RB b c)) as (λ t. first_of (cond t ((c, tt) ∷ entries_after RB b bs) (entries_after RB b bs)) ≡ cond t (Some (c, tt)) (first_of (entries_after RB b bs))) [ true ↦ refl | false ↦ refl ]

  below : (a : A) (e f : Within A B) → RA a e.first ≡ Less → within_cmp RA RB e f ≡ Less → RA a f.first ≡ Less
  below a e f h k =
      elim (not_greater (RA e.first f.first) (option_cmp RB e.second f.second) k) [
        | inl less ↦ oa.trans a e.first f.first h less
        | inr same ↦ ap (RA a) (sym (exact e.first f.first same)) ∙ h
      ]

  none_within : (a : A) (e : Within A B) (es : Keys A B) → RA a e.first ≡ Less → AllByRecursion (λ y. within_cmp RA RB e y ≡ Less) (keys_of es) → within RA a es ≡ []
  none_within a e [] h all = refl
  none_within a e (f ∷ es) h all =
      (λ i. put_key (if is_eq (below a e f.0 h all.0 i) then f.0.second else None) (within RA a es)) ∙ none_within a e es h all.1

  -- the next key that has the first part is the next of what belongs to it
  pub next_in : (a : A) (s : Option B) (es : Keys A B) → IsStrictlySortedBy (within_cmp RA RB) (keys_of es)
      → option_map unit (option_and_then (second_in RA a) (first_of (entries_after (within_cmp RA RB) (record { first = a; second = s }) es))) ≡ first_of (above RB s (within RA a es))
  unfolding IsStrictlySortedBy
  next_in a s [] sorted = sym (none_above RB s)
  next_in a s (e ∷ es) sorted =
      let k : Within A B = record { first = a; second = s } in
      let rest = entries_after (within_cmp RA RB) k es in
      elim (is_eq (RA a e.0.first)) as (λ m. is_eq (RA a e.0.first) ≡ m → option_map unit (option_and_then (second_in RA a) (first_of (cond (is_lt (within_cmp RA RB k e.0)) (e ∷ rest) rest))) ≡ first_of (above RB s (put_key (if m then e.0.second else None) (within RA a es)))) [
        | true ↦ λ m.
            ap (λ b. option_map unit (option_and_then (second_in RA a) (first_of (cond b (e ∷ rest) rest)))) (in_first a s e.0 m)
            ∙ elim (comes_some RB s e.0.second) as (λ b. option_map unit (option_and_then (second_in RA a) (first_of (cond b (e ∷ rest) rest))) ≡ cond b (option_map unit e.0.second) (first_of (above RB s (within RA a es)))) [
              | true ↦ ap (λ b. option_map unit (if b then e.0.second else None)) m
              | false ↦ next_in a s es sorted.1
            ]
            ∙ sym (first_above s e.0.second (within RA a es))
        | false ↦ λ m.
            elim (is_lt (within_cmp RA RB k e.0)) as (λ b. is_lt (within_cmp RA RB k e.0) ≡ b → option_map unit (option_and_then (second_in RA a) (first_of (cond b (e ∷ rest) rest))) ≡ first_of (above RB s (within RA a es))) [
              | true ↦ λ h.
                  let less : RA a e.0.first ≡ Less = less_first (RA a e.0.first) (option_cmp RB s e.0.second) m h in
                  ap (λ b. option_map unit (if b then e.0.second else None)) m ∙ sym (ap (λ l. first_of (above RB s l)) (none_within a e.0 es less sorted.0) ∙ none_above RB s)
              | false ↦ λ h. next_in a s es sorted.1
            ] refl
      ] refl

  -- ---- in their order
  within_above : (a : A) (c : B) (e : Within A B) (es : Keys A B) → is_eq (RA a e.first) ≡ true → e.second ≡ Some c → AllByRecursion (λ y. within_cmp RA RB e y ≡ Less) (keys_of es)
      → AllByRecursion (λ y. RB c y ≡ Less) (keys_of (within RA a es))
  within_above a c e [] same second all = tt
  within_above a c e (f ∷ es) same second all =
      elim (is_eq (RA a f.0.first)) as (λ m. is_eq (RA a f.0.first) ≡ m → AllByRecursion (λ y. RB c y ≡ Less) (keys_of (put_key (if m then f.0.second else None) (within RA a es)))) [
        | true ↦ λ m.
            let at : a ≡ e.first = exact a e.first (equal (RA a e.first) same) in
            let less : option_cmp RB (Some c) f.0.second ≡ Less =
            ap (λ s. option_cmp RB s f.0.second) (sym second) ∙ then_less (RA e.first f.0.first) (option_cmp RB e.second f.0.second) (ap (λ x. is_eq (RA x f.0.first)) (sym at) ∙ m) all.0 in
            elim f.0.second as (λ s. option_cmp RB (Some c) s ≡ Less → AllByRecursion (λ y. RB c y ≡ Less) (keys_of (put_key s (within RA a es)))) [
              | None ↦ λ h. cc
              | Some d ↦ λ h. (h, within_above a c e es same second all.1)
            ] less
        | false ↦ λ m. within_above a c e es same second all.1
      ] refl

  pub within_sorted : (a : A) (es : Keys A B) → IsStrictlySortedBy (within_cmp RA RB) (keys_of es) → IsStrictlySortedBy RB (keys_of (within RA a es))
  unfolding IsStrictlySortedBy
  within_sorted a [] sorted = tt
  within_sorted a (e ∷ es) sorted =
      elim (is_eq (RA a e.0.first)) as (λ m. is_eq (RA a e.0.first) ≡ m → IsStrictlySortedBy RB (keys_of (put_key (if m then e.0.second else None) (within RA a es)))) [
        | true ↦ λ m.
            elim e.0.second as (λ s. e.0.second ≡ s → IsStrictlySortedBy RB (keys_of (put_key s (within RA a es)))) [
              | None ↦ λ h. within_sorted a es sorted.1
              | Some c ↦ λ h. (within_above a c e.0 es m h sorted.0, within_sorted a es sorted.1)
            ] refl
        | false ↦ λ m. within_sorted a es sorted.1
      ] refl

module _ {A B : Type 0} (RA : A → A → Ordering) (RB : B → B → Ordering) where
  -- what belongs to a first part is what has a key with it
  pub value-within : (a : A) (c : B) (es : List (Within A B × Unit {0})) → value_at RB c (within RA a es) ≡ value_at (within_cmp RA RB) (record { first = a; second = Some c }) es
  value-within a c [] = refl
  value-within a c (e ∷ es) =
      parts (RA a e.0.first) e.0.second (within RA a es)
      ∙ ap (cond (is_eq (within_cmp RA RB (record { first = a; second = Some c }) e.0)) (Some e.1)) (value-within a c es)
    where
      parts : (r : Ordering) (s : Option B) (ws : List (B × Unit {0})) → value_at RB c (put_key (if is_eq r then s else None) ws) ≡ cond (is_eq (ordering_then r (option_cmp RB (Some c) s))) (Some tt) (value_at RB c ws)
      parts Less s ws = refl
      parts Greater s ws = refl
      parts Equal None ws = refl
      parts Equal (Some d) ws = refl

  -- keys compare alike where both parts do
  pub key_eq : (k : Within A B) (a : A) (b : B) → is_eq (within_cmp RA RB k (record { first = a; second = Some b })) ≡ (is_eq (RA k.first a) && is_second RB k.second b)
  key_eq k a b = parts (RA k.first a) k.second
    where
      parts : (r : Ordering) (s : Option B) → is_eq (ordering_then r (option_cmp RB s (Some b))) ≡ (is_eq r && is_second RB s b)
      parts Less s = refl
      parts Greater s = refl
      parts Equal None = refl
      parts Equal (Some c) = refl

  pub within-IsTotalOrder : IsTotalOrder RA → IsTotalOrder RB → IsTotalOrder (within_cmp RA RB)
  within-IsTotalOrder oa ob = then_total (on_total (λ p. p.first) oa) (on_total (λ p. p.second) (options_total ob))
