-- The names that belong to a name, one after another.
use Rattle.std.proofs.Common.{◌≡◌, ◌⊎◌, inl, inr, ℕ, List, [], ◌∷◌, Bool, true, false, cond, ◌||◌, if◌then◌else◌, Option, Some, None, is_some, refl, sym, ap, subst, ◌∙◌}
use Rattle.std.specs.Prelude.{Result, Ok, Err, OnOk}
use Rattle.std.specs.Result.{is_err}
use mathlib.Core.Bool.{true≢false}
use Rattle.std.specs.Str.{bytes_eq}
use Rattle.std.specs.List.{AllByRecursion}
use Rattle.std.specs.List.Sorted.{IsStrictlySortedBy}
use Rattle.std.specs.Map.{keys_of}
use Rattle.std.specs.Ordering.{is_eq, is_lt, ordering_then, ordering_reverse}
use Rattle.std.specs.Option.{option_cmp, option_and_then, option_map}
use Rattle.std.specs.declared.cmp.Ordering.{Ordering}
use Rattle.std.specs.declared.cmp.Ordering.TheVariants.{Less, Equal, Greater}
use Rattle.std.specs.Cmp.{tied_itself}
use Rattle.std.specs.Cmp.Lexicographic.{texts_ties, bytes_decides, nat_list_eq_equiv}
use Rattle.fsl_order.specs.Names.{bytes_cmp, has}
use Rattle.fsl_order.proofs.Orders.{bytes_cmp-IsTotalOrder, bytes_cmp-IsAntisymmetric}
use Rattle.fsl_table.specs.Exact.{pair_cmp}
use Rattle.fsl_table.specs.declared.key.Pair.{Pair}
use Rattle.fsl_table.specs.Contents.{value_at, first_of, entries_after}
use Rattle.fsl_table.specs.Pairs.{second_of, seconds, put_first, comes_after, rest_after, left_from}

-- whether what may be there comes after another
abbrev comes_some : Option (List ℕ) → Option (List ℕ) → Bool
comes_some a None = false
comes_some a (Some c) = comes_after a c

after_is : (a s : Option (List ℕ)) → is_lt (option_cmp bytes_cmp a s) ≡ comes_some a s
after_is None None = refl
after_is None (Some c) = refl
after_is (Some a) None = refl
after_is (Some a) (Some c) = refl

in_parent : (p : List ℕ) (a : Option (List ℕ)) (e : Pair) → bytes_eq e.first p ≡ true → is_lt (pair_cmp (record { first = p; second = a }) e) ≡ comes_some a e.second
in_parent p a e h =
    let same : e.first ≡ p = (bytes_decides e.first p).0 h in
    ap (λ f. is_lt (ordering_then (bytes_cmp p f) (option_cmp bytes_cmp a e.second))) same
    ∙ ap (λ r. is_lt (ordering_then r (option_cmp bytes_cmp a e.second))) (tied_itself bytes_cmp-IsTotalOrder p)
    ∙ after_is a e.second

first_rest : (a s : Option (List ℕ)) (ks : List (List ℕ)) → first_of (rest_after a (put_first s ks)) ≡ cond (comes_some a s) s (first_of (rest_after a ks))
first_rest a None ks = refl
first_rest a (Some c) ks = elim (comes_after a c) as (λ b. first_of (cond b (c ∷ rest_after a ks) (rest_after a ks)) ≡ cond b (Some c) (first_of (rest_after a ks))) [ true ↦ refl | false ↦ refl ]

-- in another parent that isn't below
less_first : (r s : Ordering) → (r ≡ Equal → ⊥) → is_lt (ordering_then r s) ≡ true → r ≡ Less
less_first Less s n h = refl
less_first Equal s n h = absurd (n refl)
less_first Greater s n h = absurd (true≢false (sym h))

not_greater : (r s : Ordering) → ordering_then r s ≡ Less → (r ≡ Less) ⊎ (r ≡ Equal)
not_greater Less s h = inl refl
not_greater Equal s h = inr refl
not_greater Greater s h = cc

below : (p : List ℕ) (e f : Pair) → bytes_cmp p e.first ≡ Less → pair_cmp e f ≡ Less → bytes_cmp p f.first ≡ Less
below p e f h k =
    elim (not_greater (bytes_cmp e.first f.first) (option_cmp bytes_cmp e.second f.second) k) [
      | inl less ↦ bytes_cmp-IsTotalOrder.trans p e.first f.first h less
      | inr same ↦ ap (bytes_cmp p) (sym (bytes_cmp-IsAntisymmetric e.first f.first same)) ∙ h
    ]

apart : (p f : List ℕ) → bytes_cmp p f ≡ Less → bytes_eq f p ≡ false
apart p f h = nat_list_eq_equiv.symm f p ∙ texts_ties p f ∙ ap is_eq h

no_seconds : (p : List ℕ) (e : Pair) (es : List (Pair × Unit {0})) → bytes_cmp p e.first ≡ Less → AllByRecursion (λ y. pair_cmp e y ≡ Less) (keys_of es) → seconds p es ≡ []
no_seconds p e [] h all = refl
no_seconds p e (f ∷ es) h all =
    (λ i. put_first (if apart p f.0.first (below p e f.0 h all.0) i then f.0.second else None) (seconds p es)) ∙ no_seconds p e es h all.1

pub next_second : (p : List ℕ) (a : Option (List ℕ)) (es : List (Pair × Unit {0})) → IsStrictlySortedBy pair_cmp (keys_of es)
    → option_and_then (second_of p) (first_of (entries_after pair_cmp (record { first = p; second = a }) es)) ≡ first_of (rest_after a (seconds p es))
unfolding IsStrictlySortedBy
next_second p a [] sorted = refl
next_second p a (e ∷ es) sorted =
    let k : Pair = record { first = p; second = a } in
    let rest = entries_after pair_cmp k es in
    elim (bytes_eq e.0.first p) as (λ m. bytes_eq e.0.first p ≡ m → option_and_then (λ f. if bytes_eq f.0.first p then f.0.second else None) (first_of (cond (is_lt (pair_cmp k e.0)) (e ∷ rest) rest)) ≡ first_of (rest_after a (put_first (if m then e.0.second else None) (seconds p es)))) [
      | true ↦ λ m.
          ap (λ b. option_and_then (second_of p) (first_of (cond b (e ∷ rest) rest))) (in_parent p a e.0 m)
          ∙ elim (comes_some a e.0.second) as (λ b. option_and_then (second_of p) (first_of (cond b (e ∷ rest) rest)) ≡ cond b e.0.second (first_of (rest_after a (seconds p es)))) [
            | true ↦ ap (λ b. if b then e.0.second else None) m
            | false ↦ next_second p a es sorted.1
          ]
          ∙ sym (first_rest a e.0.second (seconds p es))
      | false ↦ λ m.
          elim (is_lt (pair_cmp k e.0)) as (λ b. is_lt (pair_cmp k e.0) ≡ b → option_and_then (second_of p) (first_of (cond b (e ∷ rest) rest)) ≡ first_of (rest_after a (seconds p es))) [
            | true ↦ λ h.
                let less : bytes_cmp p e.0.first ≡ Less = less_first (bytes_cmp p e.0.first) (option_cmp bytes_cmp a e.0.second) (λ q. true≢false (sym (ap is_eq q) ∙ sym (texts_ties p e.0.first) ∙ nat_list_eq_equiv.symm p e.0.first ∙ m)) h in
                ap (λ b. if b then e.0.second else None) m ∙ sym (ap (λ l. first_of (rest_after a l)) (no_seconds p e.0 es less sorted.0))
            | false ↦ λ h. next_second p a es sorted.1
          ] refl
    ] refl

-- ---- the children are in order
Above : List ℕ → List (List ℕ) → Type 0
Above c ks = AllByRecursion (λ y. bytes_cmp c y ≡ Less) ks

second_less : (r : Ordering) (s : Ordering) → r ≡ Equal → ordering_then r s ≡ Less → s ≡ Less
second_less r s e h = sym (ap (λ x. ordering_then x s) e) ∙ h

seconds_above : (p c : List ℕ) (e : Pair) (es : List (Pair × Unit {0})) → e.first ≡ p → e.second ≡ Some c → AllByRecursion (λ y. pair_cmp e y ≡ Less) (keys_of es) → Above c (seconds p es)
unfolding Above
seconds_above p c e [] same second all = tt
seconds_above p c e (f ∷ es) same second all =
    elim (bytes_eq f.0.first p) as (λ m. bytes_eq f.0.first p ≡ m → Above c (put_first (if m then f.0.second else None) (seconds p es))) [
      | true ↦ λ m.
          let equal : f.0.first ≡ p = (bytes_decides f.0.first p).0 m in
          let first : bytes_cmp e.first f.0.first ≡ Equal = (λ i. bytes_cmp (same i) (equal i)) ∙ tied_itself bytes_cmp-IsTotalOrder p in
          let less : option_cmp bytes_cmp (Some c) f.0.second ≡ Less = ap (λ s. option_cmp bytes_cmp s f.0.second) (sym second) ∙ second_less (bytes_cmp e.first f.0.first) (option_cmp bytes_cmp e.second f.0.second) first all.0 in
          elim f.0.second as (λ s. option_cmp bytes_cmp (Some c) s ≡ Less → Above c (put_first s (seconds p es))) [
            | None ↦ λ h. cc
            | Some d ↦ λ h. (h, seconds_above p c e es same second all.1)
          ] less
      | false ↦ λ m. seconds_above p c e es same second all.1
    ] refl

pub seconds_sorted : (p : List ℕ) (es : List (Pair × Unit {0})) → IsStrictlySortedBy pair_cmp (keys_of es) → IsStrictlySortedBy bytes_cmp (seconds p es)
unfolding IsStrictlySortedBy Above
seconds_sorted p [] sorted = tt
seconds_sorted p (e ∷ es) sorted =
    elim (bytes_eq e.0.first p) as (λ m. bytes_eq e.0.first p ≡ m → IsStrictlySortedBy bytes_cmp (put_first (if m then e.0.second else None) (seconds p es))) [
      | true ↦ λ m.
          elim e.0.second as (λ s. e.0.second ≡ s → IsStrictlySortedBy bytes_cmp (put_first s (seconds p es))) [
            | None ↦ λ h. seconds_sorted p es sorted.1
            | Some c ↦ λ h. (seconds_above p c e.0 es ((bytes_decides e.0.first p).0 m) h sorted.0, seconds_sorted p es sorted.1)
          ] refl
      | false ↦ λ m. seconds_sorted p es sorted.1
    ] refl

-- ---- which they are
abbrev named_by : Option (List ℕ) → List ℕ → Bool
named_by None q = false
named_by (Some c) q = bytes_eq q c

has_first : (s : Option (List ℕ)) (ks : List (List ℕ)) (q : List ℕ) → has (put_first s ks) q ≡ (named_by s q || has ks q)
has_first None ks q = refl
has_first (Some c) ks q = refl

test_is : (p q : List ℕ) (e : Pair) → is_eq (pair_cmp (record { first = p; second = Some q }) e) ≡ named_by (if bytes_eq e.first p then e.second else None) q
test_is p q e =
    ap (λ s. is_eq s) refl
    ∙ parts (bytes_cmp p e.first) e.second
    ∙ ap (λ b. named_by (if b then e.second else None) q) (sym (texts_ties p e.first) ∙ nat_list_eq_equiv.symm p e.first)
  where
    parts : (r : Ordering) (s : Option (List ℕ)) → is_eq (ordering_then r (option_cmp bytes_cmp (Some q) s)) ≡ named_by (if is_eq r then s else None) q
    parts Less s = refl
    parts Greater s = refl
    parts Equal None = refl
    parts Equal (Some c) = sym (texts_ties q c)

some_or : (b : Bool) (v : Unit {0}) (r : Option (Unit {0})) → is_some (cond b (Some v) r) ≡ (b || is_some r)
some_or true v r = refl
some_or false v r = refl

pub has_seconds : (p q : List ℕ) (es : List (Pair × Unit {0})) → has (seconds p es) q ≡ is_some (value_at pair_cmp (record { first = p; second = Some q }) es)
has_seconds p q [] = refl
has_seconds p q (e ∷ es) =
    has_first (second_of p e) (seconds p es) q
    ∙ (λ i. sym (test_is p q e.0) i || has_seconds p q es i)
    ∙ sym (some_or (is_eq (pair_cmp (record { first = p; second = Some q }) e.0)) e.1 (value_at pair_cmp (record { first = p; second = Some q }) es))

-- ---- a walk over names in order
after_all : (c : List ℕ) (xs : List (List ℕ)) → Above c xs → rest_after (Some c) xs ≡ xs
unfolding Above
after_all c [] all = refl
after_all c (x ∷ xs) all = λ i. cond (is_lt (all.0 i)) (x ∷ after_all c xs all.1 i) (after_all c xs all.1 i)

come_all : (a : Option (List ℕ)) (x : List ℕ) (xs : List (List ℕ)) → comes_after a x ≡ true → Above x xs → rest_after a xs ≡ xs
unfolding Above
come_all None x xs h all = none xs
  where
    none : (xs : List (List ℕ)) → rest_after None xs ≡ xs
    none [] = refl
    none (x ∷ xs) = ap (λ l. x ∷ l) (none xs)
come_all (Some a) x xs h all = after_all a xs (chain a x xs (less (bytes_cmp a x) h) all)
  where
    less : (r : Ordering) → is_lt r ≡ true → r ≡ Less
    less Less h = refl
    less Equal h = absurd (true≢false (sym h))
    less Greater h = absurd (true≢false (sym h))

    chain : (a x : List ℕ) (ys : List (List ℕ)) → bytes_cmp a x ≡ Less → AllByRecursion (λ y. bytes_cmp x y ≡ Less) ys → AllByRecursion (λ y. bytes_cmp a y ≡ Less) ys
    chain a x [] p h = tt
    chain a x (z ∷ ys) p h = (bytes_cmp-IsTotalOrder.trans a x z p h.0, chain a x ys p h.1)

not_after : (x c : List ℕ) → bytes_cmp x c ≡ Less → comes_after (Some c) x ≡ false
not_after x c h = ap is_lt (bytes_cmp-IsTotalOrder.antisymm c x ∙ ap ordering_reverse h)

first_above : (x c : List ℕ) (a : Option (List ℕ)) (xs : List (List ℕ)) → Above x xs → first_of (rest_after a xs) ≡ Some c → bytes_cmp x c ≡ Less
unfolding Above
first_above x c a [] all h = cc
first_above x c a (y ∷ ys) all h =
    elim (comes_after a y) as (λ b. first_of (cond b (y ∷ rest_after a ys) (rest_after a ys)) ≡ Some c → bytes_cmp x c ≡ Less) [
      | true ↦ λ e. let same : y ≡ c = cc in subst (λ z. bytes_cmp x z ≡ Less) same all.0
      | false ↦ λ e. first_above x c a ys all.1 e
    ] h

left_more : (x : List ℕ) (n : Option (List ℕ)) (xs : List (List ℕ)) → ((c : List ℕ) → n ≡ Some c → bytes_cmp x c ≡ Less) → left_from n (x ∷ xs) ≡ left_from n xs
left_more x None xs h = refl
left_more x (Some c) xs h = ap (λ b. c ∷ cond b (x ∷ rest_after (Some c) xs) (rest_after (Some c) xs)) (not_after x c (h c refl))

pub left_rest : (a : Option (List ℕ)) (ks : List (List ℕ)) → IsStrictlySortedBy bytes_cmp ks → left_from (first_of (rest_after a ks)) ks ≡ rest_after a ks
unfolding IsStrictlySortedBy Above
left_rest a [] sorted = refl
left_rest a (x ∷ xs) sorted =
    elim (comes_after a x) as (λ b. comes_after a x ≡ b → left_from (first_of (cond b (x ∷ rest_after a xs) (rest_after a xs))) (x ∷ xs) ≡ cond b (x ∷ rest_after a xs) (rest_after a xs)) [
      | true ↦ λ h.
          ap (λ b. x ∷ cond b (x ∷ rest_after (Some x) xs) (rest_after (Some x) xs)) (ap is_lt (tied_itself bytes_cmp-IsTotalOrder x))
          ∙ ap (λ l. x ∷ l) (after_all x xs sorted.0 ∙ sym (come_all a x xs h sorted.0))
      | false ↦ λ h. left_more x (first_of (rest_after a xs)) xs (λ c e. first_above x c a xs sorted.0 e) ∙ left_rest a xs sorted.1
    ] refl

pub rest_none : (ks : List (List ℕ)) → rest_after None ks ≡ ks
rest_none [] = refl
rest_none (x ∷ xs) = ap (λ l. x ∷ l) (rest_none xs)

-- what follows where a call was Ok
pub on_ok : {X E : Type 0} (P : Type 0) (r : Result X E) → is_err r ≡ false → OnOk r P → P
on_ok P (Ok x) h p = p
on_ok P (Err e) h p = cc

-- the names of entries, first and above another
pub first_key : (es : List (List ℕ × Unit {0})) (o : Option (List ℕ × Unit {0})) → o ≡ first_of es → option_map (λ e. e.0) o ≡ first_of (rest_after None (keys_of es))
first_key es o h = ap (option_map (λ e. e.0)) h ∙ front es ∙ ap first_of (sym (rest_none (keys_of es)))
  where
    front : (es : List (List ℕ × Unit {0})) → option_map (λ e. e.0) (first_of es) ≡ first_of (keys_of es)
    front [] = refl
    front (e ∷ es) = refl

pub next_key : (k : List ℕ) (es : List (List ℕ × Unit {0})) (o : Option (List ℕ × Unit {0})) → o ≡ first_of (entries_after bytes_cmp k es) → option_map (λ e. e.0) o ≡ first_of (rest_after (Some k) (keys_of es))
next_key k es o h = ap (option_map (λ e. e.0)) h ∙ front es
  where
    front : (es : List (List ℕ × Unit {0})) → option_map (λ e. e.0) (first_of (entries_after bytes_cmp k es)) ≡ first_of (rest_after (Some k) (keys_of es))
    front [] = refl
    front (e ∷ es) =
        elim (is_lt (bytes_cmp k e.0)) as (λ b. option_map (λ f. f.0) (first_of (cond b (e ∷ entries_after bytes_cmp k es) (entries_after bytes_cmp k es))) ≡ first_of (cond b (e.0 ∷ rest_after (Some k) (keys_of es)) (rest_after (Some k) (keys_of es)))) [
          | true ↦ refl
          | false ↦ front es
        ]
