-- The two orders of the artifacts.
use Rattle.std.proofs.Common.{◌≡◌, ℕ, ◌+◌, Bool, true, false, not, cond, List, [], ◌∷◌, ◌++◌, map, reverse, refl, sym, ap, ap₂, ◌∙◌, append-nil, map-id, arith}
use Rattle.std.specs.List.{filter, range_with_len}
use Rattle.std.specs.List.Sorted.{IsPermutation}
use Rattle.std.proofs.lemmas.List.{length-map, map-append}
use Rattle.std.proofs.lemmas.List.Elements.{filter-append}
use Rattle.std.proofs.lemmas.List.FromFn.{length-range_with_len, map-range_with_len_more}
use Rattle.std.proofs.lemmas.List.Sorted.{IsPermutation-append_left, IsPermutation-filter_both, IsPermutation-reverse, IsPermutation-trans, length_permutation}
use mathlib.Core.List.{reverse_aux}
use Rattle.fsl_name.specs.Name.{name_of}
use Rattle.fsl_gen.specs.Artifacts.{artifact_text, names_before}
use Rattle.fsl_gen.specs.Arrival.{ArrivesEachOnce, HasAsMany, IsReversed, arrival, arrival_from, generated, is_odd}

map_onto : {A B : Type 0} (f : A → B) (xs ys : List A) → map f (reverse_aux xs ys) ≡ reverse_aux (map f xs) (map f ys)
map_onto f [] ys = refl
map_onto f (x ∷ xs) ys = map_onto f xs (x ∷ ys)

map_reverse : {A B : Type 0} (f : A → B) (xs : List A) → map f (reverse xs) ≡ reverse (map f xs)
map_reverse f xs = map_onto f xs []

-- ---- one number more

-- the texts of the numbers before one that pass a test, in order
abbrev pub texts_of : (ℕ → Bool) → ℕ → List (List ℕ)
texts_of p i = map artifact_text (filter p (range_with_len 0 i))

range_more : (i : ℕ) → range_with_len 0 (i + 1) ≡ range_with_len 0 i ++ i ∷ []
range_more i =
    sym (map-id (range_with_len 0 (i + 1))) ∙ map-range_with_len_more (λ j. j) 0 i i (omega arith)
    ∙ ap (λ numbers. numbers ++ i ∷ []) (map-id (range_with_len 0 i))

filter_more : (p : ℕ → Bool) (i : ℕ) → filter p (range_with_len 0 (i + 1)) ≡ filter p (range_with_len 0 i) ++ filter p (i ∷ [])
filter_more p i = ap (filter p) (range_more i) ∙ filter-append p (range_with_len 0 i) (i ∷ [])

pub texts_more : (p : ℕ → Bool) (i : ℕ) → p i ≡ true → texts_of p (i + 1) ≡ texts_of p i ++ artifact_text i ∷ []
texts_more p i h =
    ap (map artifact_text) (filter_more p i) ∙ map-append artifact_text (filter p (range_with_len 0 i)) (filter p (i ∷ []))
    ∙ ap (λ b. texts_of p i ++ map artifact_text (cond b (i ∷ []) [])) h

pub texts_same : (p : ℕ → Bool) (i : ℕ) → p i ≡ false → texts_of p (i + 1) ≡ texts_of p i
texts_same p i h =
    ap (map artifact_text) (filter_more p i) ∙ map-append artifact_text (filter p (range_with_len 0 i)) (filter p (i ∷ []))
    ∙ ap (λ b. texts_of p i ++ map artifact_text (cond b (i ∷ []) [])) h ∙ append-nil (texts_of p i)

pub names_more : (i : ℕ) → names_before (i + 1) ≡ names_before i ++ name_of (artifact_text i) ∷ []
names_more i = map-range_with_len_more (λ j. name_of (artifact_text j)) 0 i i (omega arith)

-- ---- all of them

pub in_order : (count : ℕ) → reverse (texts_of is_odd count) ++ texts_of (λ i. not (is_odd i)) count ≡ generated count false
unfolding generated
in_order count =
    let numbers = range_with_len 0 count in
    ap (λ texts. texts ++ texts_of (λ i. not (is_odd i)) count) (sym (map_reverse artifact_text (filter is_odd numbers)))
    ∙ sym (map-append artifact_text (reverse (filter is_odd numbers)) (filter (λ i. not (is_odd i)) numbers))

pub is_reversed : IsReversed
unfolding generated
is_reversed count = map_reverse artifact_text (arrival count)

each_once : (count : ℕ) → IsPermutation (range_with_len 0 count) (arrival count)
each_once count =
    let numbers = range_with_len 0 count in
    let odd = filter is_odd numbers in
    let even = filter (λ i. not (is_odd i)) numbers in
    IsPermutation-trans numbers (odd ++ even) (reverse odd ++ even)
    (IsPermutation-filter_both is_odd (λ i. not (is_odd i)) (λ i. refl) numbers)
    (IsPermutation-append_left even odd (reverse odd) (IsPermutation-reverse odd))

pub arrives : ArrivesEachOnce
arrives count false = each_once count
arrives count true =
    IsPermutation-trans (range_with_len 0 count) (arrival count) (reverse (arrival count)) (each_once count) (IsPermutation-reverse (arrival count))

-- ---- the steps of the generator

pub named_step : (names more : List (List ℕ)) (name bytes text : List ℕ) (i : ℕ) → names ≡ names_before i → more ≡ names ++ name ∷ [] → name ≡ name_of bytes → bytes ≡ text → text ≡ artifact_text i → more ≡ names_before (i + 1)
named_step names more name bytes text i a b d e f =
    b ∙ ap (λ ns. ns ++ name ∷ []) a ∙ ap (λ n. names_before i ++ n ∷ []) (d ∙ ap name_of (e ∙ f)) ∙ sym (names_more i)

pub put_step : (p : ℕ → Bool) (texts more : List (List ℕ)) (text : List ℕ) (i : ℕ) → p i ≡ true → texts ≡ texts_of p i → more ≡ texts ++ text ∷ [] → text ≡ artifact_text i → more ≡ texts_of p (i + 1)
put_step p texts more text i h a b f =
    b ∙ ap (λ ts. ts ++ text ∷ []) a ∙ ap (λ t. texts_of p i ++ t ∷ []) f ∙ sym (texts_more p i h)

pub pass_step : (p : ℕ → Bool) (texts : List (List ℕ)) (i : ℕ) → p i ≡ false → texts ≡ texts_of p i → texts ≡ texts_of p (i + 1)
pass_step p texts i h a = a ∙ sym (texts_same p i h)

pub joined : (odd turned even whole : List (List ℕ)) (i count : ℕ) → i ≡ count → odd ≡ texts_of is_odd i → even ≡ texts_of (λ j. not (is_odd j)) i → turned ≡ reverse odd → whole ≡ turned ++ even → whole ≡ generated count false
joined odd turned even whole i count n a b d e =
    e ∙ ap₂ (λ t v. t ++ v) (d ∙ ap reverse a) b ∙ in_order i ∙ ap (λ k. generated k false) n

pub forward : (whole : List (List ℕ)) (count : ℕ) (reversed : Bool) → reversed ≡ false → whole ≡ generated count false → whole ≡ generated count reversed
forward whole count reversed h e = e ∙ ap (generated count) (sym h)

pub backward : (whole turned : List (List ℕ)) (count : ℕ) (reversed : Bool) → reversed ≡ true → whole ≡ generated count false → turned ≡ reverse whole → turned ≡ generated count reversed
backward whole turned count reversed h e d = d ∙ ap reverse e ∙ sym (is_reversed count) ∙ ap (generated count) (sym h)

pub as_many : HasAsMany
unfolding generated
as_many count reversed =
    let numbers = range_with_len 0 count in
    length-map (arrival_from reversed count) artifact_text
    ∙ length_permutation numbers (arrival_from reversed count) (arrives count reversed)
    ∙ length-range_with_len 0 count
