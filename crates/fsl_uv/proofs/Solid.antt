-- Words that stand in a line: none has a space or a newline, and each is the word of one value.
use Rattle.std.proofs.Common.{◌≡◌, ℕ, suc, ◌+◌, ◌<◌, ◌^◌, Bool, true, false, cond, eqb, List, [], ◌∷◌, ◌++◌, length, take, drop, get_or, position, Option, Some, None, refl, sym, ap, subst, ◌∙◌, arith, add-one, drop-cons}
use Rattle.std.specs.Prelude.{◌==◌, ◌&&◌, ◌||◌, not, decimal, codes}
use Rattle.std.specs.List.{list_all}
use Rattle.std.specs.Cmp.Lexicographic.{pointwise}
use Rattle.std.proofs.lemmas.Bool.{eqb-true, and_from, not-true}
use Rattle.std.proofs.lemmas.List.{take-append-drop, length-take-le, get_or-take}
use Rattle.std.proofs.lemmas.List.Folds.{list_all-append}
use Rattle.std.proofs.lemmas.List.Sums.{fails_before_first}
use Rattle.std.proofs.lemmas.List.Quantifiers.{position-Some}
use Rattle.fsl_order.proofs.Booleans.{first_holds, second_holds}
use Rattle.fsl_text.specs.Bytes.{is_empty}
use Rattle.fsl_text.specs.Escapes.{escape, escaped_byte, unescape}
use Rattle.fsl_text.specs.Decimals.{decimal_value, is_decimal_digit}
use Rattle.fsl_text.proofs.Bytewise.{none_past, weaker}
use Rattle.fsl_text.proofs.DecimalTexts.{decimal_is}
use Rattle.fsl_text.proofs.Unescaping.{unescape-escape}
use Rattle.fsl_name.specs.Name.{IsName, name_text, name_in, is_name_digit, are_digits}
use Rattle.fsl_name.proofs.ReadAgain.{name_again}
use Rattle.fsl_date.specs.Moment.{IsMoment, moment_text, date_in, has_date_shape, fits_place}
use Rattle.fsl_date.proofs.MomentTexts.{is_read}
use Rattle.fsl_uv.specs.Cards.{hashed}
use Rattle.fsl_uv.specs.Words.{stands, IsHash}

-- ---- a byte that stands in a text or doesn't

eqb_self : (x : ℕ) → eqb x x ≡ true
eqb_self x = grind arith

abbrev pub Lacks : ℕ → List ℕ → Type 0
Lacks c text = stands c text ≡ false

or_left : (a b : Bool) → (a || b) ≡ false → a ≡ false
or_left true b h = h
or_left false b h = refl

or_right : (a b : Bool) → (a || b) ≡ false → b ≡ false
or_right true b h = absurd cc
or_right false b h = h

-- a text that has the byte
pub has-byte : (c : ℕ) (a r : List ℕ) → Lacks c (a ++ c ∷ r) → ⊥
has-byte c [] r h = let e = sym (eqb_self c) ∙ or_left (eqb c c) (stands c r) h in cc
has-byte c (x ∷ a) r h = has-byte c a r (or_right (eqb x c) (stands c (a ++ c ∷ r)) h)

-- what stands before the first such byte is one text, and so is what stands behind it
pub unique : (c : ℕ) (a r b s : List ℕ) → Lacks c a → Lacks c b → a ++ c ∷ r ≡ b ++ c ∷ s → (a ≡ b) × (r ≡ s)
unique c [] r [] s h k e = (refl, ap tail e)
  where
    tail : List ℕ → List ℕ
    tail [] = []
    tail (x ∷ xs) = xs
unique c [] r (y ∷ b) s h k e = absurd (let f = sym (or_left (eqb y c) (stands c b) k) ∙ ap (λ x. eqb x c) (sym (head c y (c ∷ r) (y ∷ b ++ c ∷ s) refl refl e)) ∙ eqb_self c in cc)
  where
    first : List ℕ → ℕ
    first [] = 0
    first (x ∷ xs) = x

    head : (c y : ℕ) (xs ys : List ℕ) → first xs ≡ c → first ys ≡ y → xs ≡ ys → c ≡ y
    head c y xs ys p q e = sym p ∙ ap first e ∙ q
unique c (x ∷ a) r [] s h k e = absurd (let f = sym (or_left (eqb x c) (stands c a) h) ∙ ap (λ z. eqb z c) (ap first e) ∙ eqb_self c in cc)
  where
    first : List ℕ → ℕ
    first [] = 0
    first (x ∷ xs) = x
unique c (x ∷ a) r (y ∷ b) s h k e =
    let rest = unique c a r b s (or_right (eqb x c) (stands c a) h) (or_right (eqb y c) (stands c b) k) (ap tail e) in
    let one : x ≡ y = ap first e in
    ((λ i. one i ∷ rest.0 i), rest.1)
  where
    first : List ℕ → ℕ
    first [] = 0
    first (x ∷ xs) = x

    tail : List ℕ → List ℕ
    tail [] = []
    tail (x ∷ xs) = xs

-- ---- a split at the first such byte

lacks_each : (c : ℕ) (s : List ℕ) → ((k : ℕ) → k < length s → eqb (get_or s k 0) c ≡ false) → Lacks c s
lacks_each c [] h = refl
lacks_each c (b ∷ bs) h = ap (λ t. t || stands c bs) (h 0 (omega arith)) ∙ lacks_each c bs (λ k lt. h (suc k) (omega arith))

pub no-place : (c : ℕ) (s : List ℕ) → position (λ b. b == c) s ≡ None → Lacks c s
no-place c s h =
    let past = none_past _ (length s) h in
    lacks_each c s (λ k lt. fails_before_first (λ b. b == c) s k 0 (omega arith))

pub record SplitAt (c : ℕ) (s : List ℕ) (end : ℕ) : Type 0 where
  pub before : Lacks c (take end s)
  pub within : end < length s
  pub whole : s ≡ take end s ++ c ∷ drop (end + 1) s

pub at-place : (c : ℕ) (s : List ℕ) (end : ℕ) → position (λ b. b == c) s ≡ Some end → SplitAt c s end
at-place c s end h =
    let p = position-Some (λ b. b == c) s end 0 h in
    let within : end < length s = p.0 in
    let here : get_or s end 0 ≡ c = eqb-true _ _ p.1 in
    let len : length (take end s) ≡ end = length-take-le end s (omega arith) in
    let tail : drop end s ≡ c ∷ drop (end + 1) s = rw add-one (drop-cons s end 0 within ∙ ap (λ (b : ℕ). b ∷ drop (suc end) s) here) in
    record {
      before = lacks_each c (take end s) (λ k lt. let lower : k < end = omega arith in ap (λ b. eqb b c) (get_or-take end s k 0 lower) ∙ p.2 k lower);
      within = within;
      whole = sym (take-append-drop end s) ∙ ap (λ (r : List ℕ). take end s ++ r) tail;
    }

-- ---- solid texts

abbrev pub solid : ℕ → Bool
solid b = not (b == 32) && not (b == 10)

abbrev pub Solid : List ℕ → Type 0
Solid text = list_all solid text ≡ true

pub solid-space : (text : List ℕ) → Solid text → Lacks 32 text
solid-space [] h = refl
solid-space (b ∷ text) h =
    (λ i. not-true (b == 32) (first_holds (not (b == 32)) (not (b == 10)) (first_holds (solid b) (list_all solid text) h)) i || stands 32 text)
    ∙ solid-space text (second_holds (solid b) (list_all solid text) h)

pub solid-newline : (text : List ℕ) → Solid text → Lacks 10 text
solid-newline [] h = refl
solid-newline (b ∷ text) h =
    (λ i. not-true (b == 10) (second_holds (not (b == 32)) (not (b == 10)) (first_holds (solid b) (list_all solid text) h)) i || stands 10 text)
    ∙ solid-newline text (second_holds (solid b) (list_all solid text) h)

digit_solid : (b : ℕ) → is_decimal_digit b ≡ true → solid b ≡ true
digit_solid b h = grind (arith, h)

name_digit_solid : (b : ℕ) → is_name_digit b ≡ true → solid b ≡ true
name_digit_solid b h = grind (arith, h)

-- ---- moments

shape_byte : (place b : ℕ) (t : Bool) → (place == 57) ≡ t → cond t (is_decimal_digit b) (b == place) ≡ true → solid place ≡ true → solid b ≡ true
shape_byte place b true e h s = digit_solid b h
shape_byte place b false e h s = subst (λ (x : ℕ). solid x ≡ true) (sym (eqb-true b place h)) s

shaped : (shape text : List ℕ) → pointwise fits_place shape text ≡ true → Solid shape → Solid text
shaped [] [] h s = refl
shaped [] (b ∷ text) h s = absurd cc
shaped (p ∷ shape) [] h s = absurd cc
shaped (p ∷ shape) (b ∷ text) h s =
    and_from (solid b) (list_all solid text)
    (shape_byte p b (p == 57) refl (first_holds (fits_place p b) (pointwise fits_place shape text) h) (first_holds (solid p) (list_all solid shape) s))
    (shaped shape text (second_holds (fits_place p b) (pointwise fits_place shape text) h) (second_holds (solid p) (list_all solid shape) s))

dated : (text : List ℕ) (a b : Bool) → pointwise fits_place (codes "9999-99-99T99:99:99") text ≡ a → pointwise fits_place (codes "9999-99-99T99:99:99.999") text ≡ b → (a || b) ≡ true → Solid text
dated text true b p q h = shaped (codes "9999-99-99T99:99:99") text p refl
dated text false true p q h = shaped (codes "9999-99-99T99:99:99.999") text q refl
dated text false false p q h = absurd cc

pub moment-again : (m : ℕ) → IsMoment m → date_in (moment_text m) ≡ Some m
moment-again m h = is_read m h (moment_text m) refl

pub some_shape : (text : List ℕ) (m : ℕ) (shape civil : Bool) (v : ℕ) → cond (shape && civil) (Some v) None ≡ Some m → shape ≡ true
some_shape text m true civil v h = refl
some_shape text m false civil v h = absurd cc

pub moment-solid : (m : ℕ) → IsMoment m → Solid (moment_text m)
moment-solid m h = dated (moment_text m) _ _ refl refl (some_shape (moment_text m) m (has_date_shape (moment_text m)) _ _ (moment-again m h))

inside : (x y : ℕ) → Some x ≡ Some y → x ≡ y
inside x y e = cc

pub one-moment : (a b : ℕ) → IsMoment a → IsMoment b → moment_text a ≡ moment_text b → a ≡ b
one-moment a b h k e = inside a b (sym (moment-again a h) ∙ ap date_in e ∙ moment-again b k)

-- ---- numbers

pub decimal-solid : (n : ℕ) → n < 2 ^ 64 → Solid (decimal n)
decimal-solid n h = weaker is_decimal_digit solid digit_solid (decimal n) (second_holds (not (is_empty (decimal n))) (list_all is_decimal_digit (decimal n)) (decimal_is n h).0)

pub one-decimal : (a b : ℕ) → a < 2 ^ 64 → b < 2 ^ 64 → decimal a ≡ decimal b → a ≡ b
one-decimal a b h k e = sym (decimal_is a h).1 ∙ ap decimal_value e ∙ (decimal_is b k).1

-- ---- hashes

digits_of_name : (text name : List ℕ) (b : Bool) → are_digits 40 text ≡ b → name_in text ≡ Some name → are_digits 40 text ≡ true
digits_of_name text name true e h = e
digits_of_name text name false e h = let s : None ≡ Some name = sym (rw e refl) ∙ h in cc

pub name-digits : (name : List ℕ) → IsName name → are_digits 40 (name_text name) ≡ true
name-digits name h = digits_of_name (name_text name) name (are_digits 40 (name_text name)) refl (name_again name h)

pub name-solid : (name : List ℕ) → IsName name → Solid (name_text name)
name-solid name h =
    let text = name_text name in
    let digits = digits_of_name text name (are_digits 40 text) refl (name_again name h) in
    weaker is_name_digit solid name_digit_solid text (second_holds (length text == 40) (list_all is_name_digit text) digits)

pub hash-solid : (hash : Option (List ℕ)) → IsHash hash → Solid (hashed hash)
hash-solid None h = refl
hash-solid (Some name) h = name-solid name h

some_name : (x y : List ℕ) → Some x ≡ Some y → x ≡ y
some_name x y e = cc

pub one-hash : (a b : Option (List ℕ)) → IsHash a → IsHash b → hashed a ≡ hashed b → a ≡ b
one-hash None None h k e = refl
one-hash None (Some y) h k e = let s : None ≡ Some y = ap name_in e ∙ name_again y k in cc
one-hash (Some x) None h k e = let s : None ≡ Some x = ap name_in (sym e) ∙ name_again x h in cc
one-hash (Some x) (Some y) h k e = ap Some (some_name x y (sym (name_again x h) ∙ ap name_in e ∙ name_again y k))

-- ---- paths

plain_solid : (b : ℕ) → (b == 32) ≡ false → (b == 10) ≡ false → list_all solid (b ∷ []) ≡ true
plain_solid b s n = rw (s, n) refl

abbrev chosen : ℕ → Bool → Bool → Bool → Bool → Bool → Bool → Bool → Bool → List ℕ
chosen b s n k t r v f z =
    cond s (92 ∷ 115 ∷ []) (cond n (92 ∷ 110 ∷ []) (cond k (92 ∷ 92 ∷ []) (cond t (92 ∷ 116 ∷ []) (cond r (92 ∷ 114 ∷ []) (cond v (92 ∷ 118 ∷ []) (cond f (92 ∷ 102 ∷ []) (cond z (92 ∷ 48 ∷ []) (b ∷ []))))))))

chosen_solid : (b : ℕ) (s n k t r v f z : Bool) → (b == 32) ≡ s → (b == 10) ≡ n → list_all solid (chosen b s n k t r v f z) ≡ true
chosen_solid b true n k t r v f z es en = refl
chosen_solid b false true k t r v f z es en = refl
chosen_solid b false false true t r v f z es en = refl
chosen_solid b false false false true r v f z es en = refl
chosen_solid b false false false false true v f z es en = refl
chosen_solid b false false false false false true f z es en = refl
chosen_solid b false false false false false false true z es en = refl
chosen_solid b false false false false false false false true es en = refl
chosen_solid b false false false false false false false false es en = plain_solid b es en

pub escape-solid : (text : List ℕ) → Solid (escape text)
escape-solid [] = refl
escape-solid (b ∷ text) =
    list_all-append solid (escaped_byte b) (escape text)
    ∙ (λ i. chosen_solid b (b == 32) (b == 10) (b == 92) (b == 9) (b == 13) (b == 11) (b == 12) (b == 0) refl refl i && escape-solid text i)

pub one-path : (a b : List ℕ) → escape a ≡ escape b → a ≡ b
one-path a b e = sym (unescape-escape a) ∙ ap unescape e ∙ unescape-escape b
