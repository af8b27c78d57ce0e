-- A name is read from its digits, and from nothing else.
use Rattle.std.proofs.Common.{◌≡◌, ℕ, zero, suc, ◌+◌, ◌*◌, ◌/◌, ◌%◌, ◌<◌, ◌≤◌, Bool, true, false, cond, eqb, ltb, List, [], ◌∷◌, length, Option, Some, None, refl, sym, ap, subst, ◌∙◌, arith}
use Rattle.std.specs.Prelude.{◌&&◌, ◌||◌, nat_le, slice_index}
use Rattle.std.specs.List.{list_all}
use Rattle.std.proofs.lemmas.Bool.{eqb-true, and_from}
use Rattle.hex.specs.Hex.{encode_with, lower_digits}
use Rattle.fsl_order.proofs.Booleans.{first_holds, second_holds}
use Rattle.fsl_text.specs.Bytes.{AreBytes}
use Rattle.fsl_name.specs.Name.{is_name_digit, digit_worth, bytes_of_digits, name_text, name_in, are_digits, IsName, IsNameText}

-- a test holds of each number below n
abbrev below : (ℕ → Bool) → ℕ → Bool
below p zero = true
below p (suc n) = p n && below p n

below_by : (p : ℕ → Bool) (n k : ℕ) (t : Bool) → eqb k n ≡ t → k < suc n → (p n && below p n) ≡ true → (k < n → p k ≡ true) → p k ≡ true
below_by p n k true e lt h more = subst (λ (m : ℕ). p m ≡ true) (sym (eqb-true k n e)) (first_holds (p n) (below p n) h)
below_by p n k false e lt h more = more (grind arith)

each_below : (p : ℕ → Bool) (n k : ℕ) → k < n → below p n ≡ true → p k ≡ true
each_below p zero k lt h = absurd (omega arith)
each_below p (suc n) k lt h = below_by p n k (eqb k n) refl lt h (λ less. each_below p n k less (second_holds (p n) (below p n) h))

-- ---- digits

-- each of the sixteen digits is a digit of a name, and worth its place
abbrev is_right_digit : ℕ → Bool
is_right_digit d = eqb (digit_worth (slice_index lower_digits d)) d && is_name_digit (slice_index lower_digits d)

right_digits : below is_right_digit 16 ≡ true
right_digits = refl

worth_of_digit : (d : ℕ) → d < 16 → digit_worth (slice_index lower_digits d) ≡ d
worth_of_digit d lt =
    eqb-true (digit_worth (slice_index lower_digits d)) d (first_holds (eqb (digit_worth (slice_index lower_digits d)) d) (is_name_digit (slice_index lower_digits d)) (each_below is_right_digit 16 d lt right_digits))

digit_is : (d : ℕ) → d < 16 → is_name_digit (slice_index lower_digits d) ≡ true
digit_is d lt =
    second_holds (eqb (digit_worth (slice_index lower_digits d)) d) (is_name_digit (slice_index lower_digits d)) (each_below is_right_digit 16 d lt right_digits)

-- each digit of a name is the digit of what it is worth, which is below 16
abbrev is_own_digit : ℕ → Bool
is_own_digit c = cond (is_name_digit c) (eqb (slice_index lower_digits (digit_worth c)) c && ltb (digit_worth c) 16) true

own_digits : below is_own_digit 103 ≡ true
own_digits = refl

-- ---- from a name to its digits and back

pub bytes_again : (name : List ℕ) → AreBytes name → bytes_of_digits (encode_with lower_digits name) ≡ name
unfolding encode_with
bytes_again [] h = refl
bytes_again (b ∷ name) h =
    let high = worth_of_digit (b / 16) (omega (arith, h.0)) in
    let low = worth_of_digit (b % 16) (omega arith) in
    let value : 16 * digit_worth (slice_index lower_digits (b / 16)) + digit_worth (slice_index lower_digits (b % 16)) ≡ b = rw (high, low) (omega arith) in
    let more = bytes_again name h.1 in
    λ i. value i ∷ more i

pub digits_all : (name : List ℕ) → AreBytes name → list_all is_name_digit (encode_with lower_digits name) ≡ true
unfolding encode_with
digits_all [] h = refl
digits_all (b ∷ name) h =
    and_from (is_name_digit (slice_index lower_digits (b / 16))) (is_name_digit (slice_index lower_digits (b % 16)) && list_all is_name_digit (encode_with lower_digits name))
    (digit_is (b / 16) (omega (arith, h.0)))
    (and_from (is_name_digit (slice_index lower_digits (b % 16))) (list_all is_name_digit (encode_with lower_digits name)) (digit_is (b % 16) (omega arith)) (digits_all name h.1))

pub length_digits : (name : List ℕ) → length (encode_with lower_digits name) ≡ 2 * length name
unfolding encode_with
length_digits [] = refl
length_digits (b ∷ name) = omega (arith, length_digits name)

pub name_again : (name : List ℕ) → IsName name → name_in (name_text name) ≡ Some name
name_again name h =
    let long : eqb (length (encode_with lower_digits name)) 40 ≡ true = rw (length_digits name, h.0) refl in
    rw (long, digits_all name h.1, bytes_again name h.1) refl

-- ---- from digits to the name and back

small_by : (c : ℕ) (t : Bool) → ltb c 103 ≡ t → is_name_digit c ≡ true → c < 103
small_by c true e h = grind arith
small_by c false e h =
    absurd (let large : 103 ≤ c = grind arith in
    let a : nat_le c 57 ≡ false = grind arith in
    let b : nat_le c 102 ≡ false = grind arith in
    let and_false : (x : Bool) → (x && false) ≡ false = elim [ true ↦ refl | false ↦ refl ] in
    let none : ((nat_le 48 c && nat_le c 57) || (nat_le 97 c && nat_le c 102)) ≡ false = rw (a, b, and_false (nat_le 48 c), and_false (nat_le 97 c)) refl in
    let f = sym none ∙ h in cc)

own_by : (c : ℕ) (t : Bool) → is_name_digit c ≡ t → cond t (eqb (slice_index lower_digits (digit_worth c)) c && ltb (digit_worth c) 16) true ≡ true → t ≡ true → (slice_index lower_digits (digit_worth c) ≡ c) × (ltb (digit_worth c) 16 ≡ true)
own_by c true e h k = (
  eqb-true (slice_index lower_digits (digit_worth c)) c (first_holds (eqb (slice_index lower_digits (digit_worth c)) c) (ltb (digit_worth c) 16) h),
  second_holds (eqb (slice_index lower_digits (digit_worth c)) c) (ltb (digit_worth c) 16) h,
)
own_by c false e h k = absurd cc

own_digit : (c : ℕ) → is_name_digit c ≡ true → (slice_index lower_digits (digit_worth c) ≡ c) × (ltb (digit_worth c) 16 ≡ true)
own_digit c h = own_by c (is_name_digit c) refl (each_below is_own_digit 103 c (small_by c (ltb c 103) refl h) own_digits) h

less_from : (m n : ℕ) → ltb m n ≡ true → m < n
less_from m n h = grind arith

high_of : (x y : ℕ) → y < 16 → (16 * x + y) / 16 ≡ x
high_of x y h = omega arith

low_of : (x y : ℕ) → y < 16 → (16 * x + y) % 16 ≡ y
low_of x y h = omega arith

byte_of : (x y : ℕ) → x < 16 → y < 16 → 16 * x + y < 256
byte_of x y h k = omega arith

-- two digits are a byte's halves
pub record Halves (c d : ℕ) : Type 0 where
  pub high : slice_index lower_digits ((16 * digit_worth c + digit_worth d) / 16) ≡ c
  pub low : slice_index lower_digits ((16 * digit_worth c + digit_worth d) % 16) ≡ d
  pub byte : 16 * digit_worth c + digit_worth d < 256

halves : (c d : ℕ) → is_name_digit c ≡ true → is_name_digit d ≡ true → Halves c d
halves c d h k =
    let oc = own_digit c h in
    let od = own_digit d k in
    let lc = less_from (digit_worth c) 16 oc.1 in
    let ld = less_from (digit_worth d) 16 od.1 in
    record {
      high = ap (slice_index lower_digits) (high_of (digit_worth c) (digit_worth d) ld) ∙ oc.0;
      low = ap (slice_index lower_digits) (low_of (digit_worth c) (digit_worth d) ld) ∙ od.0;
      byte = byte_of (digit_worth c) (digit_worth d) lc ld;
    }

pub record AreTheDigits (text : List ℕ) (k : ℕ) : Type 0 where
  pub spelled : encode_with lower_digits (bytes_of_digits text) ≡ text
  pub bytes : AreBytes (bytes_of_digits text)
  pub long : length (bytes_of_digits text) ≡ k

pub digits_back : (text : List ℕ) (k : ℕ) → length text ≡ 2 * k → list_all is_name_digit text ≡ true → AreTheDigits text k
unfolding encode_with
digits_back [] k e h = record { spelled = refl; bytes = tt; long = omega (arith, e) }
digits_back (c ∷ []) k e h = absurd (omega (arith, e))
digits_back (c ∷ d ∷ rest) zero e h = absurd (omega (arith, e))
digits_back (c ∷ d ∷ rest) (suc k) e h =
    let hc = first_holds (is_name_digit c) (is_name_digit d && list_all is_name_digit rest) h in
    let hr = second_holds (is_name_digit c) (is_name_digit d && list_all is_name_digit rest) h in
    let two = halves c d hc (first_holds (is_name_digit d) (list_all is_name_digit rest) hr) in
    let more = digits_back rest k (omega (arith, e)) (second_holds (is_name_digit d) (list_all is_name_digit rest) hr) in
    record { spelled = λ i. two.high i ∷ two.low i ∷ more.spelled i; bytes = (two.byte, more.bytes); long = omega (arith, more.long) }

abbrev some_name : List ℕ → Option (List ℕ)
some_name name = Some name

given_is : (t : Bool) (x name : List ℕ) → cond t (some_name x) None ≡ some_name name → (t ≡ true) × (x ≡ name)
given_is true x name e = (refl, cc)
given_is false x name e = absurd cc

pub name_from_text : (text name : List ℕ) → name_in text ≡ Some name → IsNameText text name
name_from_text text name e =
    let g = given_is (are_digits 40 text) (bytes_of_digits text) name e in
    let long : length text ≡ 40 = eqb-true (length text) 40 (first_holds (eqb (length text) 40) (list_all is_name_digit text) g.0) in
    let back = digits_back text 20 (long) (second_holds (eqb (length text) 40) (list_all is_name_digit text) g.0) in
    subst (λ (n : List ℕ). IsNameText text n) g.1 ((back.long, back.bytes), sym back.spelled)
