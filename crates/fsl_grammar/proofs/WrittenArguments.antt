-- What is written as an argument is one.
use Rattle.std.proofs.Common.{◌≡◌, ℕ, suc, ◌+◌, ◌*◌, Bool, true, false, not, cond, eqb, List, [], ◌∷◌, ◌++◌, length, refl, arith}
use Rattle.std.specs.Prelude.{◌&&◌, nat_le}
use Rattle.std.specs.List.{list_all}
use Rattle.std.proofs.lemmas.List.Folds.{list_all-append}
use Rattle.std.proofs.lemmas.Bool.{and_from}
use Rattle.hex.specs.Hex.{encode_lower, encode_with, lower_digits}
use Rattle.fsl_order.proofs.Booleans.{first_holds, second_holds}
use Rattle.fsl_text.specs.Bytes.{AreBytes, is_empty}
use Rattle.fsl_text.specs.Escapes.{escape, escaped_byte}
use Rattle.fsl_name.specs.Name.{IsName, is_name_digit, name_text}
use Rattle.fsl_name.specs.Ref.{IsRef, ref_text}
use Rattle.fsl_name.specs.declared.reference.Ref.{Ref}
use Rattle.fsl_name.specs.declared.reference.Ref.TheVariants.{Own, Foreign}
use Rattle.fsl_name.proofs.ReadAgain.{digits_all, length_digits}
use Rattle.fsl_date.specs.Moment.{moment_text}
use Rattle.fsl_card.specs.Cards.{is_argument, is_argument_byte}

-- ---- bytes

digit_byte : (n : ℕ) → is_argument_byte (48 + n) ≡ true
digit_byte n = grind arith

name_digit_byte : (b : ℕ) → is_name_digit b ≡ true → is_argument_byte b ≡ true
name_digit_byte b h = grind arith

between : (b : ℕ) → eqb b 9 ≡ false → eqb b 10 ≡ false → eqb b 11 ≡ false → eqb b 12 ≡ false → eqb b 13 ≡ false → (nat_le 9 b && nat_le b 13) ≡ false
between b h9 h10 h11 h12 h13 = grind arith

-- ---- escaped texts

-- what holds of the eight forms and of every other byte holds of a byte as it is written
escaped_by : (P : List ℕ → Type 0) (b c form : ℕ) (t : Bool) (other : List ℕ) → eqb b c ≡ t → P (92 ∷ form ∷ []) → (t ≡ false → P other) → P (cond t (92 ∷ form ∷ []) other)
escaped_by P b c form true other e h more = h
escaped_by P b c form false other e h more = more refl

each_escaped : (P : List ℕ → Type 0) (b : ℕ) → ((form : ℕ) → is_argument_byte form ≡ true → P (92 ∷ form ∷ [])) → (is_argument_byte b ≡ true → P (b ∷ [])) → P (escaped_byte b)
each_escaped P b two one =
    escaped_by P b 32 115 (eqb b 32) _ refl (two 115 refl) λ h32.
    escaped_by P b 10 110 (eqb b 10) _ refl (two 110 refl) λ h10.
    escaped_by P b 92 92 (eqb b 92) _ refl (two 92 refl) λ h92.
    escaped_by P b 9 116 (eqb b 9) _ refl (two 116 refl) λ h9.
    escaped_by P b 13 114 (eqb b 13) _ refl (two 114 refl) λ h13.
    escaped_by P b 11 118 (eqb b 11) _ refl (two 118 refl) λ h11.
    escaped_by P b 12 102 (eqb b 12) _ refl (two 102 refl) λ h12.
    escaped_by P b 0 48 (eqb b 0) _ refl (two 48 refl) λ h0.
    one (rw (h0, h32, between b h9 h10 h11 h12 h13) refl)

escaped_byte_fits : (b : ℕ) → list_all is_argument_byte (escaped_byte b) ≡ true
escaped_byte_fits b =
    let P : List ℕ → Type 0 = λ text. list_all is_argument_byte text ≡ true in
    each_escaped P b (λ form h. rw h refl) (λ h. rw h refl)

escape_fits : (text : List ℕ) → list_all is_argument_byte (escape text) ≡ true
escape_fits [] = refl
escape_fits (b ∷ text) = rw (list_all-append, escaped_byte_fits b, escape_fits text) refl

escape_filled : (b : ℕ) (text : List ℕ) → is_empty (escape (b ∷ text)) ≡ false
escape_filled b text =
    let P : List ℕ → Type 0 = λ first. is_empty (first ++ escape text) ≡ false in
    each_escaped P b (λ form h. refl) (λ h. refl)

-- a text that has a byte is written as an argument
pub is_argument-escape : (text : List ℕ) → not (is_empty text) ≡ true → is_argument (escape text) ≡ true
is_argument-escape [] h = absurd cc
is_argument-escape (b ∷ text) h = rw (escape_filled b text, escape_fits (b ∷ text)) refl

-- ---- digits

filled : (n : ℕ) (text : List ℕ) → length text ≡ suc n → is_empty text ≡ false
filled n [] h = absurd (omega arith)
filled n (b ∷ text) h = refl

digits_fit : (text : List ℕ) → list_all is_name_digit text ≡ true → list_all is_argument_byte text ≡ true
digits_fit [] h = refl
digits_fit (b ∷ text) h =
    and_from _ _ (name_digit_byte b (first_holds _ (list_all is_name_digit text) h)) (digits_fit text (second_holds (is_name_digit b) _ h))

digits_argument : (n : ℕ) (bytes : List ℕ) → length bytes ≡ suc n → AreBytes bytes → is_argument (encode_with lower_digits bytes) ≡ true
digits_argument n bytes long each =
    let more : length (encode_with lower_digits bytes) ≡ suc (2 * n + 1) = omega (arith, length_digits bytes, long) in
    rw (filled _ _ more, digits_fit _ (digits_all bytes each)) refl

pub is_argument-name : (name : List ℕ) → IsName name → is_argument (name_text name) ≡ true
is_argument-name name h = digits_argument 19 name h.0 h.1

pub is_argument-ref : (r : Ref) → IsRef r → is_argument (ref_text r) ≡ true
is_argument-ref (Own name) h = digits_argument 19 name h.0 h.1
is_argument-ref (Foreign bytes) h = digits_argument 31 bytes h.0 h.1

pub is_argument-checksum : (bytes : List ℕ) → length bytes ≡ 16 → AreBytes bytes → is_argument (encode_lower bytes) ≡ true
is_argument-checksum bytes long each = digits_argument 15 bytes long each

-- ---- dates

pub is_argument-date : (ms : ℕ) → is_argument (moment_text ms) ≡ true
unfolding moment_text
is_argument-date ms = simp digit_byte
