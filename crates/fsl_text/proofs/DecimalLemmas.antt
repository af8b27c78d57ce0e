-- Decimal numbers, a digit at a time.
use Rattle.std.proofs.Common.{◌≡◌, ℕ, ◌^◌, ◌<◌, ◌≤◌, Bool, true, false, cond, not, List, [], ◌∷◌, length, take, get_or, Option, Some, None, Ok, Err, refl, ap, arith}
use Rattle.std.specs.Prelude.{◌==◌, nat_lt}
use Rattle.std.specs.List.{list_all, position_or_len}
use Rattle.std.specs.Option.{ok_or}
use Rattle.std.proofs.lemmas.List.Sums.{position_or_len_is, list_all-from_AllPass}
use Rattle.std.proofs.lemmas.List.Elements.{All-from_get_or}
use Rattle.std.proofs.lemmas.List.Folds.{list_all_at}
use Rattle.std.proofs.lemmas.List.{take_all}
use Rattle.fsl_text.specs.Bytes.{is_empty}
use Rattle.fsl_text.specs.declared.fault.DecimalFault.TheVariants.{Digit, Range}
use Rattle.fsl_text.specs.Decimals.{is_decimal_digit, decimal_value, fitting, decimal_of}

-- a text is read up to a place: digits, and their number where it is one of 64 bits
pub record IsNumberTo (text : List ℕ) (i : ℕ) (value : Option ℕ) : Type 0 where
  pub digits : (k : ℕ) → k < i → is_decimal_digit (get_or text k 0) ≡ true
  pub number : value ≡ fitting (decimal_value (take i text))

not_empty : (text : List ℕ) → false ≡ (length text == 0) → is_empty text ≡ false
not_empty [] some = absurd cc
not_empty (b ∷ text) some = refl

some_byte : (text : List ℕ) (i : ℕ) → i < length text → is_empty text ≡ false
some_byte [] i lt = absurd (omega arith)
some_byte (b ∷ text) i lt = refl

pub digit_fault : (text : List ℕ) (i : ℕ) (value : Option ℕ) → i < length text → is_decimal_digit (get_or text i 0) ≡ false → IsNumberTo text i value → Err (Digit i) ≡ decimal_of text
digit_fault text i value lt here read =
    rw (some_byte text i lt, list_all_at is_decimal_digit text i 0 lt here, first) refl
  where
    first : position_or_len (λ c. not (is_decimal_digit c)) text ≡ i
    first = position_or_len_is (λ c. not (is_decimal_digit c)) text i 0 (omega arith) (λ k below. ap not (read.digits k below)) (λ _. ap not here)

in_range : (fits : Bool) (n : ℕ) → ok_or (cond fits (Some n) None) Range ≡ cond fits (Ok n) (Err Range)
in_range true n = refl
in_range false n = refl

pub number_done : (text : List ℕ) (i : ℕ) (value : Option ℕ) → length text ≤ i → false ≡ (length text == 0) → IsNumberTo text i value → ok_or value Range ≡ decimal_of text
number_done text i value past some read =
    rw (not_empty text some, digits, read.number, take_all i text past) (in_range (nat_lt (decimal_value text) (2 ^ 64)) (decimal_value text))
  where
    digits : list_all is_decimal_digit text ≡ true
    digits = list_all-from_AllPass is_decimal_digit text (All-from_get_or (λ c. is_decimal_digit c ≡ true) text 0 (λ k lt. read.digits k (omega arith)))
