-- A number of 64 bits as it is written in decimal.
use Rattle.std.proofs.Common.{◌≡◌, ℕ, ◌+◌, ◌*◌, ◌-◌, ◌/◌, ◌%◌, ◌^◌, ◌<◌, ◌≤◌, true, false, not, List, [], ◌∷◌, ◌++◌, refl, arith}
use Rattle.std.specs.Prelude.{decimal, nat_lt}
use Rattle.std.proofs.lemmas.Fmt.{decimal_by_steps}
use Rattle.std.proofs.lemmas.List.Folds.{list_all-append}
use Rattle.std.proofs.lemmas.List.Sums.{fold-append}
use Rattle.fsl_order.proofs.Booleans.{second_holds}
use Rattle.fsl_text.specs.Bytes.{is_empty}
use Rattle.fsl_text.specs.Decimals.{IsDecimal, decimal_value, is_decimal_digit}

digit_is : (d : ℕ) → d < 10 → is_decimal_digit (48 + d) ≡ true
digit_is d h = grind arith

one_digit : (n : ℕ) → n < 10 → IsDecimal ((48 + n) ∷ []) n
one_digit n h = (rw (digit_is n h) refl, omega arith)

filled_behind : (ds : List ℕ) (d : ℕ) → is_empty (ds ++ d ∷ []) ≡ false
filled_behind [] d = refl
filled_behind (x ∷ ds) d = refl

more_digits : (n : ℕ) (ds : List ℕ) → 10 ≤ n → IsDecimal ds (n / 10) → IsDecimal (ds ++ ((48 + n % 10) ∷ [])) n
more_digits n ds h k =
    let digits = second_holds (not (is_empty ds)) _ k.0 in
    let value : decimal_value (ds ++ ((48 + n % 10) ∷ [])) ≡ 10 * decimal_value ds + (48 + n % 10 - 48) = fold-append (λ (m : ℕ) (c : ℕ). 10 * m + (c - 48)) 0 ds ((48 + n % 10) ∷ []) in
    (rw (filled_behind ds (48 + n % 10), list_all-append is_decimal_digit ds ((48 + n % 10) ∷ []), digits, digit_is (n % 10) (omega arith)) refl, omega (arith, value, k.1))

-- it is a decimal of itself
pub decimal_is : (n : ℕ) → n < 2 ^ 64 → IsDecimal (decimal n) n
decimal_is n h = decimal_by_steps (λ n ds. IsDecimal ds n) one_digit more_digits n h

pub fits : (n : ℕ) → n < 2 ^ 64 → nat_lt n (2 ^ 64) ≡ true
fits n h = grind (arith, h)
