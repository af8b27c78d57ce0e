-- A size as it is written.
use Rattle.std.proofs.Common.{◌≡◌, ℕ, ◌^◌, ◌<◌, true, not, arith}
use Rattle.std.specs.Prelude.{decimal}
use Rattle.std.specs.List.{list_all}
use Rattle.std.proofs.lemmas.Bool.{and_from}
use Rattle.fsl_order.proofs.Booleans.{first_holds, second_holds}
use Rattle.fsl_text.specs.Bytes.{is_empty}
use Rattle.fsl_text.specs.Decimals.{is_decimal_digit}
use Rattle.fsl_text.proofs.Bytewise.{weaker}
use Rattle.fsl_text.proofs.DecimalTexts.{decimal_is}
use Rattle.fsl_card.specs.Cards.{is_argument, is_argument_byte}

digit_byte : (b : ℕ) → is_decimal_digit b ≡ true → is_argument_byte b ≡ true
digit_byte b h = grind arith

pub is_argument-decimal : (n : ℕ) → n < 2 ^ 64 → is_argument (decimal n) ≡ true
is_argument-decimal n h =
    let text = (decimal_is n h).0 in
    and_from _ _ (first_holds _ (list_all is_decimal_digit (decimal n)) text) (weaker is_decimal_digit is_argument_byte digit_byte (decimal n) (second_holds (not (is_empty (decimal n))) _ text))
