-- Numbers in decimal digits.
use Rattle.std.specs.Prelude.{◌≡◌, ℕ, ◌^◌, ◌*◌, ◌+◌, ◌-◌, Bool, not, ◌&&◌, nat_le, nat_lt, List, IsTrue, Result, Ok, Err, Option, Some, None, if◌then◌else◌, fold}
use Rattle.std.specs.List.{list_all, position_or_len}
use Rattle.fsl_text.specs.Bytes.{is_empty}
use Rattle.fsl_text.specs.declared.fault.DecimalFault.{DecimalFault}
use Rattle.fsl_text.specs.declared.fault.DecimalFault.TheVariants.{Empty, Digit, Range}

-- `0` to `9`
abbrev pub is_decimal_digit : ℕ → Bool
is_decimal_digit c = nat_le 48 c && nat_le c 57

-- what digits are worth
abbrev pub decimal_value : List ℕ → ℕ
decimal_value text = fold (λ n c. 10 * n + (c - 48)) 0 text

-- one digit or more and nothing else; leading zeros are allowed
abbrev pub is_decimal_text : List ℕ → Bool
is_decimal_text text = not (is_empty text) && list_all is_decimal_digit text

-- the text is the number in decimal
abbrev pub IsDecimal : List ℕ → ℕ → Type 0
IsDecimal text n = IsTrue (is_decimal_text text) × (decimal_value text ≡ n)

-- the number of 64 bits that a text is in decimal, or the first thing that is wrong with it
abbrev pub decimal_of : List ℕ → Result ℕ DecimalFault
decimal_of text =
    if is_empty text then Err Empty
    else if not (list_all is_decimal_digit text) then Err (Digit (position_or_len (λ c. not (is_decimal_digit c)) text))
    else if nat_lt (decimal_value text) (2 ^ 64) then Ok (decimal_value text)
    else Err Range

-- a number, where it is one of 64 bits
abbrev pub fitting : ℕ → Option ℕ
fitting n = if nat_lt n (2 ^ 64) then Some n else None
