-- Names of artifacts and their text. Contracts see a name as its 20 bytes.
use Rattle.std.specs.Prelude.{◌≡◌, ◌≢◌, ℕ, ◌+◌, ◌*◌, ◌-◌, ◌&&◌, ◌||◌, ◌==◌, nat_le, Bool, not, List, [], ◌∷◌, length, if◌then◌else◌, Result, Ok, Err, Option, Some, None, position}
use Rattle.std.specs.List.{list_all, position_or_len}
use Rattle.fsl_text.specs.Bytes.{AreBytes}
use Rattle.sha1.specs.Sha1.{sha1}
use Rattle.hex.specs.Hex.{encode_lower}
use Rattle.fsl_name.specs.declared.NameFault.{NameFault}
use Rattle.fsl_name.specs.declared.NameFault.TheVariants.{Length, Digit}

-- the name of some bytes: their SHA-1
abbrev pub name_of : List ℕ → List ℕ
name_of bytes = sha1 bytes

-- a name has 20 bytes
abbrev pub IsName : List ℕ → Type 0
IsName name = (length name ≡ 20) × AreBytes name

-- the 40 digits of a name, in lower case
abbrev pub name_text : List ℕ → List ℕ
name_text name = encode_lower name

-- a digit of a name: `0` to `9`, or `a` to `f`
abbrev pub is_name_digit : ℕ → Bool
is_name_digit c = (nat_le 48 c && nat_le c 57) || (nat_le 97 c && nat_le c 102)

-- what a digit is worth
abbrev pub digit_worth : ℕ → ℕ
digit_worth c = if nat_le c 57 then c - 48 else c - 87

-- the bytes of pairs of digits
abbrev pub bytes_of_digits : List ℕ → List ℕ
bytes_of_digits [] = []
bytes_of_digits (c ∷ []) = []
bytes_of_digits (c ∷ d ∷ rest) = (16 * digit_worth c + digit_worth d) ∷ bytes_of_digits rest

-- whether a text is that many lower-case hexadecimal digits
abbrev pub are_digits : ℕ → List ℕ → Bool
are_digits count text = (length text == count) && list_all is_name_digit text

-- the text is the name, as its 40 digits
abbrev pub IsNameText : List ℕ → List ℕ → Type 0
IsNameText text name = IsName name × (text ≡ name_text name)

-- the name that a text is, if it is one
abbrev pub name_in : List ℕ → Option (List ℕ)
name_in text = if are_digits 40 text then Some (bytes_of_digits text) else None

-- the name that a text is, or the first thing that is wrong with it
abbrev pub name_read : List ℕ → Result (List ℕ) NameFault
name_read text =
    if not (length text == 40) then Err (Length (length text))
    else if not (list_all is_name_digit text) then Err (Digit (position_or_len (λ c. not (is_name_digit c)) text))
    else Ok (bytes_of_digits text)

-- why a text is no name: its length, or else its first byte that is no digit
abbrev pub IsNameFault : List ℕ → NameFault → Type 0
IsNameFault text (Length found) = (length text ≢ 40) × (found ≡ length text)
IsNameFault text (Digit at) = (length text ≡ 40) × (position (λ b. not (is_name_digit b)) text ≡ Some at)
