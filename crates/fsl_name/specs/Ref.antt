-- References, by which cards name artifacts: an own name of 40 digits, or a foreign one of 64. Nothing is held under a foreign name.
use Rattle.std.specs.Prelude.{◌≡◌, ◌≢◌, ◌⊎◌, ℕ, Bool, false, List, length, if◌then◌else◌, not, Option, Some, None, position, flat_map, option_to_list}
use Rattle.std.specs.Str.{bytes_eq}
use Rattle.fsl_order.specs.Names.{is_before}
use Rattle.fsl_text.specs.Bytes.{AreBytes}
use Rattle.hex.specs.Hex.{encode_lower}
use Rattle.fsl_name.specs.Name.{IsName, are_digits, bytes_of_digits, is_name_digit}
use Rattle.fsl_name.specs.declared.NameFault.{NameFault}
use Rattle.fsl_name.specs.declared.NameFault.TheVariants.{Length, Digit}
use Rattle.fsl_name.specs.declared.reference.Ref.{Ref}
use Rattle.fsl_name.specs.declared.reference.Ref.TheVariants.{Own, Foreign}

-- its bytes: 20 of an own name, 32 of a foreign one
abbrev pub ref_bytes : Ref → List ℕ
ref_bytes (Own name) = name
ref_bytes (Foreign bytes) = bytes

-- what the type of a reference keeps
abbrev pub IsRef : Ref → Type 0
IsRef (Own name) = IsName name
IsRef (Foreign bytes) = (length bytes ≡ 32) × AreBytes bytes

-- its 40 or 64 digits, in lower case
abbrev pub ref_text : Ref → List ℕ
ref_text r = encode_lower (ref_bytes r)

-- the reference that a text is, if it is one: 40 digits are an own name, 64 a foreign one
abbrev pub ref_in : List ℕ → Option Ref
ref_in text =
    if are_digits 40 text then Some (Own (bytes_of_digits text))
    else if are_digits 64 text then Some (Foreign (bytes_of_digits text))
    else None

-- why a text is no reference: its length, or else its first byte that is no digit
abbrev pub IsRefFault : List ℕ → NameFault → Type 0
IsRefFault text (Length found) = (length text ≢ 40) × (length text ≢ 64) × (found ≡ length text)
IsRefFault text (Digit at) = ((length text ≡ 40) ⊎ (length text ≡ 64)) × (position (λ b. not (is_name_digit b)) text ≡ Some at)

-- the name that an own reference is
abbrev pub own_name : Ref → Option (List ℕ)
own_name (Own name) = Some name
own_name (Foreign bytes) = None

-- the own names among references, in their order
abbrev pub own_names : List Ref → List (List ℕ)
own_names refs = flat_map (λ r. option_to_list (own_name r)) refs

-- whether two references are the same
abbrev pub same_ref : Ref → Ref → Bool
same_ref (Own a) (Own b) = bytes_eq a b
same_ref (Own a) (Foreign b) = false
same_ref (Foreign a) (Own b) = false
same_ref (Foreign a) (Foreign b) = bytes_eq a b

-- a reference is written before another: in the order of the bytes of their texts
abbrev pub is_written_before : Ref → Ref → Bool
is_written_before a b = is_before (ref_text a) (ref_text b)
