-- Lists of bytes, by their places.
use Rattle.std.specs.Prelude.{ℕ, zero, suc, ◌<◌, List, [], ◌∷◌, length, ◌≡◌, slice_index_or}
use Rattle.fsl_text.specs.Bytes.{AreBytes}
use Rattle.std.proofs.Common.{arith}
use Rattle.hex.specs.Hex.{IsBytes}
use Rattle.fsl_name.specs.Name.{IsName}

pub AreBytes-from_places : (xs : List ℕ) → ((i : ℕ) → slice_index_or xs i 0 < 256) → AreBytes xs
AreBytes-from_places [] h = tt
AreBytes-from_places (x ∷ xs) h = (h zero, AreBytes-from_places xs (λ i. h (suc i)))

-- an array of 20 bytes is a name
pub IsName-from_places : (xs : List ℕ) → length xs ≡ 20 → ((i : ℕ) → slice_index_or xs i 0 < 256) → IsName xs
IsName-from_places xs long h = (long, AreBytes-from_places xs h)

pub IsBytes-from_list : (xs : List ℕ) → AreBytes xs → IsBytes xs
IsBytes-from_list [] h i = omega arith
IsBytes-from_list (x ∷ xs) h zero = h.0
IsBytes-from_list (x ∷ xs) h (suc i) = IsBytes-from_list xs h.1 i
