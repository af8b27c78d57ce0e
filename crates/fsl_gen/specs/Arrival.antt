-- The order in which the artifacts are given.
use Rattle.std.specs.Prelude.{◌≡◌, ℕ, ◌%◌, ◌==◌, Bool, true, false, not, List, ◌++◌, length, map, reverse, if◌then◌else◌}
use Rattle.std.specs.List.{filter, range_with_len}
use Rattle.std.specs.List.Sorted.{IsPermutation}
use Rattle.fsl_gen.specs.Artifacts.{artifact_text}

abbrev pub is_odd : ℕ → Bool
is_odd i = i % 2 == 1

-- the odd numbers below a count from the greatest to the least, then the even ones from the least to the greatest
abbrev pub arrival : ℕ → List ℕ
arrival count =
    let numbers = range_with_len 0 count in
    reverse (filter is_odd numbers) ++ filter (λ i. not (is_odd i)) numbers

-- the same from its end
abbrev pub arrival_from : Bool → ℕ → List ℕ
arrival_from reversed count = if reversed then reverse (arrival count) else arrival count

-- the texts of all artifacts below a count, in one of the two orders
unfoldable pub generated : ℕ → Bool → List (List ℕ)
generated count reversed = map artifact_text (arrival_from reversed count)

-- ---- laws

-- each number below the count stands once
abbrev pub ArrivesEachOnce : Type 0
ArrivesEachOnce = (count : ℕ) (reversed : Bool) → IsPermutation (range_with_len 0 count) (arrival_from reversed count)

-- there are as many texts as the count says
abbrev pub HasAsMany : Type 0
HasAsMany = (count : ℕ) (reversed : Bool) → length (generated count reversed) ≡ count

-- the reversed list is the other from its end
abbrev pub IsReversed : Type 0
IsReversed = (count : ℕ) → generated count true ≡ reverse (generated count false)
