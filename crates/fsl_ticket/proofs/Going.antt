-- One step of a walk down the changes of a ticket.
use Rattle.std.proofs.Common.{◌≡◌, ◌<◌, ℕ, List, [], ◌∷◌, Bool, true, false, if◌then◌else◌, Option, Some, None, length, refl, ap, arith}
use Rattle.std.specs.List.Sorted.{IsStrictlySortedBy}
use Rattle.std.specs.Map.{keys_of}
use Rattle.std.proofs.lemmas.Map.Lookups.{exact_bytes}
use Rattle.fsl_order.specs.Names.{bytes_cmp}
use Rattle.fsl_order.proofs.Orders.{bytes_cmp-IsTotalOrder}
use Rattle.fsl_table.specs.Contents.{first_of}
use Rattle.fsl_table.specs.Within.{within, above}
use Rattle.fsl_table.proofs.Belonging.{within_sorted}
use Rattle.fsl_table.proofs.Walk.{from, from_first, from_next}
use Rattle.fsl_ticket.specs.Newest.{newest_cmp}
use Rattle.fsl_ticket.specs.NewestOrder.{newest_cmp-IsTotalOrder}
use Rattle.fsl_ticket.specs.Kept.{Lines, Spots, spot_cmp}
use Rattle.fsl_ticket.specs.Walked.{Down, names_until}

from_above : (s : Option (ℕ × List ℕ)) (ws : Down) → IsStrictlySortedBy newest_cmp (keys_of ws) → from newest_cmp (first_of (above newest_cmp s ws)) ws ≡ above newest_cmp s ws
from_above None ws sorted = from_first newest_cmp-IsTotalOrder ws sorted
from_above (Some p) ws sorted = from_next newest_cmp-IsTotalOrder p ws sorted

pub goes_on : (id : List ℕ) (s : Option (ℕ × List ℕ)) (ss : Spots) → IsStrictlySortedBy spot_cmp (keys_of ss)
    → from newest_cmp (first_of (above newest_cmp s (within bytes_cmp id ss))) (within bytes_cmp id ss) ≡ above newest_cmp s (within bytes_cmp id ss)
goes_on id s ss sorted = from_above s (within bytes_cmp id ss) (within_sorted bytes_cmp newest_cmp bytes_cmp-IsTotalOrder exact_bytes id ss sorted)

-- where it ends no name is left, else those behind
pub until_if : (es : Lines) (field : Option (List ℕ)) (b : Bool) (ws : Down) → names_until es field (if b then [] else ws) ≡ (if b then [] else names_until es field ws)
until_if es field true ws = refl
until_if es field false ws = refl

-- what is left behind a place is shorter, also where nothing is left
pub shorter : (b : Bool) (now old : Down) (p : (ℕ × List ℕ) × Unit {0}) (ws : Down) → now ≡ (if b then [] else ws) → old ≡ p ∷ ws → length now < length old
shorter true now old p ws x y = let n : length now ≡ length {A = (ℕ × List ℕ) × Unit {0}} [] = ap length x in let m : length old ≡ length (p ∷ ws) = ap length y in omega (arith, n, m)
shorter false now old p ws x y = let n : length now ≡ length ws = ap length x in let m : length old ≡ length (p ∷ ws) = ap length y in omega (arith, n, m)
