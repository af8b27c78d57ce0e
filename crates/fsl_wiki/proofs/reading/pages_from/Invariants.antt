use Rattle.std.proofs.Common.{◌≡◌, ◌++◌, length}
use Rattle.std.specs.Prelude.{reverse}
use Rattle.std.specs.List.{filter_map}
use Rattle.fsl_wiki.specs.Kept.{page_at}
use Rattle.fsl_wiki.proofs.reading.pages_from.Given as goal

-- with those at the places that are left, it is all
abbrev pub invariant-loop-place : goal.invariant-loop-place
invariant-loop-place g l =
    l.pages ++ filter_map (λ p. page_at l.facts.held.entries p.1) (reverse l.left.items) ≡ filter_map (λ p. page_at l.facts.held.entries p.1) (reverse l.fn.places.items)

abbrev pub decreases-loop-place : goal.decreases-loop-place
decreases-loop-place g l = length l.left.items
