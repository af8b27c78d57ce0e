use Rattle.std.proofs.Common.{◌≡◌, ℕ, List, not, take}
use Rattle.std.specs.Prelude.{◌&&◌, ◌||◌}
use Rattle.std.specs.BTreeSet.{contains}
use Rattle.fsl_order.specs.Names.{bytes_cmp, has}
use Rattle.fossil.specs.Taking.{is_noted}
use Rattle.fossil.proofs.reading.gathering.want_all.Given as goal

abbrev pub invariant-loop-name : goal.invariant-loop-name
invariant-loop-name l =
    (q : List ℕ) → contains bytes_cmp l.wanted q
    ≡ (contains bytes_cmp l.fn.wanted q || (has (take l.name-index l.names) q && not (is_noted l.facts q)))
