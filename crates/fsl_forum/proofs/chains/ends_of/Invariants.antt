use Rattle.std.proofs.Common.{◌≡◌, ℕ, List, true, map, take}
use Rattle.std.specs.Prelude.{is_some}
use Rattle.fsl_order.specs.Names.{has}
use Rattle.fsl_order.specs.Maps.{value_at}
use Rattle.fsl_forum.specs.Kept.{AreNexts, AreRight, IsWithin}
use Rattle.fsl_forum.proofs.chains.ends_of.Given as goal

-- the ends of the posts that were passed are in, and all that are in are right
abbrev pub invariant-loop-fact : goal.invariant-loop-fact
invariant-loop-fact l = record {
  nexts : AreNexts l.facts l.nexts.entries;
  within : IsWithin l.ends.entries l.nexts.entries;
  right : AreRight l.facts l.ends.entries;
  known : (q : List ℕ) → has (map (λ f. f.name) (take l.fact-index l.facts)) q ≡ true → is_some (value_at l.ends.entries q) ≡ true;
}
