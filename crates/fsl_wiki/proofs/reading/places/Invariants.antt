use Rattle.std.proofs.Common.{◌≡◌, ◌++◌, length}
use Rattle.std.specs.Option.{option_map}
use Rattle.std.specs.Map.{keys_of}
use Rattle.fsl_table.specs.Within.{within}
use Rattle.fsl_table.proofs.Walk.{from}
use Rattle.fsl_wiki.specs.Late.{late_cmp}
use Rattle.fsl_wiki.proofs.reading.places.Given as goal

-- with those from the next one on, it is all
abbrev pub invariant-loop-next : goal.invariant-loop-next
invariant-loop-next g l = record {
  first : l.key.first ≡ l.fn.first;
  done : l.places.items ++ keys_of (from late_cmp (option_map (λ b. (b, tt)) l.next) (within g.A.Ord.cmp l.fn.first l.table.entries)) ≡ keys_of (within g.A.Ord.cmp l.fn.first l.table.entries);
}

abbrev pub decreases-loop-next : goal.decreases-loop-next
decreases-loop-next g l = length (from late_cmp (option_map (λ b. (b, tt)) l.next) (within g.A.Ord.cmp l.fn.first l.table.entries))
