use Rattle.std.proofs.Common.{◌≡◌, ◌+◌, ◌*◌, ◌≤◌, ◌||◌, ◌&&◌, List, ℕ, length}
use Rattle.fsl_order.specs.Names.{has}
use Rattle.fsl_table.specs.Pairs.{seconds, left_from}
use Rattle.fsl_links.specs.Kept.{waits}
use Rattle.fsl_links.proofs.rows.note_waiting.Given as goal

-- with what is left, it is the whole
abbrev pub invariant-loop-next : goal.invariant-loop-next
invariant-loop-next g l = record {
  noted : (q : List ℕ) → ((waits l.facts.held.entries l.parent q && has (left_from l.next (seconds l.parent l.children.held.entries)) q) || has l.names.keys q) ≡ ((waits l.facts.held.entries l.parent q && has (seconds l.parent l.children.held.entries) q) || has l.fn.names.keys q);
  cost : l.steps + 2 * length (left_from l.next (seconds l.parent l.children.held.entries)) ≤ l.fn.steps + (1 + 2 * length (seconds l.parent l.children.held.entries));
}

abbrev pub decreases-loop-next : goal.decreases-loop-next
decreases-loop-next g l = length (left_from l.next (seconds l.parent l.children.held.entries))
