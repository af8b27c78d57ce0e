use Rattle.std.proofs.Common.{◌≡◌, ◌||◌, ◌&&◌, not, List, ℕ, drop, length}
use Rattle.fsl_order.specs.Names.{has}
use Rattle.fsl_files.specs.Same.{is_same_row}
use Rattle.fsl_files.proofs.same.note_others.Given as goal

-- with what is left, it is the whole
abbrev pub invariant-loop-name : goal.invariant-loop-name
invariant-loop-name g l = record {
  noted : (q : List ℕ) → ((has (drop l.name-index l.more) q && not (is_same_row l.old l.new q)) || has l.names.keys q) ≡ ((has l.more q && not (is_same_row l.old l.new q)) || has l.fn.names.keys q);
  cost : length l.more ≡ 0 → l.steps ≡ l.fn.steps;
}
