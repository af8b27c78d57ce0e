use Rattle.std.proofs.Common.{◌≡◌, ◌||◌, List, ℕ, drop, length}
use Rattle.std.specs.List.{list_any}
use Rattle.fsl_order.specs.Names.{has}
use Rattle.fsl_table.specs.Pairs.{seconds}
use Rattle.fsl_files.proofs.touched.note_each.Given as goal

-- with what is left, it is the whole
abbrev pub invariant-loop-up : goal.invariant-loop-up
invariant-loop-up g l = record {
  noted : (q : List ℕ) → (list_any (λ up. has (seconds up l.children.held.entries) q) (drop l.up-index l.ups) || has l.names.keys q) ≡ (list_any (λ up. has (seconds up l.children.held.entries) q) l.ups || has l.fn.names.keys q);
  cost : length l.ups ≡ 0 → l.steps ≡ l.fn.steps;
}
