use Rattle.std.proofs.Common.{◌≡◌, length, filter}
use Rattle.std.specs.Prelude.{is_some}
use Rattle.fsl_files.proofs.overlay.Overlay.take_first.Given as goal

-- the rows that were passed have no hash
abbrev pub invariant-loop-row : goal.invariant-loop-row
invariant-loop-row l = filter (λ r. is_some r.hash) l.self-inside.rows ≡ l.fn.self

abbrev pub decreases-loop-row : goal.decreases-loop-row
decreases-loop-row l = length l.self-inside.rows
