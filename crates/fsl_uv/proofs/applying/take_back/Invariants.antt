use Rattle.std.proofs.Common.{◌≡◌, vec_len}
use Rattle.fsl_uv.specs.Applying.{CanTakeBack, log_without, without_changes}
use Rattle.fsl_uv.proofs.applying.take_back.Given as goal

-- what is left leads back to where all changes lead
abbrev pub invariant-loop-change : goal.invariant-loop-change
invariant-loop-change l = record {
  can : CanTakeBack l.journal l.held l.left.items;
  log : log_without l.journal l.left.items ≡ log_without l.fn.journal l.fn.changes.items;
  map : without_changes l.held l.left.items ≡ without_changes l.fn.held l.fn.changes.items;
}

abbrev pub decreases-loop-change : goal.decreases-loop-change
decreases-loop-change l = vec_len l.left
