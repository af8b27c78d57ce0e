use Rattle.std.proofs.Common.{◌≡◌, length}
use Rattle.fsl_manifest.specs.Manifests.{files_rise}
use Rattle.fsl_manifest.proofs.written.files_rise.Given as goal

abbrev pub invariant-loop-first : goal.invariant-loop-first
invariant-loop-first l = files_rise l.fn.files ≡ files_rise l.rest

abbrev pub decreases-loop-first : goal.decreases-loop-first
decreases-loop-first l = length l.rest
