use Rattle.std.proofs.Common.{◌≡◌, map, take}
use Rattle.fsl_repo.proofs.sending.sizes_of.Given as goal

abbrev pub invariant-loop-file : goal.invariant-loop-file
invariant-loop-file l = l.sizes.items ≡ map (λ d. d.size) (take l.file-index l.due)
