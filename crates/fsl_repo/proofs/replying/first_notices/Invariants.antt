use Rattle.std.proofs.Common.{◌≡◌, take}
use Rattle.fsl_repo.proofs.replying.first_notices.Given as goal

abbrev pub invariant-loop-notice : goal.invariant-loop-notice
invariant-loop-notice l = l.copies.items ≡ take l.notice-index l.first
