use Rattle.std.proofs.Common.{◌≡◌, ◌++◌, take}
use Rattle.std.specs.Prelude.{flat_map}
use Rattle.fsl_answer.specs.Replies.{error_line}
use Rattle.fsl_answer.proofs.framing.append_notices.Given as goal

abbrev pub invariant-loop-notice : goal.invariant-loop-notice
invariant-loop-notice l = l.into ≡ l.initial.into ++ flat_map error_line (take l.notice-index l.first)
