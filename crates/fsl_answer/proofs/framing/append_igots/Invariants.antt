use Rattle.std.proofs.Common.{◌≡◌, ◌++◌, take}
use Rattle.std.specs.Prelude.{flat_map}
use Rattle.fsl_answer.specs.Replies.{igot_line}
use Rattle.fsl_answer.proofs.framing.append_igots.Given as goal

abbrev pub invariant-loop-name : goal.invariant-loop-name
invariant-loop-name l = l.into ≡ l.initial.into ++ flat_map igot_line (take l.name-index l.igots)
