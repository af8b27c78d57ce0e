use Rattle.std.proofs.Common.{◌≡◌, map}
use Rattle.std.specs.Prelude.{flat_map}
use Rattle.std.specs.Map.Iter.{deref_pair}
use Rattle.fsl_uv.specs.Cards.{message_text}
use Rattle.fsl_uv.specs.Reading.{answer_for}
use Rattle.fsl_uv.proofs.messages.answers_to.Given as goal

abbrev pub invariant-loop-path : goal.invariant-loop-path
invariant-loop-path l = l.text ≡ message_text (flat_map (answer_for l.held) (map deref_pair l.yielded))
