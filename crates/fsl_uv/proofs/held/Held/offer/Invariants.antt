use Rattle.std.proofs.Common.{◌≡◌, map}
use Rattle.std.specs.Map.Iter.{deref_pair}
use Rattle.fsl_uv.specs.Cards.{message_text}
use Rattle.fsl_uv.specs.Syncing.{offered}
use Rattle.fsl_uv.proofs.held.Held.offer.Given as goal

abbrev pub invariant-loop-path : goal.invariant-loop-path
invariant-loop-path l = l.text ≡ message_text (offered (map deref_pair l.yielded))
