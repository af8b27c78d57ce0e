use Rattle.std.proofs.Common.{◌≡◌, ◌++◌, map, take}
use Rattle.fsl_wire.specs.Writing.{message_bytes}
use Rattle.fsl_pull.specs.Requests.{igot_card}
use Rattle.fsl_pull.proofs.requests.append_igots.Given as goal

abbrev pub invariant-loop-name : goal.invariant-loop-name
invariant-loop-name l = l.into ≡ l.initial.into ++ message_bytes (map igot_card (take l.name-index l.names))
