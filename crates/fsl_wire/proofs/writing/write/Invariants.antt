use Rattle.std.proofs.Common.{◌≡◌, take}
use Rattle.std.specs.List.{AllByRecursion}
use Rattle.fsl_wire.specs.Writing.{message_bytes, IsOfType}
use Rattle.fsl_wire.proofs.writing.write.Given as goal

abbrev pub invariant-loop-card : goal.invariant-loop-card
invariant-loop-card l = record {
  bytes : l.text ≡ message_bytes (take l.card-index l.card-items);
  typed : AllByRecursion IsOfType (take l.card-index l.card-items);
}
