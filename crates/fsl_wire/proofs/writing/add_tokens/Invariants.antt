use Rattle.std.proofs.Common.{◌≡◌, ◌++◌, map, take}
use Rattle.std.specs.List.{join_with_byte}
use Rattle.fsl_wire.proofs.writing.add_tokens.Given as goal

abbrev pub invariant-loop-at : goal.invariant-loop-at
invariant-loop-at l = l.into ≡ l.initial.into ++ join_with_byte 32 (map (λ t. t.now) (take l.at l.tokens))
