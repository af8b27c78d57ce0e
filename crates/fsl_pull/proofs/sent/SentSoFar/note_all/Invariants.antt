use Rattle.std.proofs.Common.{◌≡◌, ◌++◌, take}
use Rattle.fsl_pull.proofs.sent.SentSoFar.note_all.Given as goal

abbrev pub invariant-loop-name : goal.invariant-loop-name
invariant-loop-name l = l.self.order ≡ l.initial.self.order ++ take l.name-index l.names
