use Rattle.std.proofs.Common.{◌≡◌, ◌≤◌}
use Rattle.fsl_wire.proofs.drafts.Draft.into_message.Given as goal

abbrev pub invariant-loop-place : goal.invariant-loop-place
invariant-loop-place l = (l.self.message ≡ l.initial.self.message) × (l.place ≤ l.self.settled)
