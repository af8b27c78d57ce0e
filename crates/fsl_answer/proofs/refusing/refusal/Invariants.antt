use Rattle.std.proofs.Common.{◌≡◌, drop}
use Rattle.fsl_answer.specs.Refusals.{refusal, refusal_behind}
use Rattle.fsl_answer.proofs.refusing.refusal.Given as goal

abbrev pub invariant-loop-card : goal.invariant-loop-card
invariant-loop-card l = refusal l.card-items l.caps l.project ≡ refusal_behind l.pushed l.caps l.project (drop l.card-index l.card-items)
