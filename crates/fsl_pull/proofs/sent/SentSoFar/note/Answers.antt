use Rattle.std.proofs.Common.{ℕ, List, ap, ◌∙◌}
use Rattle.fsl_order.specs.Names.{has}
use Rattle.fsl_pull.proofs.SentLemmas.{same_more}
use Rattle.fsl_pull.proofs.sent.SentSoFar.note.Goals as goal

pub invariant_of-self-in-Ok : goal.invariant_of-self-in-Ok
invariant_of-self-in-Ok c = λ q.
    ap (λ (names : List (List ℕ)). has names q) c.in_ok-push.ensures.items
    ∙ same_more c.self.inside.order.items c.self.inside.set.keys c.insert.new.self.keys c.args.name c.self.invariant c.in-Ok.ensures.updates.0 q
