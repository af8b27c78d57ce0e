use Rattle.std.proofs.Common.{◌≡◌, [], ◌∷◌, refl}
use Rattle.fsl_repo.specs.declared.Event.TheVariants as event
use Rattle.fsl_serve.specs.Sessions.{IsConcluded, sent_of}
use Rattle.fsl_serve.proofs.Telling.{gains_more}
use Rattle.fsl_serve.proofs.events.conclude.Goals as goal

pub returns-clause-made : goal.returns-clause-made
returns-clause-made g c =
    let b = c.call-built.result in
    let k = c.call-committed.result in
    gains_more _ _ _ (λ made. made ≡ (event.Build c.args.ask, b) ∷ []) (λ made. made ≡ (event.Commit, k) ∷ []) (λ made. IsConcluded c.args.ask made (sent_of c.conclusion.result))
    c.call-built.ensures.made c.call-committed.ensures.made (λ xs ys p q. (b, k, rw (p, q) refl, c.conclusion.ensures))
