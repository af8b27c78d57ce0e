use Rattle.std.specs.Prelude.{◌≡◌, drop}
use Rattle.fsl_serve.specs.Session.{login_in}
use Rattle.fsl_serve.proofs.receipts.first_login.Given as goal

abbrev pub invariant-loop-card : goal.invariant-loop-card
invariant-loop-card l = login_in l.cards ≡ login_in (drop l.card-index l.cards)
