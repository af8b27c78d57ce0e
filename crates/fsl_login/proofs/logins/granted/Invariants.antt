use Rattle.std.proofs.Common.{◌≡◌, drop, filter_map, fold}
use Rattle.fsl_login.specs.Logins.{granted, granted_unless, login_fault, both, caps_of_card}
use Rattle.fsl_login.proofs.logins.granted.Given as goal

abbrev pub invariant-loop-card : goal.invariant-loop-card
invariant-loop-card l =
    granted l.users l.card-items
    ≡ granted_unless (filter_map (login_fault l.users) (drop l.card-index l.card-items)) (fold (λ caps card. both caps (caps_of_card l.users card)) l.caps (drop l.card-index l.card-items))
