use Rattle.std.proofs.Common.{◌≡◌, ◌≤◌, max, [], take, drop, filter_map}
use Rattle.fsl_login.specs.Logins.{granted, login_fault}
use Rattle.fsl_login.proofs.LoginLemmas.{granted_from}
use Rattle.fsl_login.proofs.logins.granted_by.Given as goal

abbrev pub invariant-loop-place : goal.invariant-loop-place
invariant-loop-place l =
    (l.draft.message ≡ l.initial.draft.message) × (l.place ≤ l.draft.settled)
    × (granted l.users l.initial.draft.message ≡ granted_from l.users l.caps (drop l.place l.initial.draft.message))
    × (filter_map (login_fault l.users) (take l.place l.initial.draft.message) ≡ [])
    × (l.draft.settled ≤ max l.initial.draft.settled l.place)
