-- What one card of a message adds to what is allowed, and how far the cards of a draft are judged.
use Rattle.std.specs.Prelude.{◌≡◌, ℕ, ◌+◌, ◌≤◌, max, List, [], take, filter_map, Some, None, Result, Ok, Err}
use Rattle.fsl_wire.specs.declared.Caps.{Caps}
use Rattle.fsl_wire.specs.declared.WireCard.{WireCard}
use Rattle.fsl_wire.specs.Drafts.{Drafted}
use Rattle.fsl_login.specs.declared.User.{User}
use Rattle.fsl_login.specs.declared.LoginFault.{LoginFault}
use Rattle.fsl_login.specs.Logins.{login_fault, caps_of_card}

-- the card is accepted and adds this, or is a login that isn't accepted for this reason
abbrev pub IsJudged : List User → WireCard → Result Caps LoginFault → Type 0
IsJudged users card (Ok caps) = (login_fault users card ≡ None) × (caps ≡ caps_of_card users card)
IsJudged users card (Err fault) = login_fault users card ≡ Some fault

-- no card is settled behind one that no login before it keeps from being judged
abbrev pub IsSpared : List User → Drafted → ℕ → Type 0
IsSpared users old settled =
    (place : ℕ) × (filter_map (login_fault users) (take place old.message) ≡ []) × (settled ≤ max old.settled (place + 1))
