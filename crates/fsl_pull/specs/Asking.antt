-- What one request and its reply say.
use Rattle.std.specs.Prelude.{◌≡◌, ◌⊎◌, ℕ, List, Result, Ok, Err}
use Rattle.fsl_order.specs.Causes.{Rose}
use Rattle.fsl_outside.specs.Connections.{LinkState}
use Rattle.fsl_wire.specs.declared.WireCard.{WireCard}
use Rattle.fsl_http.specs.Responses.{Exchanged, IsBrokenOff, IsLeft}
use Rattle.fsl_http.specs.Exchanges.{HasJoined, IsExchangeOf}
use Rattle.fsl_pull.specs.declared.PeerFault.{PeerFault}
use Rattle.fsl_pull.specs.declared.PullFault.{PullFault}
use Rattle.fsl_pull.specs.declared.PullFault.TheVariants as fault
use Rattle.fsl_pull.specs.declared.asking.Unasked.{Unasked}
use Rattle.fsl_pull.specs.declared.asking.Unasked.TheVariants as unasked
use Rattle.fsl_pull.specs.Replies.{IsReplyRead}

-- an exchange was made, and its reply reads so
abbrev pub IsAsked : LinkState → LinkState → List ℕ → Result (List WireCard) PeerFault → Type 0
IsAsked before after request read = (reply : Exchanged) × IsExchangeOf before after request reply × IsReplyRead reply read

-- no connection began
abbrev pub IsIdle : LinkState → LinkState → Type 0
IsIdle before after = (after.present ≡ before.present) × (after.standing ≡ before.standing)

-- a call of the dial failed: before a connection began, or on one that began
abbrev pub IsLinkLost : LinkState → LinkState → List ℕ → Type 0
IsLinkLost before after request =
    Rose before.faults after.faults × (IsIdle before after ⊎ HasJoined before after (λ c. IsBrokenOff c request))

-- there is no reply that was read: the dial failed, or there was no memory behind a request that was sent
abbrev pub IsUnasked : LinkState → LinkState → List ℕ → Unasked → Type 0
IsUnasked before after request unasked.Link = IsLinkLost before after request
IsUnasked before after request unasked.Memory = HasJoined before after (λ c. IsLeft c request)

-- the dial's count of faults: it rose where a call of the dial failed, which is told, and is as it was otherwise
abbrev pub IsAskCounted : LinkState → LinkState → Result (Result (List WireCard) PeerFault) Unasked → Type 0
IsAskCounted before after (Err unasked.Link) = Rose before.faults after.faults
IsAskCounted before after (Err unasked.Memory) = after.faults ≡ before.faults
IsAskCounted before after (Ok read) = after.faults ≡ before.faults

-- the same of a round, and of a whole sync
abbrev pub IsDialCounted : {A : Type 0} → LinkState → LinkState → Result A PullFault → Type 0
IsDialCounted before after (Err fault.Link) = Rose before.faults after.faults
IsDialCounted before after (Err why) = after.faults ≡ before.faults
IsDialCounted before after (Ok pulled) = after.faults ≡ before.faults
