-- What the answer of a dial or a door says of its connections and its counts.
use Rattle.std.specs.Prelude.{◌≡◌, ◌≤◌, Result, Ok, Err}
use Rattle.fsl_outside.specs.declared.link.Accepted.{Accepted}
use Rattle.fsl_outside.specs.declared.link.Accepted.TheVariants.{Closed}
use Rattle.fsl_outside.specs.declared.link.Accepted.TheVariants as accepted
use Rattle.fsl_outside.specs.declared.outside.Failed.{Failed}
use Rattle.fsl_outside.specs.Memory.{next}
use Rattle.fsl_outside.specs.Connections.{Standing, LinkState, listed, HasBegun, IsTold}

-- a connection has begun and is the present one, told where the earlier ones are; the one that was there joined these as it stood
pub record Begins (old new : LinkState) : Type 0 where
  pub begun : HasBegun new.present
  pub told : IsTold new.standing.earlier new.present
  pub earlier : new.standing.earlier ≡ listed old.standing.earlier old.present

-- a new connection begins, or the door is closed and keeps its list
abbrev pub AcceptLists : LinkState → LinkState → Accepted → Type 0
AcceptLists old new accepted.Connection = Begins old new
AcceptLists old new Closed = (new.present ≡ old.present) × (new.standing.earlier ≡ old.standing.earlier)

-- each count rises by one at its own answer, up to the end of its type, and no other answer changes it; neither falls
abbrev pub AcceptCounts : Result Accepted Failed → Standing → Standing → Type 0
AcceptCounts (Ok accepted.Connection) before now = (now.accept_faults ≡ before.accept_faults) × (now.closings ≡ before.closings)
AcceptCounts (Ok Closed) before now =
    (now.accept_faults ≡ before.accept_faults) × (now.closings ≡ next before.closings) × (before.closings ≤ now.closings)
AcceptCounts (Err e) before now =
    (now.accept_faults ≡ next before.accept_faults) × (before.accept_faults ≤ now.accept_faults) × (now.closings ≡ before.closings)
