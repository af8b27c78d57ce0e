-- What contracts see of doors and dials over sockets.
use Rattle.std.specs.Prelude.{◌≡◌, ℕ, Bool, false, None, IsErr, Result}
use Rattle.fsl_outside.specs.Connections.{LinkState}

-- whether the door has a socket and a connection, and its counts
pub record Doorway : Type 0 where
  pub serves : Bool
  pub present : Bool
  pub faults : ℕ
  pub accept_faults : ℕ

-- nothing that comes or goes is told; it is never closed, since a listening socket has no end
abbrev pub door_state : Doorway → LinkState
door_state d = record { present = None; standing = record { earlier = None; accept_faults = d.accept_faults; closings = 0 }; faults = d.faults }

-- without a socket every accept fails, and it stays without
abbrev pub NeverOpens : {T E : Type 0} → Doorway → Doorway → Result T E → Type 0
NeverOpens old new result = old.serves ≡ false → IsErr result × (new.serves ≡ false)

-- whether the dial has an address and a connection, and its count
pub record Dialled : Type 0 where
  pub serves : Bool
  pub present : Bool
  pub faults : ℕ

-- nothing that comes or goes is told
abbrev pub dialled_state : Dialled → LinkState
dialled_state d = record { present = None; standing = record { earlier = None; accept_faults = 0; closings = 0 }; faults = d.faults }

-- without an address every connect fails, and it stays without
abbrev pub NeverDials : {T E : Type 0} → Dialled → Dialled → Result T E → Type 0
NeverDials old new result = old.serves ≡ false → IsErr result × (new.serves ≡ false)
