-- What contracts see of a link, a dial and a door over memory.
use Rattle.std.specs.Prelude.{◌≡◌, ℕ, ◌-◌, ◌<◌, ◌≤◌, min, List, [], length, get_or, Some}
use Rattle.fsl_outside.specs.Connections.{Connection, Standing, LinkState}
use Rattle.fsl_outside.specs.Lines.{Lines, line_count, begin}
use Rattle.fsl_outside.specs.declared.link.Accepted.{Accepted}
use Rattle.fsl_outside.specs.declared.link.Accepted.TheVariants as accepted

-- no connection before the present one
abbrev pub first_standing : Standing
first_standing = record { earlier = Some []; accept_faults = 0; closings = 0 }

-- a link: its connection, the numbers of the calls that are to fail, and the calls so far
pub record MemoryLine : Type 0 where
  pub line : Connection
  pub fails : List ℕ
  pub calls : ℕ

-- a dial: its connections, and the replies that they give in turn
pub record MemoryCalls : Type 0 where
  pub lines : Lines
  pub replies : List (List ℕ)

abbrev pub dial_state : MemoryCalls → LinkState
dial_state s = record {
  present = s.lines.present;
  standing = record { earlier = Some s.lines.earlier; accept_faults = 0; closings = 0 };
  faults = s.lines.faults;
}

-- the bytes that the n-th connection gives, counted from 0: the last reply again behind them all, and none where there is no reply
abbrev pub reply_at : List (List ℕ) → ℕ → List ℕ
reply_at replies n = get_or replies (min n (length replies - 1)) []

-- a door: its connections, those that are to come, and the accepts
pub record MemoryAccepts : Type 0 where
  pub lines : Lines
  pub connections : List (List ℕ)
  pub accept_fails : List ℕ
  pub accepts : ℕ
  pub accept_faults : ℕ
  pub closings : ℕ

abbrev pub door_standing : MemoryAccepts → Standing
door_standing s = record { earlier = Some s.lines.earlier; accept_faults = s.accept_faults; closings = s.closings }

abbrev pub door_state : MemoryAccepts → LinkState
door_state s = record { present = s.lines.present; standing = door_standing s; faults = s.lines.faults }

-- what an accept gives: the next connection, or behind the last one nothing
abbrev pub DoorGives : MemoryAccepts → Lines → Accepted → Type 0
DoorGives old new accepted.Connection =
    (line_count old.lines < length old.connections)
    × (new ≡ begin old.lines (get_or old.connections (line_count old.lines) []))
DoorGives old new accepted.Closed = (length old.connections ≤ line_count old.lines) × (new ≡ old.lines)
