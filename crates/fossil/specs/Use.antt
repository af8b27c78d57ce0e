-- What a command of the program may use.
use Rattle.std.specs.Prelude.{Bool, false}

pub record Use : Type 0 where
  -- it reads the input
  pub reads : Bool
  -- it touches the file
  pub opens : Bool
  -- it begins with an empty file
  pub begins : Bool
  -- it syncs with a peer; its outcome is told by what it read of the peer, too
  pub syncs : Bool
  -- it clones; that has no outcome of a command that syncs, since it begins the file
  pub clones : Bool
  -- it syncs unversioned files with a peer's file, and may append to both
  pub merges : Bool
  -- it writes a new file of the repository over the peer's
  pub scrubs : Bool
  -- it uses the peer's file
  pub asks_peer : Bool
  -- it uses the dial
  pub dials : Bool
  -- it may ask the clock
  pub ticks : Bool

abbrev pub nothing : Use
nothing =
    record { reads = false; opens = false; begins = false; syncs = false; clones = false; merges = false; scrubs = false; asks_peer = false; dials = false; ticks = false }
