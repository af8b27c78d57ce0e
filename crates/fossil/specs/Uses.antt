-- What each command of the program uses.
use Rattle.std.specs.Prelude.{Bool, true, ◌||◌}
use Rattle.fsl_words.specs.declared.Command.{Command}
use Rattle.fsl_words.specs.declared.Command.TheVariants.{Init, Ingest, Put, Shun, Unshun, Ask, Serve, Gen, Pull, Push, Clone, PullLocal, Checkin, Export, Verify, Scrub, Unversioned}
use Rattle.fossil.specs.Use.{Use, nothing}
use Rattle.fossil.specs.UvUses.{uv_use}

abbrev pub use_of : Command → Use
use_of (Init project server fields) = record nothing { opens = true; begins = true }
use_of Ingest = record nothing { reads = true }
use_of Put = record nothing { reads = true; opens = true; ticks = true }
use_of (Shun name) = record nothing { opens = true }
use_of (Unshun name) = record nothing { opens = true }
use_of (Ask question) = record nothing { opens = true }
use_of (Serve address users workers requests) = nothing
use_of (Checkin parent user comment) = record nothing { reads = true; opens = true; ticks = true }
use_of (Export prefix) = record nothing { opens = true }
use_of (Verify prefix) = record nothing { opens = true }
use_of (Scrub path) = record nothing { opens = true; scrubs = true; asks_peer = true }
use_of (Unversioned asked) = uv_use asked
use_of (Gen count reversed) = nothing
use_of (Pull address login) = record nothing { opens = true; syncs = true; dials = true }
use_of (Push address login) = record nothing { opens = true; syncs = true; dials = true }
use_of (Clone address server fields) = record nothing { opens = true; begins = true; clones = true; dials = true }
use_of (PullLocal path) = record nothing { opens = true; syncs = true; asks_peer = true }

abbrev pub command_reads : Command → Bool
command_reads command = (use_of command).reads

abbrev pub command_opens : Command → Bool
command_opens command = (use_of command).opens

abbrev pub command_begins : Command → Bool
command_begins command = (use_of command).begins

abbrev pub command_syncs : Command → Bool
command_syncs command = (use_of command).syncs

abbrev pub command_clones : Command → Bool
command_clones command = (use_of command).clones

abbrev pub command_merges : Command → Bool
command_merges command = (use_of command).merges

abbrev pub command_scrubs : Command → Bool
command_scrubs command = (use_of command).scrubs

-- whether it meets a peer: it syncs, clones, merges or scrubs
abbrev pub command_meets : Command → Bool
command_meets command = command_syncs command || (command_clones command || (command_merges command || command_scrubs command))

abbrev pub command_asks_peer : Command → Bool
command_asks_peer command = (use_of command).asks_peer

abbrev pub command_dials : Command → Bool
command_dials command = (use_of command).dials

abbrev pub command_ticks : Command → Bool
command_ticks command = (use_of command).ticks
