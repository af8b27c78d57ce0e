-- Laws of the outcomes of the commands that sync.
use Rattle.std.specs.Prelude.{◌≡◌, ℕ, true, List, [], ◌++◌, length, IsTrue}
use Rattle.fsl_http.specs.Responses.{Exchanged}
use Rattle.fsl_pull.specs.Rounds.{most_rounds}
use Rattle.fsl_pull.specs.Dialled.{Rounds}
use Rattle.fsl_pull.specs.Laws.{replies}
use Rattle.fsl_words.specs.declared.Command.{Command}
use Rattle.fsl_words.specs.declared.Command.TheVariants.{PullLocal}
use Rattle.fossil.specs.Uses.{command_syncs, command_dials}
use Rattle.fossil.specs.Outcome.{Outcome}
use Rattle.fossil.specs.Syncs.{Honesty}
use Rattle.fossil.specs.Synced.{Read, IsSyncOutcome}

-- what was read of two files, whose disks are of these kinds, and the rounds
abbrev pub reading : Honesty → List ℕ → List ℕ → Rounds → Read
reading honest file peer rounds = record { file = file; peer = peer; honest = honest.0; peer_honest = honest.1; rounds = rounds }

-- Law. A command that syncs has one outcome at most: of replies that begin alike it needs no more than another time
pub record HasOneSyncOutcome : Type 0 where
  -- over honest disks
  pub one : (command : Command) (file peer : List ℕ) (xs ys : Rounds) (more : List Exchanged) (a b : Outcome) →
      replies ys ≡ replies xs ++ more → IsSyncOutcome command (reading (true, true) file peer xs) a →
      IsSyncOutcome command (reading (true, true) file peer ys) b → (ys ≡ xs) × (b ≡ a)
  -- whatever the disks, over a network: contents are sent as they are read, so that requests may differ
  pub over : (honest : Honesty) (command : Command) (file peer : List ℕ) (xs ys : Rounds) (more : List Exchanged) (a b : Outcome) →
      IsTrue (command_dials command) → replies ys ≡ replies xs ++ more → IsSyncOutcome command (reading honest file peer xs) a →
      IsSyncOutcome command (reading honest file peer ys) b → (replies ys ≡ replies xs) × (b ≡ a)

-- Law. And it has one: over any two files, whatever their disks, and of as many replies as a sync may have after some first ones
pub record HasSomeSyncOutcome : Type 0 where
  pub local : (honest : Honesty) (path file peer : List ℕ) → (o : Outcome) × IsSyncOutcome (PullLocal path) (reading honest file peer []) o
  pub over : (honest : Honesty) (command : Command) (file peer : List ℕ) (came : List Exchanged) →
      IsTrue (command_syncs command) → IsTrue (command_dials command) → length came ≡ most_rounds →
      (rounds : Rounds) × (rest : List Exchanged) × (o : Outcome) × (came ≡ replies rounds ++ rest)
      × IsSyncOutcome command (reading honest file peer rounds) o
