-- Laws of a file that its writers make longer.
use Rattle.std.specs.Prelude.{◌≡◌, ℕ, ◌+◌, ◌<◌, ◌≤◌, ◌^◌, List, length}
use Rattle.fsl_disk.specs.Disk.{CutShort}
use Rattle.fsl_record.specs.declared.Record.{Record}
use Rattle.fsl_journal.specs.Commit.{body_of, HeldOrCarried}
use Rattle.fsl_journal.specs.File.{IsFileOf}
use Rattle.fsl_journal.specs.Gates.{HasGroups, Grows, Next}
use Rattle.fsl_journal.specs.Log.{IsLog}

-- a file of records has groups
abbrev pub HasFileGroups : Type 0
HasFileGroups = (bytes : List ℕ) (records : List Record) → IsFileOf bytes records → (mark : ℕ) × ((groups : List (List ℕ)) × HasGroups mark groups bytes)

-- a file that stands for records, and of which each next moment is a step of a writer, grows
abbrev pub IsLifeGrown : Type 0
IsLifeGrown = (held : ℕ → List ℕ) (from mark : ℕ) (groups : List (List ℕ)) → HasGroups mark groups (held from) → ((n : ℕ) → from ≤ n → Next (held n) (held (n + 1))) → Grows held from

-- steps of a writer lead from the first to the second: three at most
abbrev pub IsReached : List ℕ → List ℕ → Type 0
IsReached one other = (d : List ℕ) × ((e : List ℕ) × Next one d × Next d e × Next e other)

-- whatever a commit may leave at a moment of it, behind the closed gate at a file's end, is reached by steps
abbrev pub IsCommitInSteps : Type 0
IsCommitInSteps = (records : List Record) (mark place : ℕ) (held bytes c : List ℕ) → IsLog records mark place held → length held ≡ place + 1 → length bytes < 2 ^ 64 →
    HeldOrCarried mark held place (body_of bytes) c → IsReached held c

-- whatever an opening may leave at a moment of its cut is one step
abbrev pub IsCutAStep : Type 0
IsCutAStep = (records : List Record) (mark place : ℕ) (held c : List ℕ) → IsLog records mark place held → CutShort (place + 1) held c → Next held c
