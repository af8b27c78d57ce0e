-- What a crash leaves while a file grows at its end.
use Rattle.std.specs.Prelude.{◌≡◌, ℕ, ◌+◌, ◌≤◌, List, ◌++◌, length, IsTrue, Some, Result, IfOk, IfErr, OnOk}
use Rattle.fsl_order.specs.Causes.{HasCause}
use Rattle.fsl_disk.specs.Disk.{DiskState, Told, Keeps, LeavesOnly, Begins, Only}
use Rattle.fsl_journal.specs.Commit.{HeldOrGated, gated}
use Rattle.fsl_journal.specs.Create.{new_file}
use Rattle.fsl_scrub.specs.declared.faults.WriteFault.{WriteFault}
use Rattle.fsl_scrub.specs.Faults.{SpareFails}

-- the file ends at this place
abbrev pub EndsAt : ℕ → DiskState → Type 0
EndsAt at disk = Told disk (λ held. length held ≡ at)

-- each image begins with these bytes
abbrev pub EachBegins : List ℕ → DiskState → Type 0
EachBegins front disk = (c : List ℕ) → disk.images c → Begins front c

-- calls that write behind a place alone, however far they came: where each image began with bytes that end before it, a crash at each moment leaves what begins with them
pub record Grows (at : ℕ) (old new : DiskState) : Type 0 where
  pub keeps : Keeps old new
  pub moments : IsTrue old.is_model → (front : List ℕ) → length front ≤ at → EachBegins front old → LeavesOnly old new (Begins front)

-- the writing of these bytes at the end, which is this place: after Ok they stand there, and the answer is the new end
pub record Writes (at : ℕ) (bytes : List ℕ) (old new : DiskState) (result : Result ℕ WriteFault) : Type 0 where
  pub grows : Grows at old new
  pub longer : OnOk result (Told old (λ held. new.contents ≡ Some (held ++ bytes)))
  pub next : IfOk result (λ end. end ≡ at + length bytes)
  pub later : old.faults ≤ new.faults
  pub same : OnOk result (new.faults ≡ old.faults)
  pub failed : IfErr result (λ fault. SpareFails fault old.faults new.faults)

-- the opening of the first gate, over a file that is a header, a closed gate and a body: at each moment each image begins so, or has the body whole behind its gate; after Ok the gate is open, and each image is this file
pub record Opens {X E : Type 0} (old new : DiskState) (result : Result X E) : Type 0 where
  pub keeps : Keeps old new
  pub contents : OnOk result ((body : List ℕ) → old.contents ≡ Some (new_file ++ body) → new.contents ≡ Some (gated new_file 15 79 body))
  pub durable : OnOk result (IsTrue old.is_model → (body : List ℕ) → old.contents ≡ Some (new_file ++ body) → Only (gated new_file 15 79 body) new.images)
  pub moments : IsTrue old.is_model → (body : List ℕ) → old.contents ≡ Some (new_file ++ body) → EachBegins new_file old → LeavesOnly old new (HeldOrGated new_file 15 body)
  pub cause : HasCause old.faults new.faults result
