-- What the parts of `export` and `verify` say of what they did.
use Rattle.std.specs.Prelude.{◌≡◌, ℕ, Bool, List, Ok, Err, ⊤}
use Rattle.fsl_order.specs.Causes.{Rose}
use Rattle.fsl_disk.specs.Disk.{DiskState}
use Rattle.fsl_blobs.specs.Fold.{HeldSet}
use Rattle.fsl_cross.specs.declared.Item.{Item}
use Rattle.fsl_repo.specs.Machine.{now}
use Rattle.fsl_repo.specs.Whole.{Whole, is_modelled}
use Rattle.fsl_query.specs.Answers.{IsSpoiltIn}
use Rattle.fsl_checkin.specs.declared.answers.Export.{Export}
use Rattle.fsl_checkin.specs.declared.answers.Verdict.{Verdict}
use Rattle.fsl_checkin.specs.Reads.{IsExportRead, IsVerdictRead, IsTested}
use Rattle.fsl_checkin.specs.declared.answers.ExportFault.{ExportFault}
use Rattle.fsl_checkin.specs.declared.answers.ExportFault.TheVariants as unread
use Rattle.fossil.specs.declared.answers.fault.Fault.{Fault}
use Rattle.fossil.specs.declared.answers.fault.Fault.TheVariants as fault_is
use Rattle.fossil.specs.Due.{Due}
use Rattle.fossil.specs.Printed.{Printed}
use Rattle.fossil.specs.Trees.{export_printed, verdict_printed, IsExportAsked}

-- a fault of a check-in that was read
abbrev pub fault_as : ExportFault → Fault
fault_as unread.Disk = fault_is.Disk
fault_as (unread.Damaged name found) = fault_is.Damaged name found
fault_as unread.Memory = fault_is.Memory

-- how a check-in's contents are read, and its answer printed, and which contents are asked for
pub record Reading (X : Type 0) : Type 1 where
  pub Reads : Bool → HeldSet → List Item → List ℕ → X → Type 0
  pub print : List ℕ → X → Printed
  pub Asks : Bool → HeldSet → List Item → List ℕ → List ℕ → Type 0

-- what is answered of a name, by a repository before it was read and after it: an answer, and no call of its disk failed; or why there is none. Want of memory
-- has no cause, and no call failed then
abbrev pub IsNamedAnswer : {X D : Type 0} → Reading X → List ℕ → (D → DiskState) × Whole D × Whole D → Due → Type 0
IsNamedAnswer {X} way name repo (Ok a) =
    (answer : X) × way.Reads (is_modelled (repo.0 repo.1.disk)) (now repo.1.seen.state).held repo.1.seen.items name answer × (a ≡ way.print name answer)
    × ((repo.0 repo.2.disk).faults ≡ (repo.0 repo.1.disk).faults)
IsNamedAnswer way name repo (Err fault_is.Disk) = Rose (repo.0 repo.1.disk).faults (repo.0 repo.2.disk).faults
IsNamedAnswer way name repo (Err (fault_is.Damaged damaged found)) =
    way.Asks (is_modelled (repo.0 repo.1.disk)) (now repo.1.seen.state).held repo.1.seen.items name damaged
    × IsSpoiltIn (is_modelled (repo.0 repo.1.disk)) (now repo.1.seen.state) damaged found
    × ((repo.0 repo.2.disk).faults ≡ (repo.0 repo.1.disk).faults)
IsNamedAnswer way name repo (Err fault_is.Memory) = (repo.0 repo.2.disk).faults ≡ (repo.0 repo.1.disk).faults
IsNamedAnswer way name repo (Err fault) = ⊥

-- of `export` and of `verify`
abbrev pub exporting : Reading Export
exporting = record { Reads = IsExportRead; print = export_printed; Asks = λ honest. IsExportAsked }

abbrev pub verifying : Reading Verdict
verifying = record { Reads = IsVerdictRead; print = verdict_printed; Asks = IsTested }
