-- Over disks that tell their contents and meet the disk model no content is found damaged.
use Rattle.std.specs.Prelude.{◌≡◌, Bool, true, false, List, Result, Err}
use Rattle.std.specs.List.{list_any}
use Rattle.fsl_disk.specs.Disk.{DiskState, IsModelled}
use Rattle.fsl_repo.specs.declared.Answer.{Answer}
use Rattle.fsl_repo.specs.declared.Answer.TheVariants as answer
use Rattle.fsl_repo.specs.declared.BuildFault.{BuildFault}
use Rattle.fsl_repo.specs.declared.BuildFault.TheVariants as build_fault
use Rattle.fsl_repo.specs.Whole.{Whole}
use Rattle.fsl_turn.specs.Told.{Runs}
use Rattle.fsl_serve.specs.Calls.{Call, told, AllMay}
use Rattle.fsl_serve.specs.Ordered.{steps_by}

-- whether a build found a content damaged
abbrev pub finds_damage : {X : Type 0} → Result X BuildFault → Bool
finds_damage (Err (build_fault.Damaged name found)) = true
finds_damage _ = false

abbrev pub tells_damage : Answer → Bool
tells_damage (answer.Build result) = finds_damage result
tells_damage _ = false

-- none of these calls was answered so
abbrev pub NoneDamaged : List Call → Type 0
NoneDamaged made = list_any tells_damage (told made) ≡ false

-- Law. Where all disks of a type are such ones, this holds of every session
abbrev pub NoneInSessions : {D : Type 0} → (D → DiskState) → Type 0
NoneInSessions {D} tells = ((d : D) → IsModelled (tells d)) → (made : List Call) → AllMay tells made → NoneDamaged made

-- Law. It holds of the calls that lead from a repository over one such disk to another, one after another
abbrev pub NoneSince : {D : Type 0} → (D → DiskState) → Type 0
NoneSince {D} tells =
    (first last : Whole D) (made : List Call) → IsModelled (tells first.disk) → Runs (steps_by tells) first made last → NoneDamaged made
