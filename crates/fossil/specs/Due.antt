-- What a command or a serve comes to, and what is printed of it.
use Rattle.std.specs.Prelude.{◌≡◌, ◌⊎◌, ℕ, Result, Ok, Err}
use Rattle.fsl_journal.specs.declared.LoadFault.{LoadFault}
use Rattle.fsl_journal.specs.declared.LoadFault.TheVariants as load_fault
use Rattle.fossil.specs.declared.answers.fault.Fault.{Fault}
use Rattle.fossil.specs.declared.answers.fault.Fault.TheVariants as fault_is
use Rattle.fossil.specs.Printed.{Printed, usage, disk_fault, input_fault, link_fault, damaged, no_memory}
use Rattle.fossil.specs.Outcome.{printed_of, not_repository}

-- an answer, which is a report, a refusal or what the peer did wrong; or why there is none
abbrev pub Due : Type 0
Due = Result Printed Fault

-- what is printed of a fault
abbrev pub printed_fault : Fault → Printed
printed_fault fault_is.Usage = usage
printed_fault fault_is.Disk = disk_fault
printed_fault fault_is.Input = input_fault
printed_fault fault_is.Link = link_fault
printed_fault (fault_is.Damaged name found) = damaged name found
printed_fault fault_is.Memory = no_memory

-- and of what is due
abbrev pub printed : Due → Printed
printed (Ok answer) = answer
printed (Err fault) = printed_fault fault

-- this is due, or want of memory
abbrev pub IsDue : Printed → Due → Type 0
IsDue o d = (printed d ≡ o) ⊎ (printed d ≡ no_memory)

-- it is answered, or there was no memory for the answer
abbrev pub IsAnsweredWith : Printed → Due → Type 0
IsAnsweredWith a d = (d ≡ Ok a) ⊎ (d ≡ Err fault_is.Memory)

-- what is due of a file that isn't loaded, by what is printed of one that is no repository
abbrev pub IsNotLoadedAs : (ℕ → Printed) → LoadFault → Due → Type 0
IsNotLoadedAs place load_fault.Disk d = d ≡ Err fault_is.Disk
IsNotLoadedAs place (load_fault.NotRepository at) d = IsAnsweredWith (place at) d
IsNotLoadedAs place load_fault.Memory d = d ≡ Err fault_is.Memory

-- of the file of the repository
abbrev pub IsNotLoadedDue : LoadFault → Due → Type 0
IsNotLoadedDue why d = IsNotLoadedAs (λ at. printed_of (not_repository at)) why d
