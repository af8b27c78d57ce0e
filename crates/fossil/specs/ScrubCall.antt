-- What the parts of a scrub say of what they did.
use Rattle.std.specs.Prelude.{◌≡◌, ◌++◌, ℕ, List, Some, Result, Ok, Err, codes, decimal}
use Rattle.fsl_outside.specs.Streams.{SinkState}
use Rattle.fsl_disk.specs.Disk.{DiskState}
use Rattle.fsl_repo.specs.Whole.{Whole}
use Rattle.fsl_scrub.specs.declared.scrubbing.Scrubbed.{Scrubbed}
use Rattle.fsl_scrub.specs.declared.faults.ScrubFault.{ScrubFault}
use Rattle.fsl_scrub.specs.declared.faults.ScrubFault.TheVariants as fault
use Rattle.fsl_words.specs.declared.Command.{Command}
use Rattle.fossil.specs.declared.ran.Ran.{Ran}
use Rattle.fossil.specs.Printed.{refused, damaged, disk_fault, no_memory}
use Rattle.fossil.specs.Outcome.{said}
use Rattle.fossil.specs.Acts.{file_of, loaded_of, IsOpened}
use Rattle.fossil.specs.Due.{printed, IsDue, Due}
use Rattle.fossil.specs.RunCall.{states, back}
use Rattle.fossil.specs.Scrubs.{counts, HasScrubbed, ScrubsIf}

-- what is due of a scrub that wasn't made
abbrev pub IsUnscrubbedDue : ScrubFault → Due → Type 0
IsUnscrubbedDue (fault.NotEmpty len) d = IsDue (refused (codes "file not empty " ++ decimal len)) d
IsUnscrubbedDue fault.Disk d = printed d ≡ disk_fault
IsUnscrubbedDue (fault.Damaged name found) d = printed d ≡ damaged name found
IsUnscrubbedDue fault.Memory d = printed d ≡ no_memory

-- and of a scrub
abbrev pub IsScrubDue : Result Scrubbed ScrubFault → Due → Type 0
IsScrubDue (Ok made) d = IsDue (counts made.blobs made.shuns made.len) d
IsScrubDue (Err why) d = IsUnscrubbedDue why d

-- what a scrub of a repository that was opened from whatever file came to
abbrev pub ScrubsInto : {D P : Type 0} → (D → DiskState) × Whole D × Whole D → (P → DiskState) × P × P → Due → Type 0
ScrubsInto repo peer due =
    (disk : _) → IsOpened (repo.0 disk) (repo.0 repo.1.disk) (loaded_of repo.1) →
    HasScrubbed (file_of (repo.0 disk, repo.0 repo.2.disk)) (file_of (states peer)) (λ o. printed due ≡ o)

-- what a scrub of a file came to
abbrev pub ScrubsFile : {D P : Type 0} → (D → DiskState) × D × D → (P → DiskState) × P × P → Due → Type 0
ScrubsFile file peer due = HasScrubbed (file_of (states file)) (file_of (states peer)) (λ o. printed due ≡ o)

-- ---- a run

-- by its command
abbrev pub ScrubsFor : {D P K : Type 0} → Command → (D → DiskState) × D → (P → DiskState) × P → (K → SinkState) × K × K → Ran D P → Type 0
ScrubsFor command repo peer out ran = ScrubsIf (Some command) (back repo ran.repo) (back peer ran.peer) (states out) ran.status

-- by its words
abbrev pub ScrubsAs : {D P K : Type 0} → List (List ℕ) → (D → DiskState) × D → (P → DiskState) × P → (K → SinkState) × K × K → Ran D P → Type 0
ScrubsAs words repo peer out ran = ScrubsIf (said words) (back repo ran.repo) (back peer ran.peer) (states out) ran.status
