-- Lives of a repository: what is done in one before its commit, how it ended, and lives one after the other.
use Rattle.std.specs.Prelude.{◌≡◌, ◌⊎◌, ℕ, Bool, true, false, if◌then◌else◌, ◌&&◌, List, [], ◌∷◌, ◌++◌, length, drop, reverse, None, IsTrue}
use Rattle.fsl_order.specs.Causes.{Rose}
use Rattle.fsl_disk.specs.Disk.{DiskState, IsModelled, Keeps, LeavesOnly}
use Rattle.fsl_record.specs.declared.Record.{Record}
use Rattle.fsl_journal.specs.File.{IsFileOf}
use Rattle.fsl_journal.specs.Journal.{OfBytes}
use Rattle.fsl_journal.specs.Log.{WhereBetween}
use Rattle.fsl_repo.specs.Opening.{OpenFailed}
use Rattle.fsl_repo.specs.Whole.{Whole}
use Rattle.laws_openings.specs.declared.living.Put.{Put}
use Rattle.laws_openings.specs.declared.living.Ending.{Ending}
use Rattle.laws_openings.specs.declared.living.Ending.TheVariants as ending
use Rattle.laws_openings.specs.declared.surviving.Lived.{Lived}
use Rattle.laws_openings.specs.Chain.{Puts, Try, AreReached, IsLeftBy, try_of}

-- ---- the work

-- work that leaves the disk and commits nothing: such records come behind the others
pub record IsWork {D : Type 0} (puts : List Record → List Record → Type 0) (old new : Whole D) : Type 0 where
  pub disk : new.disk ≡ old.disk
  pub committed : new.seen.state.committed ≡ old.seen.state.committed
  pub stopped : new.seen.state.stopped ≡ old.seen.state.stopped
  pub group : List Record
  pub fits : puts old.seen.state.records group
  pub records : new.seen.state.records ≡ old.seen.state.records ++ group

-- the records that were opened, those that stood there behind the work, and those that this put there
abbrev pub opened_records : {D : Type 0} → Put D → List Record
opened_records p = p.opened.value.seen.state.records

abbrev pub worked_records : {D : Type 0} → Put D → List Record
worked_records p = p.worked.value.seen.state.records

abbrev pub group_of : {D : Type 0} → Put D → List Record
group_of p = drop (length (opened_records p)) (worked_records p)

-- ---- how a life ends

-- which records a life put there; where it didn't come to its commit, none
abbrev pub group_in : {D : Type 0} → Ending D → List Record
group_in (ending.Done put) = group_of put
group_in (ending.Cut put) = group_of put
group_in _ = []

-- whether its commit was done
abbrev pub is_done : {D : Type 0} → Ending D → Bool
is_done (ending.Done put) = true
is_done _ = false

-- the bytes that were read stand for what was opened, and the work put the group behind it, which is one that it puts there
pub record IsPut {D : Type 0} (puts : List Record → List Record → Type 0) (before : DiskState) (p : Put D) : Type 0 where
  pub stands : OfBytes before (λ bytes. IsFileOf bytes (opened_records p))
  pub fits : puts (opened_records p) (group_of p)
  pub records : worked_records p ≡ opened_records p ++ group_of p

-- how a life ended is so of the disk before and behind it: the work is committed, and no call failed; a call failed in the commit; there was no memory for the
-- work, over a file that stands for records; or it wasn't opened, as a repository isn't
abbrev pub HasEnded : {D : Type 0} → (List Record → List Record → Type 0) → DiskState → DiskState → Ending D → Type 0
HasEnded puts before after (ending.Done put) = IsPut puts before put × (after.faults ≡ before.faults)
HasEnded puts before after (ending.Cut put) = IsPut puts before put × Rose before.faults after.faults
HasEnded puts before after ending.Unworked = ((records : List Record) × OfBytes before (λ bytes. IsFileOf bytes records)) × (after.faults ≡ before.faults)
HasEnded puts before after (ending.Unopened fault) = OpenFailed fault before after

-- ---- what is done behind an opening

-- a repository as an opening leaves it: each record is committed, and no commit failed
pub record IsFresh {D : Type 0} (repo : Whole D) : Type 0 where
  pub committed : repo.seen.state.committed ≡ length repo.seen.state.records
  pub runs : repo.seen.state.stopped ≡ None

-- how the commit of such work ended
abbrev pub IsCommitOf : {D : Type 0} → Put D → DiskState → DiskState → Ending D → Type 0
IsCommitOf put before after (ending.Done p) = (p ≡ put) × (after.faults ≡ before.faults)
IsCommitOf put before after (ending.Cut p) = (p ≡ put) × Rose before.faults after.faults
IsCommitOf put before after _ = ⊥

-- a work put the group behind these records, which were opened
pub record HasPut {D : Type 0} (puts : List Record → List Record → Type 0) (old : List Record) (p : Put D) : Type 0 where
  pub opened : opened_records p ≡ old
  pub fits : puts old (group_of p)
  pub records : worked_records p ≡ old ++ group_of p

-- how a life ended whose repository was opened with these records
abbrev pub HasWorked : {D : Type 0} → (List Record → List Record → Type 0) → List Record → DiskState → DiskState → Ending D → Type 0
HasWorked puts old before after (ending.Done put) = HasPut puts old put × (after.faults ≡ before.faults)
HasWorked puts old before after (ending.Cut put) = HasPut puts old put × Rose before.faults after.faults
HasWorked puts old before after ending.Unworked = after.faults ≡ before.faults
HasWorked puts old before after (ending.Unopened fault) = ⊥

-- what it leaves: at each moment each image stands for these records, or for these and all of the group, which its work puts behind them; for the latter where
-- it was done
pub record IsTried {D : Type 0} (puts : List Record → List Record → Type 0) (old : List Record) (e : Ending D) (before after : DiskState) : Type 0 where
  pub keeps : Keeps before after
  pub any_moment : IsModelled before → LeavesOnly before after (λ c. IsFileOf c old ⊎ (puts old (group_in e) × IsFileOf c (old ++ group_in e)))
  pub durable : IsTrue (is_done e) → puts old (group_in e) × (IsModelled before → (c : List ℕ) → after.images c → IsFileOf c (old ++ group_in e))
  pub ended : HasWorked puts old before after e

-- ---- lives one after the other

-- what works are: which records each puts behind others, and whether somebody waits to hear that this was done
pub record Does (W : Type 0) : Type 1 where
  pub puts : Puts W
  pub heard : W → Bool

abbrev pub does_of : {W : Type 0} → Puts W → (W → Bool) → Does W
does_of puts heard = record { puts = puts; heard = heard }

-- what a life of a work tried
abbrev pub try_in : {D W : Type 0} → W → Lived D → Try W
try_in work l = try_of work l.is_heard (group_in l.ending)

-- a life of a work over such a disk, and its end: how it ended is so of its disk, of which it changes neither whether it tells its contents nor whether it
-- meets the disk model; it was heard where somebody waited and it was done; and a crash came at some moment since it began or, where it was heard, behind it
pub record IsLifeOf {D W : Type 0} (state : D → DiskState) (does : Does W) (work : W) (first : D) (l : Lived D) (left : D) : Type 0 where
  pub began : l.began.value ≡ first
  pub keeps : Keeps (state l.began.value) (state l.ended.value)
  pub ended : HasEnded (does.puts work) (state l.began.value) (state l.ended.value) l.ending
  pub heard : l.is_heard ≡ (is_done l.ending && does.heard work)
  pub crash : IsLeftBy (state (if l.is_heard then l.ended.value else l.began.value)) (state l.ended.value) (state left)

-- lives of these works, one for each, the first over the first disk, and each other over what the end of the one before it left
abbrev pub AreLives : {D W : Type 0} → (D → DiskState) → Does W → D → List W → List (Lived D) → D → Type 0
AreLives state does first [] [] last = last ≡ first
AreLives {D} state does first (work ∷ works) (l ∷ later) last =
    (left : D) × IsLifeOf state does work first l left × AreLives state does left works later last
AreLives state does first _ _ last = ⊥

-- what they tried, in their order
abbrev pub tries_of : {D W : Type 0} → List W → List (Lived D) → List (Try W)
tries_of (work ∷ works) (l ∷ lives) = try_in work l ∷ tries_of works lives
tries_of _ _ = []

-- where each image of the first disk stands between two lists, each of the other stands for such a list with what was tried behind it
abbrev pub SurvivesAll : {D W : Type 0} → Puts W → List W → List (Lived D) → DiskState → DiskState → Type 0
SurvivesAll puts works lives first now = WhereBetween first (λ low high. AreReached puts low high (reverse (tries_of works lives)) now.images)
