-- What the parts of `put` and `ingest` say of the files of a message.
use Rattle.std.specs.Prelude.{[], ◌≡◌, ◌≤◌, ◌+◌, ◌&&◌, ◌||◌, not, true, false, ℕ, Bool, List, ◌∷◌, ◌++◌, length, drop, map, flat_map, codes, Option, Some, None, is_some, if◌then◌else◌, Result, Ok, Err, ⊤}
use Rattle.std.specs.FinSet as set
use Rattle.std.specs.FinMap as map_of
use Rattle.std.specs.List.{AllZip}
use Rattle.std.specs.Str.{bytes_eq}
use Rattle.std.specs.BTreeMap.{BTreeMap, get, insert_entry}
use Rattle.std.specs.BTreeSet.{BTreeSet, contains}
use Rattle.fsl_order.specs.Names.{bytes_cmp, has}
use Rattle.fsl_date.specs.Moment.{IsMoment}
use Rattle.fsl_outside.specs.Clocks.{Asks}
use Rattle.fsl_outside.specs.Streams.{SourceState}
use Rattle.fsl_record.specs.Receipts.{Brought}
use Rattle.fsl_disk.specs.Disk.{DiskState}
use Rattle.fsl_text.specs.Limits.{most_held_bytes}
use Rattle.fsl_blobs.specs.Fold.{Held, HeldSet, held_bytes}
use Rattle.fsl_cluster.specs.declared.Fact.{Fact}
use Rattle.fsl_cluster.specs.Clusters.{unclustered, missing}
use Rattle.fsl_cross.specs.declared.Item.{Item}
use Rattle.fsl_cross.specs.Facts.{cluster_fact}
use Rattle.fsl_repo.specs.declared.Arrival.{Arrival}
use Rattle.fsl_repo.specs.declared.ArriveFault.{ArriveFault}
use Rattle.fsl_repo.specs.declared.ArriveFault.TheVariants as arrive_fault
use Rattle.fsl_repo.specs.Machine.{State, now, AreItems, IsItemOf, IsArrival, ArriveStep, arrived}
use Rattle.fsl_repo.specs.Whole.{Whole, opened}
use Rattle.fsl_words.specs.declared.Command.TheVariants as command_of
use Rattle.fossil.specs.declared.reading.message.MessageFile.{MessageFile}
use Rattle.fossil.specs.declared.reading.checking.Checked.{Checked}
use Rattle.fossil.specs.declared.reading.checking.Checked.TheVariants as checked
use Rattle.fossil.specs.declared.reading.arrivals.Arrivals.{Arrivals}
use Rattle.fossil.specs.declared.reading.arrivals.Arrivals.TheVariants as came
use Rattle.fossil.specs.declared.reading.gathering.Gathered.{Gathered}
use Rattle.fossil.specs.Messages.{IsMessageRefused, IsFileList}
use Rattle.fossil.specs.Due.{Due}
use Rattle.fossil.specs.Printed.{Printed, name_line}
use Rattle.fossil.specs.Arrivals.{Taken, none_taken, arrival_word, refusal_of, Arrive}
use Rattle.fossil.specs.Ingest.{fresh}
use Rattle.fossil.specs.Acts.{input_of, loaded_of, IsInput, IsOpened, Acts}
use Rattle.fossil.specs.Put.{put_receipt}
use Rattle.fossil.specs.RunCall.{Moments, states}

-- what is told of a message before its files arrive
abbrev pub IsChecked : List ℕ → Checked → Type 0
IsChecked message (checked.Files files) = IsFileList message files
IsChecked message (checked.Refused refusal) = IsMessageRefused message refusal

-- ---- put

-- all files were taken behind the old records, each with this receipt, with these lines
pub record AreAllTaken (receipt : Brought) (files : List MessageFile) (old new : State) (lines : List ℕ) : Type 0 where
  pub taken : Taken
  pub arrive : Arrive (Some receipt) (none_taken (opened old.records 0 true)) files (Ok taken)
  pub printed : lines ≡ taken.text
  pub records : new.records ≡ old.records ++ drop (length old.records) taken.state.records
  pub committed : new.committed ≡ old.committed
  pub runs : new.stopped ≡ None

-- what a file came to that arrived in a repository: its line comes behind those of the files before it, or else it is refused
abbrev pub HasCome : Brought → MessageFile → State × State → List ℕ × List ℕ → Option Printed → Type 0
HasCome receipt f repo lines None =
    (a : Arrival) × ArriveStep repo.0 f.name (Some receipt) f.bytes f.private (Ok a) repo.1 × (lines.1 ≡ lines.0 ++ name_line (arrival_word a) f.name)
HasCome receipt f repo lines (Some refusal) =
    (fault : ArriveFault) × ArriveStep repo.0 f.name (Some receipt) f.bytes f.private (Err fault) repo.1 × (refusal_of f.name (Err fault) ≡ Some refusal)

-- what files came to that arrived in a repository, each with this receipt
abbrev pub HaveArrived : Brought → List MessageFile → State → State → Arrivals → Type 0
HaveArrived receipt files old new (came.Taken lines) = AreAllTaken receipt files old new lines
HaveArrived receipt files old new (came.Refused refusal) = Arrive (Some receipt) (none_taken (opened old.records 0 true)) files (Err refusal)

-- what a clock gave of one moment: the receipt of what is put, which has the moment that it answered
pub record IsPutReceipt (before after : Moments) (receipt : Brought) : Type 0 where
  pub put : receipt ≡ put_receipt receipt.moment
  pub is_moment : IsMoment receipt.moment
  pub answered : Asks before after (receipt.moment ∷ [])

-- what `put` did with a message over a repository that was opened, under this clock, of whatever input and file these are
abbrev pub PutsMessage : {C D : Type 0} → List ℕ → (C → Moments) × C × C → (D → DiskState) × Whole D × Whole D → Due → Type 0
PutsMessage message clock repo result =
    (disk : _) (input : SourceState × SourceState) → IsInput (input_of input) (Some message)
    → IsOpened (repo.0 disk) (repo.0 repo.1.disk) (loaded_of repo.1) → Acts command_of.Put input (states clock) (repo.0 disk, repo.0 repo.2.disk) result

-- the same of its files
abbrev pub PutsFiles : {C D : Type 0} → List MessageFile → (C → Moments) × C × C → (D → DiskState) × Whole D × Whole D → Due → Type 0
PutsFiles files clock repo result = (message : List ℕ) → IsFileList message files → PutsMessage message clock repo result

-- the same of its files, behind the moment of this receipt
abbrev pub PutsWith : {D : Type 0} → Brought → List MessageFile → (D → DiskState) × Whole D × Whole D → Due → Type 0
PutsWith receipt files repo result =
    (message : List ℕ) (clock : Moments × Moments) → IsFileList message files → IsPutReceipt clock.0 clock.1 receipt →
    (disk : _) (input : SourceState × SourceState) → IsInput (input_of input) (Some message)
    → IsOpened (repo.0 disk) (repo.0 repo.1.disk) (loaded_of repo.1) → Acts command_of.Put input clock (repo.0 disk, repo.0 repo.2.disk) result

-- the same of an input, which is read here
abbrev pub PutsInput : {S C D : Type 0} → (S → SourceState) × S × S → (C → Moments) × C × C → (D → DiskState) × Whole D × Whole D →
    Due → Type 0
PutsInput input clock repo result =
    (disk : _) → IsOpened (repo.0 disk) (repo.0 repo.1.disk) (loaded_of repo.1)
    → Acts command_of.Put (states input) (states clock) (repo.0 disk, repo.0 repo.2.disk) result

-- ---- ingest

-- the fact of an artifact, by what it is
abbrev pub IsFactOf : List ℕ × Held → Fact → Type 0
IsFactOf entry fact = (item : Item) × IsItemOf entry item × (fact ≡ cluster_fact item)

-- the fact of a held artifact stands under its name
abbrev pub IsNotedAs : List ℕ × Held → List ℕ × Fact → Type 0
IsNotedAs entry noted = (noted.0 ≡ entry.0) × IsFactOf entry noted.1

-- the facts are those of the held artifacts, by name
abbrev pub AreNoted : HeldSet → BTreeMap (List ℕ) Fact → Type 0
AreNoted held facts = AllZip IsNotedAs (map_of.entries held) facts.entries

-- the artifact of a name is public from then on
abbrev pub MakesPublic : List ℕ → BTreeMap (List ℕ) Fact → BTreeMap (List ℕ) Fact → Type 0
MakesPublic name old new =
    (held : HeldSet) (a : Held) → map_of.get held name ≡ Some a → AreNoted held old → AreNoted (map_of.insert held name (record a { private = false })) new

-- what an arrival in a set looks at and leaves: the facts of what is held and its size, no name that is shunned, and the names that held artifacts refer to
-- and that aren't held
pub record IsGathered (s : State) (g : Gathered) : Type 0 where
  pub runs : s.stopped ≡ None
  pub none : (now s).shunned ≡ set.empty
  pub noted : AreNoted (now s).held g.facts
  pub bytes : g.bytes ≡ held_bytes (now s).held
  pub few : g.bytes ≤ most_held_bytes
  pub wanted : (items : List Item) → AreItems (now s).held items → (name : List ℕ) →
      contains bytes_cmp g.wanted name ≡ has (missing (map cluster_fact items)) name

-- a file arrived in a set
abbrev pub IsGatheredBy : MessageFile → Gathered → Gathered → Result Arrival ArriveFault → Type 0
IsGatheredBy f old new (Ok a) = (s : State) → IsGathered s old → IsArrival s f.name f.bytes f.private (Ok a)
    × IsGathered (arrived s f.name None f.bytes f.private (Ok a)) new
IsGatheredBy f old new (Err arrive_fault.Memory) = ⊤
IsGatheredBy f old new (Err fault) = (s : State) → IsGathered s old → IsArrival s f.name f.bytes f.private (Err fault)

-- what files came to that arrived in a set: all were taken, or a refusal
abbrev pub HaveGathered : List MessageFile → Gathered → Option Printed → Type 0
HaveGathered files new None = (taken : Taken) × Arrive None (none_taken fresh) files (Ok taken) × IsGathered taken.state new
HaveGathered files new (Some refusal) = Arrive None (none_taken fresh) files (Err refusal)

-- whether a fact stands under a name
abbrev pub is_noted : BTreeMap (List ℕ) Fact → List ℕ → Bool
is_noted facts name = is_some (get bytes_cmp facts name)

-- to the wanted names come those of these under which no fact stands
abbrev pub WantsUnnoted : (List ℕ → Bool) → BTreeMap (List ℕ) Fact → BTreeSet (List ℕ) → BTreeSet (List ℕ) → Type 0
WantsUnnoted these facts old new =
    (q : List ℕ) → contains bytes_cmp new q ≡ (contains bytes_cmp old q || (these q && not (is_noted facts q)))

-- an artifact whose name isn't there was added: its fact and its size, and to the wanted names come those that it refers to and that aren't there; its own is
-- wanted no more
pub record IsAdded (name : List ℕ) (a : Held) (old new : Gathered) : Type 0 where
  pub fact : Fact
  pub is_fact : IsFactOf (name, a) fact
  pub facts : new.facts.entries ≡ insert_entry bytes_cmp old.facts.entries name fact
  pub bytes : new.bytes ≡ old.bytes + length a.bytes
  pub wanted : (q : List ℕ) → contains bytes_cmp new.wanted q ≡
      (if bytes_eq q name then false else (contains bytes_cmp old.wanted q || (has fact.refs q && not (is_noted old.facts q))))

-- the lines of facts
abbrev pub report_of : List Fact → List ℕ
report_of facts = flat_map (name_line (codes "unclustered")) (unclustered facts) ++ flat_map (name_line (codes "wanted")) (missing facts)
