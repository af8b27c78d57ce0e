-- The making of a clone's repository, and its opening.
use Rattle.std.specs.Prelude.{◌≡◌, ℕ, ◌+◌, ◌<◌, ◌⊎◌, ◌&&◌, Bool, List, [], ◌∷◌, ◌++◌, length, take, flat_map, Option, Some, None, Result, Ok, Err, IfOk, IfErr, IsTrue}
use Rattle.std.proofs.Common.{refl, sym, ap, subst, ◌∙◌, inl, inr, arith, length-append}
use Rattle.std.proofs.lemmas.Bool.{false≢true}
use Rattle.std.proofs.lemmas.List.{append-nil}
use Rattle.fsl_order.specs.Causes.{Rose}
use Rattle.fsl_disk.specs.Disk.{DiskState, IsModelled, Told, Keeps, Quiet, LeavesOnly}
use Rattle.fsl_disk.proofs.Moments.{started, weaker, and_then, modelled_after, told_before}
use Rattle.fsl_record.specs.declared.Config.{Config}
use Rattle.fsl_record.specs.declared.Record.{Record}
use Rattle.fsl_record.specs.declared.Record.TheVariants as record_of
use Rattle.fsl_record.specs.Records.{AreRecords}
use Rattle.fsl_journal.specs.File.{IsFileOf, FailsAt, header, group_bytes}
use Rattle.fsl_journal.specs.Log.{IsNoFile, StandsBetween}
use Rattle.fsl_journal.specs.Journal.{OfBytes, IsMade, CreateFailed, NothingOr}
use Rattle.fsl_journal.proofs.Unique.{one_file}
use Rattle.fsl_journal.proofs.Failing.{no_file}
use Rattle.fsl_wire.specs.declared.WireCard.{WireCard}
use Rattle.fsl_blobs.specs.Fold.{contents}
use Rattle.fsl_journal.specs.declared.CreateFault.{CreateFault}
use Rattle.fsl_journal.specs.declared.CreateFault.TheVariants as create_fault
use Rattle.fsl_journal.specs.declared.LoadFault.{LoadFault}
use Rattle.fsl_journal.specs.declared.LoadFault.TheVariants as load_fault
use Rattle.fsl_repo.specs.Opening.{IsOpened, IsCutAtMost, OpenFailed}
use Rattle.fsl_repo.specs.Whole.{Whole, Seen, opened, is_modelled}
use Rattle.fsl_pull.proofs.KeptLemmas.{itself_quiet}
use Rattle.fsl_pull.specs.CloneCalls.{IsEmptied, NoneOr}
use Rattle.fsl_pull.specs.declared.PullFault.{PullFault}
use Rattle.fsl_pull.specs.declared.PullFault.TheVariants as fault
use Rattle.fsl_pull.specs.Clones.{project_in, config_of}
use Rattle.fsl_pull.specs.CloneTurns.{IsOnly, opening_fault, making_fault, IsMadeBy, IsUnopened, IsLeftBy, IsUnmadeBy, IsBegunBy, IsUnbegun, made_disk}

-- ---- a Config alone

abbrev pub alone : Config → List Record
alone config = record_of.Config config ∷ []

some_is : (a b : Config) → Some a ≡ Some b → a ≡ b
some_is a b e = cc

-- one record is a Config, and that is the one that is found
pub is_alone : (records : List Record) (found config : Config) → AreRecords records → length records ≡ 1 → (contents records).config ≡ Some found → found ≡ config → records ≡ alone config
is_alone [] found config are one has same = absurd are
is_alone (record_of.Config c ∷ []) found config are one has same = ap (λ (x : Config). alone x) (some_is c found has ∙ same)
is_alone (record_of.Blob private name receipt bytes ∷ []) found config are one has same = absurd (false≢true are.0)
is_alone (record_of.Publish name ∷ []) found config are one has same = absurd (false≢true are.0)
is_alone (record_of.Shun name ∷ []) found config are one has same = absurd (false≢true are.0)
is_alone (record_of.Unshun name ∷ []) found config are one has same = absurd (false≢true are.0)
is_alone (r ∷ other ∷ records) found config are one has same = absurd (omega (arith, one))

pub found_alone : (records : List Record) (found config : Config) → records ≡ alone config → (contents records).config ≡ Some found → found ≡ config
found_alone records found config is has = sym (some_is config found (sym (ap (λ (rs : List Record). (contents rs).config) is) ∙ has))

-- ---- files

-- empty bytes stand for no records
pub empty_is_none : IsNoFile []
empty_is_none records file = none file.mark (flat_map group_bytes file.groups ++ file.gate ∷ file.rest) file.layout
  where
    none : (mark : ℕ) (rest : List ℕ) → [] ≡ header mark ++ rest → ⊥
    none mark rest e = cc

pub untold : (o : Option (List ℕ)) → ((held : List ℕ) → o ≡ Some held → ⊥) → o ≡ None
untold None h = refl
untold (Some held) h = absurd (h held refl)

told_is : (a b : List ℕ) → Some a ≡ Some b → a ≡ b
told_is a b e = cc

-- what stands between records and themselves
no_rest : (records more rest : List Record) → records ≡ (records ++ more) ++ rest → more ≡ []
no_rest records more rest e = by more (omega (arith, ap length e, length-append (records ++ more) rest, length-append records more))
  where
    by : (xs : List Record) → length xs ≡ 0 → xs ≡ []
    by [] z = refl
    by (x ∷ xs) z = absurd (omega (arith, z))

pub between_same : (records : List Record) (c : List ℕ) → StandsBetween records records c → IsFileOf c records
between_same records c (found, file, between) =
    let more = (between.more).0 in
    let is : found ≡ records ++ more = (between.more).1 in
    let whole : records ≡ found ++ (between.front).0 = (between.front).1 in
    let none : more ≡ [] = no_rest records more (between.front).0 (whole ∙ ap (λ (x : List Record). x ++ (between.front).0) is) in
    subst (IsFileOf c) (is ∙ ap (λ (x : List Record). records ++ x) none ∙ append-nil records) file

pub same_between : (records : List Record) (c : List ℕ) → IsFileOf c records → StandsBetween records records c
same_between records c file = (records, file, record { more = ([], sym (append-nil records)); front = ([], sym (append-nil records)) })

-- ---- the opening

module _ (config : Config) (before after : DiskState) where
  -- for want of memory it stays such a file
  pub cut_stays : IsCutAtMost before after → Told before (λ held. IsFileOf held (alone config) → Told after (λ left. IsFileOf left (alone config)))
  cut_stays cut held told file left is = by cut.contents
    where
      by : (after.contents ≡ before.contents) ⊎ ((records : List Record) × (place : ℕ) × OfBytes before (λ bytes. IsFileOf bytes records) × Told before (λ held. after.contents ≡ Some (take (place + 1) held)) × Told after (λ held. IsFileOf held records)) → IsFileOf left (alone config)
      by (inl same) = subst (λ (c : List ℕ). IsFileOf c (alone config)) (told_is held left (sym told ∙ sym same ∙ is)) file
      by (inr (records, place, (bytes, are, reads), so, stays)) =
          subst (IsFileOf left) (one_file held records (alone config) (subst (λ (c : List ℕ). IsFileOf c records) (are held told) reads) file) (stays left is)

  -- a file that fails to be one isn't such a file
  pub fails_not : (at : ℕ) → OfBytes before (λ bytes. FailsAt bytes at) → Told before (λ held. IsFileOf held (alone config) → ⊥)
  fails_not at (bytes, are, fails) held told file = no_file held at (alone config) (subst (λ (c : List ℕ). FailsAt c at) (are held told) fails) file

  pub other_not : (records : List Record) → OfBytes before (λ bytes. IsFileOf bytes records) → (records ≡ alone config → ⊥) → Told before (λ held. IsFileOf held (alone config) → ⊥)
  other_not records (bytes, are, reads) other held told file =
      other (one_file held records (alone config) (subst (λ (c : List ℕ). IsFileOf c records) (are held told) reads) file)

  pub unopened : (f : LoadFault) → OpenFailed f before after → IsUnopened config before after (opening_fault f)
  unopened load_fault.Disk rose = rose
  unopened (load_fault.NotRepository at) h = (h.0.faults, fails_not at h.2)
  unopened load_fault.Memory cut = (cut.faults, cut_stays cut)

-- at each moment it is such a file
pub stays_alone : (records : List Record) (before after : DiskState)
    → ((low high : List Record) → ((c : List ℕ) → before.images c → StandsBetween low high c) → LeavesOnly before after (StandsBetween low high))
    → ((c : List ℕ) → before.images c → IsFileOf c records) → LeavesOnly before after (λ c. IsFileOf c records)
stays_alone records before after moments images =
    weaker before after (StandsBetween records records) (λ c. IsFileOf c records) (between_same records) (moments records records (λ c left. same_between records c (images c left)))

made_by : (config : Config) (faults : ℕ) (honest : Bool) (old new : Seen) → old.state ≡ opened old.state.records faults honest → old.loaded ≡ length old.state.records → IsOnly config old new → IsMadeBy config faults honest new
made_by config faults honest old new state loaded is =
    record {
      state = is.state ∙ state ∙ ap (λ (rs : List Record). opened rs faults honest) is.alone;
      loaded = is.loaded ∙ loaded ∙ ap length is.alone;
    }

pub opened_ok : {D : Type 0} (config : Config) (faults : ℕ) (honest : Bool) (old : Seen) (r : Result (Whole D) (D × PullFault)) → old.state ≡ opened old.state.records faults honest → old.loaded ≡ length old.state.records → IfOk r (λ made. IsOnly config old made.seen) → IfOk r (λ made. IsMadeBy config faults honest made.seen)
opened_ok config faults honest old (Ok new) state loaded is = made_by config faults honest old new.seen state loaded is
opened_ok config faults honest old (Err failed) state loaded is = tt

pub opened_err : {D : Type 0} (disk : D → DiskState) (config : Config) (before : DiskState) (old : Whole D) (r : Result (Whole D) (D × PullFault)) → IsOpened before (disk old.disk) old → made_disk r ≡ old.disk
    → IfErr r (λ failed. (failed.1 ≡ fault.NotRepository 0) × (old.seen.state.records ≡ alone config → ⊥)) → IfErr r (λ failed. IsUnopened config before (disk failed.0) failed.1)
opened_err disk config before old (Ok new) is same h = tt
opened_err disk config before old (Err failed) is same h =
    subst (λ (w : PullFault). IsUnopened config before (disk failed.0) w) (sym h.0) (
      subst (λ d. (disk d).faults ≡ before.faults) (sym same) is.faults,
      other_not config before before old.seen.state.records is.stands h.1,
    )

-- ---- the file

module _ (config : Config) (before mid after : DiskState) (made : IsMade config before mid) where
  -- behind want of memory
  pub made_left : Keeps before after → (after.faults ≡ mid.faults) → Told mid (λ held. IsFileOf held (alone config) → Told after (λ left. IsFileOf left (alone config)))
      → (IsModelled before → (c : List ℕ) → after.images c → IsFileOf c (alone config)) → IsLeftBy before after (alone config ∷ [])
  made_left keeps faults stays images =
      record {
        faults = faults ∙ made.faults;
        left =
            record {
              file = λ held is. let was = told_before before after held keeps is in let f = made.file was.0 was.1 in stays f.0 f.1 f.2 held is;
              images = images;
            };
      }

  -- a file that was told reads back
  pub reads_back : Told mid (λ held. IsFileOf held (alone config) → ⊥) → before.contents ≡ None
  reads_back not = untold before.contents (λ bytes was. let f = made.file bytes was in not f.0 f.1 f.2)

-- a file whose length isn't 0 isn't told to be empty
pub not_empty : (before : DiskState) (len : ℕ) → Told before (λ held. held ≡ []) → 0 < len → Told before (λ held. len ≡ length held) → before.contents ≡ None
not_empty before len empty some is = untold before.contents (λ held told. omega (arith, some, is held told, ap length (empty held told)))

-- the file wasn't made
pub uncreated : (config : Config) (before after : DiskState) → Told before (λ held. held ≡ []) → (why : CreateFault) → CreateFailed why before after → IsUnmadeBy config before after (making_fault why)
uncreated config before after empty (create_fault.NotEmpty len) h = (h.0.faults, not_empty before len empty h.1 h.2, h.1, h.3)
uncreated config before after empty create_fault.Disk h = h
uncreated config before after empty create_fault.Memory h = inl (record { faults = h.0.faults; left = h.2 })

-- a making that is followed by an opening
pub both_moments : (config : Config) (before mid after : DiskState) → (IsModelled before → ((c : List ℕ) → before.images c → c ≡ []) → LeavesOnly before mid (NothingOr config)) → (IsModelled before → (c : List ℕ) → mid.images c → IsFileOf c (alone config)) → Keeps before mid
    → (IsModelled mid → ((c : List ℕ) → mid.images c → IsFileOf c (alone config)) → LeavesOnly mid after (λ c. IsFileOf c (alone config))) → IsEmptied before → LeavesOnly before after (NoneOr (alone config))
both_moments config before mid after first images keeps second emptied =
    and_then before mid after (NoneOr (alone config)) (first emptied.model emptied.empty)
    (weaker mid after (λ c. IsFileOf c (alone config)) (NoneOr (alone config)) (λ c file. inr file) (second (modelled_after before mid keeps emptied.model) (images emptied.model)))

-- ---- what a making comes to

-- it was opened, or not
module _ {D : Type 0} (disk : D → DiskState) (config : Config) (before mid : DiskState) (made : IsMade config before mid) where
  abbrev AreImages : D → Type 0
  AreImages after = IsModelled before → (c : List ℕ) → (disk after).images c → IsFileOf c (alone config)

  unmade_why : (after : D) (why : PullFault) → Keeps before (disk after) → AreImages after → IsUnopened config mid (disk after) why → IsUnmadeBy config before (disk after) why
  unmade_why after fault.Disk keeps images rose = subst (λ (n : ℕ). Rose n (disk after).faults) made.faults rose
  unmade_why after fault.Memory keeps images (same, stays) = inr (made_left config before mid (disk after) made keeps same stays images)
  unmade_why after (fault.NotRepository place) keeps images (same, not) = (same ∙ made.faults, reads_back config before mid (disk after) made not)
  unmade_why after (fault.NotEmpty len) keeps images h = absurd h
  unmade_why after (fault.Project found) keeps images h = absurd h
  unmade_why after (fault.Stopped faults) keeps images h = absurd h
  unmade_why after fault.Link keeps images h = absurd h
  unmade_why after (fault.Peer why) keeps images h = absurd h
  unmade_why after (fault.TooLarge name size) keeps images h = absurd h
  unmade_why after (fault.Full name) keeps images h = absurd h
  unmade_why after (fault.Missing name) keeps images h = absurd h
  unmade_why after (fault.Damaged name found) keeps images h = absurd h
  unmade_why after fault.Rounds keeps images h = absurd h

  pub unmade_by : (r : Result (Whole D) (D × PullFault)) → Keeps before (disk (made_disk r)) → AreImages (made_disk r) → IfErr r (λ failed. IsUnopened config mid (disk failed.0) failed.1)
      → IfErr r (λ failed. IsUnmadeBy config before (disk failed.0) failed.1)
  unmade_by (Ok repo) keeps images h = tt
  unmade_by (Err failed) keeps images h = unmade_why failed.0 failed.1 keeps images h

-- a first reply has a project, by which it wasn't made
module _ {D : Type 0} (disk : D → DiskState) (server : List ℕ) (fields : List (List ℕ)) (reply : List WireCard) (project : List ℕ) (before : D) (pushes : project_in reply ≡ Some project) where
  unbegun_why : (after : D) (why : PullFault) → IsUnmadeBy (config_of project server fields) (disk before) (disk after) why → IsUnbegun disk server fields reply before after why
  unbegun_why after fault.Disk h = (project, pushes, h)
  unbegun_why after fault.Memory h = (project, pushes, h)
  unbegun_why after (fault.NotRepository place) h = (project, pushes, h)
  unbegun_why after (fault.NotEmpty len) h = (project, pushes, h)
  unbegun_why after (fault.Project found) h = absurd h
  unbegun_why after (fault.Stopped faults) h = absurd h
  unbegun_why after fault.Link h = absurd h
  unbegun_why after (fault.Peer why) h = absurd h
  unbegun_why after (fault.TooLarge name size) h = absurd h
  unbegun_why after (fault.Full name) h = absurd h
  unbegun_why after (fault.Missing name) h = absurd h
  unbegun_why after (fault.Damaged name found) h = absurd h
  unbegun_why after fault.Rounds h = absurd h

  pub unbegun_by : (r : Result (Whole D) (D × PullFault)) → IfErr r (λ failed. IsUnmadeBy (config_of project server fields) (disk before) (disk failed.0) failed.1) → IfErr r (λ failed. IsUnbegun disk server fields reply before failed.0 failed.1)
  unbegun_by (Ok repo) h = tt
  unbegun_by (Err failed) h = unbegun_why failed.0 failed.1 h

  pub begun_by : (faults : ℕ) (honest : Bool) (r : Result (Whole D) (D × PullFault)) → IfOk r (λ repo. IsMadeBy (config_of project server fields) faults honest repo.seen) → IfOk r (λ repo. IsBegunBy server fields reply faults honest repo.seen)
  begun_by faults honest (Ok repo) h = (project, pushes, h)
  begun_by faults honest (Err failed) h = tt

-- a disk that nothing was written to
pub untouched_moments : (s : DiskState) (first : List Record) → ((c : List ℕ) → IsTrue s.is_model → s.since s.moment c → s.images c) → IsEmptied s → LeavesOnly s s (NoneOr first)
untouched_moments s first only emptied =
    started s (NoneOr first) (λ c. only c (emptied.model).model) (λ c left. inl (subst IsNoFile (sym (emptied.empty c left)) empty_is_none))

pub untouched_left : (s : DiskState) → IsLeftBy s s []
untouched_left s = record { faults = refl; left = itself_quiet s }

-- a disk stays of its kind
pub same_kind : (before after : DiskState) → Keeps before after → is_modelled after ≡ is_modelled before
same_kind before after keeps = λ i. keeps.tells i && keeps.model i
