-- What a disk may leave while a journal is opened.
use Rattle.std.proofs.Common.{◌≡◌, refl, inl, inr, ℕ, ◌+◌, List, [], ◌∷◌, ◌++◌, length, take, drop, sym, ◌∙◌, ap, subst, arith, append_assoc, length-append, length-take-le, ◌<◌, ◌≤◌, take-append-drop, IsTrue, Some, None}
use Rattle.std.proofs.lemmas.List.{take_all, take_at, take-take}
use Rattle.fsl_disk.specs.Disk.{DiskState, IsModelled, Told, Begins, Keeps, Calls, CutShort, Same, Quiet, Only, LeavesOnly}
use Rattle.fsl_disk.proofs.Moments.{goes_on, keeps_on, quiet_call, quiet_on, quiet_moments, told_before, told_contents, modelled_before}
use Rattle.fsl_disk.proofs.Pieces.{cut_whole}
use Rattle.fsl_order.specs.Causes.{Rose}
use Rattle.fsl_record.specs.declared.Record.{Record}
use Rattle.fsl_record.specs.Records.{AreRecords}
use Rattle.fsl_journal.specs.declared.LoadFault.{LoadFault}
use Rattle.fsl_journal.specs.declared.LoadFault.TheVariants as load_fault
use Rattle.fsl_journal.specs.File.{header, IsFileOf, FailsAt}
use Rattle.fsl_journal.specs.Journal.{Belongs, LoadFailed, HeldOrSame, IsSpared}
use Rattle.fsl_journal.specs.Places.{HasContent, StandsAt, ArePlaced}
use Rattle.fsl_journal.specs.Reading.{FileFailed}
use Rattle.fsl_journal.specs.Log.{Log, IsLog, IsLoaded, IsBetween, StandsBetween, WhereBetween}
use Rattle.fsl_journal.proofs.Standing.{numbered_length, stands_front}
use Rattle.fsl_journal.proofs.Failing.{no_file}
use Rattle.fsl_journal.proofs.Files.{laid, is_log, groups_bytes}
use Rattle.fsl_journal.proofs.Gate.{some_same}
use Rattle.fsl_journal.proofs.Grouping.{of_before}
use Rattle.fsl_journal.proofs.Unique.{one_file}

module _ (records : List Record) (mark place : ℕ) (held : List ℕ) (is : IsLog records mark place held) where
  gate_last : take (place + 1) held ≡ header mark ++ groups_bytes (laid records mark place held is).groups ++ (laid records mark place held is).gate ∷ []
  gate_last =
      let log = laid records mark place held is in
      ap (λ (l : List ℕ). take (place + 1) l) (log.split ∙ sym (append_assoc (header mark ++ groups_bytes log.groups) (log.gate ∷ []) log.rest))
      ∙ take_at (header mark ++ groups_bytes log.groups ++ log.gate ∷ []) log.rest (place + 1) (omega (arith, log.at, length-append (header mark ++ groups_bytes log.groups) (log.gate ∷ [])))

  pub last_size : length (take (place + 1) held) ≡ place + 1
  last_size = let log = laid records mark place held is in omega (arith, ap length gate_last, log.at, length-append (header mark ++ groups_bytes log.groups) (log.gate ∷ []))

  -- any cut behind the closed gate
  pub cut_log : (c : List ℕ) → CutShort (place + 1) held c → IsLog records mark place c
  cut_log c cut =
      let log = laid records mark place held is in
      is_log records mark place c (record {
        groups = log.groups;
        gate = log.gate;
        rest = drop (place + 1) c;
        split =
            sym (take-append-drop (place + 1) c)
            ∙ ap (λ (l : List ℕ). l ++ drop (place + 1) c) (cut.front ∙ gate_last)
            ∙ append_assoc (header mark ++ groups_bytes log.groups) (log.gate ∷ []) (drop (place + 1) c);
        at = log.at;
        shut = log.shut;
        whole = log.whole;
        all = log.all;
        fit = log.fit;
        known = log.known;
      })

-- what a journal has of the records that it loaded
abbrev pub resumed_log : List Record → List ℕ → ℕ → ℕ → Log
resumed_log records places mark place = record { records = records; places = places; stable = length records; stopped = None; mark = mark; place = place }

pub is_loaded : (log : Log) (records loaded : List Record) (places : List ℕ) (mark place : ℕ) → log ≡ resumed_log records places mark place → loaded ≡ records → AreRecords records → IsLoaded log loaded
is_loaded log records loaded places mark place is same fit =
    subst (IsLoaded log) (sym same) (subst (λ (l : Log). IsLoaded l records) (sym is) (record { records = refl; stable = refl; runs = refl; fit = fit }))

-- a sync, a read of everything, and a cut
pub record LoadRun (s0 s1 s2 s3 : DiskState) (file : List ℕ) (records : List Record) (places : List ℕ) (mark place : ℕ) : Type 0 where
  pub sync : Calls Same s0 s1
  pub same : s1.contents ≡ s0.contents
  pub durable : IsTrue s0.is_model → Told s0 (λ held. Only held s1.images)
  pub quiet : Quiet s1 s2
  pub read : Told s1 (λ held. file ≡ held)
  pub log : IsLog records mark place file
  pub placed : ArePlaced records places (take place file)
  pub cut : Calls (CutShort (place + 1)) s2 s3

module _ (s0 s1 s2 s3 : DiskState) (file : List ℕ) (records : List Record) (places : List ℕ) (mark place : ℕ) (run : LoadRun s0 s1 s2 s3 file records places mark place) where
  so_far : Quiet s0 s2
  so_far = quiet_on s0 s1 s2 (quiet_call s0 s1 run.sync run.same) run.quiet

  pub all_keeps : Keeps s0 s3
  all_keeps = keeps_on s0 s2 s3 so_far.keeps run.cut.keeps

  file_told : (held : List ℕ) → s0.contents ≡ Some held → file ≡ held
  file_told held told = run.read held (run.same ∙ told)

  pub log_told : (held : List ℕ) → s0.contents ≡ Some held → IsLog records mark place held
  log_told held told = subst (IsLog records mark place) (file_told held told) run.log

  -- what the cut leaves
  after_cut : IsTrue s0.is_model → (held : List ℕ) → s0.contents ≡ Some held → (c : List ℕ) → s3.images c → CutShort (place + 1) held c
  after_cut model held told c left =
      let from = (run.cut.crash (so_far.keeps.model ∙ model)).follows c left in
      let is_held = run.durable model held told from.0 (run.quiet.images (run.sync.keeps.model ∙ model) from.0 from.1) in
      subst (λ (d : List ℕ). CutShort (place + 1) d c) is_held from.2

  pub loaded_durable : IsModelled s0 → (c : List ℕ) → s3.images c → IsFileOf c records
  loaded_durable modelled c left =
      let told = told_contents s0 modelled in
      (cut_log records mark place told.0 (log_told told.0 told.1) c (after_cut modelled.model told.0 told.1 c left)).file

  pub records_between : IsModelled s0 → ((held : List ℕ) → s0.contents ≡ Some held → s0.images held) → (low high : List Record) → ((c : List ℕ) → s0.images c → StandsBetween low high c) → IsBetween low high records
  records_between modelled reads_as_image low high between =
      let told = told_contents s0 modelled in
      let first = between told.0 (reads_as_image told.0 told.1) in
      subst (IsBetween low high) (one_file told.0 first.0 records first.1 (log_told told.0 told.1).file) first.2

  pub load_moments : IsModelled s0 → ((held : List ℕ) → s0.contents ≡ Some held → s0.images held) → ((c : List ℕ) → s0.since s0.moment c → s0.images c) → (low high : List Record)
      → ((c : List ℕ) → s0.images c → StandsBetween low high c) → LeavesOnly s0 s3 (StandsBetween low high)
  load_moments modelled reads_as_image no_other low high between =
      goes_on s0 s2 s3 (StandsBetween low high) (CutShort (place + 1)) (quiet_moments s0 s2 (StandsBetween low high) so_far modelled.model no_other between) (run.cut.crash (so_far.keeps.model ∙ modelled.model))
      (λ c left. (records, loaded_durable modelled c left, records_between modelled reads_as_image low high between))

  pub harmless_moments : IsModelled s0 → ((c : List ℕ) → s0.since s0.moment c → s0.images c) → LeavesOnly s0 s3 (HeldOrSame s0)
  harmless_moments modelled no_other =
      goes_on s0 s2 s3 (HeldOrSame s0) (CutShort (place + 1)) (quiet_moments s0 s2 (HeldOrSame s0) so_far modelled.model no_other (λ c left. inl left)) (run.cut.crash (so_far.keeps.model ∙ modelled.model))
      (λ c left. inr (records, (file, file_told, run.log.file), loaded_durable modelled c left))

  pub spared : ((held : List ℕ) → IsTrue s3.is_model → s3.contents ≡ Some held → s3.images held) → IsSpared s0 s3
  spared reads_as_image = inr (
    records,
    (file, file_told, run.log.file),
    λ modelled held told. loaded_durable modelled held (reads_as_image held (all_keeps.model ∙ modelled.model) told),
  )

  pub cut_held : (log : Log) → log ≡ resumed_log records places mark place → Told s2 (λ held. s3.contents ≡ Some (take (place + 1) held)) → Told s0 (λ held. s3.contents ≡ Some (take (log.place + 1) held))
  cut_held log is cut held told = subst (λ (l : Log). s3.contents ≡ Some (take (l.place + 1) held)) (sym is) (cut held (so_far.contents ∙ told))

  pub belongs_loaded : (log : Log) → log ≡ resumed_log records places mark place → Told s2 (λ held. s3.contents ≡ Some (take (place + 1) held)) → Belongs log s3
  belongs_loaded log is cut = subst (λ (l : Log). Belongs l s3) (sym is) (record {
    counts = omega arith;
    as_many = numbered_length records places run.placed.numbered;
    contents = λ _ now told at content has.
        let before = told_before s0 s3 now all_keeps told in
        let now_is = now_held now told before.0 before.1 in
        let front : take place now ≡ take place file =
        ap (λ (l : List ℕ). take place l) now_is ∙ take-take place (place + 1) before.0 (omega arith) ∙ ap (λ (l : List ℕ). take place l) (sym (file_told before.0 before.1)) in
        let all : HasContent records places at content =
        subst (λ (rs : List Record). HasContent rs places at content) (take_all (length records) records (omega arith))
        (subst (λ (ps : List ℕ). HasContent (take (length records) records) ps at content) (take_all (length records) places (omega (arith, numbered_length records places run.placed.numbered))) has) in
        stands_front place at content now (subst (StandsAt at content) (sym front) (run.placed.stand at content all).0);
    reads = λ _ now told.
        let before = told_before s0 s3 now all_keeps told in
        let now_is = now_held now told before.0 before.1 in
        let here = cut_log records mark place before.0 (log_told before.0 before.1) (take (place + 1) before.0) (cut_whole (place + 1) before.0) in (
          subst (λ (h : List ℕ). IsLog (take (length records) records) mark place h) (sym now_is)
              (subst (λ (all : List Record). IsLog all mark place (take (place + 1) before.0)) (sym (take_all (length records) records (omega arith))) here),
          ap length now_is ∙ last_size records mark place before.0 (log_told before.0 before.1),
        );
    images = λ _ model now told c left.
        let before = told_before s0 s3 now all_keeps told in
        let now_is = now_held now told before.0 before.1 in
        let old_model = sym so_far.keeps.model ∙ sym run.cut.keeps.model ∙ model in
        let size = last_size records mark place before.0 (log_told before.0 before.1) in
        subst (λ (h : List ℕ). Begins h c) (sym now_is)
        (subst (λ (n : ℕ). take n c ≡ take (place + 1) before.0) (sym size) (after_cut old_model before.0 before.1 c left).front);
    stands = λ modelled c left. inr (loaded_durable (modelled_before s0 s3 all_keeps modelled) c left);
  })
    where
      now_held : (now : List ℕ) → s3.contents ≡ Some now → (held : List ℕ) → s0.contents ≡ Some held → now ≡ take (place + 1) held
      now_held now told held before = some_same (sym told ∙ cut held (so_far.contents ∙ before))

-- where only reads and syncs were made
pub harmless_quiet : (s0 s2 : DiskState) → Quiet s0 s2 → IsModelled s0 → ((c : List ℕ) → s0.since s0.moment c → s0.images c) → LeavesOnly s0 s2 (HeldOrSame s0)
harmless_quiet s0 s2 quiet modelled no_other = quiet_moments s0 s2 (HeldOrSame s0) quiet modelled.model no_other (λ c left. inl left)

-- after an opening that is done the file stands for the records
pub reads_back : (log : Log) (loaded : List Record) (disk : DiskState) → IsLoaded log loaded → Belongs log disk → Told disk (λ held. IsFileOf held loaded)
reads_back log loaded disk is belongs held told =
    subst (IsFileOf held) (take_all log.stable log.records (omega (arith, is.stable, ap length is.records)) ∙ is.records) (belongs.reads is.runs held told).0.file

-- a file that doesn't read, or no memory for what it holds, after a sync
pub load_failed : (fault : LoadFault) (s0 s1 s2 : DiskState) → Quiet s0 s2 → s1.contents ≡ s0.contents → s1.faults ≡ s0.faults → FileFailed fault s1 s2 → LoadFailed fault s0 s2
load_failed load_fault.Disk s0 s1 s2 quiet same count fails = subst (λ n. Rose n s2.faults) count fails
load_failed (load_fault.NotRepository at) s0 s1 s2 quiet same count fails = (record { contents = quiet.contents; faults = fails.0 ∙ count }, quiet, of_before s0 s1 (λ bytes. FailsAt bytes at) same fails.1)
load_failed load_fault.Memory s0 s1 s2 quiet same count fails = (record { contents = quiet.contents; faults = fails ∙ count }, quiet)

-- and a file that each image stands for doesn't fail to be one
pub load_stays : (fault : LoadFault) (s0 s2 : DiskState) → LoadFailed fault s0 s2 → ((held : List ℕ) → IsTrue s0.is_model → s0.contents ≡ Some held → s0.images held) → (at : ℕ) → fault ≡ load_fault.NotRepository at → WhereBetween s0 (λ _ _. ⊥)
load_stays fault s0 s2 failed reads_as_image at is modelled low high between =
    let told = told_contents s0 modelled in
    let first = between told.0 (reads_as_image told.0 modelled.model told.1) in
    let fails = (subst (λ (f : LoadFault). LoadFailed f s0 s2) is failed).2 in
    no_file told.0 at first.0 (subst (λ (f : List ℕ). FailsAt f at) (fails.1 told.0 told.1) fails.2) first.1

-- a file that stands for records doesn't fail to
pub not_refused : (X : Type 0) (records : List Record) (mark place : ℕ) (file held : List ℕ) → IsLog records mark place file → file ≡ held → (at : ℕ) → FailsAt held at → X
not_refused X records mark place file held log is at fails = absurd (no_file held at records fails (subst (λ (f : List ℕ). IsFileOf f records) is log.file))

-- every content of a file stands before its closed gate, and behind the header
pub placed_inside : (records : List Record) (places : List ℕ) (place : ℕ) (file : List ℕ) → place < length file → ArePlaced records places (take place file) → (at : ℕ) (content : List ℕ) → HasContent records places at content → (at + length content ≤ place) × (15 ≤ at)
placed_inside records places place file inside placed at content has = let there = placed.stand at content has in (omega (arith, there.0.inside, length-take-le place file (omega (arith, inside))), there.1)
