-- When a disk still belongs to a journal, and what a commit leaves.
use Rattle.std.proofs.Common.{◌≡◌, ◌⊎◌, inl, inr, ℕ, ◌+◌, ◌≤◌, List, [], ◌∷◌, ◌++◌, length, take, drop, sym, ◌∙◌, ap, refl, subst, arith, length-append, length-take-le, take-append-drop, IsTrue, Some, None}
use Rattle.std.specs.List.{AllByRecursion}
use Rattle.std.proofs.lemmas.List.{take_all, take-append-le}
use Rattle.fsl_disk.specs.Disk.{DiskState, IsModelled, Told, Keeps, Begins, Quiet, Only, LeavesOnly}
use Rattle.fsl_disk.proofs.Moments.{weaker, told_before, told_contents, modelled_before, started}
use Rattle.fsl_record.specs.declared.Record.{Record}
use Rattle.fsl_record.specs.Records.{records_bytes, AreRecords, IsOfVersion}
use Rattle.fsl_journal.specs.Commit.{gated, marked, carried, HeldOrCarried, body_of, EndsAt}
use Rattle.fsl_journal.specs.File.{version_of, IsGroup, IsFileOf}
use Rattle.fsl_journal.specs.Log.{Log, committed, BeforeOrAll, IsLog}
use Rattle.fsl_journal.specs.Journal.{Belongs}
use Rattle.fsl_journal.specs.Places.{content_places, HasContent, IsCommitted, StandsAt}
use Rattle.fsl_journal.proofs.Standing.{has_split}
use Rattle.fsl_journal.proofs.Gate.{some_same}
use Rattle.fsl_journal.proofs.Kept.{commit_stands, new_stands}
use Rattle.fsl_journal.proofs.Versions.{carried_mark, carried_version, carried_log, carried_length, marked_log, all_known_in_2}
use Rattle.fsl_journal.proofs.Groups.{file_behind, gated_file, open_log}

-- the records that aren't committed
abbrev pub rest_of : Log → List Record
rest_of log = drop log.stable log.records

-- its disk ends with the closed gate
pub belongs_ends : (old : Log) (s0 : DiskState) → Belongs old s0 → old.stopped ≡ None → EndsAt old.place s0
belongs_ends old s0 belongs runs = record { last = λ held told. (belongs.reads runs held told).1; images = belongs.images runs }

module _ (old : Log) (s0 : DiskState) (body : List ℕ) (belongs : Belongs old s0) (runs : old.stopped ≡ None) (fit : AreRecords old.records) (group : IsGroup (rest_of old)) (is : body ≡ body_of (records_bytes (rest_of old))) where
  all_records : committed old ++ rest_of old ≡ old.records
  all_records = take-append-drop old.stable old.records

  parts_fit : AreRecords (committed old ++ rest_of old)
  parts_fit = subst AreRecords (sym all_records) fit

  parts_known : AllByRecursion (IsOfVersion (version_of (carried_mark old.mark))) (committed old ++ rest_of old)
  parts_known = subst (λ (v : ℕ). AllByRecursion (IsOfVersion v) (committed old ++ rest_of old)) (sym (carried_version old.mark)) (all_known_in_2 (committed old ++ rest_of old))

  -- what the file stands for when it was carried over
  carried_over : (held : List ℕ) → s0.contents ≡ Some held → IsLog (committed old) (carried_mark old.mark) old.place (carried old.mark held)
  carried_over held told = carried_log (committed old) old.mark old.place held (belongs.reads runs held told).0

  header_long : (held : List ℕ) → s0.contents ≡ Some held → 14 ≤ length held
  header_long held told = let reads = belongs.reads runs held told in omega (arith, reads.1, reads.0.at)

  carried_size : (held : List ℕ) → s0.contents ≡ Some held → length (carried old.mark held) ≡ old.place + 1
  carried_size held told = carried_length old.mark held (header_long held told) ∙ (belongs.reads runs held told).1

  before_or_all : (held : List ℕ) → s0.contents ≡ Some held → (c : List ℕ) → HeldOrCarried old.mark held old.place body c → BeforeOrAll old c
  before_or_all held told c (inl (one, way)) =
      let log = (belongs.reads runs held told).0 in
      inl (file_behind (committed old) way.0 old.place (marked way.0 held) c (marked_log (committed old) old.place held way.0 (subst (λ (m : ℕ). IsLog (committed old) m old.place held) one log)) way.1)
  before_or_all held told c (inr (inl begins)) = inl (file_behind (committed old) (carried_mark old.mark) old.place (carried old.mark held) c (carried_over held told) begins)
  before_or_all held told c (inr (inr opened)) =
      subst (λ (all : List Record). IsFileOf c (committed old) ⊎ IsFileOf c all) all_records
      (gated_file (committed old) (rest_of old) (carried_mark old.mark) old.place (carried old.mark held) (carried_over held told) group parts_fit parts_known opened.0 c
      (opened.1 ∙ ap (λ (l : List ℕ). gated (carried old.mark held) old.place opened.0 l) is))

  pub commit_moments : (s1 : DiskState) → (IsTrue s0.is_model → Told s0 (λ held. LeavesOnly s0 s1 (HeldOrCarried old.mark held old.place body))) → IsModelled s0 → LeavesOnly s0 s1 (BeforeOrAll old)
  commit_moments s1 wrote modelled =
      let told = told_contents s0 modelled in
      weaker s0 s1 (HeldOrCarried old.mark told.0 old.place body) (BeforeOrAll old) (before_or_all told.0 told.1) (wrote modelled.model told.0 told.1)

  -- committed contents stand in what a crash leaves
  old_stand : (held : List ℕ) → s0.contents ≡ Some held → (c : List ℕ) → HeldOrCarried old.mark held old.place body c → (at : ℕ) (content : List ℕ) → IsCommitted old at content → at + length content ≤ old.place → 15 ≤ at → StandsAt at content c
  old_stand held told c left at content has inside behind =
      let there = belongs.contents (inl runs) held told at content has in
      commit_stands old.mark held old.place body c at content (belongs.reads runs held told).1 behind inside left there

  -- it failed
  pub belongs_stopped : (s1 : DiskState) (new : Log) (faults : ℕ) → new ≡ record old { stopped = Some faults } → Keeps s0 s1 → (IsTrue s0.is_model → Told s0 (λ held. LeavesOnly s0 s1 (HeldOrCarried old.mark held old.place body)))
      → ((held : List ℕ) → IsTrue s1.is_model → s1.contents ≡ Some held → s1.images held) → ((at : ℕ) (content : List ℕ) → IsCommitted old at content → (at + length content ≤ old.place) × (15 ≤ at)) → Belongs new s1
  belongs_stopped s1 new faults new_is keeps wrote reads_as_image inside = subst (λ (log : Log). Belongs log s1) (sym new_is) (record {
    counts = belongs.counts;
    as_many = belongs.as_many;
    contents = λ where_so held told at content has. stopped_contents where_so held told at content has;
    reads = λ none. absurd (cc);
    images = λ none. absurd (cc);
    stands = λ modelled c left. (commit_moments s1 wrote (modelled_before s0 s1 keeps modelled)).now c left;
  })
    where
      stopped_contents : (Some faults ≡ None) ⊎ IsTrue s1.is_model → (held : List ℕ) → s1.contents ≡ Some held → (at : ℕ) (content : List ℕ) → IsCommitted old at content → StandsAt at content held
      stopped_contents (inl none) held told at content has = absurd (cc)
      stopped_contents (inr model) held told at content has =
          let before = told_before s0 s1 held keeps told in
          let within = inside at content has in
          let moments = wrote (sym keeps.model ∙ model) before.0 before.1 in
          old_stand before.0 before.1 held (moments.now held (reads_as_image held model told)) at content has within.0 within.1

  opened_log : (held : List ℕ) → s0.contents ≡ Some held → IsLog old.records (carried_mark old.mark) (old.place + length body) (gated (carried old.mark held) old.place 79 body)
  opened_log held told =
      let log = open_log (committed old) (rest_of old) (carried_mark old.mark) old.place (carried old.mark held) (carried_over held told) group parts_fit parts_known in
      subst (λ (all : List Record). IsLog all (carried_mark old.mark) (old.place + length body) (gated (carried old.mark held) old.place 79 body)) all_records
      (subst (λ (b : List ℕ). IsLog (committed old ++ rest_of old) (carried_mark old.mark) (old.place + length b) (gated (carried old.mark held) old.place 79 b)) (sym is) log)

  -- after Ok each image stands for all
  pub all_durable : (s1 : DiskState) → (IsTrue s0.is_model → Told s0 (λ held. Only (gated (carried old.mark held) old.place 79 body) s1.images)) → IsModelled s0 → (c : List ℕ) → s1.images c → IsFileOf c old.records
  all_durable s1 durable modelled c left =
      let told = told_contents s0 modelled in
      subst (λ (f : List ℕ). IsFileOf f old.records) (sym (durable modelled.model told.0 told.1 c left)) (opened_log told.0 told.1).file

  opened_size : (held : List ℕ) → s0.contents ≡ Some held → length (gated (carried old.mark held) old.place 79 body) ≡ old.place + length body + 1
  opened_size held told =
      let size = carried_size held told in
      omega (arith, length-append (take old.place (carried old.mark held)) (79 ∷ body), length-take-le old.place (carried old.mark held) (omega (arith, size)))

  -- it succeeded
  pub belongs_committed : (s1 : DiskState) (new : Log) → new.records ≡ old.records → new.places ≡ old.places → new.stable ≡ length old.records → new.mark ≡ carried_mark old.mark → new.place ≡ old.place + length body → Keeps s0 s1
      → Told s0 (λ held. s1.contents ≡ Some (gated (carried old.mark held) old.place 79 body)) → (IsTrue s0.is_model → Told s0 (λ held. Only (gated (carried old.mark held) old.place 79 body) s1.images))
      → ((at : ℕ) (content : List ℕ) → IsCommitted old at content → (at + length content ≤ old.place) × (15 ≤ at)) → drop old.stable old.places ≡ content_places (old.place + 9) (rest_of old) → Belongs new s1
  belongs_committed s1 new records places stable mark place keeps contents durable inside pending = record {
    counts = omega (arith, stable, ap length records);
    as_many = ap length places ∙ belongs.as_many ∙ sym (ap length records);
    contents = λ _ held told at content has.
        let before = told_before s0 s1 held keeps told in
        let held_is : held ≡ gated (carried old.mark before.0) old.place 79 body = some_same (sym told ∙ contents before.0 before.1) in
        subst (StandsAt at content) (sym held_is) (all_stand before.0 before.1 at content (all_has at content has));
    reads = λ runs_on held told.
        let before = told_before s0 s1 held keeps told in
        let held_is : held ≡ gated (carried old.mark before.0) old.place 79 body = some_same (sym told ∙ contents before.0 before.1) in (
          subst (λ (all : List Record). IsLog all new.mark new.place held) (sym committed_all)
              (subst (λ (m : ℕ). IsLog old.records m new.place held) (sym mark)
              (subst (λ (at : ℕ). IsLog old.records (carried_mark old.mark) at held) (sym place)
              (subst (λ (h : List ℕ). IsLog old.records (carried_mark old.mark) (old.place + length body) h) (sym held_is) (opened_log before.0 before.1)))),
          ap length held_is ∙ opened_size before.0 before.1 ∙ ap (λ (n : ℕ). n + 1) (sym place),
        );
    images = λ runs_on model held told c left.
        let before = told_before s0 s1 held keeps told in
        let held_is : held ≡ gated (carried old.mark before.0) old.place 79 body = some_same (sym told ∙ contents before.0 before.1) in
        let same : c ≡ held = durable (sym keeps.model ∙ model) before.0 before.1 c left ∙ sym held_is in
        subst (λ (f : List ℕ). Begins held f) (sym same) (take_all (length held) held (omega arith));
    stands = λ modelled c left.
        inr (subst (λ (all : List Record). IsFileOf c all) (sym records) (all_durable s1 durable (modelled_before s0 s1 keeps modelled) c left));
  }
    where
      committed_all : committed new ≡ old.records
      committed_all = (λ i. take (stable i) (records i)) ∙ take_all (length old.records) old.records (omega arith)

      places_all : take new.stable new.places ≡ old.places
      places_all = (λ i. take (stable i) (places i)) ∙ take_all (length old.records) old.places (omega (arith, belongs.as_many))

      all_has : (at : ℕ) (content : List ℕ) → IsCommitted new at content → HasContent old.records old.places at content
      all_has at content has =
          subst (λ (rs : List Record). HasContent rs old.places at content) committed_all
          (subst (λ (ps : List ℕ). HasContent (committed new) ps at content) places_all has)

      all_stand : (held : List ℕ) → s0.contents ≡ Some held → (at : ℕ) (content : List ℕ) → HasContent old.records old.places at content → StandsAt at content (gated (carried old.mark held) old.place 79 body)
      all_stand held told at content has =
          elim (has_split old.stable old.records old.places at content belongs.as_many belongs.counts has) [
            | inl front ↦
                let within = inside at content front in
                old_stand held told (gated (carried old.mark held) old.place 79 body) (inr (inr (79, refl))) at content front within.0 within.1
            | inr behind ↦
                subst (λ (b : List ℕ). StandsAt at content (gated (carried old.mark held) old.place 79 b)) (sym is)
                (new_stands (carried old.mark held) old.place (rest_of old) at content (carried_size held told)
                (subst (λ (ps : List ℕ). HasContent (rest_of old) ps at content) pending behind))
          ]

-- nothing is written
pub same_moments : (old : Log) (s0 : DiskState) → Belongs old s0 → (IsTrue s0.is_model → (c : List ℕ) → s0.since s0.moment c → s0.images c) → IsModelled s0 → LeavesOnly s0 s0 (BeforeOrAll old)
same_moments old s0 belongs no_other modelled = started s0 (BeforeOrAll old) (no_other modelled.model) (belongs.stands modelled)

-- While it runs, each image stands for the committed records.
pub stands_committed : (log : Log) (disk : DiskState) → Belongs log disk → log.stopped ≡ None → IsModelled disk → (c : List ℕ) → disk.images c → IsFileOf c (committed log)
stands_committed log disk belongs runs modelled c left =
    let told = told_contents disk modelled in
    file_behind (committed log) log.mark log.place told.0 c (belongs.reads runs told.0 told.1).0 (belongs.images runs modelled.model told.0 told.1 c left)

-- And where no other are there, each image stands for all.
pub settled_durable : (log : Log) (disk : DiskState) → Belongs log disk → log.stopped ≡ None → log.stable ≡ length log.records → IsModelled disk → (c : List ℕ) → disk.images c → IsFileOf c log.records
settled_durable log disk belongs runs all modelled c left =
    subst (λ (rs : List Record). IsFileOf c rs) (take_all log.stable log.records (omega (arith, all))) (stands_committed log disk belongs runs modelled c left)

-- Other records that aren't committed.
same_committed : (old : Log) (records : List Record) (places : List ℕ) (disk : DiskState) → Belongs old disk → old.stopped ≡ None → old.stable ≤ length records → length places ≡ length records → take old.stable records ≡ committed old
    → take old.stable places ≡ take old.stable old.places → Belongs (record old { records = records; places = places }) disk
same_committed old records places disk belongs runs counts as_many same same_places = record {
  counts = counts;
  as_many = as_many;
  contents = λ where_so held told at content has.
      belongs.contents where_so held told at content
      (subst (λ (rs : List Record). HasContent rs (take old.stable old.places) at content) same (subst (λ (ps : List ℕ). HasContent (take old.stable records) ps at content) same_places has));
  reads = λ _ held told.
      let reads = belongs.reads runs held told in
      (subst (λ (all : List Record). IsLog all old.mark old.place held) (sym same) reads.0, reads.1);
  images = belongs.images;
  stands = λ modelled c left. inl (subst (λ (all : List Record). IsFileOf c all) (sym same) (stands_committed old disk belongs runs modelled c left));
}

-- records were appended
pub belongs_more : (old : Log) (more : List Record) (others : List ℕ) (disk : DiskState) → Belongs old disk → old.stopped ≡ None → length others ≡ length more → Belongs (record old { records = old.records ++ more; places = old.places ++ others }) disk
belongs_more old more others disk belongs runs as_many =
    same_committed old (old.records ++ more) (old.places ++ others) disk belongs runs (omega (arith, belongs.counts, length-append old.records more))
    (omega (arith, as_many, belongs.as_many, length-append old.records more, length-append old.places others)) (take-append-le old.stable old.records more belongs.counts)
    (take-append-le old.stable old.places others (omega (arith, belongs.counts, belongs.as_many)))

-- a record was appended
pub belongs_append : (old new : Log) (entry : Record) (at : ℕ) (disk : DiskState) → Belongs old disk → old.stopped ≡ None → new ≡ record old { records = old.records ++ entry ∷ []; places = old.places ++ at ∷ [] } → Belongs new disk
belongs_append old new entry at disk belongs runs is = subst (λ (log : Log). Belongs log disk) (sym is) (belongs_more old (entry ∷ []) (at ∷ []) disk belongs runs refl)

-- the disk was only read
pub belongs_quiet : (log : Log) (before after : DiskState) → Belongs log before → Quiet before after → Belongs log after
belongs_quiet log before after belongs quiet = record {
  counts = belongs.counts;
  as_many = belongs.as_many;
  contents = λ where_so held told at content has. belongs.contents (same_where where_so) held (sym quiet.contents ∙ told) at content has;
  reads = λ runs held told. belongs.reads runs held (sym quiet.contents ∙ told);
  images = λ runs model held told c left. belongs.images runs (old_model model) held (sym quiet.contents ∙ told) c (quiet.images (old_model model) c left);
  stands = λ modelled c left. let old = modelled_before before after quiet.keeps modelled in belongs.stands old c (quiet.images old.model c left);
}
  where
    old_model : IsTrue after.is_model → IsTrue before.is_model
    old_model model = sym quiet.keeps.model ∙ model

    same_where : (log.stopped ≡ None) ⊎ IsTrue after.is_model → (log.stopped ≡ None) ⊎ IsTrue before.is_model
    same_where (inl runs) = inl runs
    same_where (inr model) = inr (old_model model)
