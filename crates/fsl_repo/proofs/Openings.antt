-- A repository that was opened goes together.
use Rattle.std.proofs.Common.{◌≡◌, inl, inr, ℕ, ◌+◌, Bool, List, [], length, take, drop, Some, sym, ap, subst, ◌∙◌, ◌&&◌, arith}
use Rattle.std.specs.Prelude.{IsTrue, Contains}
use Rattle.std.specs.FinSet as set
use Rattle.std.proofs.lemmas.List.{drop_all, take_all}
use Rattle.std.proofs.lemmas.Bool.{false≢true}
use Rattle.fsl_order.specs.Names.{bytes_cmp}
use Rattle.fsl_disk.specs.Disk.{DiskState, IsModelled, Keeps, Told}
use Rattle.fsl_journal.specs.File.{IsFileOf}
use Rattle.fsl_record.specs.declared.Record.{Record}
use Rattle.fsl_record.specs.Records.{AreRecords}
use Rattle.fsl_journal.specs.Journal.{Belongs, OfBytes, LoadFailed}
use Rattle.fsl_journal.specs.declared.LoadFault.{LoadFault}
use Rattle.fsl_journal.specs.declared.LoadFault.TheVariants as load_fault
use Rattle.fsl_journal.specs.Log.{Log, IsLoaded, IsBetween, WhereBetween}
use Rattle.fsl_journal.specs.Places.{IsPlacedFile}
use Rattle.fsl_blobs.specs.Seen as blobs
use Rattle.fsl_blobs.specs.Fold.{contents}
use Rattle.fsl_cross.specs.Tables as tables
use Rattle.fsl_repo.specs.Machine.{AreItems, AnnouncedAreNew, configured}
use Rattle.fsl_repo.specs.Keeping.{IsKept, state_of}
use Rattle.fsl_repo.specs.Opening.{AreDerived, IsFileOpened, IsFolded, IsOpened, OpenFailed}
use Rattle.fsl_blobs.specs.Seen.{AreTrue}
use Rattle.fsl_repo.specs.Whole as whole
use Rattle.fsl_repo.specs.Whole.{is_modelled}

none_announced : (log : Log) (faults : ℕ) (honest : Bool) (records : List Record) (places : List ℕ) → AnnouncedAreNew (state_of log (record { records = records; starts = places; announced = set.empty; cached = [] }) faults honest)
none_announced log faults honest records places name h = absurd (false≢true (subst IsTrue (set.contains-empty bytes_cmp name) h))

none_kept : (e : ℕ × List ℕ) → Contains [] e → ⊥
none_kept e there = let within = there.1 in omega arith

pub kept_of : (log : Log) (places : List ℕ) (loaded : List Record) (held : blobs.Seen) (all : tables.Seen) (count : ℕ) (disk : DiskState) → IsLoaded log loaded → log.places ≡ places → Belongs log disk → AreDerived loaded places held all → count ≡ length log.records
    → IsKept log held all count 0 disk
kept_of log places loaded held all count disk is_loaded placed belongs derived counted = record {
  belongs = belongs;
  records = subst AreRecords (sym is_loaded.records) is_loaded.fit;
  same = record {
    records = ap (λ (h : blobs.Seen). h.records) derived.held ∙ sym is_loaded.records;
    starts = ap (λ (h : blobs.Seen). h.starts) derived.held ∙ sym placed;
  };
  cached = λ _. subst AreTrue (sym derived.held) (λ e there. absurd (none_kept e there));
  items = subst (λ (rs : List Record). AreItems (contents rs).held all.items) (sym is_loaded.records) derived.items;
  fields = derived.fields ∙ ap (λ (rs : List Record). configured (contents rs)) (sym is_loaded.records);
  announced = subst (λ (h : blobs.Seen). AnnouncedAreNew (state_of log h disk.faults (is_modelled disk))) (sym derived.held) (none_announced log disk.faults (is_modelled disk) loaded places);
  loaded = omega (arith, counted, is_loaded.stable, ap length is_loaded.records);
  stored = sym (ap whole.blobs (ap (λ (n : ℕ). drop n log.records) counted ∙ drop_all (length log.records) log.records (omega arith)));
}

-- a repository that was opened is as an opening says
pub is_opened : {D : Type 0} (disk : D → DiskState) (before : DiskState) (at : D) (log : Log) (records : List Record) (places : List ℕ) (held : blobs.Seen) (all : tables.Seen) (count : ℕ) → IsLoaded log records → AreDerived records places held all
    → count ≡ length log.records → OfBytes before (λ bytes. IsFileOf bytes records) → Told before (λ bytes. (disk at).contents ≡ Some (take (log.place + 1) bytes)) → (disk at).faults ≡ before.faults → Keeps before (disk at)
    → IsOpened before (disk at) (record {
      disk = at;
      seen = record { state = state_of log held (disk at).faults (is_modelled (disk at)); items = all.items; loaded = count };
      places = log.places;
      mark = log.mark;
      place = log.place;
    })
is_opened disk before at log records places held all count is derived counted stands cut faults keeps = record {
  state = λ i. record {
    records = log.records;
    committed = (is.stable ∙ ap length (sym is.records)) i;
    announced = (ap (λ (h : blobs.Seen). h.announced) derived.held) i;
    stopped = is.runs i;
    faults = faults i;
    honest = keeps.tells i && keeps.model i;
  };
  loaded = counted;
  stands = subst (λ (rs : List Record). OfBytes before (λ bytes. IsFileOf bytes rs)) (sym is.records) stands;
  cut = cut;
  faults = faults;
}

-- a journal that wasn't opened
pub open_failed : (fault : LoadFault) (before after : DiskState) → LoadFailed fault before after → OpenFailed fault before after
open_failed load_fault.Disk before after failed = failed
open_failed (load_fault.NotRepository at) before after failed = failed
open_failed load_fault.Memory before after failed = record { faults = failed.0.faults; contents = inl failed.0.contents }

-- after an opening that is done the file stands for the records
pub reads_back : (log : Log) (loaded : List Record) (disk : DiskState) → IsLoaded log loaded → Belongs log disk → Told disk (λ held. IsFileOf held loaded)
reads_back log loaded disk is belongs held told =
    subst (IsFileOf held) (take_all log.stable log.records (omega (arith, is.stable, ap length is.records)) ∙ is.records) (belongs.reads is.runs held told).0.file

-- ---- a file that is opened without tables

-- there was no memory for what it holds
pub memory_failed : (log : Log) (loaded : List Record) (before after : DiskState) → IsLoaded log loaded → Belongs log after → OfBytes before (λ bytes. IsFileOf bytes loaded)
    → Told before (λ held. after.contents ≡ Some (take (log.place + 1) held)) → after.faults ≡ before.faults → OpenFailed load_fault.Memory before after
memory_failed log loaded before after is belongs stands cut faults = record { faults = faults; contents = inr (loaded, log.place, stands, cut, reads_back log loaded after is belongs) }

pub file_opened : (before after : DiskState) (log : Log) (records : List Record) (places : List ℕ) (kept : blobs.Seen) → IsLoaded log records → log.places ≡ places → IsFolded records places kept
    → OfBytes before (λ bytes. IsFileOf bytes records) → OfBytes before (λ bytes. IsPlacedFile bytes records places) → Told before (λ held. after.contents ≡ Some (take (log.place + 1) held)) → after.faults ≡ before.faults
    → Belongs log after → WhereBetween before (λ low high. IsBetween low high records) → (IsModelled before → (c : List ℕ) → after.images c → IsFileOf c records) → IsFileOpened before after log kept
file_opened before after log records places kept is starts folded stands placed cut faults belongs between durable =
    subst (IsFileOpened before after log) (sym folded)
    (record {
      loaded = is;
      held = ap (λ (ps : List ℕ). record { records = records; starts = ps; announced = set.empty; cached = [] }) (sym starts);
      stands = stands;
      placed = subst (λ (ps : List ℕ). OfBytes before (λ bytes. IsPlacedFile bytes records ps)) (sym starts) placed;
      cut = cut;
      faults = faults;
      belongs = belongs;
      between = between;
      durable = durable;
    })
