-- What the parts of a repository that go together say of it.
use Rattle.std.proofs.Common.{ℕ, Bool, List, [], drop, refl, sym, inl, inr}
use Rattle.std.proofs.lemmas.List.{append-nil, take-append-drop}
use Rattle.fsl_disk.specs.Disk.{DiskState}
use Rattle.fsl_journal.specs.Log.{Log, BeforeOrAll, StandsBetween, committed}
use Rattle.fsl_journal.proofs.Belonging.{stands_committed}
use Rattle.fsl_blobs.specs.Seen as blobs
use Rattle.fsl_cross.specs.Tables as tables
use Rattle.fsl_repo.specs.Keeping.{IsKept, state_of}
use Rattle.fsl_repo.specs.Whole.{Whole, IsWholeOn, is_modelled}

-- the view of a repository
abbrev pub view_of : {D : Type 0} → D → Log → blobs.Seen → tables.Seen → ℕ → ℕ → Bool → Whole D
view_of disk log held all first faults honest =
    record { disk = disk; seen = record { state = state_of log held faults honest; items = all.items; loaded = first }; places = log.places; mark = log.mark; place = log.place }

stands_between : (log : Log) (c : List ℕ) → BeforeOrAll log c → StandsBetween (committed log) log.records c
stands_between log c (inl file) = (committed log, file, record { more = ([], sym (append-nil (committed log))); front = (drop log.stable log.records, sym (take-append-drop log.stable log.records)) })
stands_between log c (inr file) = (log.records, file, record { more = (drop log.stable log.records, sym (take-append-drop log.stable log.records)); front = ([], sym (append-nil log.records)) })

pub whole_of : {D : Type 0} (d : D) (log : Log) (held : blobs.Seen) (all : tables.Seen) (first count : ℕ) (disk : DiskState) → IsKept log held all first count disk → IsWholeOn disk (view_of d log held all first disk.faults (is_modelled disk))
whole_of d log held all first count disk kept = record {
  seen = record { records = kept.records; committed = kept.belongs.counts; loaded = kept.loaded; items = kept.items; announced = kept.announced };
  faults = refl;
  honest = refl;
  belongs = kept.belongs;
  images = λ modelled c left. stands_between log c (kept.belongs.stands modelled c left);
  exact = λ runs modelled c left. stands_committed log disk kept.belongs runs modelled c left;
}
