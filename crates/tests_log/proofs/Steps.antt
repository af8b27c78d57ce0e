-- A repository that stays in step with its file.
use Rattle.std.proofs.Common.{◌≡◌, ℕ, List, [], ◌∷◌, ◌++◌, None, Result, Ok, Err, sym, ap, ◌∙◌, subst}
use Rattle.std.specs.Prelude.{IfOk, IfErr, OnOk}
use Rattle.std.specs.FinSet as set
use Rattle.fsl_blobs.specs.Seen.{Seen, applied}
use Rattle.fsl_disk.specs.Disk.{DiskState}
use Rattle.fsl_journal.specs.declared.CommitFault.{CommitFault}
use Rattle.fsl_journal.specs.declared.CommitFault.TheVariants as commit_fault
use Rattle.fsl_journal.specs.Journal.{Belongs, Committed, CommitFailed}
use Rattle.fsl_journal.specs.Log.{Log, IsLoaded}
use Rattle.fsl_journal.specs.Places.{with_record}
use Rattle.fsl_journal.proofs.Belonging.{belongs_append}
use Rattle.fsl_record.specs.declared.Record.{Record}
use Rattle.tests_log.specs.Open.{IsInStep}

pub in_step_loaded : (log : Log) (places : List ℕ) (records : List Record) (b : Seen) (disk : DiskState) → IsLoaded log records → log.places ≡ places → Belongs log disk
    → b ≡ record { records = records; starts = places; announced = set.empty; cached = [] } → IsInStep log b disk
in_step_loaded log places records b disk loaded placed belongs is = record {
  belongs = belongs;
  same = record { records = ap (λ (s : Seen). s.records) is ∙ sym loaded.records; starts = ap (λ (s : Seen). s.starts) is ∙ sym placed };
}

pub in_step_added : (old new : Log) (b b2 : Seen) (entry : Record) (at : ℕ) (disk : DiskState) → IsInStep old b disk → old.stopped ≡ None → new ≡ with_record old entry at → b2 ≡ applied b at entry → IsInStep new b2 disk
in_step_added old new b b2 entry at disk step runs is now = record {
  belongs = belongs_append old new entry at disk step.belongs runs is;
  same = record {
    records = ap (λ (s : Seen). s.records) now ∙ ap (λ (rs : List Record). rs ++ entry ∷ []) step.same.records ∙ sym (ap (λ (l : Log). l.records) is);
    starts = ap (λ (s : Seen). s.starts) now ∙ ap (λ (ns : List ℕ). ns ++ at ∷ []) step.same.starts ∙ sym (ap (λ (l : Log). l.places) is);
  };
}

pub in_step_applied : (old new : Log) (b b2 : Seen) (entry : Record) (at : ℕ) (disk : DiskState) → IsInStep old b disk → old.stopped ≡ None → new ≡ with_record old entry at
    → {T E : Type 0} → (r : Result T E) → OnOk r (b2 ≡ applied b at entry) → OnOk r (IsInStep new b2 disk)
in_step_applied old new b b2 entry at disk step runs is (Ok x) done = in_step_added old new b b2 entry at disk step runs is done
in_step_applied old new b b2 entry at disk step runs is (Err x) done = tt

pub in_step_committed : (old new : Log) (b : Seen) (before after : DiskState) (r : Result ℕ CommitFault) → IsInStep old b before → Belongs new after
    → IfOk r (λ n. Committed n old new before after) → IfErr r (λ fault. CommitFailed fault old new before after) → IsInStep new b after
in_step_committed old new b before after (Ok n) step belongs done failed = record {
  belongs = belongs;
  same = record { records = step.same.records ∙ sym done.records; starts = step.same.starts ∙ sym done.places };
}
in_step_committed old new b before after (Err (commit_fault.Stopped faults)) step belongs done failed = record {
  belongs = belongs;
  same = record { records = step.same.records ∙ sym (ap (λ (l : Log). l.records) failed.1); starts = step.same.starts ∙ sym (ap (λ (l : Log). l.places) failed.1) };
}
in_step_committed old new b before after (Err commit_fault.Disk) step belongs done failed = record {
  belongs = belongs;
  same = record { records = step.same.records ∙ sym (ap (λ (l : Log). l.records) failed.1); starts = step.same.starts ∙ sym (ap (λ (l : Log). l.places) failed.1) };
}

pub in_step_read : (log : Log) (b b2 : Seen) (before after : DiskState) → IsInStep log b before → b2 ≡ record b { cached = b2.cached } → Belongs log after → IsInStep log b2 after
in_step_read log b b2 before after step is belongs = record {
  belongs = belongs;
  same = record { records = ap (λ (s : Seen). s.records) is ∙ step.same.records; starts = ap (λ (s : Seen). s.starts) is ∙ step.same.starts };
}
