-- One record more in the journal and in what its records leave.
use Rattle.std.proofs.Common.{◌≡◌, ℕ, ◌-◌, Bool, List, [], ◌∷◌, ◌++◌, sym, ap, subst, ◌∙◌}
use Rattle.std.specs.FinSet.{FinSet}
use Rattle.fsl_order.specs.Names.{bytes_cmp}
use Rattle.fsl_disk.specs.Disk.{DiskState, IsModelled}
use Rattle.fsl_record.specs.declared.Record.{Record}
use Rattle.fsl_record.specs.declared.Record.TheVariants as record_of
use Rattle.fsl_journal.specs.Log.{Log}
use Rattle.fsl_journal.specs.Places.{next_place}
use Rattle.fsl_blobs.proofs.Sources.{get-more}
use Rattle.fsl_blobs.specs.Seen as blobs
use Rattle.fsl_blobs.specs.Seen.{AreTrue, applied}
use Rattle.fsl_blobs.specs.Content.{IsOf}
use Rattle.fsl_blobs.specs.Fold.{contents, after}
use Rattle.fsl_blobs.specs.Held.{still_new}
use Rattle.fsl_repo.specs.Arriving.{appended}
use Rattle.fsl_repo.specs.Keeping.{state_of}
use Rattle.fsl_repo.proofs.HeldMore.{contents_more}

-- what is kept in memory of contents is what their records have, with a record more too
pub true_more : (b : blobs.Seen) (at : ℕ) (entry : Record) → AreTrue b → AreTrue (applied b at entry)
true_more b at entry all e there =
    let was = all e there in
    (was.0, (was.1.0, was.1.1, get-more b.records entry (record_of.Blob was.1.0 was.0 was.1.1 e.1) (e.0 - 1) was.1.2))

module _ (log log2 : Log) (b b2 : blobs.Seen) (entry : Record) (more : log2 ≡ appended log entry) (goes : b2 ≡ applied b (next_place log entry) entry) where
  pub records_more : log2.records ≡ log.records ++ entry ∷ []
  records_more = ap (λ (l : Log). l.records) more

  pub cached_more : (disk : DiskState) → (IsModelled disk → AreTrue b) → IsModelled disk → AreTrue b2
  cached_more disk cached modelled = subst AreTrue (sym goes) (true_more b (next_place log entry) entry (cached modelled))

  pub state_more : (announced : FinSet bytes_cmp) (faults : ℕ) (honest : Bool) → b2.announced ≡ announced
      → state_of log2 b2 faults honest ≡ record (state_of log b faults honest) { records = log.records ++ entry ∷ []; announced = announced }
  state_more announced faults honest is =
      λ i. record { records = records_more i; committed = (more i).stable; announced = is i; stopped = (more i).stopped; faults = faults; honest = honest }

  module _ (same : IsOf log b) where
    pub same_more : IsOf log2 b2
    same_more = record {
      records = ap (λ (x : blobs.Seen). x.records) goes ∙ ap (λ (rs : List Record). rs ++ entry ∷ []) same.records ∙ sym records_more;
      starts = ap (λ (x : blobs.Seen). x.starts) goes ∙ ap (λ (ps : List ℕ). ps ++ next_place log entry ∷ []) same.starts ∙ sym (ap (λ (l : Log). l.places) more);
    }

    pub announced_more : b2.announced ≡ still_new (after (contents log.records) entry) b.announced
    announced_more =
        ap (λ (x : blobs.Seen). x.announced) goes
        ∙ ap (λ (rs : List Record). still_new (contents (rs ++ entry ∷ [])) b.announced) same.records
        ∙ ap (λ c. still_new c b.announced) (contents_more log.records entry)
