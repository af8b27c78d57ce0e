-- A put goes as it is due, and the store goes together after it.
use Rattle.std.proofs.Common.{◌≡◌, ℕ, ◌≤◌, Bool, true, false, List, [], ◌∷◌, ◌++◌, length, None, refl, sym, ap, subst, ◌∙◌, inl, inr}
use Rattle.std.specs.Prelude.{Result, Ok, Err, if◌then◌else◌}
use Rattle.std.proofs.lemmas.Bool.{le-ltb}
use Rattle.fsl_disk.specs.Disk.{DiskState}
use Rattle.fsl_record.specs.declared.Record.{Record}
use Rattle.fsl_record.specs.Records.{AreRecords}
use Rattle.fsl_journal.specs.Log.{Log}
use Rattle.fsl_journal.specs.Places.{next_place}
use Rattle.fsl_journal.proofs.Belonging.{belongs_append}
use Rattle.fsl_uv.specs.declared.Entry.{Entry}
use Rattle.fsl_uv.specs.declared.Put.{Put}
use Rattle.fsl_uv.specs.declared.Put.TheVariants as put_is
use Rattle.fsl_uv.specs.declared.UvFault.{UvFault}
use Rattle.fsl_uv.specs.declared.UvFault.TheVariants as uv_fault
use Rattle.fsl_uv.specs.Entries.{Version, IsEntry, content, most_of_content, entry_text}
use Rattle.fsl_uv.specs.Maps.{total, is_over}
use Rattle.fsl_uv.specs.Syncing.{is_kept, with_entry}
use Rattle.fsl_uv.specs.Stores.{Seen, IsUv, IsStore, IsPut, IsPutIn, blob_of, running_put, unless_stopped, due_put}
use Rattle.fsl_uv.proofs.RecordLemmas.{more-record}

module _ (s : Seen) (e : Entry) (log : Log) (m : List (List ℕ × Version)) (disk : DiskState) where
  pub put_kept : (result : Result Put UvFault) → IsStore disk s → s.log.stopped ≡ None → IsEntry e → AreRecords log.records → IsPutIn s.log s.map e result log m → IsStore disk (record { log = log; config = s.config; map = m })
  put_kept (Ok put_is.Kept) store runs good fit p = subst (λ (x : Log × List (List ℕ × Version)). IsStore disk (record { log = x.0; config = s.config; map = x.1 })) (λ i. (sym p.1 i, sym p.2 i)) store
  put_kept (Ok put_is.Stored) store runs good fit p =
      record {
        belongs = belongs_append s.log log (blob_of e) (next_place s.log (blob_of e)) disk store.belongs runs p.2;
        records = fit;
        config = (store.config.0 ++ blob_of e ∷ [], ap (λ (l : Log). l.records) p.2 ∙ ap (λ (rs : List Record). rs ++ blob_of e ∷ []) store.config.1);
        map = subst (λ (x : List Record × List (List ℕ × Version)). IsUv x.0 x.1) (λ i. (sym (ap (λ (l : Log). l.records) p.2) i, sym p.3 i))
            (more-record s.log.records s.map false _ None (entry_text e) e (good, refl) store.map);
      }
  put_kept (Err (uv_fault.Full bytes count)) store runs good fit p = subst (λ (x : Log × List (List ℕ × Version)). IsStore disk (record { log = x.0; config = s.config; map = x.1 })) (λ i. (sym p.4 i, sym p.5 i)) store
  put_kept (Err uv_fault.Memory) store runs good fit p = subst (λ (x : Log × List (List ℕ × Version)). IsStore disk (record { log = x.0; config = s.config; map = x.1 })) (λ i. (sym p.2 i, sym p.3 i)) store
  put_kept (Err (uv_fault.Stopped faults)) store runs good fit p = absurd p
  put_kept (Err (uv_fault.TooLarge size)) store runs good fit p = absurd p

  after : Seen
  after = record { log = log; config = s.config; map = m }

  module _ (runs : s.log.stopped ≡ None) (small : length (content e.bytes) ≤ most_of_content) where
    due : (kept over : Bool) → is_kept s.map e ≡ kept → is_over (with_entry s.map e) ≡ over → due_put s e ≡ (if kept then Ok put_is.Kept else if over then Err (uv_fault.Full (total (with_entry s.map e)) (length (with_entry s.map e))) else Ok put_is.Stored)
    due kept over k o =
        (λ i. unless_stopped (runs i) (running_put s.map e))
        ∙ (λ i. if le-ltb most_of_content (length (content e.bytes)) small i then Err (uv_fault.TooLarge (length (content e.bytes))) else if k i then Ok put_is.Kept else if o i then Err (uv_fault.Full (total (with_entry s.map e)) (length (with_entry s.map e))) else Ok put_is.Stored)

    pub put_due : (result : Result Put UvFault) → IsPutIn s.log s.map e result log m → IsPut s e result (record { log = log; config = s.config; map = m })
    put_due (Ok put_is.Kept) p = inl (sym (due true (is_over (with_entry s.map e)) p.0 refl), (λ i. record { log = p.1 i; config = s.config; map = p.2 i }))
    put_due (Ok put_is.Stored) p = inl (sym (due false false p.0 p.1), (λ i. record { log = p.2 i; config = s.config; map = p.3 i }))
    put_due (Err (uv_fault.Full bytes count)) p = inl ((λ i. Err (uv_fault.Full (p.2 i) (p.3 i))) ∙ sym (due false true p.0 p.1), (λ i. record { log = p.4 i; config = s.config; map = p.5 i }))
    put_due (Err uv_fault.Memory) p = inr (refl, due false false p.0 p.1, (λ i. record { log = p.2 i; config = s.config; map = p.3 i }))
    put_due (Err (uv_fault.Stopped faults)) p = absurd p
    put_due (Err (uv_fault.TooLarge size)) p = absurd p
