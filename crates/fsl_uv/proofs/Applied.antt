-- A message is applied, and the store goes together after it.
use Rattle.std.proofs.Common.{◌≡◌, ℕ, Bool, true, false, List, [], ◌∷◌, ◌++◌, map, None, Result, Ok, Err, refl, sym, ap, subst, ◌∙◌, append_assoc, if◌then◌else◌}
use Rattle.std.specs.List.{AllByRecursion}
use Rattle.std.proofs.lemmas.List.{append-nil}
use Rattle.fsl_disk.specs.Disk.{DiskState}
use Rattle.fsl_record.specs.declared.Record.{Record}
use Rattle.fsl_record.specs.Records.{AreRecords}
use Rattle.fsl_journal.specs.Journal.{Belongs}
use Rattle.fsl_journal.specs.Log.{Log}
use Rattle.fsl_journal.specs.Places.{content_places}
use Rattle.fsl_journal.proofs.Belonging.{belongs_more}
use Rattle.fsl_uv.specs.declared.Entry.{Entry}
use Rattle.fsl_uv.specs.declared.Card.{Card}
use Rattle.fsl_uv.specs.declared.Card.TheVariants as card_is
use Rattle.fsl_uv.specs.declared.ApplyFault.{ApplyFault}
use Rattle.fsl_uv.specs.declared.ApplyFault.TheVariants as apply_fault
use Rattle.fsl_uv.specs.Entries.{Version, IsEntry, entry_text, version_of}
use Rattle.fsl_uv.specs.Maps.{uv, merge}
use Rattle.fsl_uv.specs.Cards.{IsCard, IsMessage}
use Rattle.fsl_uv.specs.Laws.{Rises}
use Rattle.fsl_uv.specs.Syncing.{is_kept, with_entry, stored, files}
use Rattle.fsl_uv.specs.Stores.{Seen, IsUv, IsStore, IsApplied, blob_of, next_start, log_with}
use Rattle.fsl_uv.specs.Applying.{IsTakenAll}
use Rattle.fsl_uv.proofs.Merging.{rises-uv, rises-merge}
use Rattle.fsl_uv.proofs.HeldLemmas.{kept-same}
use Rattle.fsl_uv.proofs.RecordLemmas.{more-record}
use Rattle.fsl_uv.proofs.ApplyLemmas.{merge-none, merge-first}
use Rattle.fsl_uv.proofs.Logs.{as-many-places}

abbrev Map : Type 0
Map = List (List ℕ × Version)

good-files : (cards : List Card) → AllByRecursion IsCard cards → AllByRecursion IsEntry (files cards)
good-files [] good = tt
good-files (card_is.File e ∷ cards) good = (good.0, good-files cards good.1)
good-files (card_is.Igot path moment hash size ∷ cards) good = good-files cards good.1
good-files (card_is.Gimme path ∷ cards) good = good-files cards good.1

belongs-all : (disk : DiskState) (es : List Entry) (log : Log) → Belongs log disk → log.stopped ≡ None → Belongs (log_with log es) disk
belongs-all disk es log h runs =
    belongs_more log (map blob_of es) (content_places (next_start log) (map blob_of es)) disk h runs (as-many-places (next_start log) (map blob_of es))

-- the records of the entries that are stored make the map that is due
uv-all : (es : List Entry) (records : List Record) (m : Map) → AllByRecursion IsEntry es → Rises m → IsUv records m → IsUv (records ++ map blob_of (stored m es)) (merge m (uv es))
uv-all [] records m good up u = subst (λ (x : List Record × Map). IsUv x.0 x.1) (λ i. (sym (append-nil records) i, sym (merge-none m up) i)) u
uv-all (e ∷ es) records m good up u = by (λ rs n rise v. uv-all es rs n good.1 rise v) (is_kept m e) refl
  where
    by : ((rs : List Record) (n : Map) → Rises n → IsUv rs n → IsUv (rs ++ map blob_of (stored n es)) (merge n (uv es))) → (b : Bool) → is_kept m e ≡ b → IsUv (records ++ map blob_of (stored m (e ∷ es))) (merge m (uv (e ∷ es)))
    by again true k =
        let entries : stored m es ≡ stored m (e ∷ es) = sym (ap (λ b. if b then stored m es else e ∷ stored (with_entry m e) es) k) in
        let same : merge m (uv es) ≡ merge m (uv (e ∷ es)) = ap (λ (n : Map). merge n (uv es)) (kept-same m e up k) ∙ sym (merge-first m e es) in
        subst (λ (x : List Entry × Map). IsUv (records ++ map blob_of x.0) x.1) (λ i. (entries i, same i)) (again records m up u)
    by again false k =
        let entries : e ∷ stored (with_entry m e) es ≡ stored m (e ∷ es) = sym (ap (λ b. if b then stored m es else e ∷ stored (with_entry m e) es) k) in
        let all : (records ++ blob_of e ∷ []) ++ map blob_of (stored (with_entry m e) es) ≡ records ++ map blob_of (stored m (e ∷ es)) =
        append_assoc records (blob_of e ∷ []) (map blob_of (stored (with_entry m e) es)) ∙ ap (λ (x : List Entry). records ++ map blob_of x) entries in
        let same : merge (with_entry m e) (uv es) ≡ merge m (uv (e ∷ es)) = sym (merge-first m e es) in
        subst (λ (x : List Record × Map). IsUv x.0 x.1) (λ i. (all i, same i))
        (again (records ++ blob_of e ∷ []) (with_entry m e) (rises-merge m ((e.path, version_of e) ∷ [])) (more-record records m false _ None (entry_text e) e (good.0, refl) u))

pub store-rises : (disk : DiskState) (s : Seen) → IsStore disk s → Rises s.map
store-rises disk s store = subst Rises (sym store.map.2) (rises-uv store.map.0)

module _ (disk : DiskState) (s : Seen) (cards : List Card) (log : Log) (m : Map) where
  abbrev Kept : Log → Map → Type 0
  Kept l k = IsStore disk (record { log = l; config = s.config; map = k })

  same-store : log ≡ s.log → m ≡ s.map → IsStore disk s → Kept log m
  same-store a b store = subst (λ (x : Log × Map). Kept x.0 x.1) (λ i. (sym a i, sym b i)) store

  pub apply-kept : (result : Result ℕ ApplyFault) → IsStore disk s → s.log.stopped ≡ None → AllByRecursion IsCard cards → AreRecords log.records → IsTakenAll s.log s.map cards result log m → Kept log m
  apply-kept (Ok count) store runs good fit p =
      record {
        belongs = subst (λ (l : Log). Belongs l disk) (sym p.2) (belongs-all disk (stored s.map (files cards)) s.log store.belongs runs);
        records = fit;
        config = (store.config.0 ++ map blob_of (stored s.map (files cards)), ap (λ (l : Log). l.records) p.2 ∙ ap (λ (rs : List Record). rs ++ map blob_of (stored s.map (files cards))) store.config.1);
        map = subst (λ (x : List Record × Map). IsUv x.0 x.1) (λ i. (sym (ap (λ (l : Log). l.records) p.2) i, sym p.3 i))
            (uv-all (files cards) s.log.records s.map (good-files cards good) (store-rises disk s store) store.map);
      }
  apply-kept (Err (apply_fault.Full bytes count)) store runs good fit p = same-store p.3 p.4 store
  apply-kept (Err apply_fault.Memory) store runs good fit p = same-store p.0 p.1 store
  apply-kept (Err (apply_fault.Stopped faults)) store runs good fit p = absurd p
  apply-kept (Err (apply_fault.Line line)) store runs good fit p = absurd p
  apply-kept (Err (apply_fault.NameWrong kept found)) store runs good fit p = absurd p

  pub apply-due : (message : List ℕ) (result : Result ℕ ApplyFault) → s.log.stopped ≡ None → IsMessage message cards → IsTakenAll s.log s.map cards result log m
      → IsApplied s message result (record { log = log; config = s.config; map = m })
  apply-due message (Ok count) runs is p = (runs, cards, is, p.0, p.1, (λ i. record { log = p.2 i; config = s.config; map = p.3 i }))
  apply-due message (Err (apply_fault.Full bytes count)) runs is p = (runs, cards, is, p.0, p.1, p.2, (λ i. record { log = p.3 i; config = s.config; map = p.4 i }))
  apply-due message (Err apply_fault.Memory) runs is p = (runs, (λ i. record { log = p.0 i; config = s.config; map = p.1 i }))
  apply-due message (Err (apply_fault.Stopped faults)) runs is p = absurd p
  apply-due message (Err (apply_fault.Line line)) runs is p = absurd p
  apply-due message (Err (apply_fault.NameWrong kept found)) runs is p = absurd p
