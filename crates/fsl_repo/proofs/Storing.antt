-- A repository that stores an artifact.
use Rattle.std.proofs.Common.{◌≡◌, ◌⊎◌, inl, inr, ℕ, ◌+◌, ◌≤◌, ◌^◌, Bool, true, false, List, [], ◌∷◌, ◌++◌, length, map, drop, Option, None, Result, Ok, Err, refl, sym, ap, subst, ◌∙◌, arith}
use Rattle.std.specs.Prelude.{⊤, ◌||◌, nat_lt, if◌then◌else◌, filter, not}
use Rattle.std.specs.FinMap as map_of
use Rattle.std.specs.FinSet as set
use Rattle.std.proofs.lemmas.List.{drop-append-le}
use Rattle.std.proofs.lemmas.Bool.{le-ltb}
use Rattle.std.proofs.lemmas.List.Sums.{length-filter, count_by-le-length}
use Rattle.std.proofs.lemmas.List.Elements.{filter-append, filter_agree}
use Rattle.std.specs.FinSet.{FinSet}
use Rattle.fsl_order.specs.Names.{has, bytes_cmp}
use Rattle.fsl_order.specs.Rows.{by_name}
use Rattle.std.proofs.lemmas.List.{length-append}
use Rattle.fsl_cluster.specs.declared.Fact.{Fact}
use Rattle.fsl_disk.specs.Disk.{DiskState}
use Rattle.fsl_record.specs.Receipts.{Brought}
use Rattle.fsl_record.specs.declared.Record.{Record}
use Rattle.fsl_record.specs.declared.Record.TheVariants as record_of
use Rattle.fsl_record.specs.Records.{AreRecords}
use Rattle.fsl_journal.specs.Log.{Log}
use Rattle.fsl_journal.specs.Places.{next_place}
use Rattle.fsl_journal.proofs.Belonging.{belongs_append}
use Rattle.fsl_blobs.specs.Seen as blobs
use Rattle.fsl_blobs.specs.Seen.{applied}
use Rattle.fsl_blobs.specs.Fold.{Held, Contents, contents, after, is_new, held_bytes, received}
use Rattle.fsl_blobs.specs.Held as answers
use Rattle.fsl_blobs.specs.Held.{still_new}
use Rattle.fsl_blobs.specs.declared.BlobState.TheVariants as blob
use Rattle.fsl_cluster.specs.Clusters as clusters
use Rattle.fsl_cross.specs.declared.Item.{Item}
use Rattle.fsl_cross.specs.Facts.{cluster_fact}
use Rattle.fsl_cross.specs.Tables as tables
use Rattle.fsl_cross.specs.Tables.{with_item, cluster_facts}
use Rattle.fsl_cross.proofs.FactLemmas.{set-rising}
use Rattle.fsl_cross.proofs.TableLemmas.{clusters-by_name}
use Rattle.fsl_repo.specs.declared.Arrival.{Arrival}
use Rattle.fsl_repo.specs.declared.Arrival.TheVariants as arrival
use Rattle.fsl_repo.specs.declared.ArriveFault.{ArriveFault}
use Rattle.fsl_repo.specs.declared.ArriveFault.TheVariants as arrive_fault
use Rattle.fsl_repo.specs.Machine.{State, AreItems, IsItemOf, configured, room, room_of, IsDueOrMemory, IsStoring, arrived}
use Rattle.fsl_repo.specs.Keeping.{state_of, IsKept}
use Rattle.fsl_repo.specs.Whole as whole
use Rattle.fsl_repo.specs.Whole.{is_modelled}
use Rattle.fsl_repo.specs.Arriving.{appended}
use Rattle.fsl_repo.proofs.OneMore.{records_more, same_more, cached_more, announced_more, state_more}
use Rattle.fsl_repo.proofs.ItemLemmas.{items_rise}
use Rattle.fsl_repo.proofs.HeldMore.{absent_is, any_alike, blob_after, contents_more, items_more, count_more, announced_less}
use Rattle.fsl_blobs.proofs.Totals.{bytes_more}

abbrev artifact_of : Bool → List ℕ → Held
artifact_of private bytes = record { private = private; bytes = bytes }

-- ---- the count of blobs

blobs_more : (records : List Record) (private : Bool) (name : List ℕ) (receipt : Option Brought) (bytes : List ℕ) → whole.blobs (records ++ record_of.Blob private name receipt bytes ∷ []) ≡ whole.blobs records + 1
blobs_more records private name receipt bytes =
    let r = record_of.Blob private name receipt bytes in
    sym (length-filter whole.is_blob (records ++ r ∷ [])) ∙ ap length (filter-append whole.is_blob records (r ∷ []))
    ∙ omega (arith, length-append (filter whole.is_blob records) (r ∷ []), length-filter whole.is_blob records)

-- ---- the room

abbrev failed : ArriveFault → Result Arrival ArriveFault
failed fault = Err fault

abbrev done : Result Arrival ArriveFault
done = Ok arrival.Stored

pub stored_numbers : (x : Result Arrival ArriveFault) → (done ≡ Err arrive_fault.Memory) ⊎ (done ≡ x) → done ≡ x
stored_numbers x (inl h) = absurd cc
stored_numbers x (inr h) = h

pub room_fits : (b n w : ℕ) → b ≤ 2 ^ 30 → n ≤ 2 ^ 20 → w ≤ 2 ^ 20 → Ok arrival.Stored ≡ room_of b n w
room_fits b n w p q r =
    let x : nat_lt (2 ^ 30) b ≡ false = le-ltb (2 ^ 30) b p in
    let y : nat_lt (2 ^ 20) n ≡ false = le-ltb (2 ^ 20) n q in
    let z : nat_lt (2 ^ 20) w ≡ false = le-ltb (2 ^ 20) w r in
    λ i. if (sym x i || sym y i || sym z i) then Err (arrive_fault.Full b n w) else Ok arrival.Stored

pub wants_few : (facts : List Fact) (shunned : List (List ℕ)) → length (clusters.wants facts shunned) ≤ length (clusters.missing facts)
wants_few facts shunned =
    let p : List ℕ → Bool = λ name. not (has shunned name) in
    omega (arith, length-filter p (clusters.missing facts), count_by-le-length p (clusters.missing facts))

pub wants_by : (facts : List Fact) (shunned : FinSet bytes_cmp) → filter (λ name. not (set.contains shunned name)) (clusters.missing facts) ≡ clusters.wants facts (set.items shunned)
wants_by facts shunned =
    filter_agree (λ name. not (set.contains shunned name)) (λ name. not (has (set.items shunned) name))
    (λ name. ap not (set.contains-items shunned name ∙ sym (any_alike name (set.items shunned)))) (clusters.missing facts)

-- ---- what is kept

module _ (log : Log) (held : blobs.Seen) (all : tables.Seen) (first count : ℕ) (disk : DiskState) (kept : IsKept log held all first count disk) (name : List ℕ) (receipt : Option Brought) (bytes : List ℕ) (private : Bool) (item : Item)
    (absent : answers.state_of (contents log.records) name ≡ blob.Absent) (fits : IsItemOf (name, artifact_of private bytes) item) where
  abbrev r : Record
  r = record_of.Blob private name receipt bytes

  abbrev c : Contents
  c = contents log.records

  abbrev c2 : Contents
  c2 = record c { held = map_of.insert c.held name (artifact_of private bytes); receipts = received c.receipts name receipt }

  -- a receipt changes nothing of what is held
  abbrev bare : Contents
  bare = record c { held = map_of.insert c.held name (artifact_of private bytes) }

  abbrev items2 : List Item
  items2 = with_item item all.items

  abbrev s : State
  s = state_of log held disk.faults (is_modelled disk)

  after_is : after c r ≡ c2
  after_is = let out = absent_is c name absent in blob_after c private name receipt bytes out.0 out.1

  bare_is : after c (record_of.Blob private name None bytes) ≡ bare
  bare_is = let out = absent_is c name absent in blob_after c private name None bytes out.0 out.1

  items2_are : AreItems c2.held items2
  items2_are = items_more c.held all.items name (artifact_of private bytes) item kept.items fits

  abbrev Numbers : tables.Seen → Result Arrival ArriveFault
  Numbers all2 = room_of (held_bytes (contents held.records).held + length bytes) (map_of.len (contents held.records).held + 1)
      (length (clusters.wants (tables.tables all2.fields all2.items).clusters (set.items (contents held.records).shunned)))

  clusters_are : (fields : List (List ℕ)) → (tables.tables fields items2).clusters ≡ map cluster_fact items2
  clusters_are fields =
      let rise = items_rise c2.held items2 items2_are in
      ap (λ (items : List Item). by_name (λ f. f.name) (cluster_facts items)) (set-rising items2 rise) ∙ clusters-by_name items2 rise

  room_is : (all2 : tables.Seen) → all2.items ≡ items2 → Numbers all2 ≡ room bare items2
  room_is all2 is =
      let none = (absent_is c name absent).0 in
      let one : Numbers all2 ≡ room_of (held_bytes c.held + length bytes) (map_of.len c.held + 1) (length (clusters.wants (tables.tables all2.fields items2).clusters (set.items c.shunned))) =
      (λ i. room_of (held_bytes (contents (kept.same.records i)).held + length bytes) (map_of.len (contents (kept.same.records i)).held + 1)
      (length (clusters.wants (tables.tables all2.fields (is i)).clusters (set.items (contents (kept.same.records i)).shunned)))) in
      one ∙ (λ i. room_of (sym (bytes_more c.held name (artifact_of private bytes) none) i) (sym (count_more c.held name (artifact_of private bytes) none) i)
      (length (clusters.wants (clusters_are all2.fields i) (set.items c.shunned))))

  pub full_step : (all2 : tables.Seen) (fault : ArriveFault) → all2.items ≡ items2 → (failed fault ≡ Err arrive_fault.Memory) ⊎ (failed fault ≡ Numbers all2) → IsDueOrMemory s (IsStoring s name receipt bytes private) (Err arrive_fault.Memory) ⊤ (Err fault) s
  full_step all2 fault is (inl memory) = inr (memory, tt, record { state = refl; faults = omega arith })
  full_step all2 fault is (inr told) =
      inl (s, ((items2, subst (λ (x : Contents). AreItems x.held items2) (sym bare_is) items2_are, told ∙ room_is all2 is ∙ ap (λ (x : Contents). room x items2) (sym bare_is)), refl), record { state = refl; faults = omega arith })

  module _ (log2 : Log) (held2 : blobs.Seen) (all2 : tables.Seen) (runs : log.stopped ≡ None) (more : log2 ≡ appended log r) (goes : held2 ≡ applied held (next_place log r) r) (added : all2.items ≡ items2) where
    records2 : log2.records ≡ log.records ++ r ∷ []
    records2 = records_more log log2 held held2 r more goes

    contents2 : contents log2.records ≡ c2
    contents2 = ap contents records2 ∙ contents_more log.records r ∙ after_is

    announced2 : held2.announced ≡ set.remove held.announced name
    announced2 =
        announced_more log log2 held held2 r more goes kept.same ∙ ap (λ (x : Contents). still_new x held.announced) after_is
        ∙ announced_less c held.announced name (artifact_of private bytes) kept.announced

    pub stored_kept : AreRecords log2.records → all2.fields ≡ all.fields → ((q : List ℕ) → set.contains held2.announced q ≡ true → is_new (contents held2.records) q ≡ true) → IsKept log2 held2 all2 first (count + 1) disk
    stored_kept fit same_fields new =
        let same = same_more log log2 held held2 r more goes kept.same in record {
          belongs = belongs_append log log2 r (next_place log r) disk kept.belongs runs more;
          records = fit;
          same = same;
          cached = cached_more log log2 held held2 r more goes disk kept.cached;
          items = subst (λ (items : List Item). AreItems (contents log2.records).held items) (sym added) (subst (λ (x : Contents). AreItems x.held items2) (sym contents2) items2_are);
          fields = same_fields ∙ kept.fields ∙ sym (ap configured contents2);
          announced = λ q h. subst (λ (rs : List Record). is_new (contents rs) q ≡ true) same.records (new q h);
          loaded = subst (λ (l : Log). first ≤ l.stable) (sym more) kept.loaded;
          stored =
              ap (λ (n : ℕ). n + 1) kept.stored ∙ sym (ap whole.blobs (ap (drop first) records2 ∙ drop-append-le first log.records (r ∷ []) (omega (arith, kept.loaded, kept.belongs.counts)))
              ∙ blobs_more (drop first log.records) private name receipt bytes);
        }

    pub stored_step : Ok arrival.Stored ≡ Numbers all2 → IsDueOrMemory s (IsStoring s name receipt bytes private) (Err arrive_fault.Memory) ⊤ (Ok arrival.Stored) (state_of log2 held2 disk.faults (is_modelled disk))
    stored_step told =
        inl (
          arrived s name receipt bytes private (Ok arrival.Stored),
          ((items2, subst (λ (x : Contents). AreItems x.held items2) (sym bare_is) items2_are, told ∙ room_is all2 added ∙ ap (λ (x : Contents). room x items2) (sym bare_is)), refl),
          record { state = state_more log log2 held held2 r more goes (set.remove held.announced name) disk.faults (is_modelled disk) announced2; faults = omega arith },
        )
