-- A content that is read: what it says of the repository's state, and that the parts still go together.
use Rattle.std.proofs.Common.{◌≡◌, ◌≤◌, ◌-◌, ◌++◌, ◌∷◌, [], take, arith, ℕ, Bool, true, false, List, length, Option, Some, None, Result, Ok, Err, refl, sym, ◌∙◌, ap, subst}
use Rattle.std.specs.Prelude.{◌≢◌, ◌↔◌, ◌&&◌, OnOk, OnErr, IfOk, IfErr, is_some, IsSome, IsTrue}
use Rattle.std.specs.Option.{option_map_or}
use Rattle.std.proofs.lemmas.List.{take_at, length-append}
use Rattle.std.specs.FinMap as map_of
use Rattle.std.specs.FinSet as set
use Rattle.fsl_disk.specs.Disk.{DiskState, IsModelled, Keeps, Quiet}
use Rattle.fsl_disk.proofs.Moments.{modelled_before}
use Rattle.fsl_order.specs.Causes.{Rose}
use Rattle.fsl_journal.specs.Journal.{Belongs}
use Rattle.fsl_journal.specs.Log.{Log}
use Rattle.fsl_record.specs.declared.Record.{Record}
use Rattle.fsl_blobs.specs.declared.BlobFault.{BlobFault}
use Rattle.fsl_blobs.specs.declared.BlobFault.TheVariants as blob_fault
use Rattle.fsl_blobs.specs.Fold.{Held, contents, size_in, is_new}
use Rattle.fsl_blobs.specs.Seen as blobs
use Rattle.fsl_blobs.specs.Seen.{AreTrue, announced_after}
use Rattle.fsl_blobs.specs.declared.Known.{Known}
use Rattle.fsl_blobs.specs.declared.Known.TheVariants as known
use Rattle.fsl_blobs.specs.Content.{IsOf, IsContentOf, IsDamaged, ContentFailed}
use Rattle.fsl_cross.specs.Tables as tables
use Rattle.fsl_repo.specs.Contents.{IsContentNow, ContentFails}
use Rattle.fsl_repo.specs.Replies.{IsSpoilt}
use Rattle.fsl_repo.specs.Machine.{State, Leaves, AnnouncedAreNew, now}
use Rattle.fsl_repo.specs.Keeping.{IsKept, state_of}
use Rattle.fsl_repo.specs.Whole.{is_modelled}
use Rattle.fsl_repo.proofs.Steps.{same_kind}

told_by : {A : Type 0} (o : Option A) (b : Bool) → (is_some o && b) ≡ true → IsSome o
told_by None b is = is
told_by (Some a) b is = refl

model_by : {A : Type 0} (o : Option A) (b : Bool) → (is_some o && b) ≡ true → IsTrue b
model_by None b is = absurd cc
model_by (Some a) b is = is

-- the kind of a disk that tells its contents and meets the disk model
pub modelled_by : (disk : DiskState) → is_modelled disk ≡ true → IsModelled disk
modelled_by disk is = record { tells = told_by disk.contents disk.is_model is; model = model_by disk.contents disk.is_model is }

never_true : (b : Bool) → (b ≡ true → ⊥) → b ≡ false
never_true true never = absurd (never refl)
never_true false never = refl

module _ (log : Log) (b b2 : blobs.Seen) (d0 d1 : DiskState) (is : b2 ≡ record b { cached = b2.cached }) (quiet : Quiet d0 d1) where
  -- nothing of the state but the disk's count
  pub read_state : state_of log b2 d1.faults (is_modelled d1) ≡ state_of log b d1.faults (is_modelled d0)
  read_state = ap (λ (x : blobs.Seen). state_of log x d1.faults (is_modelled d1)) is ∙ ap (λ (h : Bool). state_of log b d1.faults h) (same_kind d0 d1 quiet.keeps)

  pub read_leaves : d0.faults ≤ d1.faults → Leaves (state_of log b d0.faults (is_modelled d0)) (state_of log b d0.faults (is_modelled d0)) (state_of log b2 d1.faults (is_modelled d1))
  read_leaves later = record { state = read_state; faults = later }

  pub read_same : {A E : Type 0} (r : Result A E) → OnOk r (d1.faults ≡ d0.faults) → OnOk r (state_of log b2 d1.faults (is_modelled d1) ≡ state_of log b d0.faults (is_modelled d0))
  read_same (Ok a) same = read_state ∙ ap (λ (n : ℕ). state_of log b n (is_modelled d0)) same
  read_same (Err e) same = tt

  pub read_keeps : (t : tables.Seen) (first count : ℕ) → IsKept log b t first count d0 → Belongs log d1 → (IsModelled d0 → AreTrue b → AreTrue b2) → IsKept log b2 t first count d1
  read_keeps t first count kept belongs true_still = record {
    belongs = belongs;
    records = kept.records;
    same = subst (λ (x : blobs.Seen). IsOf log x) (sym is) (record { records = kept.same.records; starts = kept.same.starts });
    cached = λ modelled. let old = modelled_before d0 d1 quiet.keeps modelled in true_still old (kept.cached old);
    items = kept.items;
    fields = kept.fields;
    announced = subst (λ (x : blobs.Seen). AnnouncedAreNew (state_of log x d1.faults (is_modelled d1))) (sym is) kept.announced;
    loaded = kept.loaded;
    stored = kept.stored;
  }

module _ (log : Log) (b : blobs.Seen) (d0 : DiskState) (same : IsOf log b) (cached : IsModelled d0 → AreTrue b) (name : List ℕ) where
  held_now : (o : Option Held) → map_of.get (contents b.records).held name ≡ o → map_of.get (contents log.records).held name ≡ o
  held_now o is = subst (λ (rs : List Record). map_of.get (contents rs).held name ≡ o) same.records is

  pub content_now : (text : List ℕ) → IsContentOf d0 b name text → IsContentNow (state_of log b d0.faults (is_modelled d0)) name text
  content_now text has = record {
    artifact = has.artifact;
    held = held_now (Some has.artifact) has.held;
    named = has.named;
    sized = has.sized;
    same = λ honest. let modelled = modelled_by d0 honest in has.same modelled (cached modelled);
  }

  pub content_is : {E : Type 0} (r : Result (List ℕ) E) → IfOk r (IsContentOf d0 b name) → IfOk r (IsContentNow (state_of log b d0.faults (is_modelled d0)) name)
  content_is (Ok text) has = content_now text has
  content_is (Err e) has = tt

  pub absent_now : {A : Type 0} → A ↔ (map_of.get (contents b.records).held name ≡ None) → A ↔ (map_of.get (contents log.records).held name ≡ None)
  absent_now {A} iff = subst (λ (rs : List Record). A ↔ (map_of.get (contents rs).held name ≡ None)) same.records iff

  spoilt : (found : List ℕ) (o : Option Held) → map_of.get (contents b.records).held name ≡ o → o ≢ None → IsDamaged d0 name (size_in (contents b.records).held name) found → IsSpoilt (state_of log b d0.faults (is_modelled d0)) name found
  spoilt found None has some damaged = absurd (some refl)
  spoilt found (Some artifact) has some damaged = record {
    artifact = artifact;
    held = held_now (Some artifact) has;
    bytes = damaged.bytes;
    sized = damaged.sized ∙ ap (λ (o : Option Held). option_map_or (λ a. length a.bytes) o 0) has;
    named = damaged.named;
    other = damaged.other;
    never = never_true (is_modelled d0) (λ honest. damaged.never (modelled_by d0 honest));
  }

  pub content_fails : (r : Result (List ℕ) BlobFault) (d1 : DiskState) (s2 : State) → s2.faults ≡ d1.faults → (r ≡ Err blob_fault.Absent) ↔ (map_of.get (contents b.records).held name ≡ None)
      → IfErr r (λ fault. ContentFailed fault b name d0 d1) → IfErr r (λ fault. ContentFails fault (state_of log b d0.faults (is_modelled d0)) name s2)
  content_fails (Ok text) d1 s2 is absent failed = tt
  content_fails (Err blob_fault.Absent) d1 s2 is absent failed = (held_now None failed.0, is ∙ failed.1)
  content_fails (Err blob_fault.Disk) d1 s2 is absent failed = subst (λ (n : ℕ). Rose d0.faults n) (sym is) failed
  content_fails (Err (blob_fault.Damaged found)) d1 s2 is absent failed =
      (spoilt found (map_of.get (contents b.records).held name) refl (λ none. let e = absent.1 none in cc) failed.0, is ∙ failed.1)
  content_fails (Err blob_fault.Memory) d1 s2 is absent failed = is ∙ failed

-- an announcement changes the announced names alone
only_announced : (b b2 : blobs.Seen) (name : List ℕ) (k : Known) → b2 ≡ announced_after b name k → b2 ≡ record b { announced = b2.announced }
only_announced b b2 name known.New is = is ∙ ap (λ a. record b { announced = a }) (sym (ap (λ (x : blobs.Seen). x.announced) is))
only_announced b b2 name known.Held is = is ∙ ap (λ a. record b { announced = a }) (sym (ap (λ (x : blobs.Seen). x.announced) is))
only_announced b b2 name known.Shunned is = is ∙ ap (λ a. record b { announced = a }) (sym (ap (λ (x : blobs.Seen). x.announced) is))
only_announced b b2 name known.Again is = is ∙ ap (λ a. record b { announced = a }) (sym (ap (λ (x : blobs.Seen). x.announced) is))
only_announced b b2 name known.Full is = is ∙ ap (λ a. record b { announced = a }) (sym (ap (λ (x : blobs.Seen). x.announced) is))

only_announced_by : {E : Type 0} (b b2 : blobs.Seen) (name : List ℕ) (r : Result Known E) → IfOk r (λ k. b2 ≡ announced_after b name k) → OnErr r (b2 ≡ b) → b2 ≡ record b { announced = b2.announced }
only_announced_by b b2 name (Ok k) is same = only_announced b b2 name k is
only_announced_by b b2 name (Err e) is same = same ∙ ap (λ a. record b { announced = a }) (sym (ap (λ (x : blobs.Seen). x.announced) same))

pub announce_keeps : {E : Type 0} (log : Log) (b b2 : blobs.Seen) (t : tables.Seen) (first count : ℕ) (disk : DiskState) (name : List ℕ) (r : Result Known E)
    → IfOk r (λ k. b2 ≡ announced_after b name k) → OnErr r (b2 ≡ b) → ((n : List ℕ) → set.contains b2.announced n ≡ true → is_new (contents b2.records) n ≡ true)
    → IsKept log b t first count disk → IsKept log b2 t first count disk
announce_keeps log b b2 t first count disk name r ok err new kept =
    let is = only_announced_by b b2 name r ok err in record {
      belongs = kept.belongs;
      records = kept.records;
      same = subst (λ (x : blobs.Seen). IsOf log x) (sym is) (record { records = kept.same.records; starts = kept.same.starts });
      cached = λ modelled. subst (λ (x : blobs.Seen). AreTrue x) (sym is) (kept.cached modelled);
      items = kept.items;
      fields = kept.fields;
      announced = subst (λ (rs : List Record). (n : List ℕ) → set.contains b2.announced n ≡ true → is_new (contents rs) n ≡ true) (ap (λ (x : blobs.Seen). x.records) is ∙ kept.same.records) new;
      loaded = kept.loaded;
      stored = kept.stored;
    }

-- a record that was appended and taken back
pub undone : (log : Log) (entry : Record) (at : ℕ) → length log.places ≡ length log.records → (j : Log) → j ≡ record log { records = log.records ++ entry ∷ []; places = log.places ++ at ∷ [] }
    → record j { records = take (length j.records - 1) j.records; places = take (length j.records - 1) j.places } ≡ log
undone log entry at as_many j is =
    let n : ℕ = length (log.records ++ entry ∷ []) - 1 in
    let one : length log.records ≡ n = omega (arith, length-append log.records (entry ∷ [])) in
    let records : take n (log.records ++ entry ∷ []) ≡ log.records = take_at log.records (entry ∷ []) n one in
    let places : take n (log.places ++ at ∷ []) ≡ log.places = take_at log.places (at ∷ []) n (as_many ∙ one) in
    ap (λ (x : Log). record x { records = take (length x.records - 1) x.records; places = take (length x.records - 1) x.places }) is
    ∙ ap (λ (rs : List Record). record log { records = rs; places = take n (log.places ++ at ∷ []) }) records
    ∙ ap (λ (ps : List ℕ). record log { places = ps }) places
