-- A journal with the records of entries appended.
use Rattle.std.proofs.Common.{◌≡◌, ℕ, suc, ◌+◌, ◌-◌, ◌≤◌, List, [], ◌∷◌, ◌++◌, length, map, take, drop, refl, sym, ap, ◌∙◌, arith, append_assoc, length-append}
use Rattle.std.proofs.lemmas.List.{append-nil, drop-append-le, map-append, take_at}
use Rattle.std.proofs.lemmas.List.Concat.{flat_map-append}
use Rattle.fsl_record.specs.declared.Record.{Record}
use Rattle.fsl_record.specs.Records.{record_bytes, records_bytes}
use Rattle.fsl_journal.specs.Log.{Log, uncommitted}
use Rattle.fsl_journal.specs.Places.{content_places, next_place, with_record, without_last}
use Rattle.fsl_journal.proofs.Standing.{places_append}
use Rattle.fsl_uv.specs.declared.Entry.{Entry}
use Rattle.fsl_uv.specs.Stores.{blob_of, next_start, log_with}

pub as-many-places : (start : ℕ) (records : List Record) → length (content_places start records) ≡ length records
as-many-places start [] = refl
as-many-places start (r ∷ records) = ap suc (as-many-places (start + length (record_bytes r)) records)

-- none appended
pub with-none : (log : Log) → log_with log [] ≡ log
with-none log = λ i. record log { records = append-nil log.records i; places = append-nil log.places i }

-- some appended, and then others
module _ (log : Log) (stable : log.stable ≤ length log.records) (a b : List Entry) where
  start-behind : next_start (log_with log a) ≡ next_start log + length (records_bytes (map blob_of a))
  start-behind =
      let left : drop log.stable (log.records ++ map blob_of a) ≡ uncommitted log ++ map blob_of a = drop-append-le log.stable log.records (map blob_of a) stable in
      let bytes : records_bytes (uncommitted log ++ map blob_of a) ≡ records_bytes (uncommitted log) ++ records_bytes (map blob_of a) = flat_map-append record_bytes (uncommitted log) (map blob_of a) in
      let size : length (records_bytes (drop log.stable (log.records ++ map blob_of a))) ≡ length (records_bytes (uncommitted log)) + length (records_bytes (map blob_of a)) =
      ap (λ (rs : List Record). length (records_bytes rs)) left ∙ ap length bytes ∙ length-append (records_bytes (uncommitted log)) (records_bytes (map blob_of a)) in
      omega (arith, size)

  pub with-both : log_with (log_with log a) b ≡ log_with log (a ++ b)
  with-both =
      let all : map blob_of (a ++ b) ≡ map blob_of a ++ map blob_of b = map-append blob_of a b in
      let records : (log.records ++ map blob_of a) ++ map blob_of b ≡ log.records ++ map blob_of (a ++ b) =
      append_assoc log.records (map blob_of a) (map blob_of b) ∙ ap (λ (rs : List Record). log.records ++ rs) (sym all) in
      let start : ℕ = next_start log in
      let places : (log.places ++ content_places start (map blob_of a)) ++ content_places (next_start (log_with log a)) (map blob_of b) ≡ log.places ++ content_places start (map blob_of (a ++ b)) =
      append_assoc log.places (content_places start (map blob_of a)) (content_places (next_start (log_with log a)) (map blob_of b))
      ∙ ap (λ (n : ℕ). log.places ++ (content_places start (map blob_of a) ++ content_places n (map blob_of b))) start-behind
      ∙ ap (λ (ps : List ℕ). log.places ++ ps) (sym (places_append start (map blob_of a) (map blob_of b)) ∙ ap (content_places start) (sym all)) in
      λ i. record log { records = records i; places = places i }

-- one appended and taken back
pub less-with : (log : Log) (e : Entry) → length log.places ≡ length log.records → without_last (log_with log (e ∷ [])) ≡ log
less-with log e as_many =
    let n : ℕ = length (log.records ++ blob_of e ∷ []) - 1 in
    let one : length log.records ≡ n = omega (arith, length-append log.records (blob_of e ∷ [])) in
    let records : take n (log.records ++ blob_of e ∷ []) ≡ log.records = take_at log.records (blob_of e ∷ []) n one in
    let spots : List ℕ = content_places (next_start log) (blob_of e ∷ []) in
    let places : take n (log.places ++ spots) ≡ log.places = take_at log.places spots n (as_many ∙ one) in
    λ i. record log { records = records i; places = places i }

-- one appended by the journal
pub appended : (log new : Log) (r : Record) (at : ℕ) (e : Entry) → new ≡ with_record log r at → at ≡ next_place log r → r ≡ blob_of e → new ≡ log_with log (e ∷ [])
appended log new r at e grown place is = grown ∙ ap (with_record log r) place ∙ ap (λ (b : Record). with_record log b (next_place log b)) is
