-- How many bytes a record has.
use Rattle.std.proofs.Common.{◌≡◌, ℕ, zero, suc, ◌+◌, ◌*◌, ◌<◌, ◌≤◌, Bool, true, List, [], ◌∷◌, ◌++◌, length, get_or, take, drop, None, Some, refl, sym, ◌∙◌, ap, subst, arith, length-append, take-append-drop}
use Rattle.std.specs.Int.{to_be_bytes, w16, w32, w64}
use Rattle.std.specs.List.{flat_map, list_all, AllByRecursion}
use Rattle.std.proofs.lemmas.Bool.{and_parts, and_from}
use Rattle.std.proofs.lemmas.List.{append-nil, take_more, length-take-le}
use Rattle.std.proofs.lemmas.List.Concat.{flat_map-append}
use Rattle.fsl_record.specs.declared.Config.{Config}
use Rattle.fsl_record.specs.declared.Record.{Record}
use Rattle.fsl_record.specs.declared.Record.TheVariants as record_of
use Rattle.fsl_record.specs.Receipts.{Brought, receipt_bytes}
use Rattle.fsl_record.specs.Records.{record_bytes, records_bytes, field_bytes, is_field, AreFields, IsFit}
use Rattle.fsl_record.proofs.FieldLists.{field_short}
use Rattle.fsl_journal.specs.Places.{content_place, content_places}
use Rattle.fsl_journal.proofs.Standing.{places_append}

bounded : (fields : List (List ℕ)) → list_all is_field fields ≡ true → length (flat_map field_bytes fields) ≤ 65 * length fields
bounded [] all = omega arith
bounded (f ∷ fields) all =
    let parts = and_parts (is_field f) (list_all is_field fields) all in
    omega (arith, field_short f parts.0, bounded fields parts.1, length-append (field_bytes f) (flat_map field_bytes fields))

front_all : (n : ℕ) (fields : List (List ℕ)) → list_all is_field fields ≡ true → list_all is_field (take n fields) ≡ true
front_all zero fields all = refl
front_all (suc n) [] all = refl
front_all (suc n) (f ∷ fields) all =
    let parts = and_parts (is_field f) (list_all is_field fields) all in
    and_from (is_field f) (list_all is_field (take n fields)) parts.0 (front_all n fields parts.1)

-- one field more
pub field_step : (fields : List (List ℕ)) (k : ℕ) (field : List ℕ) → k < length fields → field ≡ get_or fields k field → length (flat_map field_bytes (take (k + 1) fields)) ≡ length (flat_map field_bytes (take k fields)) + (1 + length field)
field_step fields k field below is =
    let grown : take (k + 1) fields ≡ take k fields ++ field ∷ [] = take_more fields k field below ∙ ap (λ (f : List ℕ). take k fields ++ f ∷ []) (sym is) in
    omega (
      arith,
      ap (λ (l : List (List ℕ)). length (flat_map field_bytes l)) grown,
      ap length (flat_map-append field_bytes (take k fields) (field ∷ [])),
      ap length (append-nil (field_bytes field)),
      length-append (flat_map field_bytes (take k fields)) (flat_map field_bytes (field ∷ [])),
    )

pub fields_small : (fields : List (List ℕ)) (n : ℕ) → AreFields fields → n ≤ length fields → length (flat_map field_bytes (take n fields)) ≤ 16640
fields_small fields n fit within = omega (arith, bounded (take n fields) (front_all n fields fit.formed), length-take-le n fields within, within, fit.few)

pub config_length : (c : Config) → IsFit (record_of.Config c) → length (record_bytes (record_of.Config c)) ≡ 43 + length (flat_map field_bytes c.fields)
config_length c fit =
    omega (
      arith,
      fit.0.0,
      fit.0.1,
      length-append ((c.project ++ c.server) ++ to_be_bytes w16 (length c.fields)) (flat_map field_bytes c.fields),
      length-append (c.project ++ c.server) (to_be_bytes w16 (length c.fields)),
      length-append c.project c.server,
    )

pub blob_length : (p : Bool) (n b : List ℕ) → length n ≡ 20 → length (record_bytes (record_of.Blob p n None b)) ≡ 30 + length b
blob_length p n b long = omega (arith, long, length-append (n ++ to_be_bytes w64 (length b)) b, length-append n (to_be_bytes w64 (length b)))

pub brought_length : (p : Bool) (n : List ℕ) (r : Brought) (b : List ℕ) → length n ≡ 20 → length (record_bytes (record_of.Blob p n (Some r) b)) ≡ 42 + length r.login + length b
brought_length p n r b long =
    omega (
      arith,
      long,
      length-append ((n ++ receipt_bytes r) ++ to_be_bytes w64 (length b)) b,
      length-append (n ++ receipt_bytes r) (to_be_bytes w64 (length b)),
      length-append n (receipt_bytes r),
      length-append (to_be_bytes w64 r.moment ++ to_be_bytes w32 (length r.login)) r.login,
    )

-- ---- records, one after another

grown : (records : List Record) (k : ℕ) (r : Record) → k < length records → r ≡ get_or records k r → take (k + 1) records ≡ take k records ++ r ∷ []
grown records k r below is = take_more records k r below ∙ ap (λ (x : Record). take k records ++ x ∷ []) (sym is)

pub bytes_step : (records : List Record) (k : ℕ) (r : Record) → k < length records → r ≡ get_or records k r → length (records_bytes (take (k + 1) records)) ≡ length (records_bytes (take k records)) + length (record_bytes r)
bytes_step records k r below is =
    omega (
      arith,
      ap (λ (l : List Record). length (records_bytes l)) (grown records k r below is),
      ap length (flat_map-append record_bytes (take k records) (r ∷ [])),
      ap length (append-nil (record_bytes r)),
      length-append (records_bytes (take k records)) (records_bytes (r ∷ [])),
    )

pub bytes_front : (records : List Record) (n : ℕ) → length (records_bytes (take n records)) ≤ length (records_bytes records)
bytes_front records n =
    let whole : records_bytes records ≡ records_bytes (take n records) ++ records_bytes (drop n records) =
    ap records_bytes (sym (take-append-drop n records)) ∙ flat_map-append record_bytes (take n records) (drop n records) in
    omega (arith, ap length whole, length-append (records_bytes (take n records)) (records_bytes (drop n records)))

pub places_step : (start : ℕ) (records : List Record) (k : ℕ) (r : Record) → k < length records → r ≡ get_or records k r
    → content_places start (take (k + 1) records) ≡ content_places start (take k records) ++ content_place (start + length (records_bytes (take k records))) r ∷ []
places_step start records k r below is = ap (content_places start) (grown records k r below is) ∙ places_append start (take k records) (r ∷ [])

pub fit_at : (P : Record → Type 0) (records : List Record) (k : ℕ) (r : Record) → AllByRecursion P records → k < length records → r ≡ get_or records k r → P r
fit_at P [] k r all below is = absurd (omega (arith, below))
fit_at P (x ∷ records) zero r all below is = subst P (sym is) all.0
fit_at P (x ∷ records) (suc k) r all below is = fit_at P records k r all.1 (omega (arith, below)) is
