-- A group's records, one after another.
use Rattle.std.proofs.Common.{◌≡◌, ◌≢◌, ℕ, Bool, true, false, List, [], ◌∷◌, ◌++◌, refl, sym, ◌∙◌, ap, subst, append_assoc, inl, inr}
use Rattle.std.specs.Prelude.{◌&&◌, not, ◌⊎◌}
use Rattle.std.specs.List.{list_all, AllByRecursion}
use Rattle.std.proofs.lemmas.Bool.{and_from}
use Rattle.std.proofs.lemmas.List.Concat.{flat_map-append}
use Rattle.std.proofs.lemmas.List.Folds.{list_all-append}
use Rattle.std.proofs.lemmas.List.{append-nil}
use Rattle.fsl_order.proofs.Booleans.{and_true, and_false}
use Rattle.fsl_text.specs.Bytes.{is_empty}
use Rattle.fsl_record.specs.declared.Record.{Record}
use Rattle.fsl_record.specs.declared.RecordFault.{RecordFault}
use Rattle.fsl_record.specs.declared.RecordFault.TheVariants as record_fault
use Rattle.fsl_record.specs.Records.{record_bytes, records_bytes, is_config, IsFit, IsOfVersion}
use Rattle.fsl_record.specs.Groups.{StandInGroup, IsGroupOf, FailsFirst, IsGroupFault}
use Rattle.fsl_record.specs.Reading.{IsRead, Fails}

-- records were read at the front of a group
pub record IsGroupRead (v : ℕ) (first : Bool) (bytes : List ℕ) (records : List Record) (rest : List ℕ) : Type 0 where
  pub some : records ≢ []
  pub layout : bytes ≡ records_bytes records ++ rest
  pub stand : StandInGroup first records
  pub fit : AllByRecursion IsFit records
  pub known : AllByRecursion (IsOfVersion v) records

pub read_one : (v : ℕ) (first : Bool) (bytes : List ℕ) (r : Record) (rest : List ℕ) → IsRead v first bytes r rest → IsGroupRead v first bytes (r ∷ []) rest
read_one v first bytes r rest read = record {
  some = λ none. absurd cc;
  layout = read.layout ∙ ap (λ (l : List ℕ). l ++ rest) (sym (append-nil (record_bytes r)));
  stand = (read.kind, refl);
  fit = (read.fit, tt);
  known = (read.known, tt);
}

not_config : (r : Record) → is_config r ≡ false → (not (is_config r) && true) ≡ true
not_config r is = ap (λ (b : Bool). not b && true) is

stand_more : (first : Bool) (records : List Record) (r : Record) → records ≢ [] → StandInGroup first records → is_config r ≡ false → StandInGroup first (records ++ r ∷ [])
stand_more first [] r some stand is = absurd (some refl)
stand_more first (x ∷ records) r some stand is =
    let none = λ (y : Record). not (is_config y) in
    (stand.0, list_all-append none records (r ∷ []) ∙ and_from (list_all none records) (not (is_config r) && true) stand.1 (not_config r is))

fit_more : (records : List Record) (r : Record) → AllByRecursion IsFit records → IsFit r → AllByRecursion IsFit (records ++ r ∷ [])
fit_more [] r all fit = (fit, tt)
fit_more (x ∷ records) r all fit = (all.0, fit_more records r all.1 fit)

known_more : (v : ℕ) (records : List Record) (r : Record) → AllByRecursion (IsOfVersion v) records → IsOfVersion v r → AllByRecursion (IsOfVersion v) (records ++ r ∷ [])
known_more v [] r all known = (known, tt)
known_more v (x ∷ records) r all known = (all.0, known_more v records r all.1 known)

some_more : (records : List Record) (r : Record) → records ++ r ∷ [] ≢ []
some_more [] r none = absurd cc
some_more (x ∷ records) r none = absurd cc

pub read_more : (v : ℕ) (first : Bool) (bytes rest more : List ℕ) (records : List Record) (r : Record) → IsGroupRead v first bytes records rest → IsRead v false rest r more → IsGroupRead v first bytes (records ++ r ∷ []) more
read_more v first bytes rest more records r before read = record {
  some = some_more records r;
  layout = before.layout ∙ ap (λ (l : List ℕ). records_bytes records ++ l) read.layout ∙ sym (append_assoc (records_bytes records) (record_bytes r) more)
      ∙ ap (λ (l : List ℕ). l ++ more) (ap (λ (l : List ℕ). records_bytes records ++ l) (sym (append-nil (record_bytes r))) ∙ sym (flat_map-append record_bytes records (r ∷ [])));
  stand = stand_more first records r before.some before.stand read.kind;
  fit = fit_more records r before.fit read.fit;
  known = known_more v records r before.known read.known;
}

pub read_all : (v : ℕ) (first : Bool) (bytes rest : List ℕ) (records : List Record) → IsGroupRead v first bytes records rest → rest ≡ [] → IsGroupOf v first bytes records
read_all v first bytes rest records read done = record {
  some = read.some;
  layout = read.layout ∙ ap (λ (l : List ℕ). records_bytes records ++ l) done ∙ append-nil (records_bytes records);
  stand = read.stand;
  fit = read.fit;
  known = read.known;
}

-- ---- faults

abbrev pub FailsSo : ℕ → Bool → List ℕ → RecordFault → Type 0
FailsSo v first bytes fault = (fault ≡ record_fault.Memory) ⊎ IsGroupFault v first bytes fault

cause : (v : ℕ) (due : Bool) (bytes : List ℕ) (fault : RecordFault) → Fails v due bytes fault → (fault ≡ record_fault.Memory) ⊎ FailsFirst v due bytes fault
cause v due bytes record_fault.Memory fails = inl refl
cause v due bytes record_fault.Short fails = inr fails
cause v due bytes (record_fault.Kind found) fails = inr fails
cause v due bytes (record_fault.Length found) fails = inr fails
cause v due bytes (record_fault.NameWrong kept found) fails = inr fails

pub first_fails : (v : ℕ) (first : Bool) (bytes : List ℕ) (fault : RecordFault) → Fails v first bytes fault → FailsSo v first bytes fault
first_fails v first bytes fault fails =
    elim (cause v first bytes fault fails) [
      | inl memory ↦ inl memory
      | inr is ↦ inr (record {
        front = [];
        rest = bytes;
        layout = refl;
        stand = tt;
        fit = tt;
        known = tt;
        not_at_end = λ _. refl;
        fails = subst (λ (due : Bool). FailsFirst v due bytes fault) (sym (and_true first)) is;
      })
    ]

not_empty : (records : List Record) → records ≢ [] → is_empty records ≡ false
not_empty [] some = absurd (some refl)
not_empty (x ∷ records) some = refl

pub more_fails : (v : ℕ) (first : Bool) (bytes rest : List ℕ) (records : List Record) (fault : RecordFault) → IsGroupRead v first bytes records rest → rest ≢ [] → Fails v false rest fault → FailsSo v first bytes fault
more_fails v first bytes rest records fault read some fails =
    elim (cause v false rest fault fails) [
      | inl memory ↦ inl memory
      | inr is ↦ inr (record {
        front = records;
        rest = rest;
        layout = read.layout;
        stand = read.stand;
        fit = read.fit;
        known = read.known;
        not_at_end = λ none. absurd (some none);
        fails = subst (λ (due : Bool). FailsFirst v due rest fault) (sym (ap (λ (e : Bool). first && e) (not_empty records read.some) ∙ and_false first)) is;
      })
    ]
