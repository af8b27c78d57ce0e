-- What a journal holds inside that was just loaded, or to which a record was appended, or wasn't for want of memory.
use Rattle.std.proofs.Common.{◌≡◌, ◌⊎◌, inl, inr, ℕ, zero, suc, refl, ◌+◌, ◌<◌, ◌≤◌, ◌^◌, Bool, true, false, not, ◌&&◌, List, [], ◌∷◌, ◌++◌, length, map, get_or, take, drop, sym, ◌∙◌, ap, subst, arith, length-append, length-drop}
use Rattle.std.specs.Bool.{if◌then◌else◌}
use Rattle.std.proofs.lemmas.Bool.{cases_eq}
use Rattle.std.proofs.lemmas.List.{append-nil, drop_all, take_all, drop-append-le, get_or_append_left, get_or_at, length-map, map-append, take_at, take-append-le, take_more}
use Rattle.std.proofs.lemmas.List.Concat.{flat_map-append}
use Rattle.fsl_record.specs.declared.Record.{Record}
use Rattle.fsl_record.specs.Records.{is_config, record_bytes, records_bytes, IsFit, AreRecords}
use Rattle.fsl_journal.specs.declared.journal.Journal.TheInside.{Inside}
use Rattle.fsl_journal.specs.Inside.{records_of, places_of, IsSound}
use Rattle.fsl_journal.specs.Log.{Log}
use Rattle.fsl_journal.specs.Places.{content_place, content_places, HasContent}
use Rattle.fsl_journal.proofs.Standing.{has_same, places_append}
use Rattle.fsl_journal.proofs.Pending.{records_count}
use Rattle.fsl_journal.proofs.Records.{are_more, are_some}

below_or_last : (n m : ℕ) → n < m + 1 → (n < m) ⊎ (n ≡ m)
below_or_last n m below = elim (cases_eq n m) [
  | inl last ↦ inr last
  | inr other ↦ inl (omega (arith, below, other))
]

-- a number of a list, whatever stands for one that isn't there
pub get_or_any : (l : List ℕ) (k a b : ℕ) → k < length l → get_or l k a ≡ get_or l k b
get_or_any [] k a b below = absurd (omega (arith, below))
get_or_any (x ∷ l) zero a b below = refl
get_or_any (x ∷ l) (suc k) a b below = get_or_any l k a b (omega (arith, below))

-- what a push left that succeeded
pub pushed : {X : Type 0} (ok : Bool) (new more same : X) → ok ≡ true → new ≡ (if ok then more else same) → new ≡ more
pushed ok new more same is left = left ∙ ap (λ b. if b then more else same) is

module _ {S R : Type 0} (value : S → R) (items grown : List S) (s : S) (r : R) (more : grown ≡ items ++ s ∷ []) (is : value s ≡ r) where
  pub map_push : map value grown ≡ map value items ++ r ∷ []
  map_push = ap (map value) more ∙ map-append value items (s ∷ []) ∙ ap (λ x. map value items ++ x ∷ []) is

  -- one more of those that were loaded
  pub taken_on : (loaded : List R) (k : ℕ) → k < length loaded → r ≡ get_or loaded k r → map value items ≡ take k loaded → map value grown ≡ take (k + 1) loaded
  taken_on loaded k below read before =
      map_push ∙ ap (λ l. l ++ r ∷ []) before ∙ ap (λ x. take k loaded ++ x ∷ []) read ∙ sym (take_more loaded k r below)

pub sound_fresh : (k : Inside) (loaded : List Record) (places : List ℕ) → records_of k ≡ loaded → places_of k ≡ places → k.pending ≡ [] → k.starts.items ≡ [] → k.stable ≡ length loaded → AreRecords loaded → k.place < 2 ^ 63 → 15 ≤ k.place
    → length places ≡ length loaded → ((at : ℕ) (content : List ℕ) → HasContent loaded places at content → (at + length content ≤ k.place) × (15 ≤ at)) → IsSound k
sound_fresh k loaded places records places_are pending starts stable fit place header as_many inside =
    let size : length k.records.items ≡ length loaded = sym (length-map k.records.items (λ s. s.value)) ∙ ap length records in
    let spots : length k.places.items ≡ length places = sym (length-map k.places.items (λ s. s.value)) ∙ ap length places_are in
    let no_records : drop k.stable (records_of k) ≡ [] = drop_all k.stable (records_of k) (omega (arith, stable, ap length records)) in
    let no_places : drop k.stable (places_of k) ≡ [] = drop_all k.stable (places_of k) (omega (arith, stable, ap length places_are, as_many)) in record {
      fit = subst AreRecords (sym records) fit;
      some = omega (arith, stable, are_some loaded fit);
      stable = omega (arith, stable, size);
      pending = pending ∙ sym (ap records_bytes no_records);
      starts = omega (arith, ap length starts, stable, size);
      each_start = λ n below. absurd (omega (arith, below, ap length starts));
      place = place;
      header = header;
      as_many = omega (arith, spots, as_many, size);
      inside = λ at content has.
          inside at content
          (has_same (take k.stable (records_of k)) loaded (take k.stable (places_of k)) places at content
          (take_all k.stable (records_of k) (omega (arith, stable, ap length records)) ∙ records) (take_all k.stable (places_of k) (omega (arith, stable, ap length places_are, as_many)) ∙ places_are) has);
      behind = no_places ∙ sym (ap (content_places (k.place + 9)) no_records);
    }

-- the view of what has the same other parts
pub log_with : (inside old : Log) (rs all : List Record) (ps spots : List ℕ) → inside ≡ old → rs ≡ all → ps ≡ spots → record inside { records = rs; places = ps } ≡ record old { records = all; places = spots }
log_with inside old rs all ps spots view is at = λ i. record (view i) { records = is i; places = at i }

module _ (j k : Inside) (sound : IsSound j) (stable : k.stable ≡ j.stable) (place : k.place ≡ j.place) where
  pub sound_same : records_of k ≡ records_of j → places_of k ≡ places_of j → k.pending ≡ j.pending → k.starts.items ≡ j.starts.items → IsSound k
  sound_same records places pending starts =
      let size : length k.records.items ≡ length j.records.items = sym (length-map k.records.items (λ s. s.value)) ∙ ap length records ∙ records_count j sound in
      let spots : length k.places.items ≡ length j.places.items = sym (length-map k.places.items (λ s. s.value)) ∙ ap length places ∙ length-map j.places.items (λ s. s.value) in
      let rest : drop j.stable (records_of j) ≡ drop k.stable (records_of k) = sym (ap (λ n. drop n (records_of k)) stable ∙ ap (drop j.stable) records) in record {
        fit = subst AreRecords (sym records) sound.fit;
        some = omega (arith, stable, sound.some);
        stable = omega (arith, size, stable, sound.stable);
        pending = pending ∙ sound.pending ∙ ap records_bytes rest;
        starts = omega (arith, size, ap length starts, stable, sound.starts);
        each_start = λ n below.
            ap (λ (l : List ℕ). get_or l n 0) starts
            ∙ sound.each_start n (omega (arith, below, ap length starts))
            ∙ ap (λ (l : List Record). length (records_bytes (take n l))) rest;
        place = subst (λ n. n < 2 ^ 63) (sym place) sound.place;
        header = omega (arith, place, sound.header);
        as_many = omega (arith, size, spots, sound.as_many);
        inside = λ at content has.
            subst (λ (n : ℕ). (at + length content ≤ n) × (15 ≤ at)) (sym place) (sound.inside at content
            (has_same (take k.stable (records_of k)) (take j.stable (records_of j)) (take k.stable (places_of k)) (take j.stable (places_of j)) at content
            (λ i. take (stable i) (records i)) (λ i. take (stable i) (places i)) has));
        behind = (λ i. drop (stable i) (places i)) ∙ sound.behind ∙ (λ i. content_places (sym place i + 9) (rest i));
      }

  module _ (entry : Record) (start at : ℕ) (records : records_of k ≡ records_of j ++ entry ∷ []) (places : places_of k ≡ places_of j ++ at ∷ []) (at_is : at ≡ content_place (j.place + 9 + length j.pending) entry) (pending : k.pending ≡ j.pending ++ record_bytes entry) (starts : k.starts.items ≡ j.starts.items ++ start ∷ []) (start_is : start ≡ length j.pending) where
    abbrev rest : List Record
    rest = drop j.stable (records_of j)

    rest_size : length rest ≡ length j.starts.items
    rest_size = omega (arith, length-drop j.stable (records_of j), records_count j sound, sound.starts)

    rest_grown : drop k.stable (records_of k) ≡ rest ++ entry ∷ []
    rest_grown =
        ap (λ n. drop n (records_of k)) stable
        ∙ ap (drop j.stable) records
        ∙ drop-append-le j.stable (records_of j) (entry ∷ []) (omega (arith, records_count j sound, sound.stable))

    each_of : (n : ℕ) → n < length j.starts.items + 1 → get_or k.starts.items n 0 ≡ length (records_bytes (take n (rest ++ entry ∷ [])))
    each_of n below = elim (below_or_last n (length j.starts.items) below) [
      | inl inside ↦
          ap (λ (l : List ℕ). get_or l n 0) starts
          ∙ get_or_append_left j.starts.items (start ∷ []) 0 n inside
          ∙ sound.each_start n inside
          ∙ ap (λ (l : List Record). length (records_bytes l)) (sym (take-append-le n rest (entry ∷ []) (omega (arith, inside, rest_size))))
      | inr last ↦
          ap (λ (l : List ℕ). get_or l n 0) starts
          ∙ get_or_at j.starts.items start [] 0 n (sym last)
          ∙ start_is
          ∙ ap length sound.pending
          ∙ ap (λ (l : List Record). length (records_bytes l)) (sym (take_at rest (entry ∷ []) n (rest_size ∙ sym last)))
    ]

    pub sound_appended : is_config entry ≡ false → IsFit entry → IsSound k
    sound_appended other fit =
        let size : length k.records.items ≡ length j.records.items + 1 =
        omega (arith, length-map k.records.items (λ s. s.value), ap length records, length-append (records_of j) (entry ∷ []), records_count j sound) in
        let spots_are : length (places_of j) ≡ length j.places.items = length-map j.places.items (λ s. s.value) in
        let spots : length k.places.items ≡ length j.places.items + 1 =
        omega (arith, length-map k.places.items (λ s. s.value), ap length places, length-append (places_of j) (at ∷ []), spots_are) in
        let at_there : at ≡ content_place (j.place + 9 + length (records_bytes rest)) entry = at_is ∙ ap (λ (l : List ℕ). content_place (j.place + 9 + length l) entry) sound.pending in
        let grown : length k.starts.items ≡ length j.starts.items + 1 = omega (arith, ap length starts, length-append j.starts.items (start ∷ [])) in record {
          fit = subst AreRecords (sym records) (are_more (records_of j) (entry ∷ []) sound.fit (ap (λ b. not b && true) other) (fit, tt));
          some = omega (arith, stable, sound.some);
          stable = omega (arith, size, stable, sound.stable);
          pending =
              pending
              ∙ ap (λ (l : List ℕ). l ++ record_bytes entry) sound.pending
              ∙ ap (λ (l : List ℕ). records_bytes rest ++ l) (sym (append-nil (record_bytes entry)))
              ∙ sym (flat_map-append record_bytes rest (entry ∷ []))
              ∙ ap records_bytes (sym rest_grown);
          starts = omega (arith, size, grown, stable, sound.starts);
          each_start = λ n below. each_of n (omega (arith, below, grown)) ∙ ap (λ (l : List Record). length (records_bytes (take n l))) (sym rest_grown);
          place = subst (λ n. n < 2 ^ 63) (sym place) sound.place;
          header = omega (arith, place, sound.header);
          as_many = omega (arith, size, spots, sound.as_many);
          inside = λ spot content has.
              subst (λ (n : ℕ). (spot + length content ≤ n) × (15 ≤ spot)) (sym place) (sound.inside spot content
              (has_same (take k.stable (records_of k)) (take j.stable (records_of j)) (take k.stable (places_of k)) (take j.stable (places_of j)) spot content
              ((λ i. take (stable i) (records i)) ∙ take-append-le j.stable (records_of j) (entry ∷ []) (omega (arith, records_count j sound, sound.stable)))
              ((λ i. take (stable i) (places i)) ∙ take-append-le j.stable (places_of j) (at ∷ []) (omega (arith, sound.as_many, spots_are, sound.stable))) has));
          behind =
              (λ i. drop (stable i) (places i))
              ∙ drop-append-le j.stable (places_of j) (at ∷ []) (omega (arith, sound.as_many, spots_are, sound.stable))
              ∙ (λ i. sound.behind i ++ at_there i ∷ [])
              ∙ sym (places_append (j.place + 9) rest (entry ∷ []))
              ∙ (λ i. content_places (sym place i + 9) (sym rest_grown i));
        }
