-- The bytes of the records that aren't committed.
use Rattle.std.proofs.Common.{◌≡◌, ◌⊎◌, inl, inr, Option, Some, None, IsSome, Bool, true, false, not, ◌||◌, ℕ, zero, suc, ◌+◌, ◌<◌, ◌≤◌, ◌==◌, ◌^◌, refl, List, [], ◌∷◌, length, get_or, take, take-append-drop, drop, sym, ◌∙◌, ap, subst, arith, length-drop}
use Rattle.std.specs.Bool.{if◌then◌else◌}
use Rattle.std.proofs.lemmas.Bool.Decides.{nat_tests}
use Rattle.std.proofs.lemmas.List.{length-map, take_all, take_at, drop-take, get_or-take, take-take}
use Rattle.std.proofs.lemmas.List.Concat.{flat_map-append}
use Rattle.fsl_record.specs.declared.Record.{Record}
use Rattle.fsl_record.specs.Records.{record_bytes, records_bytes, AreRecords}
use Rattle.fsl_journal.specs.declared.journal.Journal.TheInside.{Inside}
use Rattle.fsl_journal.specs.File.{IsGroup}
use Rattle.fsl_journal.specs.Inside.{records_of, places_of, log_of, IsSound}
use Rattle.fsl_journal.specs.Places.{content_places, HasContent}
use Rattle.fsl_journal.specs.Journal.{mark_after, place_after}
use Rattle.fsl_journal.specs.File.{mark_1, mark_2}
use Rattle.fsl_journal.proofs.Versions.{carried_mark}
use Rattle.fsl_journal.specs.Log.{Log}
use Rattle.fsl_journal.proofs.Belonging.{rest_of}
use Rattle.fsl_journal.proofs.Standing.{has_same, has_split, contents_within, contents_behind, places_take}
use Rattle.fsl_journal.proofs.Records.{are_left}

module _ (j : Inside) (sound : IsSound j) where
  pub records_count : length (records_of j) ≡ length j.records.items
  records_count = length-map j.records.items (λ s. s.value)

  pub places_count : length (places_of j) ≡ length (records_of j)
  places_count = length-map j.places.items (λ s. s.value) ∙ sound.as_many ∙ sym records_count

  -- the group of a commit
  pub pending_group : length j.pending < 2 ^ 64 → (j.stable ≡ length (records_of j) → ⊥) → IsGroup (rest_of (log_of j))
  pending_group fits other = (
    λ none. other (omega (arith, ap length none, length-drop j.stable (records_of j), records_count, sound.stable)),
    subst (λ (l : List ℕ). length l < 2 ^ 64) sound.pending fits,
  )

-- a front of the records is of a repository
pub are_front : (rs : List Record) (n : ℕ) → 0 < n → 0 < length rs → AreRecords rs → AreRecords (take n rs)
are_front rs n some any are = are_left (take n rs) (drop n rs) (λ none. not_empty n rs some any none) (subst AreRecords (sym (take-append-drop n rs)) are)
  where
    not_empty : (k : ℕ) (l : List Record) → 0 < k → 0 < length l → take k l ≡ [] → ⊥
    not_empty zero l below _ _ = absurd (omega (arith, below))
    not_empty (suc k) [] _ below _ = absurd (omega (arith, below))
    not_empty (suc k) (x ∷ xs) _ _ none = cc

-- without the last record
module _ (records : List Record) (stable count n : ℕ) (size : length records ≡ n + 1) (counts : count + 1 + stable ≡ length records) where
  rest_taken : drop stable (take n records) ≡ take count (drop stable records)
  rest_taken =
      let same : n ≡ stable + count = omega (arith, size, counts) in
      ap (λ (k : ℕ). drop stable (take k records)) same ∙ drop-take stable count records

  pub pending_taken : (pending : List ℕ) (start : ℕ) → pending ≡ records_bytes (drop stable records) → start ≡ length (records_bytes (take count (drop stable records)))
      → take start pending ≡ records_bytes (drop stable (take n records))
  pending_taken pending start is starts =
      let rest = drop stable records in
      let long = length (records_bytes (take count rest)) in
      ap (λ (k : ℕ). take k pending) starts
      ∙ ap (λ (l : List ℕ). take long l) (is ∙ ap records_bytes (sym (take-append-drop count rest)) ∙ flat_map-append record_bytes (take count rest) (drop count rest))
      ∙ take_at (records_bytes (take count rest)) (records_bytes (drop count rest)) long (omega arith)
      ∙ ap records_bytes (sym rest_taken)

  pub starts_taken : (starts : List ℕ) → ((k : ℕ) → k < count + 1 → get_or starts k 0 ≡ length (records_bytes (take k (drop stable records))))
      → (k : ℕ) → k < count → get_or (take count starts) k 0 ≡ length (records_bytes (take k (drop stable (take n records))))
  starts_taken starts each k below =
      get_or-take count starts k 0 below
      ∙ each k (omega (arith, below))
      ∙ ap (λ (l : List Record). length (records_bytes l)) (sym (take-take k count (drop stable records) (omega (arith, below))) ∙ ap (λ (l : List Record). take k l) (sym rest_taken))

-- their places, without the last one
pub behind_taken : (records : List Record) (places : List ℕ) (stable count n start : ℕ) → n ≡ stable + count → drop stable places ≡ content_places start (drop stable records) → drop stable (take n places) ≡ content_places start (drop stable (take n records))
behind_taken records places stable count n start size behind =
    ap (λ (k : ℕ). drop stable (take k places)) size
    ∙ drop-take stable count places
    ∙ ap (λ (l : List ℕ). take count l) behind
    ∙ places_take count start (drop stable records)
    ∙ ap (content_places start) (sym (drop-take stable count records))
    ∙ ap (λ (k : ℕ). content_places start (drop stable (take k records))) (sym size)

-- after a commit each content stands before the new closed gate
pub committed_inside : (j : Inside) → IsSound j → (count place : ℕ) → count ≡ length (records_of j) → place ≡ j.place + 9 + length (records_bytes (drop j.stable (records_of j))) → (at : ℕ) (content : List ℕ)
    → HasContent (take count (records_of j)) (take count (places_of j)) at content → (at + length content ≤ place) × (15 ≤ at)
committed_inside j sound count place all place_is at content has =
    elim (has_split j.stable (records_of j) (places_of j) at content (places_count j sound) (omega (arith, sound.stable, records_count j sound))
    (has_same (take count (records_of j)) (records_of j) (take count (places_of j)) (places_of j) at content (take_all count (records_of j) (omega (arith, all))) (take_all count (places_of j) (omega (arith, all, places_count j sound))) has)) [
      | inl front ↦ let within = sound.inside at content front in (omega (arith, within.0, place_is), within.1)
      | inr behind ↦
          let rest = drop j.stable (records_of j) in
          let there = subst (λ (ps : List ℕ). HasContent (drop j.stable (records_of j)) ps at content) sound.behind behind in
          let within = contents_within (drop j.stable (records_of j)) (j.place + 9) at content there in
          let after = contents_behind (drop j.stable (records_of j)) (j.place + 9) at content there in
          (omega (arith, within, place_is), omega (arith, after, sound.header))
    ]

-- the mark after a commit that has nothing to write, and after another
pub idle_mark : (log : Log) → log.stable ≡ length log.records → mark_after log ≡ log.mark
idle_mark log all = ap (λ (n : ℕ). if (n == length log.records) || not (log.mark == mark_1) then log.mark else mark_2) all ∙ same (length log.records == length log.records) (grind (arith, nat_tests))
  where
    same : (t : Bool) → t ≡ true → (if t || not (log.mark == mark_1) then log.mark else mark_2) ≡ log.mark
    same true e = refl
    same false e = absurd (cc)

pub busy_mark : (log : Log) → (log.stable ≡ length log.records → ⊥) → mark_after log ≡ carried_mark log.mark
busy_mark log other = by (log.stable == length log.records) refl (log.mark == mark_1)
  where
    by : (t : Bool) → (log.stable == length log.records) ≡ t → (u : Bool) → (if t || not u then log.mark else mark_2) ≡ (if u then mark_2 else log.mark)
    by true e u = absurd (other (grind (arith, nat_tests, e)))
    by false e true = refl
    by false e false = refl

-- the place of the closed gate after a commit that has nothing to write, and after another
pub idle_place : (log : Log) → log.stable ≡ length log.records → place_after log ≡ log.place
idle_place log all = ap (λ (n : ℕ). if n == length log.records then log.place else log.place + 9 + length (records_bytes (rest_of log))) all ∙ same (length log.records == length log.records) (grind (arith, nat_tests))
  where
    same : (t : Bool) → t ≡ true → (if t then log.place else log.place + 9 + length (records_bytes (rest_of log))) ≡ log.place
    same true e = refl
    same false e = absurd (cc)

pub busy_place : (j : Inside) (log : Log) (place : ℕ) → log_of j ≡ log → (log.stable ≡ length log.records → ⊥) → place ≡ j.place + 9 + length (records_bytes (drop j.stable (records_of j))) → place ≡ place_after log
busy_place j log place view_is other is = is ∙ ap (λ (l : Log). l.place + 9 + length (records_bytes (rest_of l))) view_is ∙ sym (by (log.stable == length log.records) refl)
  where
    by : (t : Bool) → (log.stable == length log.records) ≡ t → (if t then log.place else log.place + 9 + length (records_bytes (rest_of log))) ≡ log.place + 9 + length (records_bytes (rest_of log))
    by true e = absurd (other (grind (arith, nat_tests, e)))
    by false e = refl

pub not_all : (j : Inside) (log : Log) (count : ℕ) → log_of j ≡ log → count ≡ length log.records → (j.stable ≡ count → ⊥) → j.stable ≡ length (records_of j) → ⊥
not_all j log count view_is counts other same = other (same ∙ ap (λ (l : Log). length l.records) view_is ∙ sym counts)

-- a commit with something to write isn't idle
pub not_idle : (X A : Type 0) (stopped : Option ℕ) → stopped ≡ None → (A → ⊥) → IsSome stopped ⊎ A → X
not_idle X A None runs other (inl some) = absurd (cc)
not_idle X A None runs other (inr all) = absurd (other all)
not_idle X A (Some faults) runs other idle = absurd (cc)

pub stopped_log : (inside old : Log) (faults now : ℕ) → inside ≡ old → faults ≡ now → record inside { stopped = Some faults } ≡ record old { stopped = Some now }
stopped_log inside old faults now is same = λ i. record (is i) { stopped = Some (same i) }
