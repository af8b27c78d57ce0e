-- A file that is read group by group.
use Rattle.std.proofs.Common.{◌≡◌, ◌≢◌, ◌⊎◌, inl, inr, Bool, true, false, ◌==◌, ℕ, ◌+◌, ◌-◌, ◌<◌, ◌≤◌, ◌^◌, zero, suc, Result, Ok, Err, Option, None, Some, List, [], ◌∷◌, ◌++◌, length, map, get_or, take, drop, refl, sym, ◌∙◌, ap, subst, arith, append_assoc, length-append, length-drop, take-append-drop}
use Rattle.std.specs.Prelude.{min, slice_index, IfSome, IfOk, IfErr, OnOk, ⊤}
use Rattle.std.proofs.Math.Seq.{take-append-add}
use Rattle.std.proofs.lemmas.List.{append-nil, drop_at, drop-drop, drop-take, take_more, take-take, length-map, length-take}
use Rattle.fsl_disk.specs.Disk.{DiskState, Told}
use Rattle.fsl_order.specs.Causes.{Rose}
use Rattle.fsl_record.specs.declared.Record.{Record}
use Rattle.fsl_record.specs.declared.RecordFault.{RecordFault}
use Rattle.fsl_record.specs.declared.RecordFault.TheVariants.{Memory as MemoryFault}
use Rattle.fsl_record.specs.Groups.{IsGroupFault}
use Rattle.fsl_record.specs.Records.{records_bytes}
use Rattle.fsl_journal.specs.Commit.{eight}
use Rattle.fsl_journal.specs.File.{header, version_of, AreRecordsOf, FailsAt}
use Rattle.fsl_journal.specs.Journal.{OfBytes}
use Rattle.fsl_journal.specs.Log.{IsLog}
use Rattle.fsl_journal.specs.Places.{ArePlaced, content_places}
use Rattle.fsl_journal.specs.Reading.{records_of, places_of, front, group_body, IsGate, IsCutOff, IsWindow, Covers, Holds, NoGroup, IsBody, BodyFailed, IsGroupMore, AreSoFar, IsNothing, IsFound, ReadFailed, GroupFailed, FileFailed}
use Rattle.fsl_journal.specs.declared.found.Found.{Found}
use Rattle.fsl_journal.specs.declared.window.Window.{Window}
use Rattle.fsl_journal.specs.declared.LoadFault.{LoadFault}
use Rattle.fsl_journal.specs.declared.LoadFault.TheVariants.{Disk, NotRepository, Memory}
use Rattle.fsl_journal.proofs.Appended.{map_push}
use Rattle.fsl_journal.proofs.Files.{length-eight}
use Rattle.fsl_journal.proofs.Gate.{some_same}
use Rattle.fsl_journal.proofs.Placing.{placed_none, placed_on, placed_front, numbered_on}
use Rattle.fsl_journal.proofs.Walking.{IsReadTo, read_on, read_stuck, first_shut, read_all_is, read_all_placed, too_short, too_long, not_read, group_there, group_on, none_is, some_is}

-- one record more was noted
pub noted_on : {S R : Type 0} (value : S → R) (items grown : List S) (s : S) (r : R) → grown ≡ items ++ s ∷ [] → value s ≡ r → (before group : List R) (k : ℕ) → k < length group → r ≡ get_or group k r → map value items ≡ before ++ take k group
    → map value grown ≡ before ++ take (k + 1) group
noted_on {S} {R} value items grown s r more is before group k below read so_far =
    map_push value items grown s r more is ∙ ap (λ (l : List R). l ++ r ∷ []) so_far ∙ append_assoc before (take k group) (r ∷ [])
    ∙ ap (λ (x : R). before ++ (take k group ++ x ∷ [])) read
    ∙ ap (λ (l : List R). before ++ l) (sym (take_more group k r below))

-- of contents that aren't told there are bytes too
pub of_told : (disk : DiskState) (P : List ℕ → Type 0) → Told disk P → (bytes : List ℕ) → P bytes → OfBytes disk P
of_told disk P told bytes some = by disk.contents (λ held is. told held is) refl
  where
    by : (o : Option (List ℕ)) → ((held : List ℕ) → disk.contents ≡ Some held → P held) → disk.contents ≡ o → OfBytes disk P
    by (Some held) all is = (held, (λ other there. some_same (sym is ∙ there)), all held is)
    by None all is = (bytes, (λ other there. absurd (not_some (sym is ∙ there))), some)
      where
        not_some : {held : List ℕ} → None ≡ Some held → ⊥
        not_some e = cc

pub ends_behind : (mark : ℕ) (groups : List (List Record)) (rest held : List ℕ) (place : ℕ) → held ≡ front mark groups ++ rest → place ≡ length (front mark groups) → drop place held ≡ rest
ends_behind mark groups rest held place split at = ap (λ (l : List ℕ). drop place l) split ∙ drop_at (front mark groups) rest place (sym at)

-- ---- before the first group

pub so_far_none : (found : Found) (len : ℕ) (disk : DiskState) → IsNothing found → 15 ≤ len → Told disk (λ held. (rest : List ℕ) × (held ≡ header found.mark ++ rest)) → AreSoFar [] len found disk
so_far_none found len disk is long begins = record {
  begins = begins;
  whole = tt;
  all = is.records;
  read = inl is.records;
  first = λ _. refl;
  some = λ other. absurd (other is.records);
  place = is.place;
  inside = omega (arith, is.place, long);
  placed = placed_none (records_of found) (places_of found) (header found.mark) is.records is.places;
  numbered = is.places;
}

-- ---- what stands behind the groups that were read

module _ (groups : List (List Record)) (len : ℕ) (found : Found) (disk : DiskState) (so_far : AreSoFar groups len found disk) where
  abbrev begun : List ℕ
  begun = front found.mark groups

  pub read_to : (rest : List ℕ) → (records_of found ≢ [] → 0 < length rest) → IsReadTo (front found.mark groups ++ rest) found.mark (records_of found) groups rest
  read_to rest some = record { split = refl; whole = so_far.whole; all = so_far.all; read = so_far.read; first = so_far.first; some = some }

  place_at : (rest : List ℕ) → found.place ≡ length (front found.mark groups ++ rest) - length rest
  place_at rest = omega (arith, so_far.place, length-append begun rest)

  -- one group more
  module _ (size : ℕ) (new : Found) (now : DiskState) (same : now.contents ≡ disk.contents) (more : IsGroupMore size found new now) (inside : found.place + 9 + size < len) where
    next_to : (rest : List ℕ) → 0 < length rest → IsReadTo (begun ++ (79 ∷ group_body more.group ++ rest)) found.mark (records_of new) (groups ++ more.group ∷ []) rest
    next_to rest some =
        read_on (begun ++ (79 ∷ group_body more.group ++ rest)) found.mark (79 ∷ group_body more.group ++ rest) (group_body more.group ++ rest) rest (records_of found) (records_of new) more.group groups
        (read_to (79 ∷ group_body more.group ++ rest) (λ _. omega arith)) refl more.is (subst (λ (m : ℕ). AreRecordsOf (version_of m) (records_of new)) more.mark more.read) more.records refl some

    abbrev closed : IsReadTo (begun ++ (79 ∷ group_body more.group ++ 67 ∷ [])) found.mark (records_of new) (groups ++ more.group ∷ []) (67 ∷ [])
    closed = next_to (67 ∷ []) (omega arith)

    next_place : new.place ≡ length (front found.mark (groups ++ more.group ∷ []))
    next_place =
        let n = length (records_bytes more.group) in
        let body : length (group_body more.group ++ 67 ∷ []) ≡ 8 + n + 1 =
        omega (arith, length-append (group_body more.group) (67 ∷ []), length-append (eight n) (records_bytes more.group), length-eight n) in
        omega (arith, more.place, more.long, so_far.place, body, ap length closed.split, length-append begun (79 ∷ group_body more.group ++ 67 ∷ []), length-append (front found.mark (groups ++ more.group ∷ [])) (67 ∷ []))

    begins_on : Told disk (λ held. (rest : List ℕ) × (held ≡ front found.mark (groups ++ more.group ∷ []) ++ rest))
    begins_on held told =
        let split = so_far.begins held told in
        let there = more.held held (same ∙ told) in
        let rest_is : split.0 ≡ 79 ∷ group_body more.group ++ there.0 = sym (ends_behind found.mark groups split.0 held found.place split.1 so_far.place) ∙ there.1 in
        (there.0, split.1 ∙ ap (λ (l : List ℕ). begun ++ l) rest_is ∙ (next_to there.0 there.2).split)

    pub so_far_on : AreSoFar (groups ++ more.group ∷ []) len new disk
    so_far_on = record {
      begins = subst (λ (m : ℕ). Told disk (λ held. (rest : List ℕ) × (held ≡ front m (groups ++ more.group ∷ []) ++ rest))) (sym more.mark) begins_on;
      whole = closed.whole;
      all = closed.all;
      read = inr more.read;
      first = closed.first;
      some = λ _. omega (arith, more.place, inside);
      place = subst (λ (m : ℕ). new.place ≡ length (front m (groups ++ more.group ∷ []))) (sym more.mark) next_place;
      inside = omega (arith, more.place, inside);
      placed =
          subst (λ (m : ℕ). ArePlaced (records_of new) (places_of new) (front m (groups ++ more.group ∷ []))) (sym more.mark)
          (placed_on (records_of found) (places_of found) (records_of new) (places_of new) found.mark groups more.group found.place so_far.place so_far.placed more.records more.places);
      numbered = numbered_on (places_of found) (places_of new) found.mark groups more.group found.place so_far.place so_far.numbered more.places;
    }

  -- all were read
  module _ (other : records_of found ≢ []) where
    found_in : (rest : List ℕ) → 0 < length rest → (0 < length rest → get_or rest 0 0 ≢ 79) → IsFound found (begun ++ rest)
    found_in rest some shut =
        let read = read_to rest (λ _. some) in record {
          log =
              subst (λ (n : ℕ). IsLog (records_of found) found.mark n (begun ++ rest)) (sym (place_at rest))
              (read_all_is (begun ++ rest) found.mark rest (records_of found) groups read other shut);
          placed = placed_front (records_of found) (places_of found) (begun ++ rest) begun rest found.place refl so_far.place so_far.placed;
          numbered = read_all_placed (begun ++ rest) found.mark rest (records_of found) groups read other shut (places_of found) so_far.numbered;
          inside = omega (arith, so_far.place, length-append begun rest, some);
        }

    pub all_found : Told disk (λ held. length held ≡ len) → Told disk (λ held. IsGate None (drop found.place held)) → OfBytes disk (IsFound found)
    all_found long shut = of_told disk (IsFound found) told (begun ++ 67 ∷ []) (found_in (67 ∷ []) (omega arith) (λ _ e. omega (arith, e)))
      where
        told : Told disk (IsFound found)
        told held there =
            let split = so_far.begins held there in
            let some : 0 < length split.0 = omega (arith, so_far.some other, so_far.place, long held there, ap length split.1, length-append begun split.0) in
            subst (IsFound found) (sym split.1)
            (found_in split.0 some (subst (IsGate None) (ends_behind found.mark groups split.0 held found.place split.1 so_far.place) (shut held there)))

  -- there is none
  pub none_found : records_of found ≡ [] → Told disk (λ held. IsGate None (drop found.place held)) → OfBytes disk (λ bytes. FailsAt bytes 15)
  none_found none shut = of_told disk (λ bytes. FailsAt bytes 15) told (begun ++ []) (first_shut (begun ++ []) found.mark [] (records_of found) groups (read_to [] (λ other. absurd (other none))) none (λ some. absurd (omega (arith, some))))
    where
      told : Told disk (λ held. FailsAt held 15)
      told held there =
          let split = so_far.begins held there in
          subst (λ (l : List ℕ). FailsAt l 15) (sym split.1)
          (first_shut (begun ++ split.0) found.mark split.0 (records_of found) groups (read_to split.0 (λ other. absurd (other none))) none
          (subst (IsGate None) (ends_behind found.mark groups split.0 held found.place split.1 so_far.place) (shut held there)))

  -- the next one doesn't read
  module _ (at : ℕ) (is : at ≡ found.place) where
    stuck_in : (behind : List ℕ) → NoGroup (version_of found.mark) found.place (records_of found) behind found.place → FailsAt (begun ++ 79 ∷ behind) at
    stuck_in behind none =
        subst (FailsAt (begun ++ 79 ∷ behind)) (sym is)
        (read_stuck (begun ++ 79 ∷ behind) found.mark (79 ∷ behind) behind (records_of found) groups found.place found.place (read_to (79 ∷ behind) (λ _. omega arith)) refl (place_at (79 ∷ behind)) none)

    pub stuck_at : Told disk (λ held. (behind : List ℕ) × (drop found.place held ≡ 79 ∷ behind) × NoGroup (version_of found.mark) found.place (records_of found) behind found.place) → OfBytes disk (λ bytes. FailsAt bytes at)
    stuck_at stuck = of_told disk (λ bytes. FailsAt bytes at) told (begun ++ 79 ∷ []) (stuck_in [] (too_short (version_of found.mark) found.place (records_of found) [] (omega arith)))
      where
        told : Told disk (λ held. FailsAt held at)
        told held there =
            let split = so_far.begins held there in
            let none = stuck held there in
            let rest_is : split.0 ≡ 79 ∷ none.0 = sym (ends_behind found.mark groups split.0 held found.place split.1 so_far.place) ∙ none.1 in
            subst (λ (l : List ℕ). FailsAt l at) (sym (split.1 ∙ ap (λ (l : List ℕ). begun ++ l) rest_is)) (stuck_in none.0 none.2)

-- a group that failed, after calls that left the contents and the count
pub group_fault : (fault : LoadFault) (groups : List (List Record)) (len : ℕ) (found : Found) (disk now after : DiskState) → AreSoFar groups len found disk → now.contents ≡ disk.contents → now.faults ≡ disk.faults
    → GroupFailed (version_of found.mark) found.place (records_of found) fault now after → FileFailed fault disk after
group_fault Disk groups len found disk now after so_far same count failed = subst (λ (n : ℕ). Rose n after.faults) count failed
group_fault (NotRepository at) groups len found disk now after so_far same count failed =
    (failed.0 ∙ count, stuck_at groups len found disk so_far at failed.1 (λ held told. failed.2 held (same ∙ told)))
group_fault Memory groups len found disk now after so_far same count failed = failed ∙ count

-- ---- a gate

cut_off : (v at len : ℕ) (records : List Record) (head rest : List ℕ) → length rest ≡ len - at → head ≡ take (min 9 (len - at)) rest → IsCutOff head at len → (behind : List ℕ) × (rest ≡ 79 ∷ behind) × NoGroup v at records behind at
cut_off v at len records head rest long is cut =
    let n = min 9 (len - at) in
    let tail = drop n rest in
    let whole : rest ≡ head ++ tail = sym (take-append-drop n rest) ∙ ap (λ (l : List ℕ). l ++ tail) (sym is) in
    let rest_is : rest ≡ 79 ∷ cut.0 ++ tail = whole ∙ ap (λ (l : List ℕ). l ++ tail) cut.1 in
    let sizes : length rest ≡ 1 + length cut.0 + length tail = omega (arith, ap length rest_is, length-append cut.0 tail) in
    let tail_size : length tail ≡ length rest - n = length-drop n rest in (
      cut.0 ++ tail,
      rest_is,
      elim cut.2 [
        | inl short ↦ too_short v at records (cut.0 ++ tail) (omega (arith, short, sizes, tail_size, long, length-append cut.0 tail))
        | inr number ↦
            too_long v at records (cut.0 ++ tail) tail number.0 (ap (λ (l : List ℕ). l ++ tail) number.1) number.2
            (omega (arith, number.3, sizes, long, ap length number.1, length-eight number.0))
      ],
    )

front_shut : (rest : List ℕ) (n : ℕ) → 0 < n → (0 < length (take n rest) → slice_index (take n rest) 0 ≢ 79) → 0 < length rest → slice_index rest 0 ≢ 79
front_shut [] n some shut there = absurd (omega (arith, there))
front_shut (r ∷ rest) zero some shut there = absurd (omega (arith, some))
front_shut (r ∷ rest) (suc n) some shut there = shut (omega arith)

-- what was read at a place
module _ (at len : ℕ) (head held : List ℕ) (long : length held ≡ len) (inside : at ≤ len) (is : head ≡ take (min 9 (len - at)) (drop at held)) where
  rest_long : length (drop at held) ≡ len - at
  rest_long = omega (arith, length-drop at held, long)

  pub gate_of : (found : Option ℕ) → (found ≡ None → 0 < length head → slice_index head 0 ≢ 79) → IfSome found (λ size. (head ≡ 79 ∷ eight size) × (at + 9 + size < len)) → IsGate found (drop at held)
  gate_of None shut is_open = λ there.
      front_shut (drop at held) (min 9 (len - at)) (omega (arith, there, rest_long)) (subst (λ (l : List ℕ). 0 < length l → slice_index l 0 ≢ 79) is (shut refl)) there
  gate_of (Some size) shut is_open =
      let tail = drop (min 9 (len - at)) (drop at held) in
      (tail, sym (take-append-drop (min 9 (len - at)) (drop at held)) ∙ ap (λ (l : List ℕ). l ++ tail) (sym is ∙ is_open.0))

  pub cut_at : (v : ℕ) (records : List Record) → IsCutOff head at len → (behind : List ℕ) × (drop at held ≡ 79 ∷ behind) × NoGroup v at records behind at
  cut_at v records cut = cut_off v at len records head (drop at held) rest_long is cut

pub gate_fault : (given : LoadFault) (v at len : ℕ) (records : List Record) (head : List ℕ) (disk after : DiskState) → after.faults ≡ disk.faults → Told disk (λ held. length held ≡ len) → at ≤ len
    → Told disk (λ held. head ≡ take (min 9 (len - at)) (drop at held)) → (given ≡ NotRepository at) × IsCutOff head at len → GroupFailed v at records given disk after
gate_fault given v at len records head disk after count long inside read failed =
    subst (λ (f : LoadFault). GroupFailed v at records f disk after) (sym failed.0)
    (count, refl, λ held told. cut_at at len head held (long held told) inside (read held told) v records failed.1)

-- ---- a group

-- a read that failed
pub read_body_fault : (fault : LoadFault) (v : ℕ) (first : Bool) (at size : ℕ) (disk after : DiskState) → ReadFailed fault disk after → BodyFailed v first at size fault disk after
read_body_fault Disk v first at size disk after failed = failed
read_body_fault (NotRepository found) v first at size disk after failed = absurd failed
read_body_fault Memory v first at size disk after failed = failed

pub read_group_fault : (fault : LoadFault) (v at : ℕ) (records : List Record) (disk after : DiskState) → ReadFailed fault disk after → GroupFailed v at records fault disk after
read_group_fault Disk v at records disk after failed = failed
read_group_fault (NotRepository found) v at records disk after failed = absurd failed
read_group_fault Memory v at records disk after failed = failed

pub read_file_fault : (fault : LoadFault) (disk after : DiskState) → ReadFailed fault disk after → FileFailed fault disk after
read_file_fault Disk disk after failed = failed
read_file_fault (NotRepository found) disk after failed = absurd failed
read_file_fault Memory disk after failed = failed

-- the bytes of a group that don't read
pub body_fault : (given : LoadFault) (fault : RecordFault) (v : ℕ) (first : Bool) (at size : ℕ) (bytes : List ℕ) (disk after : DiskState) → after.faults ≡ disk.faults → Told disk (λ held. bytes ≡ take size (drop (at + 9) held))
    → (fault ≡ MemoryFault) ⊎ IsGroupFault v first bytes fault → ((fault ≡ MemoryFault) × (given ≡ Memory)) ⊎ ((fault ≢ MemoryFault) × (given ≡ NotRepository at)) → BodyFailed v first at size given disk after
body_fault given fault v first at size bytes disk after count read fails (inl memory) = subst (λ (f : LoadFault). BodyFailed v first at size f disk after) (sym memory.1) count
body_fault given fault v first at size bytes disk after count read fails (inr other) = elim fails [
  | inl memory ↦ absurd (other.0 memory)
  | inr is ↦
      subst (λ (f : LoadFault). BodyFailed v first at size f disk after) (sym other.1)
      (count, refl, λ held told. (fault, subst (λ (b : List ℕ). IsGroupFault v first b fault) (read held told) is))
]

-- what stands behind the number of bytes
body_at : (at size : ℕ) (held body : List ℕ) → drop at held ≡ 79 ∷ eight size ++ body → drop (at + 9) held ≡ body
body_at at size held body is = sym (drop-drop 9 at held) ∙ ap (λ (l : List ℕ). drop 9 l) is ∙ drop_at (eight size) body 8 (length-eight size)

pub group_fault_of : (fault : LoadFault) (v : ℕ) (first : Bool) (at size : ℕ) (records : List Record) (disk after : DiskState) → first ≡ (length records == 0) → size < 2 ^ 64 → Told disk (λ held. IsGate (Some size) (drop at held))
    → BodyFailed v first at size fault disk after → GroupFailed v at records fault disk after
group_fault_of Disk v first at size records disk after first_is fits gate failed = failed
group_fault_of (NotRepository found) v first at size records disk after first_is fits gate failed = (
  failed.0,
  failed.1,
  λ held told.
      let body = gate held told in
      let fails = failed.2 held told in
      let bytes_are : take size (drop (at + 9) held) ≡ take size body.0 = ap (λ (l : List ℕ). take size l) (body_at at size held body.0 body.1) in
      (eight size ++ body.0, body.1, not_read v at records (eight size ++ body.0) body.0 (take size (drop (at + 9) held)) size first fails.0 refl fits bytes_are first_is fails.1),
)
group_fault_of Memory v first at size records disk after first_is fits gate failed = failed

-- the records of a group, and what stands behind them
module _ (v : ℕ) (first : Bool) (size : ℕ) (old new : Found) (disk : DiskState) (group : List Record) (body : IsBody v first old.place size group disk) where
  pub body_long : size ≡ length (records_bytes group)
  body_long = sym body.sized ∙ ap length body.is.layout

  pub group_more : v ≡ version_of old.mark → first ≡ (length (records_of old) == 0) → (records_of old ≡ []) ⊎ AreRecordsOf v (records_of old) → size < 2 ^ 64
      → Told disk (λ held. IsGate (Some size) (drop old.place held)) → Told disk (λ held. old.place + 9 + size < length held)
      → records_of new ≡ records_of old ++ group → places_of new ≡ places_of old ++ content_places (old.place + 9) group → new.place ≡ old.place + 9 + size → new.mark ≡ old.mark → IsGroupMore size old new disk
  group_more v_is first_is before fits gate inside records places place mark = record {
    group = group;
    is = (body.is.some, subst (λ (n : ℕ). n < 2 ^ 64) body_long fits);
    records = records;
    places = places;
    read = subst (λ (w : ℕ). AreRecordsOf w (records_of new)) (v_is ∙ ap version_of (sym mark)) (group_on v (records_of old) group (records_of new) group body.bytes first first_is before body.is refl records);
    mark = mark;
    long = body_long;
    place = place;
    held = held_on;
  }
    where
      held_on : Told disk (λ held. (more : List ℕ) × (drop old.place held ≡ 79 ∷ group_body group ++ more) × (0 < length more))
      held_on held told =
          let rest = gate held told in
          let more = drop size rest.0 in
          let bytes_are : body.bytes ≡ take size rest.0 = body.held held told ∙ ap (λ (l : List ℕ). take size l) (body_at old.place size held rest.0 rest.1) in
          let split : rest.0 ≡ body.bytes ++ more = sym (take-append-drop size rest.0) ∙ ap (λ (l : List ℕ). l ++ more) (sym bytes_are) in
          let there = group_there v (eight size ++ rest.0) rest.0 body.bytes more size first group refl fits split body.sized body.is in (
            more,
            rest.1 ∙ ap (λ (l : List ℕ). 79 ∷ l) there.1,
            omega (arith, inside held told, length-drop old.place held, ap length rest.1, length-append (eight size) rest.0, length-eight size, length-drop size rest.0),
          )

-- whether records were noted
pub noted_none : (found : Found) (first : Bool) → first ≡ (found.records.len == 0) → found.records.len ≡ length found.records.items → first ≡ (length (records_of found) == 0)
noted_none found first is counted = is ∙ ap (λ (n : ℕ). n == 0) (counted ∙ sym (length-map found.records.items (λ s. s.value)))

-- a gate and a number are all of the bytes, where a file has as many
pub number_alone : (head behind body : List ℕ) (size at len : ℕ) → length head ≡ min 9 (len - at) → head ≡ 79 ∷ behind → behind ≡ eight size ++ body → (behind ≡ eight size) × (9 ≤ len - at)
number_alone head behind [] size at len long gate is = (is ∙ append-nil (eight size), omega (arith, long, ap length gate, ap length is, length-append (eight size) [], length-eight size))
number_alone head behind (b ∷ body) size at len long gate is = absurd (omega (arith, long, ap length gate, ap length is, length-append (eight size) (b ∷ body), length-eight size))

-- the answer of a gate that was read
module _ (at len : ℕ) (head : List ℕ) (disk after : DiskState) (count : after.faults ≡ disk.faults) (long : Told disk (λ held. length held ≡ len)) (inside : at ≤ len) (read : Told disk (λ held. head ≡ take (min 9 (len - at)) (drop at held))) where
  pub gate_inside : (r : Result (Option ℕ) LoadFault) → IfOk r (λ found. IfSome found (λ size. (head ≡ 79 ∷ eight size) × (at + 9 + size < len))) → IfOk r (λ found. IfSome found (λ size. at + 9 + size < len))
  gate_inside (Ok None) some = tt
  gate_inside (Ok (Some size)) some = some.1
  gate_inside (Err fault) some = tt

  pub gate_there : (r : Result (Option ℕ) LoadFault) → IfOk r (λ found. found ≡ None → 0 < length head → slice_index head 0 ≢ 79) → IfOk r (λ found. IfSome found (λ size. (head ≡ 79 ∷ eight size) × (at + 9 + size < len)))
      → IfOk r (λ found. Told disk (λ held. IsGate found (drop at held)))
  gate_there (Ok found) none some = λ held told. gate_of at len head held (long held told) inside (read held told) found none some
  gate_there (Err fault) none some = tt

  pub gate_failed : (r : Result (Option ℕ) LoadFault) → IfErr r (λ fault. (fault ≡ NotRepository at) × IsCutOff head at len) → IfErr r (λ fault. (v : ℕ) (records : List Record) → GroupFailed v at records fault disk after)
  gate_failed (Ok found) fails = tt
  gate_failed (Err fault) fails = λ v records. gate_fault fault v at len records head disk after count long inside read fails

-- a group that was noted and handed on
pub more_noted : (r : Result ⊤ LoadFault) (v : ℕ) (first : Bool) (size : ℕ) (old new : Found) (disk : DiskState) (group : List Record) → IsBody v first old.place size group disk → v ≡ version_of old.mark → first ≡ (length (records_of old) == 0)
    → (records_of old ≡ []) ⊎ AreRecordsOf v (records_of old) → size < 2 ^ 64 → Told disk (λ held. IsGate (Some size) (drop old.place held)) → Told disk (λ held. old.place + 9 + size < length held)
    → OnOk r (records_of new ≡ records_of old ++ group) → OnOk r (places_of new ≡ places_of old ++ content_places (old.place + 9) group) → OnOk r (new.place ≡ old.place + 9 + size) → new.mark ≡ old.mark → OnOk r (IsGroupMore size old new disk)
more_noted (Ok done) v first size old new disk group body v_is first_is before fits gate inside records places place mark =
    group_more v first size old new disk group body v_is first_is before fits gate inside records places place mark
more_noted (Err fault) v first size old new disk group body v_is first_is before fits gate inside records places place mark = tt

-- ---- the header

module _ (len n : ℕ) (head held : List ℕ) (long : length held ≡ len) (most : n ≡ min 65536 len) (is : head ≡ take n held) where
  pub mark_told : (mark : ℕ) → (rest : List ℕ) × (head ≡ header mark ++ rest) → (rest : List ℕ) × (held ≡ header mark ++ rest)
  mark_told mark begins =
      let tail = drop n held in
      (begins.0 ++ tail, sym (take-append-drop n held) ∙ ap (λ (l : List ℕ). l ++ tail) (sym is ∙ begins.1) ∙ append_assoc (header mark) begins.0 tail)

  pub no_mark : ((mark : ℕ) (rest : List ℕ) → head ≢ header mark ++ rest) → FailsAt held 0
  no_mark none = inl (
    refl,
    λ mark rest same.
        let k = n - 15 in
        let whole : n ≡ length (header mark) + k = omega (arith, most, long, ap length same, length-append (header mark) rest) in
        none mark (take k rest)
        (is ∙ ap (λ (m : ℕ). take m held) whole ∙ ap (λ (l : List ℕ). take (length (header mark) + k) l) same ∙ take-append-add (header mark) rest k),
  )

pub no_mark_file : (disk after : DiskState) (len n : ℕ) (head : List ℕ) → after.faults ≡ disk.faults → Told disk (λ held. length held ≡ len) → n ≡ min 65536 len → Told disk (λ held. head ≡ take n held)
    → ((mark : ℕ) (rest : List ℕ) → head ≢ header mark ++ rest) → FileFailed (NotRepository 0) disk after
no_mark_file disk after len n head count long most read none =
    (count, of_told disk (λ bytes. FailsAt bytes 0) (λ held told. no_mark len n head held (long held told) most (read held told) none) [] (inl (refl, λ mark rest same. cc)))

-- ---- calls before

pub of_before : (before now : DiskState) (P : List ℕ → Type 0) → now.contents ≡ before.contents → OfBytes now P → OfBytes before P
of_before before now P same of = (of.0, (λ held told. of.1 held (same ∙ told)), of.2)

pub file_fault_on : (fault : LoadFault) (before now after : DiskState) → now.contents ≡ before.contents → now.faults ≡ before.faults → FileFailed fault now after → FileFailed fault before after
file_fault_on Disk before now after same count failed = subst (λ (n : ℕ). Rose n after.faults) count failed
file_fault_on (NotRepository at) before now after same count failed = (failed.0 ∙ count, of_before before now (λ bytes. FailsAt bytes at) same failed.1)
file_fault_on Memory before now after same count failed = failed ∙ count

-- whether anything was found
pub noted_nothing : (found : Found) → true ≡ (found.records.len == 0) → found.records.len ≡ length found.records.items → records_of found ≡ []
noted_nothing found is counted = none_is (records_of found) found.records.len (counted ∙ sym (length-map found.records.items (λ s. s.value))) is

pub noted_some : (found : Found) → false ≡ (found.records.len == 0) → found.records.len ≡ length found.records.items → records_of found ≢ []
noted_some found is counted = some_is (records_of found) found.records.len (counted ∙ sym (length-map found.records.items (λ s. s.value))) is

-- ---- a window

pub window_part : (window : Window) (held : List ℕ) (at size : ℕ) → IsWindow window held → Covers window at size → take size (drop (at - window.from) window.part) ≡ take size (drop at held)
window_part window held at size is covers =
    let n = length window.part in
    let k = at - window.from in
    let m = n - k in
    let whole : k + m ≡ n = omega (arith, covers.behind, covers.within) in
    let spot : window.from + k ≡ at = omega (arith, covers.behind) in
    let fits : size ≤ m = omega (arith, covers.behind, covers.within) in
    let part : window.part ≡ take (k + m) (drop window.from held) = is.part ∙ ap (λ (i : ℕ). take i (drop window.from held)) (sym whole) in
    ap (λ (l : List ℕ). take size (drop k l)) part
    ∙ ap (λ (l : List ℕ). take size l) (drop-take k m (drop window.from held))
    ∙ take-take size m (drop k (drop window.from held)) fits
    ∙ ap (λ (l : List ℕ). take size l) (drop-drop k window.from held ∙ ap (λ (i : ℕ). drop i held) spot)

pub holds_on : (window : Window) (before after : DiskState) → after.contents ≡ before.contents → Holds window before → Holds window after
holds_on window before after same holds = λ held told. holds held (sym same ∙ told)

pub window_read : (len at : ℕ) (part : List ℕ) (window : Window) (before after : DiskState) → after.contents ≡ before.contents → window.len ≡ len → window.from ≡ at → window.part ≡ part → Told before (λ held. length held ≡ len)
    → (n : ℕ) → length part ≡ n → Told before (λ held. part ≡ take n (drop at held)) → Holds window after
window_read len at part window before after same len_is from_is part_is long n sized read = λ held told.
    let here = read held (sym same ∙ told) in
    let size : n ≡ length window.part = sym sized ∙ ap length (sym part_is) in record {
      long = long held (sym same ∙ told) ∙ sym len_is;
      part = part_is ∙ here ∙ ap (λ (k : ℕ). take k (drop at held)) size ∙ ap (λ (k : ℕ). take (length window.part) (drop k held)) (sym from_is);
    }

pub window_long : (window : Window) (disk : DiskState) → Holds window disk → Told disk (λ held. length held ≡ window.len)
window_long window disk holds = λ held told. (holds held told).long

pub part_long : (window : Window) (at size : ℕ) → Covers window at size → length (take size (drop (at - window.from) window.part)) ≡ size
part_long window at size covers =
    omega (arith, length-take size (drop (at - window.from) window.part), length-drop (at - window.from) window.part, covers.behind, covers.within)

-- ---- what was read behind calls that left the contents and the count

pub found_before : (r : Result Found LoadFault) (before now : DiskState) → now.contents ≡ before.contents → IfOk r (λ found. OfBytes now (IsFound found)) → IfOk r (λ found. OfBytes before (IsFound found))
found_before (Ok found) before now same of = of_before before now (IsFound found) same of
found_before (Err fault) before now same of = tt

pub failed_before : (r : Result Found LoadFault) (before now after : DiskState) → now.contents ≡ before.contents → now.faults ≡ before.faults → IfErr r (λ fault. FileFailed fault now after) → IfErr r (λ fault. FileFailed fault before after)
failed_before (Ok found) before now after same count failed = tt
failed_before (Err fault) before now after same count failed = file_fault_on fault before now after same count failed

pub counted_before : (r : Result Found LoadFault) (before now after : ℕ) → now ≡ before → OnOk r (after ≡ now) → OnOk r (after ≡ before)
counted_before (Ok found) before now after same count = count ∙ same
counted_before (Err fault) before now after same count = tt
