-- A walk over the gates of a file that nobody changes meanwhile.
use Rattle.std.proofs.Common.{◌≡◌, ◌≢◌, ◌⊎◌, inl, inr, ℕ, ◌+◌, ◌<◌, ◌≤◌, ◌^◌, List, [], ◌∷◌, ◌++◌, length, map, take, drop, None, Some, refl, sym, ◌∙◌, ap, subst, arith, append_assoc, length-append, take-append-drop, length-take-le, length-drop}
use Rattle.std.specs.Prelude.{slice_index, slice_set}
use Rattle.std.specs.List.{flat_map}
use Rattle.std.proofs.lemmas.List.{append-nil, take_at, drop_at, take_all, take-append-le, drop-append-le, take_more_set, set-get_or, get_or-take, ext_get_or}
use Rattle.fsl_disk.specs.Front.{shown}
use Rattle.fsl_disk.specs.Shared.{SharedState, Sees, IsLengthOf, AreOf}
use Rattle.fsl_disk.specs.declared.front.Front.{Front}
use Rattle.fsl_record.specs.declared.Record.{Record}
use Rattle.fsl_record.specs.Records.{records_bytes}
use Rattle.fsl_journal.specs.Beside.{closed_front, IsByteOf}
use Rattle.fsl_journal.specs.Commit.{eight}
use Rattle.fsl_journal.specs.File.{header, group_bytes, IsFileOf, FailsAt}
use Rattle.fsl_journal.specs.Gates.{part_bytes, gate_of, HasGroups}
use Rattle.fsl_journal.specs.Still.{HasParts, IsBehind, IsLengthOr, IsStill, IsStillFront, IsUpToGate}
use Rattle.fsl_journal.proofs.Files.{length-eight}
use Rattle.fsl_journal.proofs.Gates.{PartsOn, byte_behind, byte_first, compare_parts, parts, parts_append, shut_parts}
use Rattle.fsl_journal.proofs.Living.{all_with, with_group}
use Rattle.fsl_journal.proofs.Walked.{groups_parts, sized_parts, whole_is}

-- ---- some gates were walked

-- the first gates are open up to the one at this place
pub record IsWalked (place : ℕ) (bytes : List ℕ) : Type 0 where
  pub groups : List (List ℕ)
  pub behind : List ℕ
  pub has : HasParts groups behind bytes
  pub at : place ≡ gate_of groups

length_before : (groups : List (List ℕ)) (behind bytes : List ℕ) (has : HasParts groups behind bytes) → length (has.head ++ parts groups) ≡ gate_of groups
length_before groups behind bytes has = omega (arith, length-append has.head (parts groups), has.long)

length_parts : (groups : List (List ℕ)) (behind bytes : List ℕ) (has : HasParts groups behind bytes) → length bytes ≡ gate_of groups + length behind
length_parts groups behind bytes has =
    omega (arith, ap length has.layout, length-append (has.head ++ parts groups) behind, length_before groups behind bytes has)

pub walk_first : (bytes : List ℕ) → 15 ≤ length bytes → IsWalked 15 bytes
walk_first bytes long = record {
  groups = [];
  behind = drop 15 bytes;
  has = record { head = take 15 bytes; long = length-take-le 15 bytes long; layout = sym (take-append-drop 15 bytes) ∙ ap (λ (l : List ℕ). l ++ drop 15 bytes) (sym (append-nil (take 15 bytes))); sized = tt };
  at = refl;
}

with_part : (groups : List (List ℕ)) (group rest : List ℕ) → parts groups ++ 79 ∷ (eight (length group) ++ group ++ rest) ≡ parts (groups ++ group ∷ []) ++ rest
with_part groups group rest = ap (λ (l : List ℕ). drop 15 l) (with_group 0 groups group rest)

-- a gate further
pub walk_on : (gate size : ℕ) (bytes : List ℕ) → IsWalked gate bytes → slice_index bytes gate ≡ 79 → size < 2 ^ 64 → ((k : ℕ) → k < 8 → slice_index (eight size) k ≡ slice_index bytes (gate + 1 + k)) → gate + 9 + size < length bytes → IsWalked (gate + 9 + size) bytes
walk_on gate size bytes is open_there fits number inside = by is.behind is.has
  where
    by : (behind : List ℕ) → HasParts is.groups behind bytes → IsWalked (gate + 9 + size) bytes
    by [] has = absurd (omega (arith, inside, is.at, length_parts is.groups [] bytes has))
    by (b ∷ t) has =
        let front = has.head ++ parts is.groups in
        let at : gate ≡ length front = is.at ∙ sym (length_before is.groups (b ∷ t) bytes has) in
        let split = has.layout in
        let long : length bytes ≡ gate + 1 + length t = omega (arith, is.at, length_parts is.groups (b ∷ t) bytes has) in
        let byte : b ≡ 79 = sym (byte_first bytes front (b ∷ t) gate split at) ∙ open_there in
        let number_is : take 8 t ≡ eight size =
        ext_get_or 0 (take 8 t) (eight size) (length-take-le 8 t (omega (arith, long, inside)) ∙ sym (length-eight size))
        (λ k below. let k_in : k < 8 = omega (arith, below, length-take-le 8 t (omega (arith, long, inside))) in
        get_or-take 8 t k 0 k_in
        ∙ sym (byte_behind bytes (front ++ b ∷ []) t (gate + 1) k (split ∙ sym (append_assoc front (b ∷ []) t)) (omega (arith, at, length-append front (b ∷ []))))
        ∙ sym (number k k_in)) in
        let group = take size (drop 8 t) in
        let group_long : length group ≡ size = length-take-le size (drop 8 t) (omega (arith, length-drop 8 t, long, inside)) in
        let rest = drop size (drop 8 t) in
        let named : take 8 t ≡ eight (length group) = number_is ∙ ap (λ (n : ℕ). eight n) (sym group_long) in
        let t_is : t ≡ eight (length group) ++ group ++ rest = sym (take-append-drop 8 t) ∙ (λ i. named i ++ sym (take-append-drop size (drop 8 t)) i) ∙ sym (append_assoc (eight (length group)) group rest) in
        record {
          groups = is.groups ++ group ∷ [];
          behind = rest;
          has = record {
            head = has.head;
            long = has.long;
            layout =
                has.layout
                ∙ (λ i. front ++ byte i ∷ t_is i)
                ∙ append_assoc has.head (parts is.groups) (79 ∷ (eight (length group) ++ group ++ rest))
                ∙ ap (λ (l : List ℕ). has.head ++ l) (with_part is.groups group rest)
                ∙ sym (append_assoc has.head (parts (is.groups ++ group ∷ [])) rest);
            sized = all_with is.groups group has.sized (omega (arith, group_long, fits));
          };
          at = omega (arith, is.at, group_long, ap length (parts_append is.groups (group ∷ [])), length-append (parts is.groups) (parts (group ∷ [])), ap length (append-nil (part_bytes group)), length-append (79 ∷ eight (length group)) group, length-eight (length group));
        }

-- the closed one
pub walk_shut : (gate byte mark : ℕ) (bytes : List ℕ) → IsWalked gate bytes → gate < length bytes → byte ≡ slice_index bytes gate → byte ≢ 79 → mark ≡ slice_index bytes 13 → IsUpToGate bytes (shown (closed_front gate byte mark) bytes)
walk_shut gate byte mark bytes is inside byte_is shut mark_is = by is.behind is.has
  where
    by : (behind : List ℕ) → HasParts is.groups behind bytes → IsUpToGate bytes (shown (closed_front gate byte mark) bytes)
    by [] has = absurd (omega (arith, inside, is.at, length_parts is.groups [] bytes has))
    by (b ∷ t) has =
        let front = has.head ++ parts is.groups in
        let at : gate ≡ length front = is.at ∙ sym (length_before is.groups (b ∷ t) bytes has) in
        let split = has.layout in
        let same : byte ≡ b = byte_is ∙ byte_first bytes front (b ∷ t) gate split at in
        let kept : slice_set bytes 13 mark ≡ bytes = ap (λ (n : ℕ). slice_set bytes 13 n) mark_is ∙ set-get_or bytes 13 0 in
        record {
          groups = is.groups;
          gate = b;
          rest = t;
          has = has;
          closed = λ e. shut (same ∙ e);
          shown =
              take_more_set (slice_set bytes 13 mark) gate byte (omega (arith, inside, ap length kept))
              ∙ (λ i. take gate (kept i) ++ same i ∷ [])
              ∙ ap (λ (l : List ℕ). l ++ b ∷ []) (ap (λ (l : List ℕ). take gate l) split ∙ take_at front (b ∷ t) gate (sym at));
        }

-- ---- what an opening makes of it

pub still_all : (bytes seen : List ℕ) → seen ≡ bytes → IsStillFront bytes seen
still_all bytes seen same = record {
  parts = inl same;
  records = λ records file. subst (λ (l : List ℕ). IsFileOf l records) (sym same) file;
  fails = λ at fails. subst (λ (l : List ℕ). FailsAt l at) (sym same) fails;
}

split_on : (a b c d : List ℕ) → a ++ b ≡ c ++ d → length c ≤ length a → (m : List ℕ) × (a ≡ c ++ m) × (d ≡ m ++ b)
split_on a b c d same inside = (
  drop (length c) a,
  sym (take-append-drop (length c) a)
      ∙ ap (λ (l : List ℕ). l ++ drop (length c) a) (sym (take-append-le (length c) a b inside) ∙ ap (λ (l : List ℕ). take (length c) l) same ∙ take_at c d (length c) refl),
  sym (drop_at c d (length c) refl) ∙ ap (λ (l : List ℕ). drop (length c) l) (sym same) ∙ drop-append-le (length c) a b inside,
)

module _ (bytes seen : List ℕ) (up : IsUpToGate bytes seen) where
  with_rest : seen ++ up.rest ≡ bytes
  with_rest =
      ap (λ (l : List ℕ). l ++ up.rest) up.shown
      ∙ append_assoc (up.has.head ++ parts up.groups) (up.gate ∷ []) up.rest
      ∙ sym up.has.layout

  seen_long : length seen ≡ gate_of up.groups + 1
  seen_long =
      omega (arith, ap length up.shown, length-append (up.has.head ++ parts up.groups) (up.gate ∷ []), length-append up.has.head (parts up.groups), up.has.long)

  behind_head : drop 15 bytes ≡ parts up.groups ++ up.gate ∷ up.rest
  behind_head = ap (λ (l : List ℕ). drop 15 l) (up.has.layout ∙ append_assoc up.has.head (parts up.groups) (up.gate ∷ up.rest)) ∙ drop_at up.has.head (parts up.groups ++ up.gate ∷ up.rest) 15 up.has.long

  gate_records : (records : List Record) → IsFileOf bytes records → IsFileOf seen records
  gate_records records file =
      let head_is : up.has.head ≡ header file.mark =
      sym (take_at up.has.head (parts up.groups ++ up.gate ∷ up.rest) 15 up.has.long) ∙ ap (λ (l : List ℕ). take 15 l) (sym (append_assoc up.has.head (parts up.groups) (up.gate ∷ up.rest)) ∙ sym up.has.layout ∙ file.layout) in
      let has : HasGroups file.mark up.groups bytes = record { gate = up.gate; rest = up.rest; layout = up.has.layout ∙ ap (λ (h : List ℕ). h ++ parts up.groups ++ up.gate ∷ up.rest) head_is; closed = up.closed; sized = up.has.sized } in
      whole_is file.mark up.gate file.mark up.groups bytes seen has refl (inl refl) (up.shown ∙ ap (λ (h : List ℕ). h ++ parts up.groups ++ up.gate ∷ []) head_is) records file

  -- groups that read are no more than those up to the gate
  no_more : (groups : List (List Record)) (rest : List ℕ) (mark : ℕ) → bytes ≡ header mark ++ flat_map group_bytes groups ++ 79 ∷ rest → PartsOn (map records_bytes groups) up.groups (79 ∷ rest) (up.gate ∷ up.rest) ⊎ PartsOn up.groups (map records_bytes groups) (up.gate ∷ up.rest) (79 ∷ rest)
      → length (flat_map group_bytes groups) ≤ length (parts up.groups)
  no_more groups rest mark is (inl on) =
      omega (arith, ap length (groups_parts groups), ap length (ap parts on.whole), ap length (parts_append (map records_bytes groups) on.more), length-append (parts (map records_bytes groups)) (parts on.more))
  no_more groups rest mark is (inr on) =
      omega (arith, ap length (groups_parts groups), ap length (ap parts (on.whole ∙ ap (λ (m : List (List ℕ)). up.groups ++ m) (shut_parts on.more up.gate up.rest (79 ∷ rest) up.closed on.bytes) ∙ append-nil up.groups)))

  gate_fails : (at : ℕ) → FailsAt bytes at → FailsAt seen at
  gate_fails at (inl (zero, none)) = inl (zero, λ mark rest is. none mark (rest ++ up.rest) (sym with_rest ∙ ap (λ (l : List ℕ). l ++ up.rest) is))
  gate_fails at (inr (inl (first, mark, inl bare))) =
      let long : length bytes ≡ 15 = ap length bare in
      absurd (omega (arith, long, seen_long, ap length with_rest, length-append seen up.rest))
  gate_fails at (inr (inl (first, mark, inr (gate, rest, is, closed)))) =
      let head_long : length (header mark ++ gate ∷ []) ≡ 16 = length-append (header mark) (gate ∷ []) in
      let on = split_on seen up.rest (header mark ++ gate ∷ []) rest (with_rest ∙ is) (omega (arith, seen_long, head_long)) in
      inr (inl (first, mark, inr (gate, on.0, on.1, closed)))
  gate_fails at (inr (inr (mark, groups, rest, is, read, place, none))) =
      let before_gate = flat_map group_bytes groups in
      let head_long : length (header mark ++ before_gate) ≡ 15 + length before_gate = length-append (header mark) before_gate in
      let same : parts (map records_bytes groups) ++ 79 ∷ rest ≡ parts up.groups ++ up.gate ∷ up.rest =
      ap (λ (l : List ℕ). l ++ 79 ∷ rest) (sym (groups_parts groups)) ∙ ap (λ (l : List ℕ). drop 15 l) (sym is) ∙ behind_head in
      let inside = no_more groups rest mark is (compare_parts (map records_bytes groups) up.groups (79 ∷ rest) (up.gate ∷ up.rest) (sized_parts groups read.0) up.has.sized same) in
      let on = split_on seen up.rest (header mark ++ before_gate ++ 79 ∷ []) rest (with_rest ∙ is ∙ sym (append_assoc (header mark ++ before_gate) (79 ∷ []) rest))
      (omega (arith, seen_long, inside, length-append (header mark ++ before_gate) (79 ∷ []), head_long)) in
      inr (inr (
        mark,
        groups,
        on.0,
        on.1 ∙ append_assoc (header mark ++ before_gate) (79 ∷ []) on.0,
        read,
        place,
        λ group gate more next. none group gate (more ++ up.rest) (ap (λ (l : List ℕ). 79 ∷ l) on.2 ∙ ap (λ (l : List ℕ). l ++ up.rest) next ∙ append_assoc (group_bytes group) (gate ∷ more) up.rest),
      ))

  pub still_gate : IsStillFront bytes seen
  still_gate = record { parts = inr up; records = gate_records; fails = gate_fails }

pub whole_still : (len : ℕ) (bytes : List ℕ) (front : Front) → front ≡ record { len = len; mark = None; gate = None } → len ≡ length bytes → IsStillFront bytes (shown front bytes)
whole_still len bytes front is long =
    still_all bytes (shown front bytes) (ap (λ (f : Front). shown f bytes) is ∙ take_all len bytes (omega (arith, long)))

-- ---- a call on a file that stays

-- from a first moment on, up to the end of a last call
pub still_on : (first now last : SharedState) (held : ℕ → List ℕ) → Sees now last → IsStill first last held → IsStill first now held
still_on first now last held sees still m within = still m (within.0, omega (arith, within.1, sees.later))

pub length_still : (first old new : SharedState) (held : ℕ → List ℕ) (len : ℕ) → first.moment ≤ old.moment → IsStill first new held → IsLengthOf old new held len → len ≡ length (held first.moment)
length_still first old new held len le still (m, within, is) = is ∙ ap length (still m (omega (arith, le, within.0), within.1))

pub known_still : (first old new : SharedState) (held : ℕ → List ℕ) (known len : ℕ) → first.moment ≤ old.moment → IsStill first new held → old.held ≡ Some held → known ≡ length (held first.moment) → IsLengthOr old new known len → len ≡ length (held first.moment)
known_still first old new held known len le still told is (inl same) = same ∙ is
known_still first old new held known len le still told is (inr found) = length_still first old new held len le still (found held told)

-- a byte that was read before the last call, or by it
pub byte_still : (first old new last : SharedState) (held : ℕ → List ℕ) (at byte : ℕ) → first.moment ≤ old.moment → new.moment ≤ last.moment → IsStill first last held → IsByteOf old new held at byte → (at < length (held first.moment)) × (byte ≡ slice_index (held first.moment) at)
byte_still first old new last held at byte since until still (m, within, inside, is) =
    let same = still m (omega (arith, since, within.0), omega (arith, until, within.1)) in
    (subst (λ (l : List ℕ). at < length l) same inside, is ∙ ap (λ (l : List ℕ). slice_index l at) same)

pub step_still : (first old new : SharedState) (held : ℕ → List ℕ) (gate place : ℕ) → first.moment ≤ old.moment → IsStill first new held → old.held ≡ Some held → IsWalked gate (held first.moment) → slice_index (held first.moment) gate ≡ 79 → IsBehind old new gate place → place < length (held first.moment) → IsWalked place (held first.moment)
step_still first old new held gate place since still told walked open_there (size, is, fits, read) inside =
    let bytes = held first.moment in
    let number : (k : ℕ) → k < 8 → slice_index (eight size) k ≡ slice_index bytes (gate + 1 + k) = λ k below.
    let seen = read held told k (omega (arith, below, length-eight size)) in
    seen.3 ∙ ap (λ (l : List ℕ). slice_index l (gate + 1 + k)) (still seen.0 (omega (arith, since, seen.1.0), seen.1.1)) in
    subst (λ (p : ℕ). IsWalked p bytes) (sym is) (walk_on gate size bytes walked open_there fits number (omega (arith, is, inside)))

-- ---- one call of a walk

-- a length that was known before two calls, or is known behind one of them
pub known_on : (s s1 s2 s3 : SharedState) (known first len : ℕ) → Sees s s1 → Sees s1 s2 → Sees s2 s3 → IsLengthOr s s1 known first → IsLengthOr s2 s3 first len → IsLengthOr s s3 known len
known_on s s1 s2 s3 known first len a b c before_it (inr found) =
    inr (λ held told. let is = found held (b.same ∙ a.same ∙ told) in (is.0, (omega (arith, a.later, b.later, is.1.0), is.1.1), is.2))
known_on s s1 s2 s3 known first len a b c (inl old) (inl same) = inl (same ∙ old)
known_on s s1 s2 s3 known first len a b c (inr found) (inl same) =
    inr (λ held told. let is = found held told in (is.0, (is.1.0, omega (arith, b.later, c.later, is.1.1)), same ∙ is.2))

-- bytes that were read in a part of a call
pub read_on : (s s1 s2 s3 : SharedState) (held : ℕ → List ℕ) (at : ℕ) (bytes : List ℕ) → Sees s s1 → Sees s2 s3 → AreOf s1 s2 held at bytes → AreOf s s3 held at bytes
read_on s s1 s2 s3 held at bytes a c are =
    λ k below. let is = are k below in (is.0, (omega (arith, a.later, is.1.0), omega (arith, c.later, is.1.1)), is.2, is.3)
