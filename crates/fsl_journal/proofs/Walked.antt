-- A walk over the gates that ended at a closed one.
use Rattle.std.proofs.Common.{◌≡◌, ◌≢◌, ◌⊎◌, inl, inr, ℕ, ◌+◌, ◌<◌, ◌≤◌, ◌^◌, List, [], ◌∷◌, ◌++◌, length, map, take, refl, sym, ◌∙◌, ap, subst, arith}
use Rattle.std.specs.Prelude.{slice_index}
use Rattle.std.specs.List.{AllByRecursion, flat_map}
use Rattle.fsl_disk.specs.Disk.{CutShort}
use Rattle.fsl_disk.specs.Front.{shown}
use Rattle.fsl_disk.specs.Shared.{SharedState}
use Rattle.fsl_record.specs.declared.Record.{Record}
use Rattle.fsl_record.specs.Records.{records_bytes}
use Rattle.fsl_journal.specs.Beside.{closed_front, IsByteOf, IsFrontOf, IsBesideRight}
use Rattle.fsl_journal.specs.Commit.{eight, marked, body_of, HeldOrCarried}
use Rattle.fsl_journal.specs.File.{header, mark_1, group_bytes, IsGroup, IsFileOf}
use Rattle.fsl_journal.specs.Gates.{part_bytes, gate_of, HasGroups, Grows, IsGateAt, From}
use Rattle.fsl_journal.specs.Lives.{HasFileGroups, IsLifeGrown, IsCommitInSteps, IsCutAStep}
use Rattle.fsl_journal.specs.Log.{IsLog}
use Rattle.fsl_journal.proofs.Besides.{front_whole, seen_right}
use Rattle.fsl_journal.proofs.Failing.{no_file}
use Rattle.fsl_journal.proofs.Gates.{parts, upto, one_row, shut_at, shut_byte}
use Rattle.fsl_journal.proofs.Living as living
use Rattle.fsl_journal.proofs.Shown.{shown_is, seen_is, stays_is}

-- ---- a file of records by its gates

pub groups_parts : (groups : List (List Record)) → flat_map group_bytes groups ≡ flat_map part_bytes (map records_bytes groups)
unfolding eight
groups_parts [] = refl
groups_parts (g ∷ groups) = ap (λ (l : List ℕ). group_bytes g ++ l) (groups_parts groups)

pub sized_parts : (groups : List (List Record)) → AllByRecursion IsGroup groups → AllByRecursion (λ (g : List ℕ). length g < 2 ^ 64) (map records_bytes groups)
sized_parts [] all = tt
sized_parts (g ∷ groups) all = (all.0.1, sized_parts groups all.1)

file_has : (bytes : List ℕ) (records : List Record) (is : IsFileOf bytes records) → HasGroups is.mark (map records_bytes is.groups) bytes
file_has bytes records is = record {
  gate = is.gate;
  rest = is.rest;
  layout = is.layout ∙ ap (λ (l : List ℕ). header is.mark ++ l ++ is.gate ∷ is.rest) (groups_parts is.groups);
  closed = is.closed;
  sized = sized_parts is.groups is.formed;
}

pub file_groups : HasFileGroups
file_groups bytes records is = (is.mark, (map records_bytes is.groups, file_has bytes records is))

-- with the place of the closed gate
record LogHas (mark place : ℕ) (bytes : List ℕ) : Type 0 where
  groups : List (List ℕ)
  has : HasGroups mark groups bytes
  at : place ≡ gate_of groups

log_has : (records : List Record) (mark place : ℕ) (bytes : List ℕ) → IsLog records mark place bytes → LogHas mark place bytes
log_has records mark place bytes log = record {
  groups = map records_bytes log.file.groups;
  has = subst (λ (m : ℕ). HasGroups m (map records_bytes log.file.groups) bytes) log.marked (file_has bytes records log.file);
  at = log.at ∙ ap (λ (l : List ℕ). 15 + length l) (groups_parts log.file.groups);
}

-- ---- laws of writers

pub life_grown : IsLifeGrown
life_grown held from mark groups has each = living.life_grows held from each mark groups has

pub commit_in_steps : IsCommitInSteps
commit_in_steps records mark place held bytes c log last fits left =
    let is = log_has records mark place held log in
    living.commit_reached mark is.groups held bytes is.has (last ∙ ap (λ (n : ℕ). n + 1) is.at) fits c (subst (λ (n : ℕ). HeldOrCarried mark held n (body_of bytes) c) is.at left)

pub cut_a_step : IsCutAStep
cut_a_step records mark place held c log cut =
    let is = log_has records mark place held log in
    living.cut_next mark is.groups held c is.has (subst (λ (n : ℕ). CutShort (n + 1) held c) is.at cut)

-- ---- what the front shows stands for the records

pub whole_is : (mark byte other : ℕ) (before : List (List ℕ)) (one seen : List ℕ) (has : HasGroups mark before one) → byte ≡ has.gate → (other ≡ mark) ⊎ (mark ≡ mark_1) → seen ≡ upto other before ++ byte ∷ [] → (records : List Record) → IsFileOf one records → IsFileOf seen records
whole_is mark byte other before one seen has byte_is marks is records file =
    let row = one_row file.mark mark (map records_bytes file.groups) before one (file_has one records file) has in
    let place = 15 + length (flat_map group_bytes file.groups) in
    let place_is : place ≡ gate_of before = ap (λ (l : List ℕ). 15 + length l) (groups_parts file.groups ∙ ap parts row.groups) in
    let whole = front_whole one records file.mark place other (record { file = file; marked = refl; at = refl }) in
    let front : take (place + 1) one ≡ upto mark before ++ has.gate ∷ [] = ap (λ (n : ℕ). take (n + 1) one) place_is ∙ living.upto_gate mark before one has in
    by marks front whole.0 whole.1 row.mark
  where
    by : (other ≡ mark) ⊎ (mark ≡ mark_1) → {front : List ℕ} → front ≡ upto mark before ++ has.gate ∷ [] → IsFileOf front records → (file.mark ≡ mark_1 → IsFileOf (marked other front) records) → file.mark ≡ mark → IsFileOf seen records
    by (inl same) front stands _ _ =
        subst (λ (l : List ℕ). IsFileOf l records) (front ∙ sym (is ∙ (λ i. upto (same i) before ++ byte_is i ∷ []))) stands
    by (inr old) front _ stands mark_is =
        subst (λ (l : List ℕ). IsFileOf l records) (ap (λ (l : List ℕ). marked other l) front ∙ sym (is ∙ (λ i. upto other before ++ byte_is i ∷ []))) (stands (mark_is ∙ old))

-- and has the same groups
groups_are : (mark byte other : ℕ) (before : List (List ℕ)) (one seen : List ℕ) (has : HasGroups mark before one) → byte ≢ 79 → (other ≡ mark) ⊎ (mark ≡ mark_1) → seen ≡ upto other before ++ byte ∷ []
    → (m : ℕ) (groups : List (List ℕ)) → HasGroups m groups one → (later : ℕ) × HasGroups later groups seen × ((later ≡ m) ⊎ (m ≡ mark_1))
groups_are mark byte other before one seen has shut marks is m groups has_also =
    let row = one_row mark m before groups one has has_also in
    let there : HasGroups other before seen = record { gate = byte; rest = []; layout = is; closed = shut; sized = has.sized } in
    (other, subst (λ (gs : List (List ℕ)). HasGroups other gs seen) row.groups there, by marks row.mark)
  where
    by : (other ≡ mark) ⊎ (mark ≡ mark_1) → mark ≡ m → (other ≡ m) ⊎ (m ≡ mark_1)
    by (inl same) mark_is = inl (same ∙ mark_is)
    by (inr old) mark_is = inr (sym mark_is ∙ old)

-- ---- the front that was found

mark_there : (mark : ℕ) (groups : List (List ℕ)) (bytes : List ℕ) → HasGroups mark groups bytes → slice_index bytes 13 ≡ mark
mark_there mark groups bytes has = ap (λ (l : List ℕ). slice_index l 13) has.layout

pub front_is : (old now last : SharedState) (held : ℕ → List ℕ) (from gate byte mark : ℕ) → Grows held from → from ≤ old.moment → From held old.moment (IsGateAt gate) → IsByteOf old now held gate byte → byte ≢ 79 → IsByteOf now last held 13 mark → IsFrontOf (closed_front gate byte mark) held from last.moment
front_is old now last held from gate byte mark grows since there (m, within, inside, byte_is) shut (at, within_mark, inside_mark, mark_is) =
    let is = shut_at gate (held m) (there m within.0) (λ e. shut (byte_is ∙ e)) in
    let go = λ (i j : ℕ) (a : m ≤ i) (b : i ≤ j). grows.on i j (omega (arith, since, within.0, a)) b in
    let here = go m last.moment (omega arith) (omega (arith, within.1, within_mark.0, within_mark.1)) is.mark is.before is.has in
    let then = go m at (omega arith) (omega (arith, within.1, within_mark.0)) is.mark is.before is.has in
    let gate_is : byte ≡ is.has.gate = byte_is ∙ shut_byte gate is.mark is.before (held m) is.has is.at in
    let mark_then : mark ≡ then.0 = mark_is ∙ mark_there then.0 (is.before ++ then.1.0) (held at) then.1.1 in
    let marks = either then.1.2 mark_then in
    let shows = shown_is gate byte mark here.0 is.before here.1.0 (held last.moment) here.1.1 is.at in
    record {
      stays = stays_is held m last.moment gate byte mark is.mark is.before is.has is.at (omega (arith, within.1, within_mark.0, within_mark.1)) go;
      moment = m;
      since = omega (arith, since, within.0);
      until = omega (arith, within.1, within_mark.0, within_mark.1);
      seen = seen_is is.mark byte mark is.before (held m) (shown (closed_front gate byte mark) (held last.moment)) is.has gate_is marks shows;
      groups = groups_are is.mark byte mark is.before (held m) (shown (closed_front gate byte mark) (held last.moment)) is.has shut marks shows;
      whole = whole_is is.mark byte mark is.before (held m) (shown (closed_front gate byte mark) (held last.moment)) is.has gate_is marks shows;
    }
  where
    either : {a b : ℕ} → (a ≡ b) ⊎ (b ≡ mark_1) → mark ≡ a → (mark ≡ b) ⊎ (b ≡ mark_1)
    either (inl same) is = inl (is ∙ same)
    either (inr old) is = inr old

-- ---- what is read of it

pub beside_right : IsBesideRight
beside_right front held from now is committed file = record {
  same = λ records stands. seen_right (held is.moment) (shown front (held now)) records committed is.seen stands file;
  accepted = λ at fails. no_file (shown front (held now)) at committed fails (is.whole committed file);
}
