-- A file as it is carried over to version 2.
use Rattle.std.proofs.Common.{◌≡◌, inl, inr, Bool, true, false, ℕ, ◌==◌, ◌<◌, ◌≤◌, IsTrue, List, [], ◌∷◌, ◌++◌, length, get_or, take, drop, Some, None, refl, sym, ◌∙◌, ap, subst, arith, append_assoc, length-append, length-take-le, length-drop, take-append-drop}
use Rattle.std.specs.Bool.{if◌then◌else◌}
use Rattle.std.specs.List.{AllByRecursion}
use Rattle.std.proofs.lemmas.List.{take_at, take_all, drop_more, take-append-le, drop-append-le}
use Rattle.fsl_disk.specs.Disk.{DiskState, Told, Torn, Begins, Calls, Keeps, Only, LeavesOnly, written}
use Rattle.fsl_disk.proofs.Moments.{started, goes_on, and_then, weaker, told_before}
use Rattle.fsl_disk.proofs.Pieces.{split, torn_byte}
use Rattle.fsl_record.specs.declared.Record.{Record}
use Rattle.fsl_record.specs.declared.Record.TheVariants as record_of
use Rattle.fsl_record.specs.Records.{IsOfVersion}
use Rattle.fsl_journal.specs.Commit.{marked, carried, HeldOrMarked, HeldOrGated, OnTheWay, HeldOrCarried, EndsAt}
use Rattle.fsl_journal.specs.File.{mark_1, mark_2, version_of}
use Rattle.fsl_journal.specs.Log.{IsLog}
use Rattle.fsl_journal.proofs.Files.{laid, is_log}
use Rattle.fsl_journal.proofs.Gate.{some_same}

-- ---- records

-- version 2 has every record, and every version has those of version 1
pub known_in_2 : (r : Record) → IsOfVersion 2 r
known_in_2 (record_of.Config c) = tt
known_in_2 (record_of.Blob private name None bytes) = tt
known_in_2 (record_of.Blob private name (Some receipt) bytes) = refl
known_in_2 (record_of.Publish name) = tt
known_in_2 (record_of.Shun name) = tt
known_in_2 (record_of.Unshun name) = refl

pub all_known_in_2 : (rs : List Record) → AllByRecursion (IsOfVersion 2) rs
all_known_in_2 [] = tt
all_known_in_2 (r ∷ rs) = (known_in_2 r, all_known_in_2 rs)

known_on : (v : ℕ) (r : Record) → IsOfVersion 1 r → IsOfVersion v r
known_on v (record_of.Config c) known = tt
known_on v (record_of.Blob private name None bytes) known = tt
known_on v (record_of.Blob private name (Some receipt) bytes) known = absurd (omega (arith, known))
known_on v (record_of.Publish name) known = tt
known_on v (record_of.Shun name) known = tt
known_on v (record_of.Unshun name) known = absurd (omega (arith, known))

all_known_on : (v : ℕ) (rs : List Record) → AllByRecursion (IsOfVersion 1) rs → AllByRecursion (IsOfVersion v) rs
all_known_on v [] known = tt
all_known_on v (r ∷ rs) known = (known_on v r known.0, all_known_on v rs known.1)

-- ---- files

-- a file of version 1 with another mark
pub marked_log : (records : List Record) (place : ℕ) (held : List ℕ) (mark : ℕ) → IsLog records mark_1 place held → IsLog records mark place (marked mark held)
marked_log records place held mark is =
    let log = laid records mark_1 place held is in
    is_log records mark place (marked mark held) (record {
      groups = log.groups;
      gate = log.gate;
      rest = log.rest;
      split = ap (marked mark) log.split;
      at = log.at;
      shut = log.shut;
      whole = log.whole;
      all = log.all;
      fit = log.fit;
      known = all_known_on (version_of mark) records log.known;
    })

-- the mark of a file that is carried over
abbrev pub carried_mark : ℕ → ℕ
carried_mark mark = if mark == mark_1 then mark_2 else mark

pub carried_log : (records : List Record) (mark place : ℕ) (held : List ℕ) → IsLog records mark place held → IsLog records (carried_mark mark) place (carried mark held)
carried_log records mark place held is = by (mark == mark_1) refl
  where
    by : (t : Bool) → (mark == mark_1) ≡ t → IsLog records (if t then mark_2 else mark) place (if t then marked mark_2 held else held)
    by true e = marked_log records place held mark_2 (subst (λ (m : ℕ). IsLog records m place held) (grind (arith, e)) is)
    by false e = is

-- it has version 2
pub carried_version : (mark : ℕ) → version_of (carried_mark mark) ≡ 2
carried_version mark = by (mark == mark_1) refl
  where
    by : (t : Bool) → (mark == mark_1) ≡ t → version_of (if t then mark_2 else mark) ≡ 2
    by true e = refl
    by false e = ap (λ (b : Bool). if b then 1 else 2) e

pub carried_length : (mark : ℕ) (held : List ℕ) → 14 ≤ length held → length (carried mark held) ≡ length held
carried_length mark held long = by (mark == mark_1)
  where
    by : (t : Bool) → length (if t then marked mark_2 held else held) ≡ length held
    by true = omega (arith, length-append (take 13 held) (mark_2 ∷ drop 14 held), length-take-le 13 held (omega (arith, long)), length-drop 14 held, long)
    by false = refl

-- ---- bytes

-- the byte that is there
same_mark : (held : List ℕ) → 14 ≤ length held → marked (get_or held 13 0) held ≡ held
same_mark held long =
    ap (λ (l : List ℕ). take 13 held ++ l) (sym (drop_more held 13 0 (omega (arith, long)))) ∙ take-append-drop 13 held

pub marked_written : (mark : ℕ) (held : List ℕ) → written 13 (mark ∷ []) held ≡ marked mark held
marked_written mark held = append_assoc (take 13 held) (mark ∷ []) (drop 14 held)

-- what stands behind
marked_behind : (mark : ℕ) (held more : List ℕ) → 14 ≤ length held → marked mark (held ++ more) ≡ marked mark held ++ more
marked_behind mark held more long =
    (λ i. take-append-le 13 held more (omega (arith, long)) i ++ mark ∷ drop-append-le 14 held more long i)
    ∙ sym (append_assoc (take 13 held) (mark ∷ drop 14 held) more)

begins_with : (a rest : List ℕ) → Begins a (a ++ rest)
begins_with a rest = take_at a rest (length a) refl

-- an image before the mark is written
pub held_is_marked : (held c : List ℕ) → 14 ≤ length held → Begins held c → HeldOrMarked held c
held_is_marked held c long begins = (get_or held 13 0, subst (λ (h : List ℕ). Begins h c) (sym (same_mark held long)) begins)

-- and one while it is
pub mark_torn : (held d c : List ℕ) → 14 ≤ length held → Begins held d → Torn 13 1 d c → HeldOrMarked held c
mark_torn held d c long begins torn =
    let whole = split held d begins in
    let d_long : 14 ≤ length d = omega (arith, long, ap length whole, length-append held (drop (length held) d)) in
    let old = get_or d 13 0 in
    let d_is : d ≡ take 13 d ++ old ∷ drop 14 d = sym (same_mark d d_long) in
    let size : length (take 13 d) ≡ 13 = length-take-le 13 d (omega (arith, d_long)) in
    let at_front : Torn (length (take 13 d)) 1 (take 13 d ++ old ∷ drop 14 d) c =
    subst (λ (n : ℕ). Torn n 1 (take 13 d ++ old ∷ drop 14 d) c) (sym size) (subst (λ (l : List ℕ). Torn 13 1 l c) d_is torn) in
    let b = torn_byte (take 13 d) (drop 14 d) old c at_front in
    let c_is : c ≡ marked b.0 held ++ drop (length held) d = b.1 ∙ ap (marked b.0) whole ∙ marked_behind b.0 held (drop (length held) d) long in
    (b.0, subst (λ (l : List ℕ). Begins (marked b.0 held) l) (sym c_is) (begins_with (marked b.0 held) (drop (length held) d)))

-- ---- the write of the mark

module _ (held : List ℕ) (place : ℕ) (s0 : DiskState) (ends : EndsAt place s0) (header_there : 13 < place) (told : s0.contents ≡ Some held) where
  long : 14 ≤ length held
  long = omega (arith, ends.last held told, header_there)

  pub mark_moments : (s1 : DiskState) → IsTrue s0.is_model → ((c : List ℕ) → s0.since s0.moment c → s0.images c) → Calls (Torn 13 1) s0 s1 → LeavesOnly s0 s1 (HeldOrMarked held)
  mark_moments s1 model no_other call =
      let passes = call.crash model in
      goes_on s0 s0 s1 (HeldOrMarked held) (Torn 13 1) (started s0 (HeldOrMarked held) no_other (λ c left. held_is_marked held c long (ends.images model held told c left))) passes
      (λ c left. let from = passes.follows c left in mark_torn held from.0 c long (ends.images model held told from.0 from.1) from.2)

pub mark_held : (s0 s1 s2 : DiskState) → Told s0 (λ h. s1.contents ≡ Some (written 13 (50 ∷ []) h)) → s2.contents ≡ s1.contents → Told s0 (λ h. s2.contents ≡ Some (marked mark_2 h))
mark_held s0 s1 s2 wrote same held told = same ∙ wrote held told ∙ ap Some (marked_written mark_2 held)

marked_length : (mark : ℕ) (held : List ℕ) → 14 ≤ length held → length (marked mark held) ≡ length held
marked_length mark held long = omega (arith, length-append (take 13 held) (mark ∷ drop 14 held), length-take-le 13 held (omega (arith, long)), length-drop 14 held, long)

-- it is stable
pub mark_ends : (place : ℕ) (s0 s1 s2 : DiskState) → EndsAt place s0 → 13 < place → Keeps s0 s2 → Told s0 (λ h. s2.contents ≡ Some (marked mark_2 h)) → (IsTrue s1.is_model → Told s1 (λ h. Only h s2.images)) → s1.is_model ≡ s0.is_model → s2.contents ≡ s1.contents
    → EndsAt place s2
mark_ends place s0 s1 s2 ends header_there keeps wrote durable model_is same = record {
  last = λ held told.
      let before = told_before s0 s2 held keeps told in
      let is : held ≡ marked mark_2 before.0 = some_same (sym told ∙ wrote before.0 before.1) in
      let size = ends.last before.0 before.1 in
      omega (arith, ap length is, marked_length mark_2 before.0 (omega (arith, size, header_there)), size);
  images = λ model held told c left.
      let only : c ≡ held = durable (model_is ∙ sym keeps.model ∙ model) held (sym same ∙ told) c left in
      subst (λ (f : List ℕ). Begins held f) (sym only) (take_all (length held) held (omega arith));
}

-- a file that isn't carried over
pub stays : (mark : ℕ) (held : List ℕ) → (mark ≡ mark_1 → ⊥) → carried mark held ≡ held
stays mark held other = by (mark == mark_1) refl
  where
    by : (t : Bool) → (mark == mark_1) ≡ t → (if t then marked mark_2 held else held) ≡ held
    by true e = absurd (other (grind (arith, e)))
    by false e = refl

pub carries : (mark : ℕ) (held : List ℕ) → mark ≡ mark_1 → carried mark held ≡ marked mark_2 held
carries mark held one = ap (λ (m : ℕ). if m == mark_1 then marked mark_2 held else held) one

pub stays_moments : (mark : ℕ) (held : List ℕ) (place : ℕ) (s0 : DiskState) → (mark ≡ mark_1 → ⊥) → EndsAt place s0 → s0.contents ≡ Some held → IsTrue s0.is_model → ((c : List ℕ) → s0.since s0.moment c → s0.images c) → LeavesOnly s0 s0 (OnTheWay mark held)
stays_moments mark held place s0 other ends told model no_other =
    started s0 (OnTheWay mark held) no_other (λ c left. inr (subst (λ (h : List ℕ). Begins h c) (sym (stays mark held other)) (ends.images model held told c left)))

pub way_moments : (mark : ℕ) (held : List ℕ) (s0 s1 : DiskState) → mark ≡ mark_1 → LeavesOnly s0 s1 (HeldOrMarked held) → LeavesOnly s0 s1 (OnTheWay mark held)
way_moments mark held s0 s1 one wrote = weaker s0 s1 (HeldOrMarked held) (OnTheWay mark held) (λ c left. inl (one, left)) wrote

-- ---- the whole commit

on_the_way : (mark : ℕ) (held : List ℕ) (place : ℕ) (body c : List ℕ) → OnTheWay mark held c → HeldOrCarried mark held place body c
on_the_way mark held place body c (inl way) = inl way
on_the_way mark held place body c (inr begins) = inr (inl begins)

pub carried_first : (mark : ℕ) (held : List ℕ) (place : ℕ) (body : List ℕ) (s0 s1 : DiskState) → LeavesOnly s0 s1 (OnTheWay mark held) → LeavesOnly s0 s1 (HeldOrCarried mark held place body)
carried_first mark held place body s0 s1 way = weaker s0 s1 (OnTheWay mark held) (HeldOrCarried mark held place body) (λ c left. on_the_way mark held place body c left) way

pub carried_all : (mark : ℕ) (held : List ℕ) (place : ℕ) (body : List ℕ) (s0 s1 s2 : DiskState) → LeavesOnly s0 s1 (OnTheWay mark held) → LeavesOnly s1 s2 (HeldOrGated (carried mark held) place body) → LeavesOnly s0 s2 (HeldOrCarried mark held place body)
carried_all mark held place body s0 s1 s2 way wrote =
    and_then s0 s1 s2 (HeldOrCarried mark held place body) (carried_first mark held place body s0 s1 way)
    (weaker s1 s2 (HeldOrGated (carried mark held) place body) (HeldOrCarried mark held place body) (λ c left. inr left) wrote)
