-- A file that grows at its end, one write after another.
use Rattle.std.proofs.Common.{◌≡◌, ℕ, ◌+◌, ◌<◌, ◌≤◌, List, map, get_or, drop, [], ◌∷◌, ◌++◌, length, take, refl, sym, ap, subst, ◌∙◌, append_assoc, length-append, arith, IsTrue, Some, Result, Ok, Err}
use Rattle.std.specs.Prelude.{IsErrAnd}
use Rattle.std.proofs.lemmas.List.{append-nil, map-append, take-take, take_more}
use Rattle.std.proofs.lemmas.List.Concat.{flat_map-append}
use Rattle.std.proofs.Math.Seq.{take-append_seam, drop-append_seam}
use Rattle.fsl_journal.specs.Commit.{eight}
use Rattle.fsl_journal.specs.Create.{new_file}
use Rattle.fsl_scrub.proofs.Opening.{length-eight}
use Rattle.fsl_disk.specs.Disk.{DiskState, Told, Torn, Calls, Begins, written}
use Rattle.fsl_disk.proofs.Moments.{started, goes_on, and_then, keeps_on, told_before}
use Rattle.fsl_disk.proofs.Pieces.{written_behind}
use Rattle.fsl_record.specs.declared.Record.TheVariants as record_of
use Rattle.fsl_record.specs.Records.{record_bytes, records_bytes}
use Rattle.fsl_scrub.specs.declared.faults.WriteFault.{WriteFault}
use Rattle.fsl_scrub.specs.declared.faults.WriteFault.TheVariants as write_fault
use Rattle.fsl_scrub.specs.Faults.{IsOfRead, SpareFails}
use Rattle.fsl_scrub.specs.Growing.{EndsAt, Grows, Writes}

-- since this moment there is no other
abbrev pub IsNow : DiskState → Type 0
IsNow s = (c : List ℕ) → IsTrue s.is_model → s.since s.moment c → s.images c

-- ---- growing

pub grown_none : (at : ℕ) (s : DiskState) → IsNow s → Grows at s s
grown_none at s now = record {
  keeps = record { tells = refl; model = refl };
  moments = λ model front fits each. started s (Begins front) (λ c left. now c model left) each;
}

torn_behind : (front d c : List ℕ) (at n : ℕ) → length front ≤ at → Begins front d → Torn at n d c → Begins front c
torn_behind front d c at n behind begins torn =
    sym (take-take (length front) at c behind) ∙ ap (λ (l : List ℕ). take (length front) l) torn.before ∙ take-take (length front) at d behind ∙ begins

pub grown_by : (at n : ℕ) (s0 s1 : DiskState) → IsNow s0 → Calls (Torn at n) s0 s1 → Grows at s0 s1
grown_by at n s0 s1 now call = record {
  keeps = call.keeps;
  moments = λ model front fits each.
      let passes = call.crash model in
      goes_on s0 s0 s1 (Begins front) (Torn at n) (started s0 (Begins front) (λ c left. now c model left) each) passes
      (λ c left. let from = passes.follows c left in torn_behind front from.0 c at n fits (each from.0 from.1) from.2);
}

pub grown_on : (at later : ℕ) (s0 s1 s2 : DiskState) → at ≤ later → Grows at s0 s1 → Grows later s1 s2 → Grows at s0 s2
grown_on at later s0 s1 s2 le first second = record {
  keeps = keeps_on s0 s1 s2 first.keeps second.keeps;
  moments = λ model front fits each.
      let one = first.moments model front fits each in
      and_then s0 s1 s2 (Begins front) one (second.moments (first.keeps.model ∙ model) front (omega (arith, fits, le)) one.now);
}

-- ---- writing

-- a call that failed
pub failed_write : (at : ℕ) (bytes : List ℕ) (s0 s1 : DiskState) (fault : WriteFault) (r : Result ℕ WriteFault) → Grows at s0 s1 → IsErrAnd r (λ e. e ≡ fault) → s0.faults ≤ s1.faults
    → SpareFails fault s0.faults s1.faults → Writes at bytes s0 s1 r
failed_write at bytes s0 s1 fault (Ok n) grows is later fails = absurd is
failed_write at bytes s0 s1 fault (Err e) grows is later fails =
    record { grows = grows; longer = tt; next = tt; later = later; same = tt; failed = subst (λ (f : WriteFault). SpareFails f s0.faults s1.faults) (sym is) fails }

-- a fault that came before any write
pub unwritten_by : (at : ℕ) (bytes : List ℕ) (s : DiskState) (fault : WriteFault) (r : Result ℕ WriteFault) → IsNow s → IsErrAnd r (λ e. e ≡ fault) → SpareFails fault s.faults s.faults → Writes at bytes s s r
unwritten_by at bytes s fault r now is stays = failed_write at bytes s s fault r (grown_none at s now) is (omega arith) stays

-- want of memory before any write
pub unwritten : (at : ℕ) (bytes : List ℕ) (s : DiskState) (r : Result ℕ WriteFault) → IsNow s → IsErrAnd r (λ e. e ≡ write_fault.Memory) → Writes at bytes s s r
unwritten at bytes s r now is = unwritten_by at bytes s write_fault.Memory r now is refl

-- a read that failed left the spare disk
pub read_spares : (fault : WriteFault) (n : ℕ) → IsOfRead fault → SpareFails fault n n
read_spares write_fault.Unwritten n own = absurd own
read_spares write_fault.Unread n own = refl
read_spares (write_fault.Damaged name found) n own = refl
read_spares write_fault.Memory n own = refl

-- the calls before left the count
pub fails_before : (fault : WriteFault) (first before now : ℕ) → before ≡ first → SpareFails fault before now → SpareFails fault first now
fails_before fault first before now same fails = subst (λ (n : ℕ). SpareFails fault n now) same fails

-- a call that wrote
pub wrote : (at n : ℕ) (bytes : List ℕ) (s0 s1 : DiskState) → Grows at s0 s1 → EndsAt at s0 → Told s0 (λ held. s1.contents ≡ Some (written at bytes held)) → n ≡ at + length bytes
    → s1.faults ≡ s0.faults → Writes at bytes s0 s1 (Ok n)
wrote at n bytes s0 s1 grows ends put next same = record {
  grows = grows;
  longer = λ held told. put held told ∙ ap Some (subst (λ (k : ℕ). written k bytes held ≡ held ++ bytes) (ends held told) (written_behind held bytes));
  next = next;
  later = omega (arith, same);
  same = same;
  failed = tt;
}

some_same : {a b : List ℕ} → Some a ≡ Some b → a ≡ b
some_same e = cc

-- where the file ends after a write
pub end_of : (at n : ℕ) (bytes : List ℕ) (s0 s1 : DiskState) → EndsAt at s0 → Writes at bytes s0 s1 (Ok n) → EndsAt n s1
end_of at n bytes s0 s1 ends w held told =
    let before = told_before s0 s1 held w.grows.keeps told in
    let is : held ≡ before.0 ++ bytes = some_same (sym told ∙ w.longer before.0 before.1) in
    omega (arith, w.next, ends before.0 before.1, ap length is, length-append before.0 bytes)

-- nothing is written
pub wrote_none : (at : ℕ) (s : DiskState) → IsNow s → Writes at [] s s (Ok at)
wrote_none at s now = record {
  grows = grown_none at s now;
  longer = λ held told. told ∙ ap Some (sym (append-nil held));
  next = omega arith;
  later = omega arith;
  same = refl;
  failed = tt;
}

-- one write after another
pub writes_on : (at n : ℕ) (a b : List ℕ) (s0 s1 s2 : DiskState) (r : Result ℕ WriteFault) → Writes at a s0 s1 (Ok n) → Writes n b s1 s2 r → Writes at (a ++ b) s0 s2 r
writes_on at n a b s0 s1 s2 (Ok m) first second = record {
  grows = grown_on at n s0 s1 s2 (omega (arith, first.next)) first.grows second.grows;
  longer = λ held told. second.longer (held ++ a) (first.longer held told) ∙ ap Some (append_assoc held a b);
  next = omega (arith, first.next, second.next, length-append a b);
  later = omega (arith, first.later, second.later);
  same = second.same ∙ first.same;
  failed = tt;
}
writes_on at n a b s0 s1 s2 (Err e) first second = record {
  grows = grown_on at n s0 s1 s2 (omega (arith, first.next)) first.grows second.grows;
  longer = tt;
  next = tt;
  later = omega (arith, first.later, second.later);
  same = tt;
  failed = subst (λ (k : ℕ). SpareFails e k s2.faults) first.same second.failed;
}

-- a fault is handed on, whatever was to be written
pub faulted : (at : ℕ) (a b : List ℕ) (s0 s1 : DiskState) (e : WriteFault) (r : Result ℕ WriteFault) → Writes at a s0 s1 (Err e) → IsErrAnd r (λ f. f ≡ e) → Writes at b s0 s1 r
faulted at a b s0 s1 e r w is = failed_write at b s0 s1 e r w.grows is w.later w.failed

-- as many other bytes that are the same
pub same_bytes : (at : ℕ) (a b : List ℕ) (s0 s1 : DiskState) (r : Result ℕ WriteFault) → a ≡ b → Writes at a s0 s1 r → Writes at b s0 s1 r
same_bytes at a b s0 s1 r is w = subst (λ (l : List ℕ). Writes at l s0 s1 r) is w

-- ---- records

pub shuns_more : (names : List (List ℕ)) (i : ℕ) (name : List ℕ) → i < length names → name ≡ get_or names i name
    → records_bytes (map record_of.Shun (take i names)) ++ record_bytes (record_of.Shun name) ≡ records_bytes (map record_of.Shun (take (i + 1) names))
shuns_more names i name lt is =
    ap (λ (l : List ℕ). records_bytes (map record_of.Shun (take i names)) ++ l) (sym (append-nil (record_bytes (record_of.Shun name))))
    ∙ sym (flat_map-append record_bytes (map record_of.Shun (take i names)) (record_of.Shun name ∷ []))
    ∙ ap records_bytes (sym (map-append record_of.Shun (take i names) (name ∷ [])))
    ∙ ap (λ (l : List (List ℕ)). records_bytes (map record_of.Shun l)) (ap (λ (n : List ℕ). take i names ++ n ∷ []) is ∙ sym (take_more names i name lt))

-- ---- the length of the group

-- bytes written over as many others
written_over : (front place bytes rest : List ℕ) → length place ≡ length bytes → written (length front) bytes (front ++ place ++ rest) ≡ front ++ bytes ++ rest
written_over front place bytes rest same =
    ap (λ (l : List ℕ). l ++ bytes ++ drop (length front + length bytes) (front ++ place ++ rest)) (ap (take (length front)) (append_assoc front place rest) ∙ take-append_seam front (place ++ rest))
    ∙ ap (λ (l : List ℕ). front ++ bytes ++ l) behind
  where
    size : length (front ++ place) ≡ length front + length bytes
    size = omega (arith, length-append front place, same)

    behind : drop (length front + length bytes) (front ++ place ++ rest) ≡ rest
    behind = subst (λ (n : ℕ). drop n (front ++ place ++ rest) ≡ rest) size (drop-append_seam (front ++ place) rest)

pub length_written : (size : ℕ) (place rest bytes : List ℕ) → length place ≡ 8 → bytes ≡ eight size → written 16 bytes (new_file ++ place ++ rest) ≡ new_file ++ eight size ++ rest
length_written size place rest bytes eight_long is =
    ap (λ (b : List ℕ). written 16 b (new_file ++ place ++ rest)) is ∙ written_over new_file place (eight size) rest (omega (arith, eight_long, length-eight size))

-- ---- a whole group

-- the parts of a group, one after another
pub group_parts : (zeros config blobs shuns gate : List ℕ) → zeros ++ (config ++ (blobs ++ (shuns ++ gate))) ≡ zeros ++ (config ++ blobs ++ shuns) ++ gate
group_parts zeros config blobs shuns gate = simp append_assoc
