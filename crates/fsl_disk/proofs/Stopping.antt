-- Writes and cuts that stop, one after another.
use Rattle.std.proofs.Common.{◌≡◌, ℕ, ◌+◌, ◌-◌, ◌≤◌, ◌<◌, List, [], ◌∷◌, ◌++◌, length, take, drop, reverse, get_or, refl, sym, ◌∙◌, ap, subst, arith, inr, min, length-take, length-append, length-take-le, take-append-drop}
use Rattle.std.proofs.lemmas.List.{take-take, drop-drop, reverse-append, take_more}
use Rattle.fsl_disk.specs.Disk.{Torn, CutShort, written}
use Rattle.fsl_disk.specs.History.{Stopped, Wears}
use Rattle.fsl_disk.specs.Change.{reads, stable, Leaves}
use Rattle.fsl_disk.specs.Memory.{reads_left}
use Rattle.fsl_disk.specs.declared.change.Change.{Change}
use Rattle.fsl_disk.specs.declared.change.Change.TheVariants.{Write, Cut, Sync}
use Rattle.fsl_disk.proofs.Pieces.{torn_written}

-- a write that changes nothing
pub torn_none : (at n : ℕ) (d : List ℕ) → Torn at n d d
torn_none at n d = record { before = refl; after = refl; no_shorter = omega arith; no_longer = omega arith }

pub cut_none : (len : ℕ) (d : List ℕ) → CutShort len d d
cut_none len d = record { front = refl; no_shorter = omega arith; no_longer = omega arith }

-- a cut that stopped at a length
pub cut_part : (len left : ℕ) (d c : List ℕ) → len ≤ left → c ≡ take left d → CutShort len d c
cut_part len left d c part is =
    let size : length c ≡ min left (length d) = ap length is ∙ length-take left d in
    record {
      front = ap (λ (l : List ℕ). take len l) is ∙ take-take len left d part;
      no_shorter = omega (arith, size);
      no_longer = omega (arith, size);
    }

-- a write in a range is one in a wider range
pub torn_wider : (at n from range : ℕ) (d c : List ℕ) → from ≤ at → at + n ≤ from + range → Torn at n d c → Torn from range d c
torn_wider at n from range d c low high torn =
    let more = (from + range) - (at + n) in
    let ends : (at + n) + more ≡ from + range = omega arith in
    record {
      before = sym (take-take from at c low) ∙ ap (λ (l : List ℕ). take from l) torn.before ∙ take-take from at d low;
      after =
          subst (λ (k : ℕ). drop k c ≡ drop k d) ends
          (sym (drop-drop more (at + n) c) ∙ ap (λ (l : List ℕ). drop more l) torn.after ∙ drop-drop more (at + n) d);
      no_shorter = torn.no_shorter;
      no_longer = omega (arith, torn.no_longer);
    }

-- one write after another in the same range
pub torn_on : (at n : ℕ) (d e c : List ℕ) → Torn at n d e → Torn at n e c → Torn at n d c
torn_on at n d e c first second = record {
  before = second.before ∙ first.before;
  after = second.after ∙ first.after;
  no_shorter = omega (arith, first.no_shorter, second.no_shorter);
  no_longer = omega (arith, first.no_longer, second.no_longer);
}

-- a piece at the front of a range, and then another one behind it
pub torn_part : (at range : ℕ) (piece d c : List ℕ) → at ≤ length d → length piece ≤ range → c ≡ written at piece d → Torn at range d c
torn_part at range piece d c inside fits is =
    subst (λ (l : List ℕ). Torn at range d l) (sym is) (torn_wider at (length piece) at range d (written at piece d) (omega arith) (omega arith) (torn_written at piece d inside))

length_written : (at : ℕ) (piece d : List ℕ) → at ≤ length d → at + length piece ≤ length (written at piece d)
length_written at piece d inside =
    omega (arith, length-append (take at d ++ piece) (drop (at + length piece) d), length-append (take at d) piece, length-take-le at d inside)

pub torn_parts : (at range n : ℕ) (piece other d e c : List ℕ) → at ≤ length d → n ≡ length piece → n + length other ≤ range → e ≡ written at piece d
    → c ≡ written (at + n) other e → Torn at range d c
torn_parts at range n piece other d e c inside size fits first second =
    let long : at + length piece ≤ length e = subst (λ (l : List ℕ). at + length piece ≤ length l) (sym first) (length_written at piece d inside) in
    let before = torn_part at range piece d e inside (omega arith) first in
    let behind = torn_part (at + n) (length other) other e c (omega arith) (omega arith) second in
    torn_on at range d e c before (torn_wider (at + n) (length other) at range e c (omega arith) (omega arith) behind)

-- one change more, of which the newest stands first
pub reverse_more : (changes : List Change) (i : ℕ) (change : Change) → i < length changes → change ≡ get_or changes i change
    → reverse (take (i + 1) changes) ≡ change ∷ reverse (take i changes)
reverse_more changes i change inside is =
    ap reverse (take_more changes i change inside) ∙ reverse-append (take i changes) (get_or changes i change ∷ [])
    ∙ ap (λ (x : Change). x ∷ reverse (take i changes)) (sym is)

pub wears_more : (changes : List Change) (i : ℕ) (change : Change) (old mid new : List ℕ) → i < length changes → change ≡ get_or changes i change
    → Wears (reverse (take i changes)) old mid → Stopped change mid new → Wears (reverse (take (i + 1) changes)) old new
wears_more changes i change old mid new inside is so_far step =
    subst (λ (past : List Change). Wears past old new) (sym (reverse_more changes i change inside is)) (mid, so_far, step)

-- what stopped changes make of an image is an image after them
pub wears_image : (first d c : List ℕ) (recent old : List Change) → Leaves first old d → Wears recent d c → Leaves first (recent ++ old) c
wears_image first d c [] old left worn = subst (Leaves first old) (sym worn) left
wears_image first d c (Write at bytes range ∷ recent) old left worn = inr (worn.0, wears_image first d worn.0 recent old left worn.1, worn.2)
wears_image first d c (Cut len shorter ∷ recent) old left worn = inr (worn.0, wears_image first d worn.0 recent old left worn.1, worn.2)
wears_image first d c (Sync ∷ recent) old left worn = absurd worn.2

pub torn_left : (first d c : List ℕ) (changes rest : List Change) (synced : ℕ) → rest ≡ drop synced changes
    → stable first (reverse changes) ≡ reads first (reverse (take synced changes)) → d ≡ stable first (reverse changes) → Wears (reverse rest) d c
    → Leaves first (reverse changes) c
torn_left first d c changes rest synced is settled begins worn =
    let old = reverse (take synced changes) in
    let left : Leaves first (reverse (take synced changes)) d = subst (Leaves first (reverse (take synced changes))) (sym (begins ∙ settled)) (reads_left first (reverse (take synced changes))) in
    let parts : reverse (drop synced changes) ++ reverse (take synced changes) ≡ reverse changes =
    sym (reverse-append (take synced changes) (drop synced changes)) ∙ ap reverse (take-append-drop synced changes) in
    subst (λ (past : List Change). Leaves first past c) parts
    (wears_image first d c (reverse (drop synced changes)) (reverse (take synced changes)) left (subst (λ (l : List Change). Wears (reverse l) d c) is worn))

-- what was stable is an image
pub stable_left : (first : List ℕ) (past : List Change) → Leaves first past (stable first past)
stable_left first [] = refl
stable_left first (Write at bytes range ∷ before) = inr (stable first before, stable_left first before, torn_none at range (stable first before))
stable_left first (Cut len left ∷ before) = inr (stable first before, stable_left first before, cut_none len (stable first before))
stable_left first (Sync ∷ before) = refl
