-- Facts on what bytes of a message begin with.
use Rattle.std.proofs.Common.{◌≡◌, ℕ, suc, ◌+◌, ◌-◌, ◌<◌, ◌≤◌, Bool, true, false, not, ◌||◌, List, [], ◌∷◌, ◌++◌, length, take, drop, get_or, position, Some, None, refl, sym, ap, ◌∙◌, arith, add-one, drop-cons, IsTrue, subst}
use Rattle.std.specs.Prelude.{nat_lt, slice_range}
use Rattle.std.proofs.lemmas.Bool.{eqb-true}
use Rattle.std.proofs.lemmas.List.{take-append-drop, drop-drop, length-take-le, length-drop, get_or-take}
use Rattle.std.proofs.lemmas.List.Quantifiers.{position-Some}
use Rattle.std.proofs.lemmas.List.Sums.{fails_before_first}
use Rattle.fsl_text.specs.Bytes.{is_newline}
use Rattle.fsl_text.specs.Lines.{has_newline, first_line}
use Rattle.fsl_text.proofs.FirstLines.{first_line_at, first_line_none}
use Rattle.fsl_wire.specs.declared.WireFault.TheVariants.{Short}
use Rattle.fsl_wire.specs.declared.meaning.Wrong.{Wrong}
use Rattle.fsl_wire.specs.declared.meaning.Meaning.{Meaning}
use Rattle.fsl_wire.specs.declared.meaning.Meaning.TheVariants.{Blank, Login, Push, Pull, Clone, CloneSeqno, File, Private, Igot, Gimme, Error, Message, SendPrivate, Bad}
use Rattle.fsl_wire.specs.Lines.{Line, line_meant, file, bad}
use Rattle.fsl_wire.specs.Messages.{ContentFits, MayEnd, IsLastLine, line_fault, split_fault, first_line_fault}
use Rattle.fsl_wire.specs.Meanings.{line_of, wrong_fault}
use Rattle.fsl_wire.specs.Fronts.{IsLineFront}
use Rattle.fsl_wire.proofs.TokenLemmas.{no_place}

-- ---- newlines

-- bytes none of which is a newline are one line
one_line : (s : List ℕ) → ((k : ℕ) → k < length s → is_newline (get_or s k 0) ≡ false) → IsTrue (not (has_newline s))
one_line [] h = refl
one_line (b ∷ bs) h = ap (λ (t : Bool). not (t || has_newline bs)) (h 0 (omega arith)) ∙ one_line bs (λ k lt. h (suc k) (omega arith))

no_newline : (s : List ℕ) → position is_newline s ≡ None → IsTrue (not (has_newline s))
no_newline s h =
    let past = no_place is_newline s h in
    one_line s (λ k lt. fails_before_first is_newline s k 0 (omega arith))

-- what stands before the first newline, and behind it
record Cut (s : List ℕ) (end : ℕ) : Type 0 where
  line : IsTrue (not (has_newline (take end s)))
  within : end < length s
  whole : s ≡ take end s ++ 10 ∷ drop (end + 1) s

at_newline : (s : List ℕ) (end : ℕ) → position is_newline s ≡ Some end → Cut s end
at_newline s end h =
    let p = position-Some is_newline s end 0 h in
    let within : end < length s = p.0 in
    let here : get_or s end 0 ≡ 10 = eqb-true _ _ p.1 in
    let len : length (take end s) ≡ end = length-take-le end s (omega arith) in
    let tail : drop end s ≡ 10 ∷ drop (end + 1) s = rw add-one (drop-cons s end 0 within ∙ ap (λ (b : ℕ). b ∷ drop (suc end) s) here) in
    record {
      line = one_line (take end s) (λ k lt. let lower : k < end = omega arith in ap is_newline (get_or-take end s k 0 lower) ∙ p.2 k lower);
      within = within;
      whole = sym (take-append-drop end s) ∙ ap (λ (r : List ℕ). take end s ++ r) tail;
    }

-- ---- lines that don't read

-- what is wrong with bytes without a newline
fault_at_end : (s : List ℕ) (l : Line) (n : ℕ) → position is_newline s ≡ None → l ≡ line_meant s → first_line_fault n s ≡ line_fault l n None
fault_at_end s l n h is = ap (split_fault n s) (first_line_none s (no_newline s h)) ∙ ap (λ (m : Line). line_fault m n None) (sym is)

-- what is wrong with bytes by their first line
fault_before : (s : List ℕ) (end : ℕ) (l : Line) (n : ℕ) → position is_newline s ≡ Some end → l ≡ line_meant (take end s) → first_line_fault n s ≡ line_fault l n (Some (drop (end + 1) s))
fault_before s end l n h is =
    let cut = at_newline s end h in
    ap (split_fault n s) (ap first_line cut.whole ∙ first_line_at (take end s) (drop (end + 1) s) cut.line)
    ∙ ap (λ (m : Line). line_fault m n (Some (drop (end + 1) s))) (sym is)

pub bad_last : (s : List ℕ) (wrong : Wrong) → position is_newline s ≡ None → bad (wrong_fault wrong) ≡ line_meant s → (n : ℕ) → first_line_fault n s ≡ Some (wrong_fault wrong n)
bad_last s wrong h is = λ n. fault_at_end s (bad (wrong_fault wrong)) n h is

pub file_last : (s name : List ℕ) (size : ℕ) → position is_newline s ≡ None → file name size ≡ line_meant s → (n : ℕ) → first_line_fault n s ≡ Some (Short n)
file_last s name size h is = λ n. fault_at_end s (file name size) n h is

pub bad_line : (s : List ℕ) (end : ℕ) (wrong : Wrong) → position is_newline s ≡ Some end → bad (wrong_fault wrong) ≡ line_meant (take end s) → (n : ℕ) → first_line_fault n s ≡ Some (wrong_fault wrong n)
bad_line s end wrong h is = λ n. fault_before s end (bad (wrong_fault wrong)) n h is

cut_short : (m n size : ℕ) → m ≡ n → n < size → nat_lt m size ≡ true
cut_short m n size e h = grind (arith)

-- a content that is cut short
pub short_content : (s name : List ℕ) (end size : ℕ) → position is_newline s ≡ Some end → file name size ≡ line_meant (take end s) → length s - (end + 1) < size → (n : ℕ) → first_line_fault n s ≡ Some (Short n)
short_content s name end size h is short = λ n.
    fault_before s end (file name size) n h is
    ∙ (let lt = cut_short (length (drop (end + 1) s)) (length s - (end + 1)) size (length-drop (end + 1) s) short in rw lt refl)

-- ---- lines that read

-- a line that is no file's and reads has no content, and may end a message
pub bare : (m : Meaning) → ((name : List ℕ) (size : ℕ) → m ≡ File name size → ⊥) → ((wrong : Wrong) → m ≡ Bad wrong → ⊥) → ContentFits (line_of m) [] × MayEnd (line_of m)
bare Blank f g = (refl, tt)
bare (Login user nonce signature) f g = (refl, tt)
bare (Push server project) f g = (refl, tt)
bare (Pull server project) f g = (refl, tt)
bare (Clone from) f g = (refl, tt)
bare (CloneSeqno next) f g = (refl, tt)
bare (File name size) f g = absurd (f name size refl)
bare Private f g = (refl, tt)
bare (Igot name private) f g = (refl, tt)
bare (Gimme name) f g = (refl, tt)
bare (Error text) f g = (refl, tt)
bare (Message text) f g = (refl, tt)
bare SendPrivate f g = (refl, tt)
bare (Bad wrong) f g = absurd (g wrong refl)

pub last_reads : (s : List ℕ) (m : Meaning) → position is_newline s ≡ None → line_of m ≡ line_meant s → MayEnd (line_of m) → IsLastLine s × (line_meant s ≡ line_of m)
last_reads s m h is ends = (record { one_line = no_newline s h; ends = subst MayEnd is ends }, sym is)

-- a line with its content
line_reads : (s : List ℕ) (end to : ℕ) (m : Meaning) → position is_newline s ≡ Some end → line_of m ≡ line_meant (take end s) → end + 1 ≤ to → to ≤ length s
    → ContentFits (line_of m) (slice_range s (end + 1) to) → IsLineFront s m (end + 1) to
line_reads s end to m h is forward inside fits =
    let cut = at_newline s end h in
    let n : end + 1 + (to - (end + 1)) ≡ to = omega (arith, forward) in
    record {
      line = take end s;
      part = record { one_line = cut.line; content = subst (λ (l : Line). ContentFits l (slice_range s (end + 1) to)) is fits };
      meant = sym is;
      forward = forward;
      inside = inside;
      whole = cut.whole;
      behind =
          sym (take-append-drop (to - (end + 1)) (drop (end + 1) s))
          ∙ ap (λ (r : List ℕ). slice_range s (end + 1) to ++ r) (drop-drop (to - (end + 1)) (end + 1) s ∙ ap (λ (k : ℕ). drop k s) n);
    }

none_of : (s : List ℕ) (k : ℕ) → slice_range s k k ≡ []
none_of s k = let e : k - k ≡ 0 = omega arith in ap (λ (n : ℕ). take n (drop k s)) e

pub bare_line : (s : List ℕ) (end : ℕ) (m : Meaning) → position is_newline s ≡ Some end → line_of m ≡ line_meant (take end s) → ContentFits (line_of m) [] → IsLineFront s m (end + 1) (end + 1)
bare_line s end m h is fits =
    let cut = at_newline s end h in
    let within = cut.within in
    line_reads s end (end + 1) m h is (omega arith) (omega arith) (subst (ContentFits (line_of m)) (sym (none_of s (end + 1))) fits)

pub file_front : (s name : List ℕ) (end size : ℕ) → position is_newline s ≡ Some end → file name size ≡ line_meant (take end s) → size ≤ length s - (end + 1) → IsLineFront s (File name size) (end + 1) (end + 1 + size)
file_front s name end size h is room =
    let cut = at_newline s end h in
    let within = cut.within in
    let n : end + 1 + size - (end + 1) ≡ size = omega arith in
    let rest = length-drop (end + 1) s in
    let len : length (slice_range s (end + 1) (end + 1 + size)) ≡ size =
    ap (λ (k : ℕ). length (take k (drop (end + 1) s))) n ∙ length-take-le size (drop (end + 1) s) (omega (arith, rest)) in
    line_reads s end (end + 1 + size) (File name size) h is (omega arith) (omega arith) len
