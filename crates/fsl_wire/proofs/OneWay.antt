-- Bytes are one message, or have one first fault, and not both.
use Rattle.std.proofs.Common.{◌≡◌, ℕ, zero, suc, ◌+◌, ◌≤◌, Bool, true, false, ltb, List, [], ◌∷◌, ◌++◌, length, take, drop, map, Option, Some, None, refl, sym, ap, subst, ◌∙◌, append_assoc, arith, inl, inr}
use Rattle.std.specs.Prelude.{◌⊎◌, not}
use Rattle.std.specs.List.{AllByRecursion}
use Rattle.std.proofs.lemmas.List.{take_at, drop_at, length-append, take-append-drop, length-take, length-drop}
use Rattle.std.proofs.lemmas.Bool.{ltb-false}
use Rattle.fsl_text.specs.Lines.{has_newline, first_line}
use Rattle.fsl_text.proofs.FirstLines.{first_line_at, first_line_none, IsSplit, split_at_line}
use Rattle.fsl_wire.specs.declared.WireCard.{WireCard}
use Rattle.fsl_wire.specs.declared.WireFault.{WireFault}
use Rattle.fsl_wire.specs.declared.WireFault.TheVariants.{Short}
use Rattle.fsl_wire.specs.Lines.{Line, blank, card, login, file, bad, line_meant}
use Rattle.fsl_wire.specs.Messages.{Part, part_bytes, parts_bytes, ContentFits, IsPart, MayEnd, IsLastLine, cards_from, IsNumberedMessage, IsMessage, line_fault, split_fault, first_line_fault, IsFirstFault, ReadsOneWay}

abbrev Split : Type 0
Split = List ℕ × List ℕ

abbrev some_split : Split → Option Split
some_split s = Some s

split_is : (a b : Split) → some_split a ≡ some_split b → a ≡ b
split_is a b e = cc

-- the bytes of a part before others, as its line and what follows that
pub part_line : (p : Part) (rest : List ℕ) → part_bytes p ++ rest ≡ p.line ++ 10 ∷ (p.content ++ rest)
part_line p rest = append_assoc p.line (10 ∷ p.content) rest

part_first : (p : Part) (rest : List ℕ) → IsPart p → first_line (part_bytes p ++ rest) ≡ Some (p.line, p.content ++ rest)
part_first p rest h = ap first_line (part_line p rest) ∙ first_line_at p.line (p.content ++ rest) h.one_line

-- ---- a part and what follows it are known from the bytes

-- contents of one line before the same bytes are the same
same_content : (l : Line) (a b x y : List ℕ) → ContentFits l a → ContentFits l b → a ++ x ≡ b ++ y → (a ≡ b) × (x ≡ y)
same_content blank a b x y h k e = (h ∙ sym k, let f : x ≡ a ++ x = ap (λ (t : List ℕ). t ++ x) (sym h) in let g : b ++ y ≡ y = ap (λ (t : List ℕ). t ++ y) k in f ∙ e ∙ g)
same_content (card c) a b x y h k e = (h ∙ sym k, let f : x ≡ a ++ x = ap (λ (t : List ℕ). t ++ x) (sym h) in let g : b ++ y ≡ y = ap (λ (t : List ℕ). t ++ y) k in f ∙ e ∙ g)
same_content (login u n s) a b x y h k e = (h ∙ sym k, let f : x ≡ a ++ x = ap (λ (t : List ℕ). t ++ x) (sym h) in let g : b ++ y ≡ y = ap (λ (t : List ℕ). t ++ y) k in f ∙ e ∙ g)
same_content (file name size) a b x y h k e = (
  sym (take_at a x size h) ∙ ap (λ (t : List ℕ). take size t) e ∙ take_at b y size k,
  sym (drop_at a x size h) ∙ ap (λ (t : List ℕ). drop size t) e ∙ drop_at b y size k,
)
same_content (bad fault) a b x y h k e = absurd h

part_is : (p q : Part) → p.line ≡ q.line → p.content ≡ q.content → p ≡ q
part_is p q e f = λ i. record { line = e i; content = f i }

same_part : (p q : Part) (x y : List ℕ) → IsPart p → IsPart q → part_bytes p ++ x ≡ part_bytes q ++ y → (p ≡ q) × (x ≡ y)
same_part p q x y h k e =
    let s : (p.line, p.content ++ x) ≡ (q.line, q.content ++ y) = split_is (p.line, p.content ++ x) (q.line, q.content ++ y) (sym (part_first p x h) ∙ ap first_line e ∙ part_first q y k) in
    let line : p.line ≡ q.line = ap (λ (t : Split). t.0) s in
    let rest : p.content ++ x ≡ q.content ++ y = ap (λ (t : Split). t.1) s in
    let fits : ContentFits (line_meant p.line) q.content = subst (λ (l : List ℕ). ContentFits (line_meant l) q.content) (sym line) k.content in
    let both = same_content (line_meant p.line) p.content q.content x y h.content fits rest in
    (part_is p q line both.0, both.1)

-- a last line has no newline, and a part has one
not_last : (p : Part) (rest last : List ℕ) → IsPart p → IsLastLine last → part_bytes p ++ rest ≡ last → ⊥
not_last p rest last h k e =
    let s = sym (part_first p rest h) ∙ ap first_line e ∙ first_line_none last k.one_line in cc

-- ---- lines that read have no fault

no_fault_with : (l : Line) (n : ℕ) (content rest : List ℕ) → ContentFits l content → line_fault l n (Some (content ++ rest)) ≡ None
no_fault_with blank n content rest h = refl
no_fault_with (card c) n content rest h = refl
no_fault_with (login u m s) n content rest h = refl
no_fault_with (file name size) n content rest h =
    let long : ltb (length (content ++ rest)) size ≡ false = grind (arith, length-append content rest, h) in rw long refl
no_fault_with (bad fault) n content rest h = absurd h

no_fault_at_end : (l : Line) (n : ℕ) → MayEnd l → line_fault l n None ≡ None
no_fault_at_end blank n h = refl
no_fault_at_end (card c) n h = refl
no_fault_at_end (login u m s) n h = refl
no_fault_at_end (file name size) n h = absurd h
no_fault_at_end (bad fault) n h = absurd h

part_no_fault : (p : Part) (rest : List ℕ) (n : ℕ) → IsPart p → first_line_fault n (part_bytes p ++ rest) ≡ None
part_no_fault p rest n h =
    ap (split_fault n (part_bytes p ++ rest)) (part_first p rest h) ∙ no_fault_with (line_meant p.line) n p.content rest h.content

last_no_fault : (last : List ℕ) (n : ℕ) → IsLastLine last → first_line_fault n last ≡ None
last_no_fault last n h = ap (split_fault n last) (first_line_none last h.one_line) ∙ no_fault_at_end (line_meant last) n h.ends

-- ---- one division into lines

pub more_parts : (p : Part) (parts : List Part) (rest : List ℕ) → parts_bytes (p ∷ parts) ++ rest ≡ part_bytes p ++ (parts_bytes parts ++ rest)
more_parts p parts rest = append_assoc (part_bytes p) (parts_bytes parts) rest

same_message : (ps qs : List Part) (l m : List ℕ) → AllByRecursion IsPart ps → AllByRecursion IsPart qs → IsLastLine l → IsLastLine m → parts_bytes ps ++ l ≡ parts_bytes qs ++ m → (ps ≡ qs) × (l ≡ m)
same_message [] [] l m h k hl hm e = (refl, e)
same_message [] (q ∷ qs) l m h k hl hm e = absurd (not_last q (parts_bytes qs ++ m) l k.0 hl (sym (e ∙ more_parts q qs m)))
same_message (p ∷ ps) [] l m h k hl hm e = absurd (not_last p (parts_bytes ps ++ l) m h.0 hm (sym (more_parts p ps l) ∙ e))
same_message (p ∷ ps) (q ∷ qs) l m h k hl hm e =
    let first = same_part p q (parts_bytes ps ++ l) (parts_bytes qs ++ m) h.0 k.0 (sym (more_parts p ps l) ∙ e ∙ more_parts q qs m) in
    let more = same_message ps qs l m h.1 k.1 hl hm first.1 in
    ((λ i. first.0 i ∷ more.0 i), more.1)

-- a line that doesn't read stands in one place
same_fault : (ps qs : List Part) (x y : List ℕ) (m n : ℕ) (f g : WireFault) → AllByRecursion IsPart ps → AllByRecursion IsPart qs → first_line_fault (m + length ps) x ≡ Some f → first_line_fault (m + length qs) y ≡ Some g → parts_bytes ps ++ x ≡ parts_bytes qs ++ y → f ≡ g
same_fault [] [] x y m n f g h k hf hg e = let s = sym hf ∙ ap (first_line_fault (m + 0)) e ∙ hg in cc
same_fault [] (q ∷ qs) x y m n f g h k hf hg e =
    absurd (let s = sym hf ∙ ap (first_line_fault (m + 0)) (e ∙ more_parts q qs y) ∙ part_no_fault q (parts_bytes qs ++ y) (m + 0) k.0 in cc)
same_fault (p ∷ ps) [] x y m n f g h k hf hg e =
    absurd (let s = sym hg ∙ ap (first_line_fault (m + 0)) (sym e ∙ more_parts p ps x) ∙ part_no_fault p (parts_bytes ps ++ x) (m + 0) h.0 in cc)
same_fault (p ∷ ps) (q ∷ qs) x y m n f g h k hf hg e =
    let first = same_part p q (parts_bytes ps ++ x) (parts_bytes qs ++ y) h.0 k.0 (sym (more_parts p ps x) ∙ e ∙ more_parts q qs y) in
    let at_p : first_line_fault ((m + 1) + length ps) x ≡ Some f = subst (λ (t : ℕ). first_line_fault t x ≡ Some f) (omega arith) hf in
    let at_q : first_line_fault ((m + 1) + length qs) y ≡ Some g = subst (λ (t : ℕ). first_line_fault t y ≡ Some g) (omega arith) hg in
    same_fault ps qs x y (m + 1) n f g h.1 k.1 at_p at_q first.1

-- a message has no line that doesn't read
pub no_fault_in_message : (ps qs : List Part) (l y : List ℕ) (m : ℕ) (g : WireFault) → AllByRecursion IsPart ps → AllByRecursion IsPart qs → IsLastLine l → first_line_fault m y ≡ Some g → parts_bytes ps ++ l ≡ parts_bytes qs ++ y → ⊥
no_fault_in_message [] [] l y m g h k hl hg e = let s = sym hg ∙ ap (first_line_fault m) (sym e) ∙ last_no_fault l m hl in cc
no_fault_in_message [] (q ∷ qs) l y m g h k hl hg e = not_last q (parts_bytes qs ++ y) l k.0 hl (sym (e ∙ more_parts q qs y))
no_fault_in_message (p ∷ ps) [] l y m g h k hl hg e =
    let s = sym hg ∙ ap (first_line_fault m) (sym e ∙ more_parts p ps l) ∙ part_no_fault p (parts_bytes ps ++ l) m h.0 in cc
no_fault_in_message (p ∷ ps) (q ∷ qs) l y m g h k hl hg e =
    let first = same_part p q (parts_bytes ps ++ l) (parts_bytes qs ++ y) h.0 k.0 (sym (more_parts p ps l) ∙ e ∙ more_parts q qs y) in
    no_fault_in_message ps qs l y m g h.1 k.1 hl hg first.1

-- ---- there is a message or a fault

-- lines that read up to the end, or up to one that doesn't; m is the number of the first line
abbrev pub Ends : List ℕ → Type 0
Ends bytes = (parts : List Part) × (last : List ℕ) × (bytes ≡ parts_bytes parts ++ last) × AllByRecursion IsPart parts × IsLastLine last

abbrev pub Fails : ℕ → List ℕ → Type 0
Fails m bytes = (fault : WireFault) × (parts : List Part) × (rest : List ℕ) × (bytes ≡ parts_bytes parts ++ rest) × AllByRecursion IsPart parts × (first_line_fault (m + length parts) rest ≡ Some fault)

abbrev pub Found : ℕ → List ℕ → Type 0
Found m bytes = Ends bytes ⊎ Fails m bytes

-- the same behind a part
behind : (p : Part) (rest : List ℕ) (m : ℕ) → IsPart p → Found (m + 1) rest → Found m (part_bytes p ++ rest)
behind p rest m h (inl f) = inl (p ∷ f.0, f.1, ap (λ (t : List ℕ). part_bytes p ++ t) f.2 ∙ sym (more_parts p f.0 f.1), (h, f.3), f.4)
behind p rest m h (inr f) =
    let at : first_line_fault (m + length (p ∷ f.1)) f.2 ≡ Some f.0 = subst (λ (t : ℕ). first_line_fault t f.2 ≡ Some f.0) (omega arith) f.5 in
    inr (f.0, p ∷ f.1, f.2, ap (λ (t : List ℕ). part_bytes p ++ t) f.3 ∙ sym (more_parts p f.1 f.2), (h, f.4), at)

-- bytes whose first line has this fault
fails_here : (m : ℕ) (bytes : List ℕ) (fault : WireFault) → first_line_fault (m + 0) bytes ≡ Some fault → Found m bytes
fails_here m bytes fault e = inr (fault, [], bytes, refl, tt, e)

-- bytes without a newline
at_end : (m : ℕ) (bytes : List ℕ) (l : Line) → line_meant bytes ≡ l → first_line bytes ≡ None → not (has_newline bytes) ≡ true → Found m bytes
at_end m bytes blank e f h = inl ([], bytes, refl, tt, record { one_line = h; ends = subst MayEnd (sym e) tt })
at_end m bytes (card c) e f h = inl ([], bytes, refl, tt, record { one_line = h; ends = subst MayEnd (sym e) tt })
at_end m bytes (login u n s) e f h = inl ([], bytes, refl, tt, record { one_line = h; ends = subst MayEnd (sym e) tt })
at_end m bytes (file name size) e f h =
    fails_here m bytes (Short (m + 0)) (ap (split_fault (m + 0) bytes) f ∙ ap (λ (l : Line). line_fault l (m + 0) None) e)
at_end m bytes (bad fault) e f h =
    fails_here m bytes (fault (m + 0)) (ap (split_fault (m + 0) bytes) f ∙ ap (λ (l : Line). line_fault l (m + 0) None) e)

-- bytes with a first line, where whatever is shorter is found
module _ (m : ℕ) (line rest : List ℕ) (f : first_line (line ++ 10 ∷ rest) ≡ Some (line, rest)) (h : not (has_newline line) ≡ true) (shorter : (n : ℕ) → Found (m + 1) (drop n rest)) where
  here : (l : Line) → line_meant line ≡ l → (fault : WireFault) → line_fault l (m + 0) (Some rest) ≡ Some fault → Found m (line ++ 10 ∷ rest)
  here l e fault g =
      fails_here m (line ++ 10 ∷ rest) fault (ap (split_fault (m + 0) (line ++ 10 ∷ rest)) f ∙ ap (λ (l : Line). line_fault l (m + 0) (Some rest)) e ∙ g)

  with_content : (n : ℕ) → ContentFits (line_meant line) (take n rest) → Found m (line ++ 10 ∷ rest)
  with_content n fits =
      let p : Part = record { line = line; content = take n rest } in
      let same : part_bytes p ++ drop n rest ≡ line ++ 10 ∷ rest = part_line p (drop n rest) ∙ ap (λ (t : List ℕ). line ++ 10 ∷ t) (take-append-drop n rest) in
      subst (λ (t : List ℕ). Found m t) same (behind p (drop n rest) m (record { one_line = h; content = fits }) (shorter n))

  sized : (name : List ℕ) (size : ℕ) (t : Bool) → line_meant line ≡ file name size → ltb (length rest) size ≡ t → Found m (line ++ 10 ∷ rest)
  sized name size true e lt = here (file name size) e (Short (m + 0)) (rw lt refl)
  sized name size false e lt =
      let le : size ≤ length rest = ltb-false (length rest) size lt in
      with_content size (subst (λ (l : Line). ContentFits l (take size rest)) (sym e) (grind (arith, length-take size rest, le)))

  at_line : (l : Line) → line_meant line ≡ l → Found m (line ++ 10 ∷ rest)
  at_line blank e = with_content 0 (subst (λ (l : Line). ContentFits l (take 0 rest)) (sym e) refl)
  at_line (card c) e = with_content 0 (subst (λ (l : Line). ContentFits l (take 0 rest)) (sym e) refl)
  at_line (login u n s) e = with_content 0 (subst (λ (l : Line). ContentFits l (take 0 rest)) (sym e) refl)
  at_line (file name size) e = sized name size (ltb (length rest) size) e refl
  at_line (bad fault) e = here (bad fault) e (fault (m + 0)) refl

by_split : (k m : ℕ) (bytes : List ℕ) (o : Option Split) → first_line bytes ≡ o → IsSplit bytes o → length bytes ≤ suc k → ((n : ℕ) (t : List ℕ) → length t ≤ k → Found n t) → Found m bytes
by_split k m bytes None e s le shorter = at_end m bytes (line_meant bytes) refl e s
by_split k m bytes (Some split) e s le shorter =
    let f : first_line (split.0 ++ 10 ∷ split.1) ≡ Some (split.0, split.1) = sym (ap first_line s.1) ∙ e in
    let whole : length bytes ≡ length (split.0) + suc (length (split.1)) = ap length s.1 ∙ length-append (split.0) (10 ∷ split.1) in
    subst (λ (t : List ℕ). Found m t) (sym s.1)
    (at_line m (split.0) (split.1) f s.0 (λ n. shorter (m + 1) (drop n (split.1)) (omega (arith, whole, le, length-drop n (split.1)))) (line_meant (split.0)) refl)

pub find : (k m : ℕ) (bytes : List ℕ) → length bytes ≤ k → Found m bytes
find zero m [] le = at_end m [] (line_meant []) refl refl refl
find zero m (b ∷ bytes) le = absurd (omega arith)
find (suc k) m bytes le = by_split k m bytes (first_line bytes) refl (split_at_line bytes) le (find k)

-- ---- the law

le_self : (n : ℕ) → n ≤ n
le_self n = omega arith

some_way : (bytes : List ℕ) → Found 1 bytes → ((cards : List WireCard) × IsMessage bytes cards) ⊎ ((fault : WireFault) × IsFirstFault bytes fault)
some_way bytes (inl f) = inl (map (λ l. l.1) (cards_from 1 f.0 f.1), (cards_from 1 f.0 f.1, (f.0, f.1, f.2, f.3, f.4, refl), refl))
some_way bytes (inr f) =
    let at : first_line_fault (length f.1 + 1) f.2 ≡ Some f.0 = subst (λ (t : ℕ). first_line_fault t f.2 ≡ Some f.0) (omega arith) f.5 in
    inr (f.0, (f.1, f.2, f.3, f.4, at))

pub one_numbered : (bytes : List ℕ) (a b : List (ℕ × WireCard)) → IsNumberedMessage bytes a → IsNumberedMessage bytes b → a ≡ b
one_numbered bytes a b h k =
    let same = same_message h.0 k.0 h.1 k.1 h.3 k.3 h.4 k.4 (sym h.2 ∙ k.2) in
    h.5 ∙ (λ i. cards_from 1 (same.0 i) (same.1 i)) ∙ sym k.5

pub reads_one_way : ReadsOneWay
reads_one_way =
    record {
      some = λ bytes. some_way bytes (find (length bytes) 1 bytes (le_self (length bytes)));
      one_message = λ bytes a b h k. h.2 ∙ ap (map (λ (l : ℕ × WireCard). l.1)) (one_numbered bytes h.0 k.0 h.1 k.1) ∙ sym k.2;
      one_numbering = one_numbered;
      one_fault = λ bytes a b h k.
          let at_a : first_line_fault (1 + length h.0) h.1 ≡ Some a = subst (λ (t : ℕ). first_line_fault t h.1 ≡ Some a) (omega arith) h.4 in
          let at_b : first_line_fault (1 + length k.0) k.1 ≡ Some b = subst (λ (t : ℕ). first_line_fault t k.1 ≡ Some b) (omega arith) k.4 in
          same_fault h.0 k.0 h.1 k.1 1 1 a b h.3 k.3 at_a at_b (sym h.2 ∙ k.2);
      not_both = λ bytes cards fault h k.
          no_fault_in_message h.1.0 k.0 h.1.1 k.1 (length k.0 + 1) fault h.1.3 k.3 h.1.4 k.4 (sym h.1.2 ∙ k.2);
    }
