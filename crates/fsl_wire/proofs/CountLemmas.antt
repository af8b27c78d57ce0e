-- On which line a card of a message stands.
use Rattle.std.proofs.Common.{◌≡◌, ℕ, ◌+◌, ◌-◌, ◌<◌, ◌≤◌, Bool, true, false, List, [], ◌∷◌, ◌++◌, length, map, take, drop, Some, refl, sym, ap, subst, ◌∙◌, arith, inl, inr}
use Rattle.std.specs.Prelude.{slice_range, slice_get}
use Rattle.std.proofs.lemmas.List.{append-nil, length-append, length-map}
use Rattle.fsl_name.specs.Name.{name_of}
use Rattle.fsl_wire.specs.declared.WireCard.{WireCard}
use Rattle.fsl_wire.specs.declared.WireCard.TheVariants as cards
use Rattle.fsl_wire.specs.declared.meaning.Wrong.{Wrong}
use Rattle.fsl_wire.specs.declared.meaning.Meaning.{Meaning}
use Rattle.fsl_wire.specs.Lines.{Line, blank, card, login, file, bad, line_meant}
use Rattle.fsl_wire.specs.Messages.{IsLastLine, numbered, line_cards, cards_from, first_line_fault, IsNumberedMessage, IsMessage, IsLineOf}
use Rattle.fsl_wire.specs.Meanings.{line_of, wrong_fault}
use Rattle.fsl_wire.specs.Fronts.{IsLineFront}
use Rattle.fsl_wire.specs.Reading.{IsReadTo}
use Rattle.fsl_wire.specs.Counts.{has_card, IsCountedTo}
use Rattle.fsl_wire.proofs.OneWay.{Found, find, reads_one_way}
use Rattle.fsl_wire.proofs.ReadLemmas.{start_read, line_read, end_read, fault_read}

-- the cards of a line
no_card : (l : Line) (n : ℕ) (content rest : List ℕ) → has_card l ≡ false → line_cards l n content rest ≡ []
no_card blank n content rest h = refl
no_card (card c) n content rest h = cc
no_card (login user nonce signature) n content rest h = cc
no_card (file name size) n content rest h = cc
no_card (bad fault) n content rest h = refl

one_card : (l : Line) (n : ℕ) (content rest : List ℕ) → has_card l ≡ true → (c : WireCard) × (line_cards l n content rest ≡ c ∷ [])
one_card blank n content rest h = cc
one_card (card c) n content rest h = (c, refl)
one_card (login user nonce signature) n content rest h = (cards.Login user nonce signature (name_of rest) n, refl)
one_card (file name size) n content rest h = (cards.File name content, refl)
one_card (bad fault) n content rest h = cc

-- the number of a card behind others
at_place : (done more : List (ℕ × WireCard)) (n : ℕ) (c : WireCard) → slice_get (map (λ (l : ℕ × WireCard). l.0) (done ++ (n, c) ∷ [] ++ more)) (length done) ≡ Some n
at_place [] more n c = refl
at_place (l ∷ done) more n c = at_place done more n c

le_self : (n : ℕ) → n ≤ n
le_self n = omega arith

pub start_count : (bytes : List ℕ) (left : ℕ) → IsCountedTo bytes 1 0 left left
start_count bytes left = record { done = []; read = start_read bytes; count = omega arith }

-- a line without a card
pub count_blank : (bytes rest : List ℕ) (n at next from to left place : ℕ) (m : Meaning) → IsCountedTo bytes n at left place → rest ≡ take (length bytes - at) (drop at bytes)
    → IsLineFront rest m from to → next ≡ at + to → has_card (line_of m) ≡ false → IsCountedTo bytes (n + 1) next left place
count_blank bytes rest n at next from to left place m d is f e h =
    let none = no_card (line_of m) n (slice_range rest from to) (drop from rest) h in
    let len = ap (λ (cs : List WireCard). length (d.done ++ numbered n cs)) none ∙ length-append d.done [] in
    let count = d.count in
    record {
      done = d.done ++ numbered n (line_cards (line_of m) n (slice_range rest from to) (drop from rest));
      read = line_read bytes rest n at next from to m d.done d.read is f e;
      count = omega (arith, len, count);
    }

-- a line with a card before the one that is looked for
pub count_card : (bytes rest : List ℕ) (n at next from to left now place : ℕ) (m : Meaning) → IsCountedTo bytes n at left place → rest ≡ take (length bytes - at) (drop at bytes)
    → IsLineFront rest m from to → next ≡ at + to → has_card (line_of m) ≡ true → now + 1 ≡ left → IsCountedTo bytes (n + 1) next now place
count_card bytes rest n at next from to left now place m d is f e h less =
    let one = one_card (line_of m) n (slice_range rest from to) (drop from rest) h in
    let len = ap (λ (cs : List WireCard). length (d.done ++ numbered n cs)) one.1 ∙ length-append d.done ((n, one.0) ∷ []) in
    let count = d.count in
    record {
      done = d.done ++ numbered n (line_cards (line_of m) n (slice_range rest from to) (drop from rest));
      read = line_read bytes rest n at next from to m d.done d.read is f e;
      count = omega (arith, len, count, less);
    }

-- the line of a card that was found
placed : (bytes : List ℕ) (n place : ℕ) (c : WireCard) (cs : List WireCard) (done more : List (ℕ × WireCard)) → cs ≡ c ∷ [] → length done ≡ place → IsNumberedMessage bytes (done ++ numbered n cs ++ more) → IsLineOf bytes place n
placed bytes n place c cs done more e len h =
    let lines = done ++ (n, c) ∷ [] ++ more in
    let message : IsNumberedMessage bytes lines = subst (λ (ds : List WireCard). IsNumberedMessage bytes (done ++ numbered n ds ++ more)) e h in
    (lines, message, subst (λ (k : ℕ). slice_get (map (λ (l : ℕ × WireCard). l.0) lines) k ≡ Some n) len (at_place done more n c))

module _ (bytes rest : List ℕ) (n at left place : ℕ) (d : IsCountedTo bytes n at left place) (is : rest ≡ take (length bytes - at) (drop at bytes)) (cs : List WireCard) (message : IsMessage bytes cs) where
  -- a line with a newline
  pub line_found : (m : Meaning) (from to : ℕ) → IsLineFront rest m from to → has_card (line_of m) ≡ true → left ≡ 0 → IsLineOf bytes place n
  line_found m from to f h none =
      let one = one_card (line_of m) n (slice_range rest from to) (drop from rest) h in
      let r = line_read bytes rest n at (at + to) from to m d.done d.read is f refl in
      let count = d.count in
      let len : length d.done ≡ place = omega (arith, count, none) in
      by_case one r len (find (length (drop (at + to) bytes)) (n + 1) (drop (at + to) bytes) (le_self (length (drop (at + to) bytes))))
    where
      by_case : (one : (c : WireCard) × (line_cards (line_of m) n (slice_range rest from to) (drop from rest) ≡ c ∷ [])) → IsReadTo bytes (n + 1) (at + to) (d.done ++ numbered n (line_cards (line_of m) n (slice_range rest from to) (drop from rest))) → length d.done ≡ place
          → Found (n + 1) (drop (at + to) bytes) → IsLineOf bytes place n
      by_case one r len (inl g) =
          placed bytes n place one.0 (line_cards (line_of m) n (slice_range rest from to) (drop from rest)) d.done (cards_from (n + 1) g.0 g.1) one.1 len
          (r.message (cards_from (n + 1) g.0 g.1) (g.0, g.1, g.2, g.3, g.4, refl))
      by_case one r len (inr g) =
          let at_fault : first_line_fault (length g.1 + (n + 1)) g.2 ≡ Some g.0 = subst (λ (k : ℕ). first_line_fault k g.2 ≡ Some g.0) (omega arith) g.5 in
          absurd (reads_one_way.not_both bytes cs g.0 message (r.fault g.0 (g.1, g.2, g.3, g.4, at_fault)))

  -- a last line
  pub last_found : (m : Meaning) → IsLastLine rest × (line_meant rest ≡ line_of m) → place < length cs → IsLineOf bytes place n
  last_found m last lt =
      by_card (has_card (line_of m)) refl
    where
      lines : IsNumberedMessage bytes (d.done ++ numbered n (line_cards (line_of m) n [] []))
      lines = end_read bytes rest n at m d.done d.read is last.0 last.1

      many : length cs ≡ length (d.done ++ numbered n (line_cards (line_of m) n [] []))
      many = ap length (reads_one_way.one_message bytes cs (map (λ (l : ℕ × WireCard). l.1) (d.done ++ numbered n (line_cards (line_of m) n [] []))) message (d.done ++ numbered n (line_cards (line_of m) n [] []), lines, refl)) ∙ length-map (d.done ++ numbered n (line_cards (line_of m) n [] [])) (λ (l : ℕ × WireCard). l.1)

      by_card : (b : Bool) → has_card (line_of m) ≡ b → IsLineOf bytes place n
      by_card true h =
          let one = one_card (line_of m) n [] [] h in
          let all = many ∙ ap (λ (ds : List WireCard). length (d.done ++ numbered n ds)) one.1 ∙ length-append d.done ((n, one.0) ∷ []) in
          let count = d.count in
          placed bytes n place one.0 (line_cards (line_of m) n [] []) d.done [] one.1 (omega (arith, all, count, lt)) (subst (IsNumberedMessage bytes) (sym (append-nil (d.done ++ numbered n (line_cards (line_of m) n [] [])))) lines)
      by_card false h =
          let all = many ∙ ap (λ (ds : List WireCard). length (d.done ++ numbered n ds)) (no_card (line_of m) n [] [] h) ∙ length-append d.done [] in
          let count = d.count in
          absurd (omega (arith, all, count, lt))

  -- there is no line that doesn't read
  pub none_found : (wrong : Wrong) → ((k : ℕ) → first_line_fault k rest ≡ Some (wrong_fault wrong k)) → IsLineOf bytes place n
  none_found wrong h = absurd (reads_one_way.not_both bytes cs (wrong_fault wrong n) message (fault_read bytes rest n at wrong d.done d.read is h))
