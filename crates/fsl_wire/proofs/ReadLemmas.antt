-- How a message is read line by line.
use Rattle.std.proofs.Common.{◌≡◌, ℕ, ◌+◌, ◌-◌, List, [], ◌∷◌, ◌++◌, length, map, take, drop, Some, refl, sym, ap, subst, ◌∙◌, arith, append_assoc}
use Rattle.std.specs.Prelude.{slice_range}
use Rattle.std.proofs.lemmas.List.{length-append, length-drop, take_rest, drop-drop, map-append}
use Rattle.fsl_wire.specs.declared.WireCard.{WireCard}
use Rattle.fsl_wire.specs.declared.WireFault.{WireFault}
use Rattle.fsl_wire.specs.declared.meaning.Wrong.{Wrong}
use Rattle.fsl_wire.specs.declared.meaning.Wrong.TheVariants.{Unknown, Args, Delta, Size, Short}
use Rattle.fsl_wire.specs.declared.meaning.Meaning.{Meaning}
use Rattle.fsl_wire.specs.Lines.{line_meant}
use Rattle.fsl_wire.specs.Messages.{Part, IsLastLine, parts_bytes, numbered, line_cards, first_line_fault, IsNumberedMessage, IsMessage, IsFirstFault, IsReadFault}
use Rattle.fsl_wire.specs.Meanings.{line_of, wrong_fault}
use Rattle.fsl_wire.specs.Fronts.{IsLineFront, IsMessageFrom, IsFaultFrom}
use Rattle.fsl_wire.specs.Reading.{IsReadTo, AreCardsTo}
use Rattle.fsl_wire.proofs.OneWay.{part_line, more_parts}

abbrev part_at : List ℕ → List ℕ → ℕ → ℕ → Part
part_at line rest from to = record { line = line; content = slice_range rest from to }

-- the bytes of a line and its content before other lines
split_more : (rest : List ℕ) (m : Meaning) (from to : ℕ) (parts : List Part) (last : List ℕ) (f : IsLineFront rest m from to) → drop to rest ≡ parts_bytes parts ++ last
    → rest ≡ parts_bytes (part_at f.line rest from to ∷ parts) ++ last
split_more rest m from to parts last f e =
    f.whole ∙ ap (λ (t : List ℕ). f.line ++ 10 ∷ t) (f.behind ∙ ap (λ (t : List ℕ). slice_range rest from to ++ t) e)
    ∙ sym (part_line (part_at f.line rest from to) (parts_bytes parts ++ last)) ∙ sym (more_parts (part_at f.line rest from to) parts last)

-- a line, and the cards of what follows
line_more : (n : ℕ) (rest : List ℕ) (m : Meaning) (from to : ℕ) (lines : List (ℕ × WireCard)) → IsLineFront rest m from to → IsMessageFrom (n + 1) (drop to rest) lines
    → IsMessageFrom n rest (numbered n (line_cards (line_of m) n (slice_range rest from to) (drop from rest)) ++ lines)
line_more n rest m from to lines f h =
    let tail : drop from rest ≡ slice_range rest from to ++ parts_bytes h.0 ++ h.1 =
    f.behind ∙ ap (λ (t : List ℕ). slice_range rest from to ++ t) h.2 ∙ sym (append_assoc (slice_range rest from to) (parts_bytes h.0) h.1) in (
      part_at f.line rest from to ∷ h.0,
      h.1,
      split_more rest m from to h.0 h.1 f h.2,
      (f.part, h.3),
      h.4,
      λ i. numbered n (line_cards (sym f.meant i) n (slice_range rest from to) (tail i)) ++ h.5 i,
    )

last_more : (n : ℕ) (rest : List ℕ) (m : Meaning) → IsLastLine rest → line_meant rest ≡ line_of m → IsMessageFrom n rest (numbered n (line_cards (line_of m) n [] []))
last_more n rest m h e = ([], rest, refl, tt, h, λ i. numbered n (line_cards (sym e i) n [] []))

-- a line, and the fault of what follows
fault_more : (n : ℕ) (rest : List ℕ) (m : Meaning) (from to : ℕ) (fault : WireFault) → IsLineFront rest m from to → IsFaultFrom (n + 1) (drop to rest) fault → IsFaultFrom n rest fault
fault_more n rest m from to fault f h =
    let e : length h.0 + (n + 1) ≡ length (part_at f.line rest from to ∷ h.0) + n = omega arith in (
      part_at f.line rest from to ∷ h.0,
      h.1,
      split_more rest m from to h.0 h.1 f h.2,
      (f.part, h.3),
      subst (λ (k : ℕ). first_line_fault k h.1 ≡ Some fault) e h.4,
    )

fault_here : (n : ℕ) (rest : List ℕ) (wrong : Wrong) → ((k : ℕ) → first_line_fault k rest ≡ Some (wrong_fault wrong k)) → IsFaultFrom n rest (wrong_fault wrong n)
fault_here n rest wrong h =
    let e : n ≡ 0 + n = omega arith in
    ([], rest, refl, tt, subst (λ (k : ℕ). first_line_fault k rest ≡ Some (wrong_fault wrong n)) e (h n))

-- ---- a message that was read up to a place

pub start_read : (bytes : List ℕ) → IsReadTo bytes 1 0 []
start_read bytes = record { message = λ lines h. h; fault = λ fault h. h; within = omega arith; room = omega arith }

pub line_read : (bytes rest : List ℕ) (n at next from to : ℕ) (m : Meaning) (done : List (ℕ × WireCard)) → IsReadTo bytes n at done → rest ≡ take (length bytes - at) (drop at bytes)
    → IsLineFront rest m from to → next ≡ at + to → IsReadTo bytes (n + 1) next (done ++ numbered n (line_cards (line_of m) n (slice_range rest from to) (drop from rest)))
line_read bytes rest n at next from to m done r is f e =
    let here : rest ≡ drop at bytes = is ∙ take_rest bytes at in
    let behind : drop to rest ≡ drop next bytes = ap (λ (t : List ℕ). drop to t) here ∙ drop-drop to at bytes ∙ ap (λ (k : ℕ). drop k bytes) (sym e) in
    let new = numbered n (line_cards (line_of m) n (slice_range rest from to) (drop from rest)) in
    let len = ap length here ∙ length-drop at bytes in
    let whole = ap length f.whole ∙ length-append f.line (10 ∷ drop from rest) in
    let tail = length-drop from rest in
    let forward = f.forward in
    let inside = f.inside in
    let within = r.within in
    let room = r.room in
    record {
      message = λ lines h.
          subst (IsNumberedMessage bytes) (sym (append_assoc done new lines))
          (r.message (new ++ lines) (subst (λ (t : List ℕ). IsMessageFrom n t (new ++ lines)) here (line_more n rest m from to lines f (subst (λ (t : List ℕ). IsMessageFrom (n + 1) t lines) (sym behind) h))));
      fault = λ fault h.
          r.fault fault (subst (λ (t : List ℕ). IsFaultFrom n t fault) here (fault_more n rest m from to fault f (subst (λ (t : List ℕ). IsFaultFrom (n + 1) t fault) (sym behind) h)));
      within = omega (arith, len, inside, within, e);
      room = omega (arith, whole, tail, forward, inside, room, e);
    }

-- the whole message, where its last line is reached
pub end_read : (bytes rest : List ℕ) (n at : ℕ) (m : Meaning) (done : List (ℕ × WireCard)) → IsReadTo bytes n at done → rest ≡ take (length bytes - at) (drop at bytes)
    → IsLastLine rest → line_meant rest ≡ line_of m → IsNumberedMessage bytes (done ++ numbered n (line_cards (line_of m) n [] []))
end_read bytes rest n at m done r is last e =
    let here : rest ≡ drop at bytes = is ∙ take_rest bytes at in
    let new = numbered n (line_cards (line_of m) n [] []) in
    r.message new (subst (λ (t : List ℕ). IsMessageFrom n t new) here (last_more n rest m last e))

-- the first fault, where a line doesn't read
pub fault_read : (bytes rest : List ℕ) (n at : ℕ) (wrong : Wrong) (done : List (ℕ × WireCard)) → IsReadTo bytes n at done → rest ≡ take (length bytes - at) (drop at bytes)
    → ((k : ℕ) → first_line_fault k rest ≡ Some (wrong_fault wrong k)) → IsFirstFault bytes (wrong_fault wrong n)
fault_read bytes rest n at wrong done r is h =
    let here : rest ≡ drop at bytes = is ∙ take_rest bytes at in
    r.fault (wrong_fault wrong n) (subst (λ (t : List ℕ). IsFaultFrom n t (wrong_fault wrong n)) here (fault_here n rest wrong h))

-- ---- the cards of a message that was read up to a place

plain : (n : ℕ) (cs : List WireCard) → map (λ (l : ℕ × WireCard). l.1) (numbered n cs) ≡ cs
plain n [] = refl
plain n (c ∷ cs) = ap (λ (ds : List WireCard). c ∷ ds) (plain n cs)

abbrev cards_of : List (ℕ × WireCard) → List WireCard
cards_of lines = map (λ l. l.1) lines

cards_added : (n : ℕ) (more old new : List WireCard) (done : List (ℕ × WireCard)) → old ≡ cards_of done → new ≡ old ++ more → new ≡ cards_of (done ++ numbered n more)
cards_added n more old new done same is =
    let added = sym (plain n more) in
    is ∙ (λ i. same i ++ added i) ∙ sym (map-append (λ (l : ℕ × WireCard). l.1) done (numbered n more))

pub no_cards : (bytes : List ℕ) (cards : List WireCard) → cards ≡ [] → AreCardsTo bytes 1 0 cards
no_cards bytes cards e = record { done = []; read = start_read bytes; same = e }

pub cards_more : (bytes rest behind : List ℕ) (n at next from to : ℕ) (m : Meaning) (old new : List WireCard) → AreCardsTo bytes n at old → rest ≡ take (length bytes - at) (drop at bytes)
    → behind ≡ take (length rest - from) (drop from rest) → IsLineFront rest m from to → next ≡ at + to
    → new ≡ old ++ line_cards (line_of m) n (slice_range rest from to) behind → AreCardsTo bytes (n + 1) next new
cards_more bytes rest behind n at next from to m old new d is tail f e added =
    let more = line_cards (line_of m) n (slice_range rest from to) (drop from rest) in
    let same : line_cards (line_of m) n (slice_range rest from to) behind ≡ more =
    ap (λ (t : List ℕ). line_cards (line_of m) n (slice_range rest from to) t) (tail ∙ take_rest rest from) in
    record {
      done = d.done ++ numbered n more;
      read = line_read bytes rest n at next from to m d.done d.read is f e;
      same = cards_added n more old new d.done d.same (added ∙ ap (λ (cs : List WireCard). old ++ cs) same);
    }

pub cards_end : (bytes rest : List ℕ) (n at : ℕ) (m : Meaning) (old new : List WireCard) → AreCardsTo bytes n at old → rest ≡ take (length bytes - at) (drop at bytes)
    → IsLastLine rest × (line_meant rest ≡ line_of m) → new ≡ old ++ line_cards (line_of m) n [] [] → IsMessage bytes new
cards_end bytes rest n at m old new d is last added = (
  d.done ++ numbered n (line_cards (line_of m) n [] []),
  end_read bytes rest n at m d.done d.read is last.0 last.1,
  cards_added n (line_cards (line_of m) n [] []) old new d.done d.same added,
)

wrong_read : (bytes : List ℕ) (n : ℕ) (wrong : Wrong) → IsFirstFault bytes (wrong_fault wrong n) → IsReadFault bytes (wrong_fault wrong n)
wrong_read bytes n Unknown h = h
wrong_read bytes n Args h = h
wrong_read bytes n Delta h = h
wrong_read bytes n Size h = h
wrong_read bytes n Short h = h

pub cards_fault : (bytes rest : List ℕ) (n at : ℕ) (wrong : Wrong) (cards : List WireCard) → AreCardsTo bytes n at cards → rest ≡ take (length bytes - at) (drop at bytes)
    → ((k : ℕ) → first_line_fault k rest ≡ Some (wrong_fault wrong k)) → IsReadFault bytes (wrong_fault wrong n)
cards_fault bytes rest n at wrong cards d is h = wrong_read bytes n wrong (fault_read bytes rest n at wrong d.done d.read is h)
