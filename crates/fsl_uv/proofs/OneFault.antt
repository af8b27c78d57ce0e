-- A message fails in one way.
use Rattle.std.proofs.Common.{◌≡◌, ℕ, ◌+◌, List, [], ◌∷◌, ◌++◌, length, length-append, drop, option_map, Option, Some, None, refl, sym, ap, ◌∙◌, subst, append_assoc, arith}
use Rattle.std.specs.Prelude.{◌≢◌, is_some, true, false}
use Rattle.std.specs.List.{AllByRecursion}
use Rattle.fsl_name.specs.Name.{name_of}
use Rattle.fsl_uv.specs.declared.Card.{Card}
use Rattle.fsl_uv.specs.declared.Card.TheVariants as card_is
use Rattle.fsl_uv.specs.declared.UvMessageFault.{UvMessageFault}
use Rattle.fsl_uv.specs.declared.UvMessageFault.TheVariants as message_fault
use Rattle.fsl_uv.specs.declared.heads.Head.TheVariants as head_is
use Rattle.fsl_uv.specs.declared.heads.Stamped.{Stamped}
use Rattle.fsl_uv.specs.Entries.{content}
use Rattle.fsl_uv.specs.Cards.{IsCard, card_text, message_text, IsMisnamed, IsMessage, IsBadLine, IsWrongName}
use Rattle.fsl_uv.specs.Reading.{IsStamped, head_text}
use Rattle.fsl_uv.specs.Refusals.{FailsBy, MessagesFailOneWay}
use Rattle.fsl_uv.proofs.FrontLemmas.{stamped_of, head_of, tail_of, third, file-is, head-good, head-line, one-stamped, card-line, misnamed-line}
use Rattle.fsl_uv.proofs.OneWay.{split, one-card, some-text}

-- bytes that begin with no card, and there are some
record Stops (rest : List ℕ) : Type 0 where
  some : rest ≢ []
  card : (c : Card) (more : List ℕ) → IsCard c → rest ≢ card_text c ++ more

-- ---- a file of another name is no card

abbrev head_in : (rest kept found : List ℕ) → IsMisnamed rest kept found → Stamped
head_in rest kept found m = record { path = m.0; moment = m.1; hash = Some kept; size = length m.2 }

good-head : (rest kept found : List ℕ) (m : IsMisnamed rest kept found) → IsStamped (head_in rest kept found m)
good-head rest kept found m = record { path = m.4; moment = m.5; sized = (m.6, m.7) }

-- its line, and what stands behind it
by-line : (rest kept found : List ℕ) (m : IsMisnamed rest kept found) → rest ≡ head_text (head_is.File (head_in rest kept found m)) ++ 10 ∷ ((m.2 ++ 10 ∷ []) ++ m.3)
by-line rest kept found m =
    m.8 ∙ ap (λ (t : List ℕ). t ++ m.3) (file-is m.0 m.1 (Some kept) m.2)
    ∙ append_assoc (head_text (head_is.File (head_in rest kept found m))) (10 ∷ (m.2 ++ (10 ∷ []))) m.3

-- a name that is a content's
same-name : (kept : List ℕ) (bytes : Option (List ℕ)) (held : List ℕ) → Some kept ≡ option_map name_of bytes → held ≡ content bytes → kept ≡ name_of held
same-name kept None held named is = absurd (let x : true ≡ false = ap is_some named in cc)
same-name kept (Some b) held named is = some_is named ∙ ap name_of (sym is)
  where
    or_none : Option (List ℕ) → List ℕ
    or_none None = []
    or_none (Some x) = x

    some_is : Some kept ≡ Some (name_of b) → kept ≡ name_of b
    some_is e = ap or_none e

module _ (rest kept found : List ℕ) (m : IsMisnamed rest kept found) where
  no-card : (c : Card) (more : List ℕ) → IsCard c → (head_text (head_is.File (head_in rest kept found m)) ≡ head_text (head_of c)) → ((m.2 ++ 10 ∷ []) ++ m.3 ≡ tail_of c ++ more) → ⊥
  no-card (card_is.Igot p k h n) more good line behind = let x : ◌≡◌ {A = ℕ} 102 105 = ap third line in omega (arith, x)
  no-card (card_is.Gimme p) more good line behind = let x : ◌≡◌ {A = ℕ} 102 103 = ap third line in omega (arith, x)
  no-card (card_is.File e) more good line behind =
      let s = head_in rest kept found m in
      let same : s ≡ stamped_of e = one-stamped s (stamped_of e) (good-head rest kept found m) (head-good (card_is.File e) good) (ap (drop 7) line) in
      let parts =
      split m.2 (content e.bytes) (10 ∷ m.3) (10 ∷ more) (ap (λ (t : Stamped). t.size) same)
      (sym (append_assoc m.2 (10 ∷ []) m.3) ∙ behind ∙ append_assoc (content e.bytes) (10 ∷ []) more) in
      m.10 (same-name kept e.bytes m.2 (ap (λ (t : Stamped). t.hash) same) parts.0 ∙ sym m.9)

  stops-there : Stops rest
  stops-there = record {
    some = λ none. let a = ap length (sym none ∙ by-line rest kept found m) in let b = length-append (head_text (head_is.File (head_in rest kept found m))) (10 ∷ ((m.2 ++ 10 ∷ []) ++ m.3)) in omega (arith, a, b);
    card = λ c more good e.
        let line = card-line rest (head_text (head_is.File (head_in rest kept found m))) ((m.2 ++ 10 ∷ []) ++ m.3) (head-line (head_is.File (head_in rest kept found m)) (good-head rest kept found m)) (by-line rest kept found m) c more good e in
        no-card c more good line.0 line.1;
  }

  -- bytes begin with one file of another name
  one-misnamed : (other others : List ℕ) (n : IsMisnamed rest other others) → (kept ≡ other) × (found ≡ others)
  one-misnamed other others n =
      let s = head_in rest kept found m in
      let t = head_in rest other others n in
      let line = misnamed-line rest (head_text (head_is.File s)) ((m.2 ++ 10 ∷ []) ++ m.3) (head-line (head_is.File s) (good-head rest kept found m)) (by-line rest kept found m) other others n in
      let same : s ≡ t = one-stamped s t (good-head rest kept found m) line.0 (ap (drop 7) line.1) in
      let parts =
      split m.2 n.2 (10 ∷ m.3) (10 ∷ n.3) (ap (λ (x : Stamped). x.size) same)
      (sym (append_assoc m.2 (10 ∷ []) m.3) ∙ line.2 ∙ append_assoc n.2 (10 ∷ []) n.3) in
      (some_is (ap (λ (x : Stamped). x.hash) same), m.9 ∙ ap name_of parts.0 ∙ sym n.9)
    where
      or_none : Option (List ℕ) → List ℕ
      or_none None = []
      or_none (Some x) = x

      some_is : Some kept ≡ Some other → kept ≡ other
      some_is e = ap or_none e

-- ---- the cards before it are one list

one-front : (cs ds : List Card) (r s : List ℕ) → AllByRecursion IsCard cs → AllByRecursion IsCard ds → Stops r → Stops s → message_text cs ++ r ≡ message_text ds ++ s → (cs ≡ ds) × (r ≡ s)
one-front [] [] r s x y p q e = (refl, e)
one-front [] (d ∷ ds) r s x y p q e = absurd (p.card d (message_text ds ++ s) y.0 (e ∙ append_assoc (card_text d) (message_text ds) s))
one-front (c ∷ cs) [] r s x y p q e = absurd (q.card c (message_text cs ++ r) x.0 (sym e ∙ append_assoc (card_text c) (message_text cs) r))
one-front (c ∷ cs) (d ∷ ds) r s x y p q e =
    let first = one-card c d (message_text cs ++ r) (message_text ds ++ s) x.0 y.0 (sym (append_assoc (card_text c) (message_text cs) r) ∙ e ∙ append_assoc (card_text d) (message_text ds) s) in
    let later = one-front cs ds r s x.1 y.1 p q first.1 in
    (λ i. first.0 i ∷ later.0 i, later.1)

-- and nothing stops where the message has cards
no-stop : (cs ds : List Card) (r : List ℕ) → AllByRecursion IsCard cs → AllByRecursion IsCard ds → Stops r → message_text cs ++ r ≡ message_text ds → ⊥
no-stop [] [] r x y p e = p.some e
no-stop [] (d ∷ ds) r x y p e = p.card d (message_text ds) y.0 e
no-stop (c ∷ cs) [] r x y p e =
    let a = ap length (sym (append_assoc (card_text c) (message_text cs) r) ∙ e) in
    let b = some-text c (message_text cs ++ r) in
    omega (arith, a, b)
no-stop (c ∷ cs) (d ∷ ds) r x y p e =
    let first = one-card c d (message_text cs ++ r) (message_text ds) x.0 y.0 (sym (append_assoc (card_text c) (message_text cs) r) ∙ e) in
    no-stop cs ds r x.1 y.1 p first.1

bad-stops : (message : List ℕ) (line : ℕ) (h : IsBadLine message line) → Stops h.1
bad-stops message line h = record { some = h.3; card = h.4.card }

wrong-stops : (message kept found : List ℕ) (h : IsWrongName message kept found) → Stops h.1
wrong-stops message kept found h = stops-there h.1 kept found h.3

one-fault : (message : List ℕ) (a b : UvMessageFault) → FailsBy message a → FailsBy message b → a ≡ b
one-fault message (message_fault.Line l) (message_fault.Line k) (x, h) (y, g) =
    let same = one-front h.0 g.0 h.1 g.1 h.2.good g.2.good (bad-stops message l h) (bad-stops message k g) (sym h.2.layout ∙ g.2.layout) in
    ap message_fault.Line (h.5 ∙ ap (λ (cs : List Card). length cs + 1) same.0 ∙ sym g.5)
one-fault message (message_fault.Line l) (message_fault.NameWrong kept found) (x, h) (y, g) =
    let same = one-front h.0 g.0 h.1 g.1 h.2.good g.2.good (bad-stops message l h) (wrong-stops message kept found g) (sym h.2.layout ∙ g.2.layout) in
    absurd (h.4.misnamed kept found (subst (λ (r : List ℕ). IsMisnamed r kept found) (sym same.1) g.3))
one-fault message (message_fault.NameWrong kept found) (message_fault.Line l) (x, h) (y, g) =
    let same = one-front g.0 h.0 g.1 h.1 g.2.good h.2.good (bad-stops message l g) (wrong-stops message kept found h) (sym g.2.layout ∙ h.2.layout) in
    absurd (g.4.misnamed kept found (subst (λ (r : List ℕ). IsMisnamed r kept found) (sym same.1) h.3))
one-fault message (message_fault.NameWrong kept found) (message_fault.NameWrong other others) (x, h) (y, g) =
    let same = one-front h.0 g.0 h.1 g.1 h.2.good g.2.good (wrong-stops message kept found h) (wrong-stops message other others g) (sym h.2.layout ∙ g.2.layout) in
    let one = one-misnamed h.1 kept found h.3 other others (subst (λ (r : List ℕ). IsMisnamed r other others) (sym same.1) g.3) in
    λ i. message_fault.NameWrong (one.0 i) (one.1 i)
one-fault message message_fault.Memory b (x, h) g = absurd (x refl)
one-fault message (message_fault.Line l) message_fault.Memory h (y, g) = absurd (y refl)
one-fault message (message_fault.NameWrong kept found) message_fault.Memory h (y, g) = absurd (y refl)

no-fault : (message : List ℕ) (cards : List Card) (fault : UvMessageFault) → IsMessage message cards → FailsBy message fault → ⊥
no-fault message cards (message_fault.Line l) is (x, h) = no-stop h.0 cards h.1 h.2.good is.0 (bad-stops message l h) (sym h.2.layout ∙ is.1)
no-fault message cards (message_fault.NameWrong kept found) is (x, h) = no-stop h.0 cards h.1 h.2.good is.0 (wrong-stops message kept found h) (sym h.2.layout ∙ is.1)
no-fault message cards message_fault.Memory is (x, h) = x refl

pub messages_fail_one_way : MessagesFailOneWay
messages_fail_one_way = record { one_fault = one-fault; not_both = no-fault }
