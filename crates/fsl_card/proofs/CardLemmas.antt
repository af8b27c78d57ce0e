-- No card's text begins another's, so a text is one list of cards at most.
use Rattle.std.proofs.Common.{◌≡◌, ℕ, Bool, true, false, List, [], ◌∷◌, ◌++◌, Option, Some, refl, sym, ap, subst, ◌∙◌, append_assoc}
use Rattle.std.specs.Prelude.{◌&&◌, IsTrue}
use Rattle.std.specs.List.{AllByRecursion}
use Rattle.std.proofs.lemmas.List.{append-nil}
use Rattle.std.proofs.lemmas.List.Concat.{flat_map-append}
use Rattle.std.proofs.lemmas.Bool.{both_ways}
use Rattle.fsl_order.proofs.Booleans.{and_true, first_holds, second_holds}
use Rattle.fsl_text.specs.Lines.{first_line}
use Rattle.fsl_card.specs.declared.types.Card.{Card}
use Rattle.fsl_card.specs.Cards.{IsCard, card_text, text_of, in_order, may_follow}
use Rattle.fsl_card.specs.Reading.{◌>>=◌, card_of_line}
use Rattle.fsl_card.specs.Parts.{AreOrdered, may_follow_all}
use Rattle.fsl_card.proofs.ReadAgain.{card_of_line_again, line_again}

-- the card that some bytes begin with, and what follows it
abbrev read_card : List ℕ → Option (Card × List ℕ)
read_card text = first_line text >>= λ line. card_of_line (line.0) (line.1)

abbrev found : Card → List ℕ → Option (Card × List ℕ)
found card rest = Some (card, rest)

read_again : (card : Card) (rest : List ℕ) → IsCard card → read_card (card_text card ++ rest) ≡ found card rest
read_again card rest is =
    ap (λ (first : Option (List ℕ × List ℕ)). first >>= λ line. card_of_line (line.0) (line.1)) (line_again card rest is)
    ∙ card_of_line_again card rest is

found_is : (p q : Card × List ℕ) → Some p ≡ Some q → p ≡ q
found_is p q e = cc

pub record AreSameCards (c d : Card) (x y : List ℕ) : Type 0 where
  pub card : c ≡ d
  pub rest : x ≡ y

pub card_unique : (c d : Card) (x y : List ℕ) → IsCard c → IsCard d → card_text c ++ x ≡ card_text d ++ y → AreSameCards c d x y
card_unique c d x y ic id e =
    inside (sym (read_again c x ic) ∙ ap read_card e ∙ read_again d y id)
  where
    inside : found c x ≡ found d y → AreSameCards c d x y
    inside f = let same = found_is (c, x) (d, y) f in record { card = ap (λ (p : Card × List ℕ). p.0) same; rest = ap (λ (p : Card × List ℕ). p.1) same }

-- the text is these cards in order, and then a rest
pub record AreOrderedTo (text : List ℕ) (cards : List Card) (rest : List ℕ) : Type 0 where
  pub spelled : text ≡ text_of cards ++ rest
  pub each : AllByRecursion IsCard cards
  pub ordered : IsTrue (in_order cards)

-- what a text's cards leave of a list of cards with the same text
pub record Leaves (cs : List Card) (x : List ℕ) (ds : List Card) : Type 0 where
  pub more : List Card
  pub each : AllByRecursion IsCard more
  pub is : ds ≡ cs ++ more
  pub rest : x ≡ text_of more

some_byte : (c : Card) (x : List ℕ) → card_text c ++ x ≡ [] → ⊥
some_byte c x e = cc

pub cards_prefix : (cs ds : List Card) (x : List ℕ) → AllByRecursion IsCard cs → AllByRecursion IsCard ds
    → text_of cs ++ x ≡ text_of ds → Leaves cs x ds
cards_prefix [] ds x ics ids e = record { more = ds; each = ids; is = refl; rest = e }
cards_prefix (c ∷ cs) [] x ics ids e = absurd (some_byte c (text_of cs ++ x) (sym (append_assoc (card_text c) (text_of cs) x) ∙ e))
cards_prefix (c ∷ cs) (d ∷ ds) x ics ids e =
    let one = card_unique c d (text_of cs ++ x) (text_of ds) ics.0 ids.0 (sym (append_assoc (card_text c) (text_of cs) x) ∙ e) in
    let ih = cards_prefix cs ds x ics.1 ids.1 one.rest in
    record { more = ih.more; each = ih.each; is = ap (λ (h : Card). h ∷ ds) (sym one.card) ∙ ap (λ (l : List Card). c ∷ l) ih.is; rest = ih.rest }

-- what stands where no card begins is no list of cards, unless it is nothing
pub no_more : (cs : List Card) (text x : List ℕ) → AreOrderedTo text cs x → (x ≡ [] → ⊥) → ((c : Card) (y : List ℕ) → IsCard c → x ≡ card_text c ++ y → ⊥)
    → (ds : List Card) → AreOrdered text ds → ⊥
no_more cs text x read some none ds are =
    let left = cards_prefix cs ds x read.each are.each (sym read.spelled ∙ are.spelled) in
    stuck left.more left.each left.rest
  where
    stuck : (more : List Card) → AllByRecursion IsCard more → x ≡ text_of more → ⊥
    stuck [] each rest = some rest
    stuck (m ∷ more) each rest = none m (text_of more) each.0 rest

-- one more card
pub AllByRecursion-push : {X : Type 0} (P : X → Type 0) (xs : List X) (x : X) → AllByRecursion P xs → P x → AllByRecursion P (xs ++ x ∷ [])
AllByRecursion-push P [] x all p = (p, tt)
AllByRecursion-push P (y ∷ ys) x all p = (all.0, AllByRecursion-push P ys x all.1 p)

pub text_of-push : (cs : List Card) (c : Card) (x : List ℕ) → text_of cs ++ (card_text c ++ x) ≡ text_of (cs ++ c ∷ []) ++ x
text_of-push cs c x =
    sym (append_assoc (text_of cs) (card_text c) x)
    ∙ ap (λ (l : List ℕ). l ++ x) (ap (λ (r : List ℕ). text_of cs ++ r) (sym (append-nil (card_text c))) ∙ sym (flat_map-append card_text cs (c ∷ [])))

-- ---- order

and_assoc : (a b c : Bool) → (a && (b && c)) ≡ ((a && b) && c)
and_assoc true b c = refl
and_assoc false b c = refl

pub in_order-push : (cs : List Card) (c : Card) → in_order (cs ++ c ∷ []) ≡ (in_order cs && may_follow_all cs c)
in_order-push [] c = refl
in_order-push (a ∷ []) c = and_true (may_follow a c)
in_order-push (a ∷ b ∷ cs) c = ap (λ (t : Bool). may_follow a b && t) (in_order-push (b ∷ cs) c) ∙ and_assoc (may_follow a b) (in_order (b ∷ cs)) (may_follow_all (b ∷ cs) c)

pub in_order-left : (xs ys : List Card) → in_order (xs ++ ys) ≡ true → in_order xs ≡ true
in_order-left [] ys h = refl
in_order-left (a ∷ []) ys h = refl
in_order-left (a ∷ b ∷ xs) ys h = rw (first_holds (may_follow a b) _ h, in_order-left (b ∷ xs) ys (second_holds (may_follow a b) _ h)) refl

pub may_follow_all-last : (cs : List Card) (last next : Card) → may_follow_all (cs ++ last ∷ []) next ≡ may_follow last next
may_follow_all-last [] last next = refl
may_follow_all-last (a ∷ []) last next = refl
may_follow_all-last (a ∷ b ∷ cs) last next = may_follow_all-last (b ∷ cs) last next

-- the cards that have been read, with one more
pub ordered_more : (text : List ℕ) (cs more : List Card) (c : Card) (x rest : List ℕ) → AreOrderedTo text cs x → IsCard c → x ≡ card_text c ++ rest
    → may_follow_all cs c ≡ true → more ≡ cs ++ c ∷ [] → AreOrderedTo text more rest
ordered_more text cs more c x rest read is front follows is_more =
    let P : List Card → Type 0 = λ l. AreOrderedTo text l rest in
    subst P (sym is_more) (record {
      spelled = read.spelled ∙ ap (λ (r : List ℕ). text_of cs ++ r) front ∙ text_of-push cs c rest;
      each = AllByRecursion-push IsCard cs c read.each is;
      ordered = in_order-push cs c ∙ rw (read.ordered, follows) refl;
    })

-- a card that may not follow those before it
pub out_of_order : (text : List ℕ) (cs : List Card) (c : Card) (x rest : List ℕ) → AreOrderedTo text cs x → IsCard c → x ≡ card_text c ++ rest
    → may_follow_all cs c ≡ false → (ds : List Card) → AreOrdered text ds → ⊥
out_of_order text cs c x rest read is front falls ds are =
    let whole : text ≡ text_of (cs ++ c ∷ []) ++ rest = read.spelled ∙ ap (λ (r : List ℕ). text_of cs ++ r) front ∙ text_of-push cs c rest in
    let left = cards_prefix (cs ++ c ∷ []) ds rest (AllByRecursion-push IsCard cs c read.each is) are.each (sym whole ∙ are.spelled) in
    let P : List Card → Type 0 = λ l. in_order l ≡ true in
    let order : in_order (cs ++ c ∷ []) ≡ true = in_order-left (cs ++ c ∷ []) left.more (subst P left.is are.ordered) in
    both_ways (may_follow_all cs c) falls (second_holds (in_order cs) (may_follow_all cs c) (sym (in_order-push cs c) ∙ order))

pub all_read : (text : List ℕ) (cs : List Card) (x : List ℕ) → AreOrderedTo text cs x → x ≡ [] → AreOrdered text cs
all_read text cs x read none =
    record { spelled = read.spelled ∙ ap (λ (r : List ℕ). text_of cs ++ r) none ∙ append-nil (text_of cs); each = read.each; ordered = read.ordered }
