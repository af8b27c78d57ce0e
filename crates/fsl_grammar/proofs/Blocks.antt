-- Cards in blocks, each of one letter, the letters rising from block to block.
use Rattle.std.proofs.Common.{◌≡◌, ℕ, Bool, true, false, not, eqb, cond, List, [], ◌∷◌, ◌++◌, length, map, filter, refl, sym, ap, ◌∙◌}
use Rattle.std.specs.Prelude.{◌&&◌, ◌==◌, nat_le, nat_lt, Option, Some, None}
use Rattle.std.specs.List.{list_all, list_any, AllByRecursion}
use Rattle.std.proofs.lemmas.List.{append-nil, append_assoc, map-append, length-map}
use Rattle.std.proofs.lemmas.List.Folds.{list_all-append}
use Rattle.std.proofs.lemmas.List.Elements.{filter-append}
use Rattle.fsl_card.specs.declared.types.Card.{Card}
use Rattle.fsl_card.specs.Cards.{IsCard, IsCards, BodyFits, in_order, is_argument, may_follow, seal}
use Rattle.fsl_card.specs.Writing.{sealed_text}
use Rattle.fsl_card.proofs.SealLemmas.{is_read_back, IsCard-seal}
use Rattle.std.proofs.lemmas.List.Sums.{length-filter}
use Rattle.std.proofs.lemmas.Bool.{not-true, and_from}
use Rattle.fsl_order.proofs.Booleans.{first_holds, second_holds}
use Rattle.fsl_grammar.specs.Letters.{Letters, has_letters, letter_count}
use Rattle.fsl_grammar.specs.Forms.{arguments}
use Rattle.fsl_grammar.specs.Writing.{card, card_if}

-- cards of one letter
abbrev pub AreOfLetter : ℕ → List Card → Type 0
AreOfLetter letter cards = AllByRecursion (λ card. card.letter ≡ letter) cards

-- cards of one letter in order, each a card by itself
pub record IsBlock (block : ℕ × List Card) : Type 0 where
  pub letters : AreOfLetter (block.0) (block.1)
  pub ordered : in_order (block.1) ≡ true
  pub each : AllByRecursion IsCard (block.1)

abbrev pub AreBlocks : List (ℕ × List Card) → Type 0
AreBlocks blocks = AllByRecursion IsBlock blocks

-- all cards
abbrev pub joined : List (ℕ × List Card) → List Card
joined [] = []
joined (block ∷ blocks) = block.1 ++ joined blocks

-- the letters rise, and none of them is that of the Z card
abbrev pub blocks_rise : List (ℕ × List Card) → Bool
blocks_rise [] = true
blocks_rise (block ∷ blocks) = not (block.0 == 90) && list_all (λ other. nat_lt block.0 other.0) blocks && blocks_rise blocks

-- ---- the cards of a letter

-- the arguments that blocks have for a letter
abbrev pub given : ℕ → List (ℕ × List Card) → List (List (List ℕ))
given letter [] = []
given letter (block ∷ blocks) = cond (eqb block.0 letter) (map (λ card. card.args) (block.1)) [] ++ given letter blocks

of_letter : (letter other : ℕ) (t : Bool) (cards : List Card) → eqb letter other ≡ t → AreOfLetter letter cards → filter (λ card. eqb card.letter other) cards ≡ cond t cards []
of_letter letter other true [] e h = refl
of_letter letter other false [] e h = refl
of_letter letter other true (c ∷ cards) e h =
    let here : eqb c.letter other ≡ true = ap (λ (l : ℕ). eqb l other) h.0 ∙ e in
    rw here (ap (λ (cs : List Card). c ∷ cs) (of_letter letter other true cards e h.1))
of_letter letter other false (c ∷ cards) e h =
    let here : eqb c.letter other ≡ false = ap (λ (l : ℕ). eqb l other) h.0 ∙ e in
    rw here (of_letter letter other false cards e h.1)

given_one : (letter other : ℕ) (cards : List Card) → AreOfLetter letter cards → arguments cards other ≡ cond (eqb letter other) (map (λ card. card.args) cards) []
given_one letter other cards h = ap (map (λ card. card.args)) (of_letter letter other (eqb letter other) cards refl h) ∙ by (eqb letter other)
  where
    by : (t : Bool) → map (λ card. card.args) (cond t cards []) ≡ cond t (map (λ card. card.args) cards) []
    by true = refl
    by false = refl

pub arguments-append : (a b : List Card) (letter : ℕ) → arguments (a ++ b) letter ≡ arguments a letter ++ arguments b letter
arguments-append a b letter =
    ap (map (λ card. card.args)) (filter-append (λ card. eqb card.letter letter) a b) ∙ map-append (λ card. card.args) (filter (λ card. eqb card.letter letter) a) (filter (λ card. eqb card.letter letter) b)

pub arguments-joined : (letter : ℕ) (blocks : List (ℕ × List Card)) → AreBlocks blocks → arguments (joined blocks) letter ≡ given letter blocks
arguments-joined letter [] h = refl
arguments-joined letter (block ∷ blocks) h =
    arguments-append (block.1) (joined blocks) letter
    ∙ rw (given_one (block.0) letter (block.1) h.0.letters, arguments-joined letter blocks h.1) refl

count-is : (letter : ℕ) (cards : List Card) → letter_count cards letter ≡ length (arguments cards letter)
count-is letter cards =
    sym (length-map (filter (λ card. eqb card.letter letter) cards) (λ card. card.args) ∙ length-filter (λ card. eqb card.letter letter) cards)

-- ---- letters

-- how often blocks have a letter
abbrev pub given_count : List (ℕ × List Card) → ℕ → ℕ
given_count blocks letter = length (given letter blocks)

counts : (blocks : List (ℕ × List Card)) → AreBlocks blocks → (p : ℕ → Bool) (letters : List ℕ) → list_all (λ letter. p (given_count blocks letter)) letters ≡ true → list_all (λ letter. p (letter_count (joined blocks) letter)) letters ≡ true
counts blocks h p [] all = refl
counts blocks h p (letter ∷ letters) all =
    and_from _ _ (ap p (count-is letter (joined blocks) ∙ ap length (arguments-joined letter blocks h)) ∙ first_holds _ (list_all (λ l. p (given_count blocks l)) letters) all)
    (counts blocks h p letters (second_holds (p (given_count blocks letter)) _ all))

-- what holds of the letter of each block holds of the letter of each card
by_letter : (p : ℕ → Bool) (letter : ℕ) (cards : List Card) → AreOfLetter letter cards → p letter ≡ true → list_all (λ card. p card.letter) cards ≡ true
by_letter p letter [] h k = refl
by_letter p letter (c ∷ cards) h k = and_from _ _ (ap p h.0 ∙ k) (by_letter p letter cards h.1 k)

by_letters : (p : ℕ → Bool) (blocks : List (ℕ × List Card)) → AreBlocks blocks → list_all (λ block. p block.0) blocks ≡ true → list_all (λ card. p card.letter) (joined blocks) ≡ true
by_letters p [] h k = refl
by_letters p (block ∷ blocks) h k =
    list_all-append (λ card. p card.letter) (block.1) (joined blocks)
    ∙ and_from _ _ (by_letter p (block.0) (block.1) h.0.letters (first_holds _ (list_all (λ b. p b.0) blocks) k)) (by_letters p blocks h.1 (second_holds (p (block.0)) _ k))

-- blocks have the letters of a kind
pub record HaveLetters (kind : Letters) (blocks : List (ℕ × List Card)) : Type 0 where
  pub once : list_all (λ letter. given_count blocks letter == 1) kind.once ≡ true
  pub optional : list_all (λ letter. nat_le (given_count blocks letter) 1) kind.optional ≡ true
  pub some : list_all (λ letter. nat_le 1 (given_count blocks letter)) kind.some ≡ true
  pub known : list_all (λ block. list_any (λ letter. block.0 == letter) (kind.once ++ kind.optional ++ kind.repeated ++ kind.some)) blocks ≡ true

pub has_letters-joined : (kind : Letters) (blocks : List (ℕ × List Card)) → AreBlocks blocks → HaveLetters kind blocks → has_letters kind (joined blocks) ≡ true
has_letters-joined kind blocks h k =
    and_from _ _ (and_from _ _ (and_from _ _ (counts blocks h (λ n. n == 1) kind.once k.once) (counts blocks h (λ n. nat_le n 1) kind.optional k.optional)) (counts blocks h (λ n. nat_le 1 n) kind.some k.some))
    (by_letters (λ l. list_any (λ letter. l == letter) (kind.once ++ kind.optional ++ kind.repeated ++ kind.some)) blocks h k.known)

-- ---- order

in_order-after : (letter : ℕ) (a b : List Card) → AreOfLetter letter a → list_all (λ card. nat_lt letter card.letter) b ≡ true → in_order a ≡ true → in_order b ≡ true → in_order (a ++ b) ≡ true
in_order-after letter [] b h above k l = l
in_order-after letter (x ∷ []) [] h above k l = refl
in_order-after letter (x ∷ []) (y ∷ b) h above k l =
    let lower : nat_lt x.letter y.letter ≡ true = ap (λ (n : ℕ). nat_lt n y.letter) h.0 ∙ first_holds _ (list_all (λ card. nat_lt letter card.letter) b) above in
    rw (lower, l) refl
in_order-after letter (x ∷ y ∷ a) b h above k l =
    and_from _ _ (first_holds _ (in_order (y ∷ a)) k) (in_order-after letter (y ∷ a) b h.1 above (second_holds (may_follow x y) _ k) l)

in_order-joined : (blocks : List (ℕ × List Card)) → AreBlocks blocks → blocks_rise blocks ≡ true → in_order (joined blocks) ≡ true
in_order-joined [] h k = refl
in_order-joined (block ∷ blocks) h k =
    let both = first_holds _ (blocks_rise blocks) k in
    in_order-after (block.0) (block.1) (joined blocks) h.0.letters
    (by_letters (λ l. nat_lt (block.0) l) blocks h.1 (second_holds (not (block.0 == 90)) _ both))
    h.0.ordered (in_order-joined blocks h.1 (second_holds _ (blocks_rise blocks) k))

-- ---- the whole text

each-joined : (blocks : List (ℕ × List Card)) → AreBlocks blocks → AllByRecursion IsCard (joined blocks)
each-joined [] h = tt
each-joined (block ∷ blocks) h = behind (block.1) h.0.each (each-joined blocks h.1)
  where
    behind : (cards : List Card) → AllByRecursion IsCard cards → AllByRecursion IsCard (joined blocks) → AllByRecursion IsCard (cards ++ joined blocks)
    behind [] h k = k
    behind (c ∷ cards) h k = (h.0, behind cards h.1 k)

none_last : (blocks : List (ℕ × List Card)) → blocks_rise blocks ≡ true → list_all (λ block. not (block.0 == 90)) blocks ≡ true
none_last [] h = refl
none_last (block ∷ blocks) h =
    and_from _ _ (first_holds _ (list_all (λ other. nat_lt block.0 other.0) blocks) (first_holds _ (blocks_rise blocks) h)) (none_last blocks (second_holds _ (blocks_rise blocks) h))

-- the text of blocks with the Z card behind them is their cards and the Z card
pub sealed_blocks : (blocks : List (ℕ × List Card)) → AreBlocks blocks → blocks_rise blocks ≡ true → IsCards (sealed_text (joined blocks)) (joined blocks ++ seal (joined blocks) ∷ [])
sealed_blocks blocks h k =
    is_read_back (joined blocks) (each-joined blocks h) (in_order-joined blocks h k) (by_letters (λ l. not (l == 90)) blocks h (none_last blocks k))

-- the block of the Z card
pub seal_block : (front : List Card) → IsBlock (90, seal front ∷ [])
seal_block front = record { letters = (refl, tt); ordered = refl; each = (IsCard-seal front, tt) }

-- ---- single blocks

pub is_card : (letter : ℕ) (args : List (List ℕ)) → (nat_le 65 letter && nat_le letter 90) ≡ true → eqb letter 74 ≡ false → eqb letter 87 ≡ false → list_all is_argument args ≡ true → IsCard (card letter args)
is_card letter args range field body h = record { letter = range; arguments = rw field h; body = fits args }
  where
    fits : (args : List (List ℕ)) → BodyFits letter args None
    fits [] = rw body refl
    fits (a ∷ []) = rw body refl
    fits (a ∷ b ∷ args) = rw body refl

-- a letter that any card may have, but for J and W
abbrev pub is_plain_letter : ℕ → Bool
is_plain_letter letter = nat_le 65 letter && nat_le letter 90 && not (letter == 74) && not (letter == 87)

pub plain_card : (letter : ℕ) (args : List (List ℕ)) → is_plain_letter letter ≡ true → list_all is_argument args ≡ true → IsCard (card letter args)
plain_card letter args h k =
    let first = first_holds _ (not (letter == 87)) h in
    is_card letter args (first_holds _ (not (letter == 74)) first) (not-true _ (second_holds (nat_le 65 letter && nat_le letter 90) _ first)) (not-true _ (second_holds (nat_le 65 letter && nat_le letter 90 && not (letter == 74)) _ h)) k

pub no_block : (letter : ℕ) → IsBlock (letter, [])
no_block letter = record { letters = tt; ordered = refl; each = tt }

pub one_block : (letter : ℕ) (args : List (List ℕ)) → is_plain_letter letter ≡ true → list_all is_argument args ≡ true → IsBlock (letter, card letter args ∷ [])
one_block letter args h k = record { letters = (refl, tt); ordered = refl; each = (plain_card letter args h k, tt) }

-- a card with one argument
pub single_block : (letter : ℕ) (arg : List ℕ) → is_plain_letter letter ≡ true → is_argument arg ≡ true → IsBlock (letter, card letter (arg ∷ []) ∷ [])
single_block letter arg h k = one_block letter (arg ∷ []) h (and_from _ _ k refl)

-- a card where there is a value
pub block_if : {X : Type 0} (letter : ℕ) (written : X → List ℕ) (o : Option X) → is_plain_letter letter ≡ true → ((x : X) → o ≡ Some x → is_argument (written x) ≡ true) → IsBlock (letter, card_if letter written o)
block_if letter written None h k = no_block letter
block_if letter written (Some x) h k = single_block letter (written x) h (k x refl)

-- the cards of values, one each
pub block_each : {X : Type 0} (letter : ℕ) (made : X → Card) (P : X → Type 0) → ((x : X) → (made x).letter ≡ letter) → ((x : X) → P x → IsCard (made x)) → (xs : List X) → AllByRecursion P xs → in_order (map made xs) ≡ true → IsBlock (letter, map made xs)
block_each {X = X} letter made P named whole xs h k = record { letters = letters xs; ordered = k; each = each xs h }
  where
    letters : (xs : List X) → AreOfLetter letter (map made xs)
    letters [] = tt
    letters (x ∷ xs) = (named x, letters xs)

    each : (xs : List X) → AllByRecursion P xs → AllByRecursion IsCard (map made xs)
    each [] h = tt
    each (x ∷ xs) h = (whole x h.0, each xs h.1)

-- a block behind the others
pub joined-push : (blocks : List (ℕ × List Card)) (block : ℕ × List Card) → joined (blocks ++ block ∷ []) ≡ joined blocks ++ block.1
joined-push [] block = append-nil (block.1)
joined-push (b ∷ blocks) block = ap (λ (cards : List Card). b.1 ++ cards) (joined-push blocks block) ∙ sym (append_assoc (b.1) (joined blocks) (block.1))

pub at_most_one_if : {X : Type 0} (letter : ℕ) (written : X → List ℕ) (o : Option X) → nat_le (length (map (λ card. card.args) (card_if letter written o) ++ [])) 1 ≡ true
at_most_one_if letter written None = refl
at_most_one_if letter written (Some x) = refl
