-- A message reads in one way.
use Rattle.std.proofs.Common.{◌≡◌, ℕ, ◌<◌, true, false, List, [], ◌∷◌, ◌++◌, length, length-append, drop, option_map, Option, Some, None, refl, sym, ap, ◌∙◌, append_assoc, arith}
use Rattle.std.specs.Prelude.{is_some}
use Rattle.std.specs.List.{AllByRecursion}
use Rattle.fsl_name.specs.Name.{name_of}
use Rattle.fsl_uv.specs.declared.Card.{Card}
use Rattle.fsl_uv.specs.declared.Card.TheVariants as card_is
use Rattle.fsl_uv.specs.declared.heads.Stamped.{Stamped}
use Rattle.fsl_uv.specs.Entries.{content}
use Rattle.fsl_uv.specs.Cards.{IsCard, card_text, message_text}
use Rattle.fsl_uv.specs.Reading.{head_text}
use Rattle.fsl_uv.specs.Laws.{MessagesReadOneWay}
use Rattle.fsl_uv.proofs.Solid.{one-path}
use Rattle.fsl_uv.proofs.FrontLemmas.{stamped_of, head_of, tail_of, third, card-is, head-good, head-line, one-stamped, card-line}

abbrev first_of : List ℕ → ℕ
first_of [] = 0
first_of (x ∷ xs) = x

abbrev rest_of : List ℕ → List ℕ
rest_of [] = []
rest_of (x ∷ xs) = xs

-- texts of one length in front of others
pub split : (xs ys ends others : List ℕ) → length xs ≡ length ys → xs ++ ends ≡ ys ++ others → (xs ≡ ys) × (ends ≡ others)
split [] [] ends others len e = (refl, e)
split [] (y ∷ ys) ends others len e = absurd (omega (arith, len))
split (x ∷ xs) [] ends others len e = absurd (omega (arith, len))
split (x ∷ xs) (y ∷ ys) ends others len e =
    let more = split xs ys ends others (omega (arith, len)) (ap rest_of e) in
    let one : x ≡ y = ap first_of e in
    ((λ i. one i ∷ more.0 i), more.1)

-- a content, or none, is known by its name and its bytes
pub same-bytes : (a b : Option (List ℕ)) → option_map name_of a ≡ option_map name_of b → content a ≡ content b → a ≡ b
same-bytes None None h e = refl
same-bytes None (Some b) h e = absurd (let x : false ≡ true = ap is_some h in cc)
same-bytes (Some a) None h e = absurd (let x : true ≡ false = ap is_some h in cc)
same-bytes (Some a) (Some b) h e = ap Some e

-- cards of one line, and what stands behind it
alike : (c d : Card) (more rest : List ℕ) → IsCard c → IsCard d → head_text (head_of c) ≡ head_text (head_of d) → tail_of c ++ more ≡ tail_of d ++ rest → (c ≡ d) × (more ≡ rest)
alike (card_is.Igot p m h n) (card_is.Igot q k g l) more rest x y line behind =
    let same = one-stamped (record { path = p; moment = m; hash = h; size = n }) (record { path = q; moment = k; hash = g; size = l }) (head-good (card_is.Igot p m h n) x) (head-good (card_is.Igot q k g l) y) (ap (drop 7) line) in
    (ap (λ (s : Stamped). card_is.Igot s.path s.moment s.hash s.size) same, behind)
alike (card_is.Gimme p) (card_is.Gimme q) more rest x y line behind = (ap card_is.Gimme (one-path p q (ap (drop 8) line)), behind)
alike (card_is.File e) (card_is.File f) more rest x y line behind =
    let same : stamped_of e ≡ stamped_of f = one-stamped (stamped_of e) (stamped_of f) (head-good (card_is.File e) x) (head-good (card_is.File f) y) (ap (drop 7) line) in
    let parts =
    split (content e.bytes) (content f.bytes) (10 ∷ more) (10 ∷ rest) (ap (λ (s : Stamped). s.size) same)
    (sym (append_assoc (content e.bytes) (10 ∷ []) more) ∙ behind ∙ append_assoc (content f.bytes) (10 ∷ []) rest) in
    let bytes = same-bytes e.bytes f.bytes (ap (λ (s : Stamped). s.hash) same) parts.0 in
    let path = ap (λ (s : Stamped). s.path) same in
    let moment = ap (λ (s : Stamped). s.moment) same in
    ((λ i. card_is.File (record { path = path i; moment = moment i; bytes = bytes i })), (split (10 ∷ []) (10 ∷ []) more rest refl parts.1).1)
alike (card_is.Igot p m h n) (card_is.Gimme q) more rest x y line behind = absurd (let z : ◌≡◌ {A = ℕ} 105 103 = ap third line in omega (arith, z))
alike (card_is.Igot p m h n) (card_is.File f) more rest x y line behind = absurd (let z : ◌≡◌ {A = ℕ} 105 102 = ap third line in omega (arith, z))
alike (card_is.Gimme p) (card_is.Igot q k g l) more rest x y line behind = absurd (let z : ◌≡◌ {A = ℕ} 103 105 = ap third line in omega (arith, z))
alike (card_is.Gimme p) (card_is.File f) more rest x y line behind = absurd (let z : ◌≡◌ {A = ℕ} 103 102 = ap third line in omega (arith, z))
alike (card_is.File e) (card_is.Igot q k g l) more rest x y line behind = absurd (let z : ◌≡◌ {A = ℕ} 102 105 = ap third line in omega (arith, z))
alike (card_is.File e) (card_is.Gimme q) more rest x y line behind = absurd (let z : ◌≡◌ {A = ℕ} 102 103 = ap third line in omega (arith, z))

by-line : (c : Card) (more : List ℕ) → card_text c ++ more ≡ head_text (head_of c) ++ 10 ∷ (tail_of c ++ more)
by-line c more = ap (λ (t : List ℕ). t ++ more) (card-is c) ∙ append_assoc (head_text (head_of c)) (10 ∷ tail_of c) more

-- bytes begin with one card
pub one-card : (c d : Card) (more rest : List ℕ) → IsCard c → IsCard d → card_text c ++ more ≡ card_text d ++ rest → (c ≡ d) × (more ≡ rest)
one-card c d more rest x y e =
    let line = card-line (card_text c ++ more) (head_text (head_of c)) (tail_of c ++ more) (head-line (head_of c) (head-good c x)) (by-line c more) d rest y e in
    alike c d more rest x y line.0 line.1

pub some-text : (c : Card) (more : List ℕ) → 0 < length (card_text c ++ more)
some-text c more =
    let a = ap length (by-line c more) in
    let b = length-append (head_text (head_of c)) (10 ∷ (tail_of c ++ more)) in
    omega (arith, a, b)

one-list : (cs ds : List Card) → AllByRecursion IsCard cs → AllByRecursion IsCard ds → message_text cs ≡ message_text ds → cs ≡ ds
one-list [] [] x y e = refl
one-list [] (d ∷ ds) x y e = absurd (let a = ap length e in let b = some-text d (message_text ds) in omega (arith, a, b))
one-list (c ∷ cs) [] x y e = absurd (let a = ap length e in let b = some-text c (message_text cs) in omega (arith, a, b))
one-list (c ∷ cs) (d ∷ ds) x y e =
    let first = one-card c d (message_text cs) (message_text ds) x.0 y.0 e in
    let later = one-list cs ds x.1 y.1 first.1 in
    λ i. first.0 i ∷ later i

pub messages_read_one_way : MessagesReadOneWay
messages_read_one_way message cs ds x y = one-list cs ds x.0 y.0 (sym x.1 ∙ y.1)
