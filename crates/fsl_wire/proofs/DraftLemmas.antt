-- Cards with the tails that the bytes behind the lines of logins have.
use Rattle.std.proofs.Common.{◌≡◌, ℕ, zero, suc, ◌+◌, ◌<◌, ◌≤◌, Bool, true, false, if◌then◌else◌, Result, Ok, Err, OnOk, List, [], ◌∷◌, ◌++◌, length, drop, refl, ap, sym, ◌∙◌, arith}
use Rattle.std.specs.Prelude.{slice_set, slice_index_or, map}
use Rattle.std.specs.Borrow.{Bor}
use mir.Val.{bool_byte}
use Rattle.std.proofs.lemmas.List.{drop-drop, length-append}
use Rattle.std.proofs.Common.{append-nil}
use Rattle.fsl_wire.specs.declared.WireCard.{WireCard}
use Rattle.fsl_wire.specs.declared.WireCard.TheVariants.{Login, Push, Pull, Clone, CloneSeqno, File, Private, Igot, Gimme, Error, Message, SendPrivate}
use Rattle.fsl_wire.specs.Drafts.{with_tail, with_tails, drafted, is_login, login_count, logins_of, first_bytes, bare}

-- one more card, with the bytes behind it where it is a login
tails_more : (cards : List WireCard) (behind more : List (Bor (List ℕ))) (c : WireCard) → length behind ≡ logins_of cards
    → with_tails (cards ++ c ∷ []) (behind ++ more) ≡ with_tails cards behind ++ with_tail (first_bytes more) c ∷ []
tails_more [] [] more c e = refl
tails_more [] (x ∷ behind) more c e = absurd (omega (arith, e))
tails_more (Login u n s t l ∷ cards) [] more c e = absurd (omega (arith, e))
tails_more (Login u n s t l ∷ cards) (x ∷ behind) more c e = ap (λ (w : List WireCard). with_tail x.now (Login u n s t l) ∷ w) (tails_more cards behind more c (omega (arith, e)))
tails_more (Push s p ∷ cards) behind more c e = ap (λ (w : List WireCard). Push s p ∷ w) (tails_more cards behind more c (omega (arith, e)))
tails_more (Pull s p ∷ cards) behind more c e = ap (λ (w : List WireCard). Pull s p ∷ w) (tails_more cards behind more c (omega (arith, e)))
tails_more (Clone f ∷ cards) behind more c e = ap (λ (w : List WireCard). Clone f ∷ w) (tails_more cards behind more c (omega (arith, e)))
tails_more (CloneSeqno n ∷ cards) behind more c e = ap (λ (w : List WireCard). CloneSeqno n ∷ w) (tails_more cards behind more c (omega (arith, e)))
tails_more (File n b ∷ cards) behind more c e = ap (λ (w : List WireCard). File n b ∷ w) (tails_more cards behind more c (omega (arith, e)))
tails_more (Private ∷ cards) behind more c e = ap (λ (w : List WireCard). Private ∷ w) (tails_more cards behind more c (omega (arith, e)))
tails_more (Igot n p ∷ cards) behind more c e = ap (λ (w : List WireCard). Igot n p ∷ w) (tails_more cards behind more c (omega (arith, e)))
tails_more (Gimme n ∷ cards) behind more c e = ap (λ (w : List WireCard). Gimme n ∷ w) (tails_more cards behind more c (omega (arith, e)))
tails_more (Error t ∷ cards) behind more c e = ap (λ (w : List WireCard). Error t ∷ w) (tails_more cards behind more c (omega (arith, e)))
tails_more (Message t ∷ cards) behind more c e = ap (λ (w : List WireCard). Message t ∷ w) (tails_more cards behind more c (omega (arith, e)))
tails_more (SendPrivate ∷ cards) behind more c e = ap (λ (w : List WireCard). SendPrivate ∷ w) (tails_more cards behind more c (omega (arith, e)))

-- the tail of a card that is no login
no_tail : (a b : List ℕ) (c : WireCard) → is_login c ≡ false → with_tail a c ≡ with_tail b c
no_tail a b (Login u n s t l) e = cc
no_tail a b (Push s p) e = refl
no_tail a b (Pull s p) e = refl
no_tail a b (Clone f) e = refl
no_tail a b (CloneSeqno n) e = refl
no_tail a b (File n c) e = refl
no_tail a b Private e = refl
no_tail a b (Igot n p) e = refl
no_tail a b (Gimme n) e = refl
no_tail a b (Error t) e = refl
no_tail a b (Message t) e = refl
no_tail a b SendPrivate e = refl

pub logins_more : (cards : List WireCard) (c : WireCard) → logins_of (cards ++ c ∷ []) ≡ logins_of cards + login_count c
logins_more [] c = omega arith
logins_more (d ∷ cards) c =
    let more = logins_more cards c in
    omega (arith, more)

-- a login is put at the end, and the bytes behind it
pub login_added : (cards cards' : List WireCard) (behind behind' : List (Bor (List ℕ))) (c : WireCard) (b : Bor (List ℕ)) (more : List WireCard) → length behind ≡ logins_of cards
    → cards' ≡ cards ++ c ∷ [] → behind' ≡ behind ++ b ∷ [] → with_tail b.now c ∷ [] ≡ more → with_tails cards' behind' ≡ with_tails cards behind ++ more
login_added cards cards' behind behind' c b more e p q r =
    (λ i. with_tails (p i) (q i)) ∙ tails_more cards behind (b ∷ []) c e ∙ ap (λ (w : List WireCard). with_tails cards behind ++ w) r

-- another card is put at the end, whatever the bytes behind it
pub plain_added : (cards cards' : List WireCard) (behind behind' : List (Bor (List ℕ))) (c : WireCard) (b : Bor (List ℕ)) (more : List WireCard) → length behind ≡ logins_of cards
    → is_login c ≡ false → cards' ≡ cards ++ c ∷ [] → behind' ≡ behind → with_tail b.now c ∷ [] ≡ more → with_tails cards' behind' ≡ with_tails cards behind ++ more
plain_added cards cards' behind behind' c b more e plain p q r =
    let same : behind' ≡ behind ++ [] = q ∙ sym (append-nil behind) in
    (λ i. with_tails (p i) (same i)) ∙ tails_more cards behind [] c e
    ∙ ap (λ (d : WireCard). with_tails cards behind ++ d ∷ []) (no_tail [] b.now c plain) ∙ ap (λ (w : List WireCard). with_tails cards behind ++ w) r

-- the next card was given its tail
pub one_settled : (n : ℕ) (cards : List WireCard) (behind : List (Bor (List ℕ))) (h : ℕ) (c : WireCard) → n < length cards
    → drafted (slice_set cards n (with_tail (first_bytes (drop h behind)) (slice_index_or cards n c))) behind (suc n) (h + login_count (slice_index_or cards n c)) ≡ drafted cards behind n h
one_settled n [] behind h c lt = absurd (omega (arith, lt))
one_settled zero (d ∷ cards) behind h c lt = ap (λ (bs : List (Bor (List ℕ))). with_tail (first_bytes (drop h behind)) d ∷ with_tails cards bs) (sym (drop-drop (login_count d) h behind))
one_settled (suc n) (d ∷ cards) behind h c lt = ap (λ (w : List WireCard). d ∷ w) (one_settled n cards behind h c (omega (arith, lt)))

-- a settled card is that of the message
pub settled_at : (n place : ℕ) (cards : List WireCard) (behind : List (Bor (List ℕ))) (h : ℕ) (c : WireCard) → place < n → n ≤ length cards
    → slice_index_or (drafted cards behind n h) place c ≡ slice_index_or cards place c
settled_at zero place cards behind h c lt le = absurd (omega (arith, lt))
settled_at (suc n) place [] behind h c lt le = absurd (omega (arith, le))
settled_at (suc n) zero (d ∷ cards) behind h c lt le = refl
settled_at (suc n) (suc place) (d ∷ cards) behind h c lt le = settled_at n place cards behind h c (omega (arith, lt)) (omega (arith, le))

-- where all are settled, the cards are the message
pub all_settled : (n : ℕ) (cards : List WireCard) (behind : List (Bor (List ℕ))) (h : ℕ) → length cards ≤ n → drafted cards behind n h ≡ cards
all_settled zero [] behind h le = refl
all_settled (suc n) [] behind h le = refl
all_settled zero (d ∷ cards) behind h le = absurd (omega (arith, le))
all_settled (suc n) (d ∷ cards) behind h le = ap (λ (w : List WireCard). d ∷ w) (all_settled n cards behind h (omega (arith, le)))

tails_length : (cards : List WireCard) (behind : List (Bor (List ℕ))) → length (with_tails cards behind) ≡ length cards
tails_length [] behind = refl
tails_length (c ∷ cards) behind = ap suc (tails_length cards (drop (login_count c) behind))

-- a message has as many cards as its draft
pub drafted_length : (n : ℕ) (cards : List WireCard) (behind : List (Bor (List ℕ))) (h : ℕ) → length (drafted cards behind n h) ≡ length cards
drafted_length zero cards behind h = tails_length cards (drop h behind)
drafted_length (suc n) [] behind h = refl
drafted_length (suc n) (d ∷ cards) behind h = ap suc (drafted_length n cards behind h)

-- what follows where a call was made well
pub ok_more : {X : Type 0} {E : Type 0} {A : Type 0} {B : Type 0} (r : Result X E) → (A → B) → OnOk r A → OnOk r B
ok_more (Ok x) f h = f h
ok_more (Err e) f h = tt

-- as many bytes stand as logins, with one more card
pub login_each : (cards cards' : List WireCard) (behind behind' : List (Bor (List ℕ))) (c : WireCard) (b : Bor (List ℕ)) → length behind ≡ logins_of cards → true ≡ is_login c
    → behind' ≡ behind ++ b ∷ [] → cards' ≡ cards ++ c ∷ [] → length behind' ≡ logins_of cards'
login_each cards cards' behind behind' c b e is q p =
    let one : 1 ≡ login_count c = ap (λ (yes : Bool). if yes then 1 else 0) is in
    let many = logins_more cards c in
    let long = length-append behind (b ∷ []) in
    let whole : length (behind ++ b ∷ []) ≡ logins_of (cards ++ c ∷ []) = omega (arith, one, many, long, e) in
    ap length q ∙ whole ∙ sym (ap logins_of p)

pub plain_each : (cards cards' : List WireCard) (behind : List (Bor (List ℕ))) (c : WireCard) → length behind ≡ logins_of cards → false ≡ is_login c
    → cards' ≡ cards ++ c ∷ [] → length behind ≡ logins_of cards'
plain_each cards cards' behind c e is p =
    let none : 0 ≡ login_count c = ap (λ (yes : Bool). if yes then 1 else 0) is in
    let many = logins_more cards c in
    let whole : length behind ≡ logins_of (cards ++ c ∷ []) = omega (arith, none, many, e) in
    whole ∙ sym (ap logins_of p)

one_login : (c : WireCard) → bool_byte (is_login c) ≡ login_count c
one_login c = by_bool (is_login c)
  where
    by_bool : (yes : Bool) → bool_byte yes ≡ if yes then 1 else 0
    by_bool true = refl
    by_bool false = refl

-- the draft of a message stays one of it where the next card is settled
pub settled_next : (n place h more : ℕ) (cards : List WireCard) (behind shown : List (Bor (List ℕ))) (old new : WireCard) (bytes : List ℕ) (login : Bool) (message : List WireCard)
    → place ≡ n → n < length cards → shown ≡ behind → bytes ≡ first_bytes (drop h shown) → old ≡ slice_index_or cards place old → new ≡ with_tail bytes old → login ≡ is_login old
    → more ≡ bool_byte login → drafted cards behind n h ≡ message → drafted (slice_set cards place new) behind (n + 1) (h + more) ≡ message
settled_next n place h more cards behind shown old new bytes login message p lt s b o w l m e =
    let here : old ≡ slice_index_or cards n old = o ∙ ap (λ (k : ℕ). slice_index_or cards k old) p in
    let card : new ≡ with_tail (first_bytes (drop h behind)) (slice_index_or cards n old) = w ∙ (λ i. with_tail ((b ∙ ap (λ (bs : List (Bor (List ℕ))). first_bytes (drop h bs)) s) i) (here i)) in
    let count : more ≡ login_count (slice_index_or cards n old) = m ∙ ap bool_byte l ∙ one_login old ∙ ap login_count here in
    let next : n + 1 ≡ suc n = omega arith in
    (λ i. drafted (slice_set cards (p i) (card i)) behind (next i) (h + count i)) ∙ one_settled n cards behind h old lt ∙ e

-- a tail that a card was given makes no difference to it when it is bare
bare_tail : (b : List ℕ) (c : WireCard) → with_tail [] c ≡ bare (with_tail b c)
bare_tail b (Login u n s t l) = refl
bare_tail b (Push s p) = refl
bare_tail b (Pull s p) = refl
bare_tail b (Clone f) = refl
bare_tail b (CloneSeqno n) = refl
bare_tail b (File n c) = refl
bare_tail b Private = refl
bare_tail b (Igot n p) = refl
bare_tail b (Gimme n) = refl
bare_tail b (Error t) = refl
bare_tail b (Message t) = refl
bare_tail b SendPrivate = refl

abbrev nothing : List (Bor (List ℕ))
nothing = []

no_bytes : (n : ℕ) → drop n nothing ≡ nothing
no_bytes zero = refl
no_bytes (suc n) = refl

-- cards with no bytes behind their logins are bare
pub bare_tails : (cards : List WireCard) (behind : List (Bor (List ℕ))) → with_tails cards [] ≡ map bare (with_tails cards behind)
bare_tails [] behind = refl
bare_tails (c ∷ cards) behind =
    (λ i. bare_tail (first_bytes behind) c i ∷ with_tails cards (no_bytes (login_count c) i))
    ∙ ap (λ (w : List WireCard). bare (with_tail (first_bytes behind) c) ∷ w) (bare_tails cards (drop (login_count c) behind))
