-- Messages that were read, whose logins wait for their tails.
use Rattle.std.specs.Prelude.{◌≡◌, ℕ, ◌+◌, Bool, true, false, List, [], ◌∷◌, ◌++◌, map, take, drop, if◌then◌else◌}
use Rattle.std.specs.Borrow.{Bor}
use Rattle.fsl_name.specs.Name.{name_of}
use Rattle.fsl_wire.specs.declared.WireCard.{WireCard}
use Rattle.fsl_wire.specs.declared.WireCard.TheVariants.{Login}
use Rattle.fsl_wire.specs.Messages.{IsMessage}

-- a message that was read, and how many of its first cards have their tails
pub record Drafted : Type 0 where
  pub message : List WireCard
  pub settled : ℕ

-- the card with the tail that it has if these bytes are behind its line; only a login has one
abbrev pub with_tail : List ℕ → WireCard → WireCard
with_tail behind (Login user nonce signature tail line) = Login user nonce signature (name_of behind) line
with_tail behind card = card

abbrev pub is_login : WireCard → Bool
is_login (Login user nonce signature tail line) = true
is_login card = false

-- how many logins a card is
abbrev pub login_count : WireCard → ℕ
login_count card = if is_login card then 1 else 0

-- how many logins stand among cards
abbrev pub logins_of : List WireCard → ℕ
logins_of [] = 0
logins_of (card ∷ cards) = login_count card + logins_of cards

-- the first bytes of some; none where there are none
abbrev pub first_bytes : List (Bor (List ℕ)) → List ℕ
first_bytes [] = []
first_bytes (bytes ∷ behind) = bytes.now

-- cards whose logins have their tails, by the bytes behind the line of each login
abbrev pub with_tails : List WireCard → List (Bor (List ℕ)) → List WireCard
with_tails [] behind = []
with_tails (card ∷ cards) behind = with_tail (first_bytes behind) card ∷ with_tails cards (drop (login_count card) behind)

-- the message of cards, of which the first n, so many of them logins, have their tails
abbrev pub drafted : List WireCard → List (Bor (List ℕ)) → ℕ → ℕ → List WireCard
drafted cards behind n logins = take n cards ++ with_tails (drop n cards) (drop logins behind)

-- ---- messages whose logins nobody looks at

-- the card without what a reader hashed for it: a login has the tail of no bytes, and every other card is as it was
abbrev pub bare : WireCard → WireCard
bare card = with_tail [] card

-- these are the cards of the message, bare
abbrev pub IsBareMessage : List ℕ → List WireCard → Type 0
IsBareMessage bytes cards = (whole : List WireCard) × IsMessage bytes whole × (cards ≡ map bare whole)
