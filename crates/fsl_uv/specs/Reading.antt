-- What the parts of a message's reader answer.
use Rattle.std.specs.Prelude.{◌≡◌, ◌≢◌, ◌<◌, ◌≤◌, ℕ, List, ◌++◌, length, drop, decimal, IsTrue, Option}
use Rattle.fsl_text.specs.Escapes.{escape}
use Rattle.fsl_date.specs.Moment.{IsMoment}
use Rattle.fsl_uv.specs.declared.Card.{Card}
use Rattle.fsl_uv.specs.declared.fronts.Front.{Front}
use Rattle.fsl_uv.specs.declared.fronts.Front.TheVariants as front_is
use Rattle.fsl_uv.specs.declared.heads.Head.{Head}
use Rattle.fsl_uv.specs.declared.heads.Head.TheVariants as head_is
use Rattle.fsl_uv.specs.declared.heads.Stamped.{Stamped}
use Rattle.fsl_uv.specs.Entries.{is_path}
use Rattle.fsl_uv.specs.Words.{stamped, IsHeldAs}
use Rattle.fsl_uv.specs.Cards.{hashed, IsSized, IsCard, card_text, IsMisnamed, BeginsNoCard}
use Rattle.std.specs.Prelude.{◌∷◌, [], codes, ⊤, Some, None, ◌⊎◌, ◌+◌}
use Rattle.fsl_uv.specs.declared.Card.TheVariants as card_is
use Rattle.fsl_uv.specs.declared.Entry.{Entry}
use Rattle.fsl_name.specs.Name.{name_of}
use Rattle.fsl_uv.specs.declared.messages.Offer.{Offer}
use Rattle.fsl_uv.specs.declared.UvMessageFault.{UvMessageFault}
use Rattle.fsl_uv.specs.declared.UvMessageFault.TheVariants as message_fault
use Rattle.std.specs.Prelude.{Bool, true, false, map}
use Rattle.fsl_order.specs.Rows.{ascending}
use Rattle.fsl_order.specs.Maps.{value_at}
use Rattle.fsl_uv.specs.Entries.{Version}
use Rattle.fsl_uv.specs.Syncing.{offer_at, offered_paths, answer_at}

-- what a line says of a path
pub record IsStamped (s : Stamped) : Type 0 where
  pub path : IsTrue (is_path s.path)
  pub moment : IsMoment s.moment
  pub sized : IsSized s.hash s.size

-- the words of such a line behind its operator
abbrev pub stamped_text : Stamped → List ℕ
stamped_text s = escape s.path ++ (32 ∷ stamped s.moment s.hash (decimal s.size))

-- the line of a card, without its newline
abbrev pub head_text : Head → List ℕ
head_text (head_is.Igot s) = codes "uvigot " ++ stamped_text s
head_text (head_is.Gimme path) = codes "uvgimme " ++ escape path
head_text (head_is.File s) = codes "uvfile " ++ stamped_text s

abbrev pub IsHead : Head → Type 0
IsHead (head_is.Igot s) = IsStamped s
IsHead (head_is.Gimme path) = IsTrue (is_path path)
IsHead (head_is.File s) = IsStamped s

-- bytes begin with a card whose text has this length, with a file of another name, or with no card
abbrev pub IsFront : List ℕ → Front → Type 0
IsFront bytes (front_is.Card c size) = IsCard c × (0 < size) × (size ≤ length bytes) × (bytes ≡ card_text c ++ drop size bytes)
IsFront bytes (front_is.Misnamed kept found) = IsMisnamed bytes kept found
IsFront bytes front_is.Bad = BeginsNoCard bytes

-- what bytes that begin with no card are answered, where their line has this number
abbrev pub IsFrontFault : List ℕ → ℕ → UvMessageFault → Type 0
IsFrontFault rest n (message_fault.Line line) = (line ≡ n) × BeginsNoCard rest
IsFrontFault rest n (message_fault.NameWrong kept found) = IsMisnamed rest kept found
IsFrontFault rest n message_fault.Memory = ⊤

-- the moment and the hash of an offer, as they are written
abbrev pub offer_seen : Option Offer → Option (ℕ × List ℕ)
offer_seen None = None
offer_seen (Some o) = Some (o.moment, hashed o.hash)

-- a file by its line and its content: a card, or its content has another name
abbrev pub IsNamedFront : Stamped → List ℕ → ℕ → Front → Type 0
IsNamedFront s held total (front_is.Card c size) =
    (e : Entry) × (c ≡ card_is.File e) × (e.path ≡ s.path) × (e.moment ≡ s.moment) × IsHeldAs s.hash held e.bytes × (size ≡ total)
IsNamedFront s held total (front_is.Misnamed kept found) = (s.hash ≡ Some kept) × (found ≡ name_of held) × (kept ≢ found)
IsNamedFront s held total front_is.Bad = ⊥

-- a head and what follows its line
abbrev pub IsFrontBehind : Head → List ℕ → ℕ → Front → Type 0
IsFrontBehind (head_is.Igot s) behind from f = f ≡ front_is.Card (card_is.Igot s.path s.moment s.hash s.size) from
IsFrontBehind (head_is.Gimme path) behind from f = f ≡ front_is.Card (card_is.Gimme path) from
IsFrontBehind (head_is.File s) behind from f =
    ((f ≡ front_is.Bad) × ((held rest : List ℕ) → length held ≡ s.size → behind ≢ held ++ 10 ∷ rest))
    ⊎ ((held : List ℕ) × (length held ≡ s.size) × (behind ≡ held ++ 10 ∷ drop (s.size + 1) behind) × IsNamedFront s held (from + s.size + 1) f)

-- the fault of a front, where its line has this number
abbrev pub fault_seen : ℕ → Front → Option UvMessageFault
fault_seen n (front_is.Card c size) = None
fault_seen n (front_is.Misnamed kept found) = Some (message_fault.NameWrong kept found)
fault_seen n front_is.Bad = Some (message_fault.Line n)

-- ---- the first offers of a message

-- whether a path is noted with an offer
abbrev pub has_offer : Option (Option Offer) → Bool
has_offer None = false
has_offer (Some None) = false
has_offer (Some (Some o)) = true

-- the paths, each with the moment and the hash of its offer
abbrev pub offers_seen : List (List ℕ × Option Offer) → List (List ℕ × Option (ℕ × List ℕ))
offers_seen offers = map (λ e. (e.0, offer_seen e.1)) offers

-- some paths and those that a message offers, ascending, each with its first offer
abbrev pub first_offers : List (List ℕ) → List Card → List (List ℕ × Option (ℕ × List ℕ))
first_offers paths cards = map (λ path. (path, offer_at cards path)) (ascending (paths ++ offered_paths cards))

-- a card was noted: where the paths had the first offers of some cards, they have those of these cards and this one
abbrev pub NotesOffer : List (List ℕ × Option Offer) → Card → List (List ℕ × Option Offer) → Type 0
NotesOffer old card new =
    (paths : List (List ℕ)) (cards : List Card) → offers_seen old ≡ first_offers paths cards → offers_seen new ≡ first_offers paths (cards ++ card ∷ [])

-- the answer to the offer of a path
abbrev pub answer_for : List (List ℕ × Version) → List ℕ × Option Offer → List Card
answer_for m e = answer_at e.0 (value_at m e.0) (offer_seen e.1)
