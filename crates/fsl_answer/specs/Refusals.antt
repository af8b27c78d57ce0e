-- Which message is refused, and why.
use Rattle.std.specs.Prelude.{ℕ, ◌||◌, Bool, true, false, List, [], ◌∷◌, Option, Some, None, codes, if◌then◌else◌}
use Rattle.std.specs.Str.{bytes_eq}
use Rattle.fsl_name.specs.Name.{name_text}
use Rattle.fsl_wire.specs.declared.Caps.{Caps}
use Rattle.fsl_wire.specs.declared.WireCard.{WireCard}
use Rattle.fsl_wire.specs.declared.WireCard.TheVariants as cards
use Rattle.fsl_answer.specs.declared.reasons.Refusal.{Refusal}
use Rattle.fsl_answer.specs.declared.reasons.Refusal.TheVariants as refusals

-- refused for this reason, unless the test holds
abbrev pub unless : Bool → Refusal → Option Refusal
unless holds reason = if holds then None else Some reason

-- the first of two reasons
abbrev pub or_else : Option Refusal → Option Refusal → Option Refusal
or_else None second = second
or_else (Some reason) second = Some reason

-- why a card is refused, behind cards among which a push card stands or not
abbrev pub refusal_of : Caps → List ℕ → Bool → WireCard → Option Refusal
refusal_of caps project pushed (cards.Push server code) =
    or_else (unless (bytes_eq code (name_text project)) refusals.Project) (unless caps.push refusals.Write)
refusal_of caps project pushed (cards.Pull server code) =
    or_else (unless (bytes_eq code (name_text project)) refusals.Project) (unless caps.pull refusals.Read)
refusal_of caps project pushed (cards.Clone from) = unless caps.clone refusals.Clone
refusal_of caps project pushed (cards.File name bytes) = unless pushed refusals.Write
refusal_of caps project pushed cards.Private = unless caps.private refusals.Private
refusal_of caps project pushed card = None

abbrev pub is_push : WireCard → Bool
is_push (cards.Push server code) = true
is_push card = false

-- the first card that refuses decides
abbrev pub refusal_behind : Bool → Caps → List ℕ → List WireCard → Option Refusal
refusal_behind pushed caps project [] = None
refusal_behind pushed caps project (card ∷ rest) =
    or_else (refusal_of caps project pushed card) (refusal_behind (pushed || is_push card) caps project rest)

abbrev pub refusal : List WireCard → Caps → List ℕ → Option Refusal
refusal message caps project = refusal_behind false caps project message

-- the text of the error card, before it is escaped
abbrev pub refusal_text : Refusal → List ℕ
refusal_text refusals.Project = codes "wrong project"
refusal_text refusals.Write = codes "not authorized to write"
refusal_text refusals.Read = codes "not authorized to read"
refusal_text refusals.Clone = codes "not authorized to clone"
refusal_text refusals.Private = codes "not authorized to write private"
