-- What a reply is to the client: its cards, or the first thing that is wrong with it.
use Rattle.std.specs.Prelude.{◌≡◌, ◌⊎◌, ℕ, Bool, true, false, List, [], ◌∷◌, map, filter_map, position, slice_get, Option, Some, None, option_and_then, Result, Ok, Err}
use Rattle.std.specs.Option.{option_map_or}
use Rattle.fsl_wire.specs.declared.WireCard.{WireCard}
use Rattle.fsl_wire.specs.declared.WireCard.TheVariants as cards
use Rattle.fsl_wire.specs.declared.WireFault.{WireFault}
use Rattle.fsl_wire.specs.declared.WireFault.TheVariants.{Unknown, Args, Delta, Size, Short, Memory}
use Rattle.fsl_wire.specs.Messages.{IsNumberedMessage, IsFirstFault}
use Rattle.fsl_wire.specs.Drafts.{bare}
use Rattle.fsl_answer.specs.Contents.{first_of}
use Rattle.fsl_http.specs.Responses.{Exchanged, no_head, status, long, short, body}
use Rattle.fsl_pull.specs.declared.PeerFault.{PeerFault}
use Rattle.fsl_pull.specs.declared.PeerFault.TheVariants as peer

-- the line of a fault
abbrev pub fault_line : WireFault → ℕ
fault_line (Unknown n) = n
fault_line (Args n) = n
fault_line (Delta n) = n
fault_line (Size n) = n
fault_line (Short n) = n
fault_line Memory = 0

abbrev pub is_private : WireCard → Bool
is_private cards.Private = true
is_private card = false

-- the line of the first private card
abbrev pub private_line : List (ℕ × WireCard) → Option ℕ
private_line lines = option_and_then (λ place. slice_get (map (λ l. l.0) lines) place) (position is_private (map (λ l. l.1) lines))

-- the text of the first error card
abbrev pub error_of : WireCard → Option (List ℕ)
error_of (cards.Error text) = Some text
error_of card = None

abbrev pub error_text : List WireCard → Option (List ℕ)
error_text reply = first_of (filter_map error_of reply)

-- a private card is wrong wherever it stands, and then an error card is; a client looks at no login, so the cards are bare
abbrev pub cards_read : List (ℕ × WireCard) → Result (List WireCard) PeerFault
cards_read lines =
    option_map_or (λ n. Err (peer.Line n))
    (private_line lines)
    (option_map_or (λ text. Err (peer.Error text)) (error_text (map (λ l. l.1) lines)) (Ok (map bare (map (λ l. l.1) lines))))

-- the first line that doesn't read is wrong, and else what its cards say
abbrev pub IsBodyRead : List ℕ → Result (List WireCard) PeerFault → Type 0
IsBodyRead text result =
    ((fault : WireFault) × IsFirstFault text fault × (result ≡ Err (peer.Line (fault_line fault))))
    ⊎ ((lines : List (ℕ × WireCard)) × IsNumberedMessage text lines × (result ≡ cards_read lines))

-- the head first, then the body
abbrev pub IsReplyRead : Exchanged → Result (List WireCard) PeerFault → Type 0
IsReplyRead no_head result = result ≡ Err peer.Head
IsReplyRead (status n) result = result ≡ Err (peer.Http n)
IsReplyRead (long n) result = result ≡ Err (peer.Long n)
IsReplyRead (short n) result = result ≡ Err (peer.Short n)
IsReplyRead (body text) result = IsBodyRead text result

-- ---- what the cards of a reply name

-- a name that is announced without the private flag
abbrev pub announced_name : WireCard → Option (List ℕ)
announced_name (cards.Igot name false) = Some name
announced_name card = None

abbrev pub announced_in : List WireCard → List (List ℕ)
announced_in reply = filter_map announced_name reply

-- a name that is sent as a file
abbrev pub file_name : WireCard → Option (List ℕ)
file_name (cards.File name bytes) = Some name
file_name card = None

abbrev pub files_in : List WireCard → List (List ℕ)
files_in reply = filter_map file_name reply

-- a name that is asked for
abbrev pub asked_name : WireCard → Option (List ℕ)
asked_name (cards.Gimme name) = Some name
asked_name card = None

abbrev pub asked_in : List WireCard → List (List ℕ)
asked_in reply = filter_map asked_name reply

-- the first of the numbers that say where a clone goes on
abbrev pub sequel_of : WireCard → Option ℕ
sequel_of (cards.CloneSeqno n) = Some n
sequel_of card = None

abbrev pub sequel_in : List WireCard → Option ℕ
sequel_in reply = first_of (filter_map sequel_of reply)

-- the codes of the first push card
abbrev pub codes_of : WireCard → Option (List ℕ × List ℕ)
codes_of (cards.Push server project) = Some (server, project)
codes_of card = None

abbrev pub codes_in : List WireCard → Option (List ℕ × List ℕ)
codes_in reply = first_of (filter_map codes_of reply)
