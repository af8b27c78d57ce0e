-- What `ingest` and `put` take of a message, and what they refuse of it.
use Rattle.std.specs.Prelude.{◌≡◌, ℕ, ◌⊎◌, ⊤, Bool, true, false, List, [], ◌∷◌, map, find, Option, Some, None}
use Rattle.std.specs.Option.{option_map}
use Rattle.fsl_wire.specs.declared.WireCard.{WireCard}
use Rattle.fsl_wire.specs.declared.WireCard.TheVariants.{File, Private, SendPrivate}
use Rattle.fsl_wire.specs.declared.WireFault.{WireFault}
use Rattle.fsl_wire.specs.declared.WireFault.TheVariants.{Unknown, Args, Delta, Size, Short, Memory}
use Rattle.fsl_wire.specs.Messages.{IsNumberedMessage, IsFirstFault}
use Rattle.fossil.specs.declared.reading.message.MessageFile.{MessageFile}
use Rattle.fossil.specs.declared.reading.message.MessageFault.{MessageFault}
use Rattle.fossil.specs.declared.reading.message.MessageFault.TheVariants as fault_is
use Rattle.fossil.specs.Printed.{Printed, bad_line, not_a_file}

-- the line of a fault; want of memory has none
abbrev pub fault_line : WireFault → ℕ
fault_line (Unknown n) = n
fault_line (Args n) = n
fault_line (Delta n) = n
fault_line (Size n) = n
fault_line (Short n) = n
fault_line Memory = 0

-- whether a card is none of files
abbrev pub is_other : WireCard → Bool
is_other (File name bytes) = false
is_other Private = false
is_other SendPrivate = false
is_other card = true

-- the line of the first card that is none of files, where there is one
abbrev pub other_line : List (ℕ × WireCard) → Option ℕ
other_line cards = option_map (λ l. l.0) (find (λ l. is_other (l.1)) cards)

-- the files of cards; a private card marks the next file
abbrev pub files_of : Bool → List WireCard → List MessageFile
files_of marked [] = []
files_of marked (File name bytes ∷ cards) = record { name = name; bytes = bytes; private = marked } ∷ files_of false cards
files_of marked (Private ∷ cards) = files_of true cards
files_of marked (card ∷ cards) = files_of marked cards

-- ---- what a message is refused for

-- a line doesn't read; the first such is refused
abbrev pub IsLineRefused : List ℕ → Printed → Type 0
IsLineRefused message refusal = (fault : WireFault) × IsFirstFault message fault × (refusal ≡ bad_line (fault_line fault))

-- each line reads, and a card is none of files; the line of the first such is refused
abbrev pub IsCardRefused : List ℕ → Printed → Type 0
IsCardRefused message refusal =
    (cards : List (ℕ × WireCard)) × (n : ℕ) × IsNumberedMessage message cards × (other_line cards ≡ Some n) × (refusal ≡ not_a_file n)

-- each line reads, and each card is of files, which are these
abbrev pub IsFileList : List ℕ → List MessageFile → Type 0
IsFileList message files =
    (cards : List (ℕ × WireCard)) × IsNumberedMessage message cards × (other_line cards ≡ None) × (files ≡ files_of false (map (λ l. l.1) cards))

-- a message is refused for its lines first, then for its cards
abbrev pub IsMessageRefused : List ℕ → Printed → Type 0
IsMessageRefused message refusal = IsLineRefused message refusal ⊎ IsCardRefused message refusal

-- ---- what the reader answers

-- the first line that doesn't read, or else the first card that is none of files, or want of memory
abbrev pub IsFaultOf : List ℕ → MessageFault → Type 0
IsFaultOf message (fault_is.BadLine n) = (fault : WireFault) × IsFirstFault message fault × (n ≡ fault_line fault)
IsFaultOf message (fault_is.NotFile n) = (cards : List (ℕ × WireCard)) × IsNumberedMessage message cards × (other_line cards ≡ Some n)
IsFaultOf message fault_is.Memory = ⊤

-- what is told of a fault of the cards' reader
abbrev pub unread_as : WireFault → MessageFault
unread_as (Unknown n) = fault_is.BadLine n
unread_as (Args n) = fault_is.BadLine n
unread_as (Delta n) = fault_is.BadLine n
unread_as (Size n) = fault_is.BadLine n
unread_as (Short n) = fault_is.BadLine n
unread_as Memory = fault_is.Memory
