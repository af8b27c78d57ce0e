-- The text of a message.
use Rattle.std.specs.Prelude.{◌<◌, ◌^◌, ⊤, ℕ, ◌&&◌, Bool, true, false, not, List, [], ◌∷◌, ◌++◌, length, flat_map, Option, Some, None, codes, decimal, IsTrue, if◌then◌else◌}
use Rattle.std.specs.List.{join_with_byte, list_all, AllByRecursion}
use Rattle.fsl_text.specs.Bytes.{is_empty, is_newline}
use Rattle.fsl_text.specs.Escapes.{escape}
use Rattle.fsl_text.specs.Tokens.{is_blank}
use Rattle.fsl_name.specs.Name.{name_text, IsName}
use Rattle.fsl_wire.specs.declared.WireCard.{WireCard}
use Rattle.fsl_wire.specs.declared.WireCard.TheVariants.{Login, Push, Pull, Clone, CloneSeqno, File, Private, Igot, Gimme, Error, Message, SendPrivate}
use Rattle.fsl_wire.specs.Messages.{IsMessage}

-- the numbers of a clone card, where it has them
abbrev pub clone_tokens : Option (ℕ × ℕ) → List (List ℕ)
clone_tokens None = []
clone_tokens (Some numbers) = decimal (numbers.0) ∷ decimal (numbers.1) ∷ []

-- the tokens of a card
abbrev pub card_tokens : WireCard → List (List ℕ)
card_tokens (Login user nonce signature tail line) = codes "login" ∷ escape user ∷ nonce ∷ signature ∷ []
card_tokens (Push server project) = codes "push" ∷ server ∷ project ∷ []
card_tokens (Pull server project) = codes "pull" ∷ server ∷ project ∷ []
card_tokens (Clone from) = codes "clone" ∷ clone_tokens from
card_tokens (CloneSeqno next) = codes "clone_seqno" ∷ decimal next ∷ []
card_tokens (File name bytes) = codes "file" ∷ name_text name ∷ decimal (length bytes) ∷ []
card_tokens Private = codes "private" ∷ []
card_tokens (Igot name private) = codes "igot" ∷ name_text name ∷ (if private then codes "1" ∷ [] else [])
card_tokens (Gimme name) = codes "gimme" ∷ name_text name ∷ []
card_tokens (Error text) = codes "error" ∷ escape text ∷ []
card_tokens (Message text) = codes "message" ∷ escape text ∷ []
card_tokens SendPrivate = codes "pragma" ∷ codes "send-private" ∷ []

-- the content of a file and a newline
abbrev pub card_content : WireCard → List ℕ
card_content (File name bytes) = bytes ++ 10 ∷ []
card_content card = []

-- a line of tokens, with one space between them
abbrev pub line : List (List ℕ) → List ℕ
line tokens = join_with_byte 32 tokens ++ 10 ∷ []

-- one space between tokens, and one newline after each line and each content
abbrev pub card_bytes : WireCard → List ℕ
card_bytes card = join_with_byte 32 (card_tokens card) ++ 10 ∷ card_content card

abbrev pub message_bytes : List WireCard → List ℕ
message_bytes cards = flat_map card_bytes cards

-- one token of a line: a byte or more, and no blank or newline
abbrev pub is_token : List ℕ → Bool
is_token text = not (is_empty text) && list_all (λ b. not (is_blank b) && not (is_newline b)) text

-- a card that can be written: no login, texts that are not empty, and codes of one token each
abbrev pub is_writable : WireCard → Bool
is_writable (Login user nonce signature tail line) = false
is_writable (Push server project) = is_token server && is_token project
is_writable (Pull server project) = is_token server && is_token project
is_writable (Error text) = not (is_empty text)
is_writable (Message text) = not (is_empty text)
is_writable card = true

-- ---- a law

-- what the type of a card keeps: a name is one, and numbers have 64 bits
abbrev pub AreNumbers : Option (ℕ × ℕ) → Type 0
AreNumbers None = ⊤
AreNumbers (Some numbers) = (numbers.0 < 2 ^ 64) × (numbers.1 < 2 ^ 64)

abbrev pub IsOfType : WireCard → Type 0
IsOfType (Clone from) = AreNumbers from
IsOfType (CloneSeqno next) = next < 2 ^ 64
IsOfType (File name bytes) = IsName name × (length bytes < 2 ^ 64)
IsOfType (Igot name private) = IsName name
IsOfType (Gimme name) = IsName name
IsOfType card = ⊤

-- what is written reads back
abbrev pub IsReadBack : Type 0
IsReadBack =
    (cards : List WireCard) → AllByRecursion IsOfType cards → IsTrue (list_all is_writable cards) → IsMessage (message_bytes cards) cards
