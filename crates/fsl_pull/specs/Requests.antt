-- The body of a request: the login where there is one, and then its cards.
use Rattle.std.specs.Prelude.{ℕ, false, List, [], ◌∷◌, ◌++◌, map, Option, Some, None, codes}
use Rattle.std.specs.List.{join_with_byte}
use Rattle.std.specs.Option.{option_map_or}
use Rattle.fsl_text.specs.Bytes.{newline, space}
use Rattle.fsl_text.specs.Escapes.{escape}
use Rattle.fsl_name.specs.Name.{name_of, name_text}
use Rattle.fsl_wire.specs.declared.WireCard.{WireCard}
use Rattle.fsl_wire.specs.declared.WireCard.TheVariants as cards
use Rattle.fsl_wire.specs.Writing.{message_bytes}
use Rattle.fsl_blobs.specs.Fold.{Contents}
use Rattle.fsl_pull.specs.declared.Login.{Login}

-- the nonce of a message is the name of all that follows the login's line, in digits
abbrev pub nonce_of : List ℕ → List ℕ
nonce_of rest = name_text (name_of rest)

-- the signature is the name of the nonce and the secret, in digits
abbrev pub signature_of : List ℕ → List ℕ → List ℕ
signature_of nonce secret = name_text (name_of (nonce ++ secret))

-- the line of a login before the rest of its message
abbrev pub login_line : Login → List ℕ → List ℕ
login_line login rest =
    join_with_byte space (codes "login" ∷ escape login.user ∷ nonce_of rest ∷ signature_of (nonce_of rest) login.secret ∷ []) ++ newline ∷ []

-- a message behind the line of a login, where one is given
abbrev pub signed_bytes : Option Login → List ℕ → List ℕ
signed_bytes None message = message
signed_bytes (Some login) message = login_line login message ++ message

abbrev pub request_bytes : Option Login → List WireCard → List ℕ
request_bytes login asked = signed_bytes login (message_bytes asked)

-- ---- cards

-- the codes of the repository, in digits
abbrev pub server_text : Contents → List ℕ
server_text c = option_map_or (λ config. name_text config.server) c.config []

abbrev pub project_text : Contents → List ℕ
project_text c = option_map_or (λ config. name_text config.project) c.config []

-- a pull asks for names
abbrev pub pull_cards : Contents → List (List ℕ) → List WireCard
pull_cards c names = cards.Pull (server_text c) (project_text c) ∷ map cards.Gimme names

-- a public igot card, and the card of a file
abbrev pub igot_card : List ℕ → WireCard
igot_card name = cards.Igot name false

abbrev pub file_card : List ℕ × List ℕ → WireCard
file_card file = cards.File file.0 file.1

-- a push announces names and sends files
abbrev pub push_cards : Contents → List (List ℕ) → List (List ℕ × List ℕ) → List WireCard
push_cards c names files = cards.Push (server_text c) (project_text c) ∷ map igot_card names ++ map file_card files

-- a clone asks for what comes from a place on
abbrev pub clone_cards : ℕ → List WireCard
clone_cards from = cards.Clone (Some (3, from)) ∷ []
