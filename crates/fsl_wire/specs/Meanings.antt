-- What the code says of a line, without copies.
use Rattle.std.specs.Prelude.{◌≡◌, ℕ, ◌<◌, List, [], ◌∷◌, length, codes, if◌then◌else◌}
use Rattle.std.specs.Str.{bytes_eq}
use Rattle.fsl_text.specs.Escapes.{unescape}
use Rattle.fsl_wire.specs.declared.WireCard.TheVariants as cards
use Rattle.fsl_wire.specs.declared.WireFault.{WireFault}
use Rattle.fsl_wire.specs.declared.WireFault.TheVariants as faults
use Rattle.fsl_wire.specs.declared.arguments.Arguments.{Arguments}
use Rattle.fsl_wire.specs.declared.arguments.Arguments.TheVariants.{None, One, Two, Three, Many}
use Rattle.fsl_wire.specs.declared.meaning.Wrong.{Wrong}
use Rattle.fsl_wire.specs.declared.meaning.Wrong.TheVariants.{Unknown, Args, Delta, Size, Short}
use Rattle.fsl_wire.specs.declared.meaning.Meaning.{Meaning}
use Rattle.fsl_wire.specs.declared.meaning.Meaning.TheVariants as meanings
use Rattle.fsl_wire.specs.Lines.{Line, blank, card, login, file, bad, file_line, private_line, igot_line, gimme_line, text_line, pragma_line}

-- the arguments of a line; four of no byte stand for more than three
abbrev pub arguments : Arguments → List (List ℕ)
arguments None = []
arguments (One a) = a.now ∷ []
arguments (Two a b) = a.now ∷ b.now ∷ []
arguments (Three a b c) = a.now ∷ b.now ∷ c.now ∷ []
arguments Many = [] ∷ [] ∷ [] ∷ [] ∷ []

-- tokens are these arguments
abbrev pub AreArguments : Arguments → List (List ℕ) → Type 0
AreArguments Many tokens = 3 < length tokens
AreArguments args tokens = tokens ≡ arguments args

-- the fault of a line by its number
abbrev pub wrong_fault : Wrong → ℕ → WireFault
wrong_fault Unknown = faults.Unknown
wrong_fault Args = faults.Args
wrong_fault Delta = faults.Delta
wrong_fault Size = faults.Size
wrong_fault Short = faults.Short

-- what a line is, once its texts are unescaped
abbrev pub line_of : Meaning → Line
line_of meanings.Blank = blank
line_of (meanings.Login user nonce signature) = login (unescape user.now) nonce.now signature.now
line_of (meanings.Push server project) = card (cards.Push server.now project.now)
line_of (meanings.Pull server project) = card (cards.Pull server.now project.now)
line_of (meanings.Clone from) = card (cards.Clone from)
line_of (meanings.CloneSeqno next) = card (cards.CloneSeqno next)
line_of (meanings.File name size) = file name size
line_of meanings.Private = card cards.Private
line_of (meanings.Igot name private) = card (cards.Igot name private)
line_of (meanings.Gimme name) = card (cards.Gimme name)
line_of (meanings.Error text) = card (cards.Error (unescape text.now))
line_of (meanings.Message text) = card (cards.Message (unescape text.now))
line_of meanings.SendPrivate = card cards.SendPrivate
line_of (meanings.Bad wrong) = bad (wrong_fault wrong)

-- the line of an operator of names, files and texts, or of none
abbrev pub item_line : List ℕ → List (List ℕ) → Line
item_line operator args =
    if bytes_eq operator (codes "file") then file_line args
    else if bytes_eq operator (codes "private") then private_line args
    else if bytes_eq operator (codes "igot") then igot_line args
    else if bytes_eq operator (codes "gimme") then gimme_line args
    else if bytes_eq operator (codes "error") then text_line cards.Error args
    else if bytes_eq operator (codes "message") then text_line cards.Message args
    else if bytes_eq operator (codes "cookie") then blank
    else if bytes_eq operator (codes "pragma") then pragma_line args
    else bad faults.Unknown
