-- The escapes of texts in cards and messages.
use Rattle.std.specs.Prelude.{◌≡◌, ℕ, ◌==◌, List, [], ◌∷◌, ◌++◌, if◌then◌else◌}
use Rattle.fsl_text.specs.Bytes.{tab, newline, carriage_return, space, backslash}

-- a byte as it is written: eight of them have a form of two bytes, and every other stands for itself
abbrev pub escaped_byte : ℕ → List ℕ
escaped_byte b =
    if b == space then backslash ∷ 115 ∷ []  -- \s
    else if b == newline then backslash ∷ 110 ∷ []  -- \n
    else if b == backslash then backslash ∷ backslash ∷ []
    else if b == tab then backslash ∷ 116 ∷ []  -- \t
    else if b == carriage_return then backslash ∷ 114 ∷ []  -- \r
    else if b == 11 then backslash ∷ 118 ∷ []  -- \v
    else if b == 12 then backslash ∷ 102 ∷ []  -- \f
    else if b == 0 then backslash ∷ 48 ∷ []  -- \0
    else b ∷ []

-- what a byte behind a backslash stands for: one of the eight, or else itself
abbrev pub byte_meant : ℕ → ℕ
byte_meant c =
    if c == 115 then space
    else if c == 110 then newline
    else if c == 116 then tab
    else if c == 114 then carriage_return
    else if c == 118 then 11
    else if c == 102 then 12
    else if c == 48 then 0
    else c

-- a text as it is written
abbrev pub escape : List ℕ → List ℕ
escape [] = []
escape (b ∷ bs) = escaped_byte b ++ escape bs

-- what a written text stands for: a backslash with the byte behind it is one byte, and a last backslash stands for itself
abbrev pub unescape : List ℕ → List ℕ
unescape [] = []
unescape (b ∷ []) = b ∷ []
unescape (b ∷ c ∷ rest) = if b == backslash then byte_meant c ∷ unescape rest else b ∷ unescape (c ∷ rest)

-- what is escaped is read again, whatever the bytes are
abbrev pub UnescapesEscaped : Type 0
UnescapesEscaped = (bytes : List ℕ) → unescape (escape bytes) ≡ bytes
