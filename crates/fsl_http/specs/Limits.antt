-- The limits of heads, of bodies and of one read.
use Rattle.std.specs.Prelude.{ℕ}
use Rattle.fsl_text.specs.Limits.{most_of_message}

-- the most bytes of a head
abbrev pub most_head : ℕ
most_head = 16384

-- the most fields of a head
abbrev pub most_fields : ℕ
most_fields = 64

-- the most bytes of a body
abbrev pub most_body : ℕ
most_body = most_of_message

-- the most bytes that one read brings
abbrev pub most_piece : ℕ
most_piece = 4096
