-- Limits that several rooms share, in bytes or in numbers.
use Rattle.std.specs.Prelude.{ℕ, ◌^◌}

-- the most bytes of an artifact
abbrev pub most_of_artifact : ℕ
most_of_artifact = 2 ^ 24

-- the most bytes of a message that a command reads, and of a body that a request or a reply sends
abbrev pub most_of_message : ℕ
most_of_message = 2 ^ 27

-- the most bytes of all artifacts that a repository holds
abbrev pub most_held_bytes : ℕ
most_held_bytes = 2 ^ 30

-- the most names that a repository holds, and the most that it lacks
abbrev pub most_names : ℕ
most_names = 2 ^ 20

-- the most bytes of a users file
abbrev pub most_of_users : ℕ
most_of_users = 2 ^ 20
