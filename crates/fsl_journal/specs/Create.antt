-- What a crash leaves while the header of a file is written.
use Rattle.std.specs.Prelude.{◌≤◌, ℕ, List, [], ◌∷◌, ◌++◌, length}
use Rattle.fsl_record.specs.declared.Config.{Config}
use Rattle.fsl_record.specs.declared.Record.TheVariants as record_of
use Rattle.fsl_record.specs.Records.{record_bytes}
use Rattle.fsl_journal.specs.Commit.{body_of, gated}
use Rattle.fsl_journal.specs.File.{header, mark_2, open_gate}

-- the header of version 2 and a closed gate
abbrev pub new_file : List ℕ
new_file = header mark_2 ++ 0x43 ∷ []

-- no longer than these
abbrev pub IsShort : List ℕ → Type 0
IsShort bytes = length bytes ≤ 16

-- the file of a Config alone, byte for byte
abbrev pub config_file : Config → List ℕ
config_file config = gated new_file 15 open_gate (body_of (record_bytes (record_of.Config config)))
