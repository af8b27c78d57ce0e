-- The lines that are put out, and what a sink takes of one.
use Rattle.std.specs.Prelude.{◌≡◌, ◌⊎◌, ℕ, ◌+◌, ◌-◌, ◌^◌, min, nat_le, Bool, true, false, if◌then◌else◌, List, [], ◌++◌, length, drop, Option, None, Some, codes, decimal}
use Rattle.std.specs.Io.KnownBytes.{Appends}
use Rattle.fsl_order.specs.Causes.{Rose}
use Rattle.fsl_outside.specs.Streams.{SinkState}
use Rattle.fsl_outside.specs.Whole.{AppendsFront}
use Rattle.fsl_watch.specs.declared.lines.Whose.{Whose}
use Rattle.fsl_watch.specs.declared.lines.Whose.TheVariants.{Own, Peer}
use Rattle.fsl_watch.specs.declared.lines.Progress.{Progress}

-- so many more, up to the last value of u64
abbrev pub more : ℕ → ℕ → ℕ
more n count = min (count + n) (2 ^ 64 - 1)

-- what was counted of a connection: the bytes that came and the bytes that went, and the first twelve of these
pub record Traffic : Type 0 where
  pub came : ℕ
  pub went : ℕ
  pub front : List ℕ

-- the status of HTTP in the first twelve bytes of a reply, or `-` of fewer
abbrev pub status_in : List ℕ → List ℕ
status_in front = if nat_le 12 (length front) then drop 9 front else codes "-"

-- of a request, when its connection ends
abbrev pub request_line : Traffic → ℕ → List ℕ
request_line t ms =
    codes "fossil: status " ++ status_in t.front ++ codes ", " ++ decimal t.came ++ codes " bytes in, " ++ decimal t.went ++ codes " bytes out, "
    ++ decimal ms ++ codes " ms\n"

-- of a round of a sync, by its number
abbrev pub round_line : ℕ → Traffic → ℕ → List ℕ
round_line round t ms =
    codes "fossil: round " ++ decimal round ++ codes ", " ++ decimal t.went ++ codes " bytes sent, " ++ decimal t.came ++ codes " bytes got, "
    ++ decimal ms ++ codes " ms\n"

-- of an input that is read
abbrev pub input_line : ℕ → List ℕ
input_line count = codes "fossil: the input: " ++ decimal count ++ codes " bytes read\n"

abbrev pub said_of : Whose → List ℕ
said_of Own = codes "fossil: the file: "
said_of Peer = codes "fossil: the peer's file: "

-- of a file that is read and written
abbrev pub disk_line : Whose → Progress → List ℕ
disk_line whose p =
    said_of whose ++ decimal p.read ++ codes " of " ++ decimal p.len ++ codes " bytes read, " ++ decimal p.written ++ codes " written\n"

-- a sink that got a line took all of it, or a front of it before a call that failed
abbrev pub Takes : SinkState → SinkState → List ℕ → Type 0
Takes old new line = Appends old.taken new.taken line ⊎ (AppendsFront old.taken new.taken line × Rose old.faults new.faults)

-- a sink took a line: all of it, or nothing for want of memory, or a front of it before a call that failed
abbrev pub Notes : SinkState → SinkState → List ℕ → Type 0
Notes old new line =
    Appends old.taken new.taken line ⊎ (new ≡ old) ⊎ (AppendsFront old.taken new.taken line × Rose old.faults new.faults)
