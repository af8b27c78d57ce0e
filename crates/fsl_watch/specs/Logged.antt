-- What clauses see of a door and a dial that put out a line for each connection.
use Rattle.std.specs.Prelude.{◌≡◌, ℕ, List, [], ◌++◌, length, take, Result, Ok, Err, Option, None, Some}
use Rattle.fsl_outside.specs.Streams.{SinkState}
use Rattle.fsl_outside.specs.declared.outside.Failed.{Failed}
use Rattle.fsl_outside.specs.declared.link.Accepted.{Accepted}
use Rattle.fsl_outside.specs.declared.link.Accepted.TheVariants.{Closed}
use Rattle.fsl_outside.specs.declared.link.Accepted.TheVariants as accepted
use Rattle.fsl_watch.specs.Lines.{Traffic, more, Notes, request_line, round_line}

-- the door behind it, where its lines go, and what was counted of the present connection
pub record LoggedAt (A K : Type 0) : Type 0 where
  pub door : A
  pub out : K
  pub traffic : Option Traffic

-- the dial behind it, where its lines go, how many connections it began, and what was counted of the present one
pub record LoggedTo (N K : Type 0) : Type 0 where
  pub dial : N
  pub out : K
  pub rounds : ℕ
  pub traffic : Option Traffic

-- nothing came and nothing went
abbrev pub nothing_moved : Traffic
nothing_moved = record { came = 0; went = 0; front = [] }

abbrev pub came_more : ℕ → Traffic → Traffic
came_more n t = record t { came = more n t.came }

abbrev pub went_more : List ℕ → Traffic → Traffic
went_more bytes t = record t { went = more (length bytes) t.went; front = take 12 (t.front ++ bytes) }

-- what is counted behind an accept that answered so
abbrev pub begun_by : Accepted → Option Traffic
begun_by accepted.Connection = Some nothing_moved
begun_by Closed = None

-- what is counted behind any accept
abbrev pub begun : Result Accepted Failed → Option Traffic
begun (Ok answer) = begun_by answer
begun (Err e) = None

-- the line of a connection was put out, with some time, where there was one
abbrev pub NotesRequest : Option Traffic → SinkState → SinkState → Type 0
NotesRequest None old new = new ≡ old
NotesRequest (Some t) old new = (ms : ℕ) × Notes old new (request_line t ms)

-- the same of a round
abbrev pub NotesRound : ℕ → Option Traffic → SinkState → SinkState → Type 0
NotesRound round None old new = new ≡ old
NotesRound round (Some t) old new = (ms : ℕ) × Notes old new (round_line round t ms)
