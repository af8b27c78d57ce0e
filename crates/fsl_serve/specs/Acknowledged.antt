-- What a pusher was answered by 200 stays.
use Rattle.std.specs.Prelude.{◌≡◌, ◌≢◌, ℕ, List, [], ◌∷◌, ◌++◌, Bool, Option, Ok, IsTrue}
use Rattle.std.specs.List.{list_any}
use Rattle.fsl_disk.specs.Disk.{DiskState, IsModelled, LeavesOnly}
use Rattle.fsl_http.specs.declared.request.Asked.{Asked}
use Rattle.fsl_record.specs.Receipts.{Brought}
use Rattle.fsl_record.specs.declared.Record.{Record}
use Rattle.fsl_journal.specs.File.{IsFileOf}
use Rattle.fsl_login.specs.declared.User.{User}
use Rattle.fsl_blobs.specs.Fold.{is_blob_of}
use Rattle.fsl_repo.specs.declared.Arrival.{Arrival}
use Rattle.fsl_repo.specs.declared.Arrival.TheVariants as arrival
use Rattle.fsl_repo.specs.declared.Event.{Event}
use Rattle.fsl_repo.specs.declared.Event.TheVariants as event
use Rattle.fsl_repo.specs.declared.Answer.{Answer}
use Rattle.fsl_repo.specs.declared.Answer.TheVariants as answer
use Rattle.fsl_repo.specs.Whole.{Whole, IsWholeOn}
use Rattle.fsl_history.specs.Entries.{Entry, calls_by, IsHistory}
use Rattle.fsl_serve.specs.Calls.{Call}
use Rattle.fsl_serve.specs.Sessions.{Reply, IsReplied}
use Rattle.fsl_serve.specs.Ordered.{steps_by}

-- an artifact of this name arrived, and was stored, made public, or there already
abbrev pub HasCome : List ℕ → Call → Type 0
HasCome name call =
    (bytes : List ℕ) × (private : Bool) × (receipt : Brought) × (came : Arrival)
    × (call ≡ (event.Receive name bytes private receipt, answer.Receive (Ok came))) × (came ≢ arrival.Shunned)

-- a commit that was answered Ok, with the number of its records, ends these calls
abbrev pub EndCommitted : List Call → ℕ → Type 0
EndCommitted made count = (between : List Call) × (made ≡ between ++ (event.Commit, answer.Commit (Ok count)) ∷ [])

-- Law. Where the reply has status 200, the calls end, behind each artifact that came, with a commit that was answered Ok. (A reply that refuses has this
-- status too, and no call is made for it.)
abbrev pub CommitsWhatItAnswers : Type 0
CommitsWhatItAnswers =
    (users : List User) (project : List ℕ) (request : Asked) (moment : Option ℕ) (before : List Call) (call : Call) (rest : List Call) (name : List ℕ) (reply : Reply) →
    IsReplied users project request moment (before ++ call ∷ rest) reply → reply.0 ≡ 200 → HasCome name call → (count : ℕ) × EndCommitted rest count

-- these bytes are a file with a Blob of that name among its records
abbrev pub HoldsBlobOf : List ℕ → List ℕ → Type 0
HoldsBlobOf name bytes = (records : List Record) × IsFileOf bytes records × IsTrue (list_any (is_blob_of name) records)

-- the entry of a crew's commit that was answered Ok
abbrev pub commit_of : ℕ → ℕ → Entry Event Answer
commit_of crew count = (crew, event.Commit, answer.Commit (Ok count))

-- the history up to a commit of this crew leads to a repository, from which on every crash leaves a file with the artifact
pub record StaysFrom {D : Type 0} (tells : D → DiskState) (first last : Whole D) (turns : List (Entry Event Answer)) (crew count : ℕ) (made : List Call) (name : List ℕ) : Type 0 where
  pub done : List (Entry Event Answer)
  pub more : List (Entry Event Answer)
  pub mid : Whole D
  pub parts : turns ≡ (done ++ commit_of crew count ∷ []) ++ more
  pub own : calls_by crew (done ++ commit_of crew count ∷ []) ≡ made
  pub to : IsHistory (steps_by tells) first (done ++ commit_of crew count ∷ []) mid
  pub on : IsHistory (steps_by tells) mid more last
  pub stays : LeavesOnly (tells mid.disk) (tells last.disk) (HoldsBlobOf name)

-- Law. Where an artifact came within a crew's calls, and a commit of these was answered Ok behind it, then at each moment from that commit on a
-- crash leaves a file with it, whatever the other crews do
abbrev pub AnsweredStays : {D : Type 0} → (D → DiskState) → Type 0
AnsweredStays {D} tells =
    (first last : Whole D) (turns : List (Entry Event Answer)) (crew : ℕ) (name : List ℕ) (before : List Call) (call : Call) (rest later : List Call) (count : ℕ) →
    IsWholeOn (tells first.disk) first → IsModelled (tells first.disk) → IsHistory (steps_by tells) first turns last →
    calls_by crew turns ≡ (before ++ call ∷ rest) ++ later → HasCome name call → EndCommitted rest count →
    StaysFrom tells first last turns crew count (before ++ call ∷ rest) name
