-- A push: what is announced and sent, what is asked for, and the end.
use Rattle.std.specs.Prelude.{◌≡◌, ℕ, ◌+◌, ◌≤◌, Bool, IsTrue, false, not, List, [], ◌∷◌, ◌++◌, length, take, map, filter, filter_map, Option, Some, None, option_map, Result, Ok, if◌then◌else◌, MatchOption, MatchResult}
use Rattle.std.specs.List.{list_all}
use Rattle.std.specs.Option.{option_map_or}
use Rattle.std.specs.FinMap as map_of
use Rattle.fsl_order.specs.Names.{has}
use Rattle.fsl_order.specs.Rows.{ascending}
use Rattle.fsl_record.specs.declared.Record.{Record}
use Rattle.fsl_wire.specs.declared.WireCard.{WireCard}
use Rattle.fsl_answer.specs.Contents.{each_once}
use Rattle.fsl_answer.specs.Replies.{taken}
use Rattle.fsl_blobs.specs.Fold.{Contents}
use Rattle.fsl_repo.specs.Machine.{State, now}
use Rattle.fsl_http.specs.Responses.{Exchanged}
use Rattle.fsl_pull.specs.declared.Login.{Login}
use Rattle.fsl_pull.specs.declared.PeerFault.{PeerFault}
use Rattle.fsl_pull.specs.declared.PeerFault.TheVariants as peer
use Rattle.fsl_pull.specs.declared.PullFault.{PullFault}
use Rattle.fsl_pull.specs.declared.PullFault.TheVariants as fault
use Rattle.fsl_pull.specs.Rounds.{Round, Point, End, Then, goes_on, ends, GoOn, IsSync, IsLeftOff, IsTakenInPart, CommitFailed, Broken, Asks, most_rounds}
use Rattle.fsl_pull.specs.Requests.{request_bytes, push_cards}
use Rattle.fsl_pull.specs.Replies.{IsReplyRead, asked_in}
use Rattle.fsl_pull.specs.Arrivals.{Taken, Takes, AreUnclustered, committed, commits_with, IsPartlyTaken}
use Rattle.fsl_pull.specs.Pulls.{unread, stopped_end}
use Rattle.fsl_pull.specs.Reading.{AreReadAs, CantRead}

-- what a push remembers: the names that it sent, and the names that the last reply asked for, in its order
pub record Sending : Type 0 where
  pub sent : List (List ℕ)
  pub gimmes : List (List ℕ)

-- ---- what is sent

-- a file that is held public
abbrev pub public_bytes : Contents → List ℕ → Option (List ℕ)
public_bytes c name = option_map_or (λ a. if a.private then None else Some a.bytes) (map_of.get c.held name) None

abbrev pub public_file : Contents → List ℕ → Option (List ℕ × List ℕ)
public_file c name = option_map (λ bytes. (name, bytes)) (public_bytes c name)

-- those of these names that are held public, as they are read
abbrev pub AreRead : State → List (List ℕ) → List (List ℕ × List ℕ) → Type 0
AreRead s names read = AreReadAs s.honest (filter_map (public_file (now s)) names) read

-- the files that were asked for, are held public and weren't sent, in the order of the asking, each once
abbrev pub due_files : Contents → Sending → List (List ℕ × List ℕ)
due_files c m = filter_map (public_file c) (each_once m.sent m.gimmes)

-- as many of them as the budget takes
abbrev pub within_budget : List (List ℕ × List ℕ) → List (List ℕ × List ℕ)
within_budget files = take (taken (map (λ f. length f.1) files)) files

abbrev pub files_to_send : Contents → Sending → List (List ℕ × List ℕ)
files_to_send c m = within_budget (due_files c m)

abbrev pub names_of : List (List ℕ × List ℕ) → List (List ℕ)
names_of files = map (λ f. f.0) files

-- ---- what is asked for

-- the names that a reply asks for and that are held public, ascending
abbrev pub is_public : Contents → List ℕ → Bool
is_public c name = option_map_or (λ a. not a.private) (map_of.get c.held name) false

abbrev pub asked_here : Contents → List WireCard → List (List ℕ)
asked_here c reply = ascending (filter (is_public c) (asked_in reply))

-- ---- a round

-- behind a round with files comes another
abbrev pub sent_on : Point Sending → List WireCard → Taken → List (List ℕ × List ℕ) → Point Sending
sent_on p reply t files =
    record {
      state = committed t.state;
      commits = commits_with p.commits t.state;
      count = p.count + length files;
      memory = record { sent = p.memory.sent ++ names_of files; gimmes = asked_in reply };
    }

abbrev pub push_ended : Point Sending → Taken → Option PullFault → End
push_ended p t why = record { fault = why; count = p.count; state = committed t.state; commits = commits_with p.commits t.state }

-- behind one without files the push is at its end where nothing is asked for, or where all that is was sent before
abbrev pub quiet_then : Point Sending → List WireCard → Taken → List (List ℕ) → Then Sending
quiet_then p reply t [] = ends (push_ended p t None)
quiet_then p reply t (least ∷ more) =
    if list_all (has p.memory.sent) (least ∷ more) then ends (push_ended p t (Some (fault.Peer (peer.Again least))))
    else goes_on (sent_on p reply t [])

abbrev pub push_then : Point Sending → List WireCard → Taken → List (List ℕ × List ℕ) → Then Sending
push_then p reply t [] = quiet_then p reply t (asked_here (now t.state) reply)
push_then p reply t (file ∷ files) = goes_on (sent_on p reply t (file ∷ files))

-- the sync ends before a round's commit, with what arrived so far
abbrev pub push_uncommitted : Point Sending → Taken → PullFault → End
push_uncommitted p t why = record { fault = Some why; count = p.count; state = t.state; commits = p.commits }

abbrev pub IsPushReply : Point Sending → List (List ℕ × List ℕ) → Result (List WireCard) PeerFault → Then Sending → Type 0
IsPushReply p files read step =
    MatchResult read
    (λ reply. (t : Taken) × Takes p.state None reply t × MatchOption t.fault (step ≡ push_then p reply t files) (λ why. step ≡ ends (push_uncommitted p t why)))
    (λ why. step ≡ ends (unread p why))

-- what is asked: the names are announced, and the files to send are sent as they are read
pub record IsPushRequest (login : Option Login) (p : Point Sending) (names : List (List ℕ)) (request : List ℕ) : Type 0 where
  pub files : List (List ℕ × List ℕ)
  pub read : AreReadAs p.state.honest (files_to_send (now p.state) p.memory) files
  pub bytes : request ≡ request_bytes login (push_cards (now p.state) names files)

-- a round: the unclustered public names are announced, and the files that the last reply asked for are sent
abbrev pub PushRound : Option Login → Point Sending → Round (List ℕ) Exchanged → Then Sending → Type 0
PushRound login p r step =
    (names : List (List ℕ)) × AreUnclustered p.state names
    × IsPushRequest login p names r.request
    × ((read : Result (List WireCard) PeerFault) × IsReplyRead r.reply read × IsPushReply p (files_to_send (now p.state) p.memory) read step)

-- ---- the whole

abbrev pub push_start : State → Point Sending
push_start s = record { state = s; commits = []; count = 0; memory = record { sent = []; gimmes = [] } }

abbrev pub IsPush : Option Login → State → List (Round (List ℕ) Exchanged) → End → Type 0
IsPush login s rounds e =
    MatchOption s.stopped (IsSync (PushRound login) (push_start s) rounds e) (λ faults. (rounds ≡ []) × (e ≡ stopped_end s faults))

-- what is asked: the announced names and the files
abbrev pub PushAsks : Option Login → Asks Sending (List ℕ)
PushAsks login p request =
    (names : List (List ℕ)) × AreUnclustered p.state names × IsPushRequest login p names request

abbrev pub BrokenPush : Option Login → Broken Sending (List ℕ) Exchanged
BrokenPush login p r left = PushAsks login p r.request × ((reply : List WireCard) × IsReplyRead r.reply (Ok reply) × IsPartlyTaken reply p.state left)

abbrev pub IsPushLeftOff : Option Login → State → (Point Sending → Type 0) → ℕ → List (Round (List ℕ) Exchanged) → State → Type 0
IsPushLeftOff login s Sent more rounds left = (s.stopped ≡ None) × IsLeftOff (PushRound login) Sent more (push_start s) rounds left

abbrev pub IsPushBroken : Option Login → State → List (Round (List ℕ) Exchanged) → State → Type 0
IsPushBroken login s rounds left = (s.stopped ≡ None) × IsTakenInPart (PushRound login) (BrokenPush login) (push_start s) rounds left

abbrev pub PushSoFar : Option Login → State → List (Round (List ℕ) Exchanged) → List (List Record) → Type 0
PushSoFar login s rounds commits =
    (length rounds ≤ most_rounds) × ((p : Point Sending) × GoOn (PushRound login) (push_start s) rounds p × (commits ≡ p.commits))

abbrev pub IsPushFailed : Option Login → State → List (Round (List ℕ) Exchanged) → State → Type 0
IsPushFailed login s rounds left = (s.stopped ≡ None) × (length rounds ≤ most_rounds) × CommitFailed (PushRound login) (push_start s) rounds left

-- the rounds went on, and a file that a further one was to send isn't read
pub record IsPushUnread (login : Option Login) (s : State) (why : PullFault) (rounds : List (Round (List ℕ) Exchanged)) (left : State) : Type 0 where
  pub runs : s.stopped ≡ None
  pub point : Point Sending
  pub go : GoOn (PushRound login) (push_start s) rounds point
  pub few : length rounds + 1 ≤ most_rounds
  pub name : List ℕ
  pub due : IsTrue (has (names_of (files_to_send (now point.state) point.memory)) name)
  pub cant : CantRead why point.state name left
