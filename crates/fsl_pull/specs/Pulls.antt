-- A pull: the names that are asked for, the names that are next, and the end.
use Rattle.std.specs.Prelude.{◌≡◌, ℕ, ◌+◌, ◌≤◌, ◌&&◌, Bool, not, List, [], ◌++◌, length, filter, find, Option, Some, None, Result, Ok, if◌then◌else◌, MatchOption, MatchResult}
use Rattle.std.specs.List.{list_all}
use Rattle.fsl_order.specs.Names.{has}
use Rattle.fsl_order.specs.Rows.{ascending}
use Rattle.fsl_record.specs.declared.Record.{Record}
use Rattle.fsl_wire.specs.declared.WireCard.{WireCard}
use Rattle.fsl_blobs.specs.Fold.{Contents, is_new}
use Rattle.fsl_repo.specs.Machine.{State, now}
use Rattle.fsl_http.specs.Responses.{Exchanged}
use Rattle.fsl_pull.specs.declared.Login.{Login}
use Rattle.fsl_pull.specs.declared.PeerFault.{PeerFault}
use Rattle.fsl_pull.specs.declared.PullFault.{PullFault}
use Rattle.fsl_pull.specs.declared.PullFault.TheVariants as fault
use Rattle.fsl_pull.specs.Rounds.{Round, Point, End, Then, goes_on, ends, GoOn, IsSync, IsLeftOff, IsTakenInPart, CommitFailed, Broken, Asks, most_rounds}
use Rattle.fsl_pull.specs.Requests.{request_bytes, pull_cards}
use Rattle.fsl_pull.specs.Replies.{IsReplyRead, announced_in}
use Rattle.fsl_pull.specs.Arrivals.{Taken, Takes, AreWants, stored_in, any_moved, committed, commits_with, IsPartlyTaken}

-- ---- what is next

-- the wanted names and the names that the reply announced, without those that are held or shunned
abbrev pub next_names : Contents → List (List ℕ) → List (List ℕ) → List (List ℕ)
next_names c wanted announced = filter (is_new c) (ascending (wanted ++ announced))

-- the end: no arrival stored or published anything, and each of the next names was asked for in this round
abbrev pub is_end : List (List ℕ) → Taken → List (List ℕ) → Bool
is_end asked t next = not (any_moved t.arrivals) && list_all (has asked) next

-- ---- where a sync stands behind a round

-- the round was committed
abbrev pub behind : {M : Type 0} → Point M → Taken → M → Point M
behind p t memory =
    record {
      state = committed t.state;
      commits = commits_with p.commits t.state;
      count = p.count + stored_in t.arrivals;
      memory = memory;
    }

-- the sync ends behind a round that was committed
abbrev pub ended : {M : Type 0} → Point M → Taken → Option PullFault → End
ended p t why =
    record {
      fault = why;
      count = p.count + stored_in t.arrivals;
      state = committed t.state;
      commits = commits_with p.commits t.state;
    }

-- the sync ends before a round's commit, with what arrived so far
abbrev pub uncommitted : {M : Type 0} → Point M → Taken → PullFault → End
uncommitted p t why = record { fault = Some why; count = p.count + stored_in t.arrivals; state = t.state; commits = p.commits }

-- the sync ends with a reply of which nothing was taken
abbrev pub unread : {M : Type 0} → Point M → PeerFault → End
unread p why = record { fault = Some (fault.Peer why); count = p.count; state = p.state; commits = p.commits }

-- ---- a round

-- the least of the next names that the reply announced is missing
abbrev pub missing : List (List ℕ) → List (List ℕ) → Option (List ℕ)
missing next announced = find (has announced) next

abbrev pub missing_fault : Option (List ℕ) → Option PullFault
missing_fault None = None
missing_fault (Some name) = Some (fault.Missing name)

-- behind the round the sync is at its end, or asks for the next names
abbrev pub pull_then : Point (List (List ℕ)) → List WireCard → Taken → List (List ℕ) → Then (List (List ℕ))
pull_then p reply t wanted =
    let next = next_names (now t.state) wanted (announced_in reply) in
    if is_end p.memory t next then ends (ended p t (missing_fault (missing next (announced_in reply)))) else goes_on (behind p t next)

-- what was taken of the cards: all, or some up to a fault
abbrev pub IsPulled : Point (List (List ℕ)) → List WireCard → Taken → Then (List (List ℕ)) → Type 0
IsPulled p reply t step =
    MatchOption t.fault ((wanted : List (List ℕ)) × AreWants t.state wanted × (step ≡ pull_then p reply t wanted))
    (λ why. step ≡ ends (uncommitted p t why))

-- a reply that was read has its cards taken in order
abbrev pub IsPullReply : Point (List (List ℕ)) → Result (List WireCard) PeerFault → Then (List (List ℕ)) → Type 0
IsPullReply p read step =
    MatchResult read (λ reply. (t : Taken) × Takes p.state None reply t × IsPulled p reply t step) (λ why. step ≡ ends (unread p why))

-- what is asked: the names that are remembered
abbrev pub PullAsks : Option Login → Asks (List (List ℕ)) (List ℕ)
PullAsks login p request = request ≡ request_bytes login (pull_cards (now p.state) p.memory)

-- a round: what is remembered are the names to ask for
abbrev pub PullRound : Option Login → Point (List (List ℕ)) → Round (List ℕ) Exchanged → Then (List (List ℕ)) → Type 0
PullRound login p r step =
    PullAsks login p r.request
    × ((read : Result (List WireCard) PeerFault) × IsReplyRead r.reply read × IsPullReply p read step)

-- ---- the whole

-- a stopped repository has no round
abbrev pub stopped_end : State → ℕ → End
stopped_end s faults = record { fault = Some (fault.Stopped faults); count = 0; state = s; commits = [] }

-- the first round asks for the wanted names
abbrev pub pull_start : State → List (List ℕ) → Point (List (List ℕ))
pull_start s wanted = record { state = s; commits = []; count = 0; memory = wanted }

abbrev pub IsPull : Option Login → State → List (Round (List ℕ) Exchanged) → End → Type 0
IsPull login s rounds e =
    MatchOption s.stopped ((wanted : List (List ℕ)) × AreWants s wanted × IsSync (PullRound login) (pull_start s wanted) rounds e)
    (λ faults. (rounds ≡ []) × (e ≡ stopped_end s faults))

-- a reply that was read, and taken in part
abbrev pub BrokenPull : Option Login → Broken (List (List ℕ)) (List ℕ) Exchanged
BrokenPull login p r left = PullAsks login p r.request × ((reply : List WireCard) × IsReplyRead r.reply (Ok reply) × IsPartlyTaken reply p.state left)

-- a pull of which nothing was taken behind some rounds; and one whose last reply was taken in part
abbrev pub IsPullLeftOff : Option Login → State → (Point (List (List ℕ)) → Type 0) → ℕ → List (Round (List ℕ) Exchanged) → State → Type 0
IsPullLeftOff login s Sent more rounds left =
    (s.stopped ≡ None) × ((wanted : List (List ℕ)) × AreWants s wanted × IsLeftOff (PullRound login) Sent more (pull_start s wanted) rounds left)

abbrev pub IsPullBroken : Option Login → State → List (Round (List ℕ) Exchanged) → State → Type 0
IsPullBroken login s rounds left =
    (s.stopped ≡ None) × ((wanted : List (List ℕ)) × AreWants s wanted × IsTakenInPart (PullRound login) (BrokenPull login) (pull_start s wanted) rounds left)

-- the commits of rounds that all went on
abbrev pub PullSoFar : Option Login → State → List (Round (List ℕ) Exchanged) → List (List Record) → Type 0
PullSoFar login s rounds commits =
    (length rounds ≤ most_rounds)
    × ((wanted : List (List ℕ)) × AreWants s wanted
    × ((p : Point (List (List ℕ))) × GoOn (PullRound login) (pull_start s wanted) rounds p × (commits ≡ p.commits)))

-- the commit of its last round failed
abbrev pub IsPullFailed : Option Login → State → List (Round (List ℕ) Exchanged) → State → Type 0
IsPullFailed login s rounds left =
    (s.stopped ≡ None) × (length rounds ≤ most_rounds)
    × ((wanted : List (List ℕ)) × AreWants s wanted × CommitFailed (PullRound login) (pull_start s wanted) rounds left)
