-- What a push leaves, whether it has its end or was cut off.
use Rattle.std.proofs.Common.{◌≡◌, ◌⊎◌, inl, inr, ℕ, ◌+◌, ◌≤◌, Bool, true, false, List, [], ◌∷◌, ◌++◌, length, drop, Option, Some, None, Result, Ok, Err, IsTrue, refl, sym, ap, subst, ◌∙◌, arith}
use Rattle.std.specs.Prelude.{⊤, if◌then◌else◌, MatchOption}
use Rattle.std.specs.List.{list_all}
use Rattle.fsl_order.specs.Names.{has}
use Rattle.fsl_outside.specs.Connections.{Connection}
use Rattle.fsl_wire.specs.declared.WireCard.{WireCard}
use Rattle.fsl_repo.specs.Machine.{State, now, unclustered_names}
use Rattle.fsl_repo.specs.Replies.{IsSpoilt}
use Rattle.fsl_repo.specs.Whole.{front}
use Rattle.fsl_repo.proofs.SomeArrival.{some_items}
use Rattle.fsl_http.specs.Responses.{Exchanged}
use Rattle.fsl_pull.specs.declared.Login.{Login}
use Rattle.fsl_pull.specs.declared.PeerFault.{PeerFault}
use Rattle.fsl_pull.specs.declared.PeerFault.TheVariants as peer
use Rattle.fsl_pull.specs.declared.PullFault.{PullFault}
use Rattle.fsl_pull.specs.declared.PullFault.TheVariants as fault
use Rattle.fsl_pull.specs.Rounds.{Round, Point, End, Then, goes_on, ends, GoOn, EndsIn, IsSync, most_rounds}
use Rattle.fsl_pull.specs.Dialled.{Rounds, Breaks, HasSent}
use Rattle.fsl_pull.specs.Requests.{request_bytes, push_cards}
use Rattle.fsl_pull.specs.Arrivals.{Taken}
use Rattle.fsl_pull.specs.Pulls.{unread, stopped_end}
use Rattle.fsl_pull.specs.Pushes.{Sending, files_to_send, asked_here, sent_on, push_ended, quiet_then, push_then, push_uncommitted, IsPushReply, PushRound, PushAsks, push_start, IsPush, PushSoFar, IsPushLeftOff, IsPushBroken, IsPushFailed, IsPushUnread, names_of}
use Rattle.fsl_pull.specs.Reading.{AreReadAs}
use Rattle.fsl_pull.specs.Turns.{commits_of}
use Rattle.fsl_pull.specs.Calls.{AreCommitsOf, a_push}
use Rattle.fsl_pull.proofs.CommitLemmas.{with_longer}
use Rattle.fsl_pull.proofs.RoundLemmas.{go_behind, end_behind}
use Rattle.fsl_pull.proofs.SomeEnd.{push_step, some_read}
use Rattle.fossil.proofs.TakenLemmas.{IsTellable, IsTakenOver, takes_over, Start, IsAt, same_at, longer_same, IsEndAt, Behind, KeepsOn, committed_at, taken_at, unread_behind, partly_at, goes_at, sync_at, other_commits, failed_at}
use Rattle.fossil.proofs.SoundLemmas.{IsLeftAt, IsBrokenAt, IsUncommittedAt, Reading, IsUnreadAt, IsSound, sent_as, fewer}

abbrev Files : Type 0
Files = List (List ℕ × List ℕ)

-- ---- a round of a push

module _ (base : Start) (p : Point Sending) (h : IsAt base p.state p.commits) where
  module _ (reply : List WireCard) (t : Taken) (over : IsTakenOver p.state t) where
    ended_at : (why : Option PullFault) → IsTellable why → IsEndAt base p.commits (push_ended p t why)
    ended_at why told = record {
      stands = committed_at base p.state p.commits h t over;
      told = told;
      longer = with_longer p.commits (drop (t.state).committed (t.state).records);
    }

    on_at : (files : Files) → Behind base p.commits (goes_on (sent_on p reply t files))
    on_at files = (committed_at base p.state p.commits h t over, with_longer p.commits (drop (t.state).committed (t.state).records))

    again_at : (least : List ℕ) (sent : Bool) → Behind base p.commits (if sent then ends (push_ended p t (Some (fault.Peer (peer.Again least)))) else goes_on (sent_on p reply t []))
    again_at least true = ended_at (Some (fault.Peer (peer.Again least))) refl
    again_at least false = on_at []

    quiet_at : (asked : List (List ℕ)) → Behind base p.commits (quiet_then p reply t asked)
    quiet_at [] = ended_at None tt
    quiet_at (least ∷ more) = again_at least (list_all (has p.memory.sent) (least ∷ more))

    then_at : (files : Files) → Behind base p.commits (push_then p reply t files)
    then_at [] = quiet_at (asked_here (now t.state) reply)
    then_at (file ∷ files) = on_at (file ∷ files)

    -- a fault before the commit
    cut_at : (why : PullFault) → t.fault ≡ Some why → IsEndAt base p.commits (push_uncommitted p t why)
    cut_at why is = record {
      stands = taken_at base p.state p.commits h t over;
      told = subst IsTellable is (over.told h.runs);
      longer = longer_same p.commits;
    }

    push_taken : (files : Files) (step : Then Sending) (o : Option PullFault) → t.fault ≡ o → MatchOption o (step ≡ push_then p reply t files) (λ why. step ≡ ends (push_uncommitted p t why)) → Behind base p.commits step
    push_taken files step None is same = subst (Behind base p.commits) (sym same) (then_at files)
    push_taken files step (Some why) is same = subst (Behind base p.commits) (sym same) (cut_at why is)

  push_read : (files : Files) (read : Result (List WireCard) PeerFault) (step : Then Sending) → IsPushReply p files read step → Behind base p.commits step
  push_read files (Err why) step same = subst (Behind base p.commits) (sym same) (unread_behind base p h (unread p why) refl refl refl)
  push_read files (Ok reply) step (t, takes, pushed) = push_taken reply t (takes_over p.state None reply t takes) files step t.fault refl pushed

pub push_keeps : (login : Option Login) → KeepsOn (PushRound login)
push_keeps login base p r step h is = push_read base p h (files_to_send (now p.state) p.memory) is.3.0 step is.3.2

-- ---- a push

-- files that are read as they are held
as_held : (honest : Bool) (files : Files) → AreReadAs honest files files
as_held honest [] = tt
as_held honest (file ∷ files) = (record { alike = refl; named = refl; sized = refl; same = λ kind. refl }, as_held honest files)

-- a file that a further one is to send
abbrev pub PushReads : Option Login → State → Reading
PushReads login s rounds commits Says =
    (p : Point Sending) × GoOn (PushRound login) (push_start s) rounds p × (length rounds + 1 ≤ most_rounds)
    × ((name : List ℕ) × IsTrue (has (names_of (files_to_send (now p.state) p.memory)) name) × ((commits ≡ p.commits) × Says name p.state))

-- what is due behind rounds that went on
abbrev pub PushIsDue : Option Login → State → Rounds → List ℕ → Type 0
PushIsDue login s rounds body = (p : Point Sending) × GoOn (PushRound login) (push_start s) rounds p × PushAsks login p body

module _ (login : Option Login) (s : State) (base : Start) (fresh : IsAt base s []) where
  abbrev PushBy : Rounds → End → Option ℕ → Type 0
  PushBy rounds e o = MatchOption o (IsSync (PushRound login) (push_start s) rounds e) (λ faults. (rounds ≡ []) × (e ≡ stopped_end s faults))

  of_running : (rounds : Rounds) (e : End) → IsPush login s rounds e → IsSync (PushRound login) (push_start s) rounds e
  of_running rounds e h = subst (PushBy rounds e) fresh.runs h

  as_running : (rounds : Rounds) (e : End) → IsSync (PushRound login) (push_start s) rounds e → IsPush login s rounds e
  as_running rounds e is = subst (PushBy rounds e) (sym fresh.runs) is

  none : PushSoFar login s [] []
  none = (omega arith, (push_start s, refl, refl))

  whole : (rounds : Rounds) (e : End) → IsPush login s rounds e → IsEndAt base [] e
  whole rounds e h = sync_at (PushRound login) (push_keeps login) base (push_start s) rounds e fresh (of_running rounds e h)

  -- whatever the state, something is asked
  some_asked : (p : Point Sending) → (body : List ℕ) × PushAsks login p body
  some_asked p =
      let i = some_items (now p.state).held in
      let files = files_to_send (now p.state) p.memory in (
        request_bytes login (push_cards (now p.state) (unclustered_names i.0) files),
        (unclustered_names i.0, (i.0, i.1, refl), record { files = files; read = as_held p.state.honest files; bytes = refl }),
      )

  left_off : (BreaksOff : Breaks) (broken : List Connection) (more : ℕ) (rounds : Rounds) (left : State)
      → IsPushLeftOff login s (λ p. HasSent BreaksOff broken (PushAsks login p)) more rounds left → IsLeftAt (a_push login s) (PushIsDue login s) base BreaksOff broken more rounds left
  left_off BreaksOff broken more rounds left (runs, off) =
      let p = off.point in
      let at_point = goes_at (PushRound login) (push_keeps login) base (push_start s) rounds p fresh off.go in
      let due = some_asked p in
      record {
        commits = p.commits;
        so_far = (let few = off.few in omega (arith, few), (p, off.go, refl));
        stands = same_at base p.state left p.commits off.state at_point.0;
        due = (due.0, (p, off.go, due.1));
        few = off.few;
        sent = sent_as BreaksOff broken (PushAsks login p) (PushIsDue login s rounds) (λ body asks. (p, off.go, asks)) off.sent;
      }

  -- rounds that went on with one more behind them
  with_step : (rounds front : Rounds) (last : Round (List ℕ) Exchanged) (p : Point Sending) (step : Then Sending) → rounds ≡ front ++ last ∷ [] → length rounds ≤ most_rounds → GoOn (PushRound login) (push_start s) front p
      → PushRound login p last step → AreCommitsOf (IsPush login s) (PushSoFar login s) rounds (commits_of step)
  with_step rounds front last p (goes_on q) split few go is =
      inr (few, (q, subst (λ (rs : Rounds). GoOn (PushRound login) (push_start s) rs q) (sym split) (go_behind (PushRound login) (push_start s) front p q last go is), refl))
  with_step rounds front last p (ends e) split few go is =
      inl (e, as_running rounds e (inl (few, subst (λ (rs : Rounds). EndsIn (PushRound login) (push_start s) rs e) (sym split) (end_behind (PushRound login) (push_start s) front p e last go is))), refl)

  -- whatever came there is a step
  some_step : (p : Point Sending) (r : Round (List ℕ) Exchanged) → PushAsks login p r.request → (step : Then Sending) × PushRound login p r step
  some_step p r asks = let one = push_step some_items some_read login p r.reply in (one.1, (asks.0, asks.1, asks.2, one.2.3))

  broken : (rounds : Rounds) (left : State) → IsPushBroken login s rounds left → IsBrokenAt (a_push login s) base rounds left
  broken rounds left (runs, part) =
      let p = part.point in
      let at_point = goes_at (PushRound login) (push_keeps login) base (push_start s) part.front p fresh part.go in
      let step = some_step p part.last part.broke.0 in
      record {
        commits = commits_of step.0;
        are = with_step rounds part.front part.last p step.0 part.whole part.few part.go step.1;
        done = p.commits;
        before = (part.front, part.last, part.whole, (fewer rounds part.front part.last part.whole part.few, (p, part.go, refl)));
        stands = partly_at base p at_point.0 part.broke.1.0 left part.broke.1.2;
      }

  uncommitted : (rounds : Rounds) (left : State) → IsPushFailed login s rounds left → IsUncommittedAt (a_push login s) base rounds left
  uncommitted rounds left (runs, few, off) =
      let p = off.point in
      let at_point = goes_at (PushRound login) (push_keeps login) base (push_start s) off.front p fresh off.go in
      let kept = push_keeps login base p off.last off.step at_point.0 off.is_round in
      record {
        commits = commits_of off.step;
        are = with_step rounds off.front off.last p off.step off.whole few off.go off.is_round;
        done = p.commits;
        before = (off.front, off.last, off.whole, (fewer rounds off.front off.last off.whole few, (p, off.go, refl)));
        others = other_commits base p off.step at_point.0 kept off.is_due off.some;
        stands = failed_at base p off.step left at_point.0 kept off.is_due off.state;
      }

  -- a file isn't read, by the repository that is left
  unread_by : (Says : List ℕ → State → Type 0) (why : PullFault) (rounds : Rounds) (left : State) (is : IsPushUnread login s why rounds left) → left ≡ record is.point.state { faults = left.faults } → Says is.name is.point.state
      → IsUnreadAt (a_push login s) (PushReads login s) base rounds left Says
  unread_by Says why rounds left is same says =
      let p = is.point in
      let at_point = (goes_at (PushRound login) (push_keeps login) base (push_start s) rounds p fresh is.go).0 in
      record {
        commits = p.commits;
        so_far = (let few = is.few in omega (arith, few), (p, is.go, refl));
        stands = record {
          runs = ap (λ (x : State). x.stopped) same ∙ at_point.runs;
          stands = ap front same ∙ at_point.stands;
          within = subst (λ (x : State). x.committed ≤ length x.records) (sym same) at_point.within;
          steady = refl;
        };
        reads = (p, is.go, is.few, (is.name, is.due, (refl, says)));
      }

  failed : (rounds : Rounds) (left : State) → IsPushFailed login s rounds left ⊎ IsPushUnread login s fault.Disk rounds left
      → IsUncommittedAt (a_push login s) base rounds left ⊎ IsUnreadAt (a_push login s) (PushReads login s) base rounds left (λ name s. ⊤)
  failed rounds left (inl is) = inl (uncommitted rounds left is)
  failed rounds left (inr is) = inr (unread_by (λ name s. ⊤) fault.Disk rounds left is is.cant.1.state tt)

  damaged : (name found : List ℕ) (rounds : Rounds) (left : State) → IsPushUnread login s (fault.Damaged name found) rounds left
      → IsUnreadAt (a_push login s) (PushReads login s) base rounds left (λ asked s. (asked ≡ name) × IsSpoilt s name found) × (left.faults ≡ base.faults)
  damaged name found rounds left is =
      let same : left ≡ is.point.state = is.cant.2 in
      let at_point = (goes_at (PushRound login) (push_keeps login) base (push_start s) rounds is.point fresh is.go).0 in
      let named : name ≡ is.name = is.cant.0 in (
        unread_by (λ asked s. (asked ≡ name) × IsSpoilt s name found) (fault.Damaged name found) rounds left is (same ∙ ap (λ (n : ℕ). record is.point.state { faults = n }) (sym (ap (λ (x : State). x.faults) same)))
            (sym named, subst (λ (n : List ℕ). IsSpoilt is.point.state n found) (sym named) is.cant.1),
        ap (λ (x : State). x.faults) same ∙ at_point.steady,
      )

  pub push_sound : IsSound (a_push login s) (PushIsDue login s) (PushReads login s) base
  push_sound = record { none = none; whole = whole; left_off = left_off; broken = broken; failed = failed; damaged = damaged }
