-- A push as a loop of rounds.
use Rattle.std.specs.Prelude.{◌≡◌, ℕ, ◌+◌, ◌≤◌, Bool, true, false, List, [], ◌∷◌, length, drop, Option, Some, None, Result, Ok, Err, MatchOption, if◌then◌else◌, IsTrue}
use Rattle.std.specs.List.{list_all}
use Rattle.std.proofs.Common.{refl, sym, ap, subst, ◌∙◌, inl, inr, arith}
use Rattle.std.proofs.lemmas.List.{append-nil}
use Rattle.fsl_disk.specs.Disk.{DiskState, Quiet}
use Rattle.fsl_disk.proofs.Moments.{modelled_after}
use Rattle.fsl_order.specs.Names.{has}
use Rattle.fsl_outside.specs.Connections.{Connection, LinkState, listed}
use Rattle.fsl_record.specs.declared.Record.{Record}
use Rattle.fsl_wire.specs.declared.WireCard.{WireCard}
use Rattle.fsl_repo.specs.Machine.{State, now}
use Rattle.fsl_repo.specs.Whole.{Seen, front}
use Rattle.fsl_http.specs.Responses.{Exchanged}
use Rattle.fsl_pull.specs.declared.Login.{Login}
use Rattle.fsl_pull.specs.declared.PeerFault.{PeerFault}
use Rattle.fsl_pull.specs.declared.PeerFault.TheVariants as peer
use Rattle.fsl_pull.specs.declared.PullFault.{PullFault}
use Rattle.fsl_pull.specs.declared.PullFault.TheVariants as fault
use Rattle.fsl_pull.specs.Rounds.{Round, Point, End, Then, goes_on, ends, IsSync, most_rounds}
use Rattle.fsl_pull.specs.Dialled.{Rounds, Grows}
use Rattle.fsl_pull.specs.declared.Pulled.{Pulled}
use Rattle.fsl_pull.specs.Reading.{CantRead}
use Rattle.fsl_pull.specs.Asking.{IsIdle}
use Rattle.fsl_pull.specs.Arrivals.{Taken, commits_with}
use Rattle.fsl_pull.specs.Pulls.{stopped_end}
use Rattle.fsl_pull.specs.Pushes.{Sending, asked_here, sent_on, push_ended, quiet_then, push_then, push_uncommitted, IsPushReply, IsPush, PushRound, PushAsks, BrokenPush, PushSoFar, IsPushUnread, push_start, files_to_send, names_of}
use Rattle.fsl_pull.specs.Kept.{StandsForSome, IsKeptAtAnyMoment}
use Rattle.fsl_pull.specs.Sent.{SentNames}
use Rattle.fsl_pull.specs.Turns.{commits_of}
use Rattle.fsl_pull.specs.PushTurns.{Remembers, due_names, IsPushMade, IsPushStuck, IsPushTurned}
use Rattle.fsl_pull.specs.Calls.{AreCommitsOf, dialled, a_push, IsPushCall}
use Rattle.fsl_pull.proofs.OneEnd.{push_decided}
use Rattle.fsl_pull.proofs.RoundLemmas.{CommitsFrom, front_commits}
use Rattle.fsl_pull.proofs.DialLemmas.{all_of, none_joined}
use Rattle.fsl_pull.proofs.CommitLemmas.{with_longer}
use Rattle.fsl_pull.proofs.SyncLoop.{Longer, Runs, IsAt, rose_since, no_commits, fails}
use Rattle.fsl_pull.proofs.KeptLemmas.{rests_on}

abbrev Names : Type 0
Names = List (List ℕ)

abbrev Files : Type 0
Files = List (List ℕ × List ℕ)

-- ---- the commits of a step begin with those before it

quiet_commits : (p : Point Sending) (reply : List WireCard) (t : Taken) (here : Names) → commits_of (quiet_then p reply t here) ≡ commits_with p.commits t.state
quiet_commits p reply t [] = refl
quiet_commits p reply t (least ∷ more) = by (list_all (has p.memory.sent) (least ∷ more))
  where
    by : (b : Bool) → commits_of (if b then ends (push_ended p t (Some (fault.Peer (peer.Again least)))) else goes_on (sent_on p reply t [])) ≡ commits_with p.commits t.state
    by true = refl
    by false = refl

then_commits : (p : Point Sending) (reply : List WireCard) (t : Taken) (files : Files) → commits_of (push_then p reply t files) ≡ commits_with p.commits t.state
then_commits p reply t [] = quiet_commits p reply t (asked_here (now t.state) reply)
then_commits p reply t (f ∷ files) = refl

taken_longer : (p : Point Sending) (files : Files) (reply : List WireCard) (t : Taken) (o : Option PullFault) (step : Then Sending) → MatchOption o (step ≡ push_then p reply t files) (λ why. step ≡ ends (push_uncommitted p t why)) → Longer p.commits (commits_of step)
taken_longer p files reply t None step h =
    let w = with_longer p.commits (drop (t.state).committed (t.state).records) in
    (w.0, ap commits_of h ∙ then_commits p reply t files ∙ w.1)
taken_longer p files reply t (Some why) step h = ([], ap commits_of h ∙ sym (append-nil p.commits))

pub read_longer : (p : Point Sending) (files : Files) (read : Result (List WireCard) PeerFault) (step : Then Sending) → IsPushReply p files read step → Longer p.commits (commits_of step)
read_longer p files (Ok reply) step h = taken_longer p files reply h.0 (h.0).fault step h.2
read_longer p files (Err why) step h = ([], ap commits_of h ∙ sym (append-nil p.commits))

longer_by : (login : Option Login) (p : Point Sending) (r : Round (List ℕ) Exchanged) (step : Then Sending) → PushRound login p r step → Longer p.commits (commits_of step)
longer_by login p r step h = read_longer p (files_to_send (now p.state) p.memory) h.3.0 step h.3.2

-- ---- a push that runs

abbrev PushBy : Option Login → State → Rounds → End → Option ℕ → Type 0
PushBy login s rounds e o = MatchOption o (IsSync (PushRound login) (push_start s) rounds e) (λ faults. (rounds ≡ []) × (e ≡ stopped_end s faults))

module _ (login : Option Login) (s : State) (none : s.stopped ≡ None) where
  to_commits : (rounds : Rounds) (commits : List (List Record)) → AreCommitsOf (IsPush login s) (PushSoFar login s) rounds commits → CommitsFrom (PushRound login) (push_start s) rounds commits
  to_commits rounds commits (inl (e, h, is)) = inl (e, subst (PushBy login s rounds e) none h, is)
  to_commits rounds commits (inr (few, (p, go, is))) = inr (p, go, is)

  pub push_runs : Runs (PushRound login) (PushAsks login) (BrokenPush login) (a_push login s) (push_start s)
  push_runs =
      record {
        one = push_decided login;
        longer = longer_by login;
        sync = λ rounds e h. subst (PushBy login s rounds e) (sym none) h;
        left_off = λ BreaksOff broken more rounds left h. (none, h);
        broken = λ rounds left h. (none, h);
        failed = λ rounds left few h. inl (none, few, h);
        commits = to_commits;
      }

abbrev ok_of : Option Names → Result (Option Names) PullFault
ok_of o = Ok o

abbrev err_of : PullFault → Result (Option Names) PullFault
err_of why = Err why

-- a turn, as the code has it
pub turn_is : (login : Option Login) (a b : Names) (d e : LinkState) (before after : DiskState) (old new : Seen) (sent sent_new : SentNames) (r q : Result (Option Names) PullFault) → a ≡ b → r ≡ q
    → IsPushTurned login a d e before after old new sent sent_new r → IsPushTurned login b d e before after old new sent sent_new q
turn_is login a b d e before after old new sent sent_new r q same is h =
    subst (λ (x : Names). IsPushTurned login x d e before after old new sent sent_new q) same
    (subst (λ (x : Result (Option Names) PullFault). IsPushTurned login a d e before after old new sent sent_new x) is h)

-- a turn without a fault was made
pub made_ok : (login : Option Login) (gimmes : Names) (d e : LinkState) (before after : DiskState) (old new : Seen) (sent sent_new : SentNames) (o : Option Names) → IsPushTurned login gimmes d e before after old new sent sent_new (Ok o) → IsPushMade login gimmes d e before after old new sent sent_new (Ok o)
made_ok login gimmes d e before after old new sent sent_new o (inl made) = made
made_ok login gimmes d e before after old new sent sent_new o (inr stuck) = absurd (no_fault stuck.why stuck.is)
  where
    no_fault : (why : PullFault) → ok_of o ≡ Err why → ⊥
    no_fault why h = cc

-- ---- a file that isn't read

module _ {D : Type 0} (disk : D → DiskState) (login : Option Login) (l0 : LinkState) (d0 : D) (s0 : Seen) (none : s0.state.stopped ≡ None) where
  abbrev Tells : LinkState → D → Seen → Result Pulled PullFault → Type 0
  Tells l x s result = IsPushCall login s0.state s.state (dialled l0 l) (IsKeptAtAnyMoment (front s0.state) (disk d0) (disk x)) result

  module _ (gimmes : Names) (sent : SentNames) (l : LinkState) (d : D) (s : Seen) (n : ℕ) (h : IsAt disk (PushRound login) (push_start s0.state) (λ (m : Sending). Remembers sent m gimmes) l0 l d0 d s0 s 0 (length sent.order) n) (lt : n + 1 ≤ most_rounds) where
    -- the name is due at this point
    due_here : (name : List ℕ) → IsTrue (has (due_names s sent gimmes) name) → IsTrue (has (names_of (files_to_send (now (h.point).state) (h.point).memory)) name)
    due_here name due = subst (λ (ns : Names). IsTrue (has ns name)) (λ i. names_of (files_to_send (now (sym h.state i)) (sym h.memory i))) due

    kept : (x : D) → Quiet (disk d) (disk x) → (commits : List (List Record)) → AreCommitsOf (IsPush login s0.state) (PushSoFar login s0.state) h.rounds commits → IsKeptAtAnyMoment (front s0.state) (disk d0) (disk x) commits
    kept x quiet commits from =
        subst (IsKeptAtAnyMoment (front s0.state) (disk d0) (disk x)) (sym (front_commits (PushRound login) (push_decided login) (push_start s0.state) h.rounds h.point commits h.go (to_commits login s0.state none h.rounds commits from)))
        (λ model old. rests_on (disk d0) (disk d) (disk x) (StandsForSome (front s0.state) (h.point).commits) (h.images model old) (modelled_after (disk d0) (disk d) h.keeps model).model quiet)

    unread : (l2 : LinkState) (x : D) (s2 : Seen) (why : PullFault) (name : List ℕ) → IsTrue (has (due_names s sent gimmes) name) → CantRead why s.state name s2.state → IsPushUnread login s0.state why h.rounds s2.state
    unread l2 x s2 why name due cant =
        record {
          runs = none;
          point = h.point;
          go = h.go;
          few = omega (arith, lt, h.many);
          name = name;
          due = due_here name due;
          cant = subst (λ (t : State). CantRead why t name s2.state) (sym h.state) cant;
        }

    still_grows : (l2 : LinkState) → IsIdle l l2 → Grows (all_of l0) (all_of l2) h.rounds []
    still_grows l2 same = subst (λ (a : Option (List Connection)). Grows (all_of l0) a h.rounds []) (sym (λ i. listed ((same.1 i).earlier) (same.0 i))) h.grows

    pub stuck : (l2 : LinkState) (x : D) (s2 : Seen) (sent2 : SentNames) (result : Result (Option Names) PullFault) (why : PullFault) → result ≡ Err why → IsPushStuck gimmes l l2 (disk d) (disk x) s s2 sent result → Tells l2 x s2 (Err why)
    stuck l2 x s2 sent2 result why is k = by why (subst (λ (w : PullFault). CantRead w s.state k.name s2.state) (fault_is k.why why (sym k.is ∙ is)) k.cant)
      where
        fault_is : (a b : PullFault) → err_of a ≡ Err b → a ≡ b
        fault_is a b e = cc

        by : (w : PullFault) → CantRead w s.state k.name s2.state → Tells l2 x s2 (Err w)
        by fault.Disk cant = (
          h.rounds,
          [],
          still_grows l2 k.idle,
          ((rose_since s0.state.faults s.state.faults s2.state.faults h.faults cant.0, refl, inr (unread l2 x s2 fault.Disk k.name k.due cant)), kept x k.quiet),
        )
        by (fault.Damaged name found) cant = (h.rounds, [], still_grows l2 k.idle, ((refl, unread l2 x s2 (fault.Damaged name found) k.name k.due cant), kept x k.quiet))
        by (fault.NotEmpty len) cant = absurd cant
        by (fault.NotRepository place) cant = absurd cant
        by (fault.Project found) cant = absurd cant
        by (fault.Stopped faults) cant = absurd cant
        by fault.Link cant = absurd cant
        by (fault.Peer w) cant = absurd cant
        by (fault.TooLarge name size) cant = absurd cant
        by (fault.Full name) cant = absurd cant
        by (fault.Missing name) cant = absurd cant
        by fault.Rounds cant = absurd cant
        by fault.Memory cant = absurd cant

    -- a round that failed
    pub push_fails : (l2 : LinkState) (x : D) (s2 : Seen) (sent2 : SentNames) (why : PullFault) → IsPushTurned login gimmes l l2 (disk d) (disk x) s s2 sent sent2 (Err why) → l.faults ≤ l2.faults → Tells l2 x s2 (Err why)
    push_fails l2 x s2 sent2 why (inl made) dial =
        fails disk (PushRound login) (PushAsks login) (BrokenPush login) l0 d0 s0 (a_push login s0.state) (push_start s0.state) (push_runs login s0.state none)
        (λ (m : Sending). Remembers sent m gimmes) l d s 0 (length sent.order) n h (Remembers sent2) l2 x s2 (length sent2.order) why made lt dial
    push_fails l2 x s2 sent2 why (inr k) dial = stuck l2 x s2 sent2 (Err why) why refl k

-- ---- a repository that is stopped

module _ {D : Type 0} (disk : D → DiskState) (login : Option Login) (l0 : LinkState) (d0 : D) (s0 : Seen) (only_now : (c : List ℕ) → IsTrue (disk d0).is_model → (disk d0).since (disk d0).moment c → (disk d0).images c) where
  pub stopped : (faults : ℕ) → s0.state.stopped ≡ Some faults → IsPushCall login s0.state s0.state (dialled l0 l0) (IsKeptAtAnyMoment (front s0.state) (disk d0) (disk d0)) (Err (fault.Stopped faults))
  stopped faults is = (
    [],
    [],
    none_joined (all_of l0),
    (
      (
        refl,
        (
          stopped_end s0.state faults,
          subst (PushBy login s0.state [] (stopped_end s0.state faults)) (sym is) (refl, refl),
          record { fault = refl; state = refl; numbers = inl refl },
        ),
      ),
      λ commits from. no_commits disk l0 d0 s0 only_now commits (by commits from),
    ),
  )
    where
      of_end : (e : End) → IsPush login s0.state [] e → e.commits ≡ []
      of_end e h = let k = subst (PushBy login s0.state [] e) is h in ap (λ (x : End). x.commits) k.1

      by : (commits : List (List Record)) → AreCommitsOf (IsPush login s0.state) (PushSoFar login s0.state) [] commits → commits ≡ []
      by commits (inl (e, h, same)) = same ∙ of_end e h
      by commits (inr (few, (p, go, same))) = same ∙ ap (λ (x : Point Sending). x.commits) go
