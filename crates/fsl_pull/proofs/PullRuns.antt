-- A pull as a loop of rounds.
use Rattle.std.specs.Prelude.{◌≡◌, ℕ, Bool, true, false, List, [], drop, Option, Some, None, Result, Ok, Err, MatchOption, if◌then◌else◌, IsTrue}
use Rattle.std.proofs.Common.{refl, sym, ap, subst, ◌∙◌, inl, inr}
use Rattle.std.proofs.lemmas.List.{append-nil}
use Rattle.fsl_disk.specs.Disk.{DiskState, Quiet}
use Rattle.fsl_outside.specs.Connections.{LinkState}
use Rattle.fsl_record.specs.declared.Record.{Record}
use Rattle.fsl_wire.specs.declared.WireCard.{WireCard}
use Rattle.fsl_repo.specs.Machine.{State, AreItems, now, wants}
use Rattle.fsl_repo.specs.Whole.{Seen, front, stored}
use Rattle.fsl_http.specs.Responses.{Exchanged}
use Rattle.fsl_pull.specs.declared.Login.{Login}
use Rattle.fsl_pull.specs.declared.PeerFault.{PeerFault}
use Rattle.fsl_pull.specs.declared.PullFault.{PullFault}
use Rattle.fsl_pull.specs.declared.PullFault.TheVariants as fault
use Rattle.fsl_pull.specs.Rounds.{Round, Point, End, Then, goes_on, ends, GoOn, IsSync}
use Rattle.fsl_pull.specs.Dialled.{Rounds}
use Rattle.fsl_pull.specs.Replies.{announced_in}
use Rattle.fsl_pull.specs.Arrivals.{Taken, AreWants, commits_with}
use Rattle.fsl_pull.specs.Pulls.{next_names, is_end, missing, missing_fault, pull_then, behind, ended, uncommitted, IsPullReply, IsPull, PullRound, PullAsks, BrokenPull, PullSoFar, pull_start, stopped_end}
use Rattle.fsl_pull.specs.Kept.{IsKeptAtAnyMoment}
use Rattle.fsl_pull.specs.Turns.{commits_of, IsKeptBy, IsCarried, TurnsTo}
use Rattle.fsl_pull.specs.PullTurns.{IsTurned, SameNames}
use Rattle.fsl_pull.specs.Calls.{AreCommitsOf, dialled, a_pull, IsPullCall}
use Rattle.fsl_pull.proofs.EndsWell.{one_wants}
use Rattle.fsl_pull.proofs.OneEnd.{decided, pull_determined}
use Rattle.fsl_pull.proofs.RoundLemmas.{CommitsFrom}
use Rattle.fsl_pull.proofs.DialLemmas.{all_of, none_joined}
use Rattle.fsl_pull.proofs.CommitLemmas.{with_longer}
use Rattle.fsl_pull.proofs.SyncLoop.{Longer, Runs, no_commits, quiet_turn}

abbrev Names : Type 0
Names = List (List ℕ)

-- ---- the commits of a step begin with those before it

then_longer : (p : Point Names) (reply : List WireCard) (t : Taken) (wanted : Names) (step : Then Names) → step ≡ pull_then p reply t wanted → Longer p.commits (commits_of step)
then_longer p reply t wanted step e =
    let w = with_longer p.commits (drop (t.state).committed (t.state).records) in
    (w.0, ap commits_of e ∙ by (is_end p.memory t (next_names (now t.state) wanted (announced_in reply))) ∙ w.1)
  where
    by : (b : Bool) → commits_of (if b then ends (ended p t (missing_fault (missing (next_names (now t.state) wanted (announced_in reply)) (announced_in reply)))) else goes_on (behind p t (next_names (now t.state) wanted (announced_in reply)))) ≡ commits_with p.commits t.state
    by true = refl
    by false = refl

pulled_longer : (p : Point Names) (reply : List WireCard) (t : Taken) (o : Option PullFault) (step : Then Names) → MatchOption o ((w : Names) × AreWants t.state w × (step ≡ pull_then p reply t w)) (λ why. step ≡ ends (uncommitted p t why)) → Longer p.commits (commits_of step)
pulled_longer p reply t None step h = then_longer p reply t h.0 step h.2
pulled_longer p reply t (Some why) step h = ([], ap commits_of h ∙ sym (append-nil p.commits))

read_longer : (p : Point Names) (read : Result (List WireCard) PeerFault) (step : Then Names) → IsPullReply p read step → Longer p.commits (commits_of step)
read_longer p (Ok reply) step h = pulled_longer p reply h.0 (h.0).fault step h.2
read_longer p (Err why) step h = ([], ap commits_of h ∙ sym (append-nil p.commits))

longer_by : (login : Option Login) (p : Point Names) (r : Round (List ℕ) Exchanged) (step : Then Names) → PullRound login p r step → Longer p.commits (commits_of step)
longer_by login p r step h = read_longer p h.1.0 step h.1.2

-- ---- a pull that runs

-- where a pull begins
abbrev pub first_names : Seen → Names
first_names s = wants (now s.state) s.items

abbrev pub from_here : Seen → Point Names
from_here s = pull_start s.state (first_names s)

abbrev PullBy : Option Login → State → Rounds → End → Option ℕ → Type 0
PullBy login s rounds e o =
    MatchOption o ((w : Names) × AreWants s w × IsSync (PullRound login) (pull_start s w) rounds e) (λ faults. (rounds ≡ []) × (e ≡ stopped_end s faults))

module _ (login : Option Login) (s0 : Seen) (none : s0.state.stopped ≡ None) (items : AreItems (now s0.state).held s0.items) where
  are : AreWants s0.state (first_names s0)
  are = (s0.items, items, refl)

  to_sync : (rounds : Rounds) (e : End) → IsPull login s0.state rounds e → IsSync (PullRound login) (from_here s0) rounds e
  to_sync rounds e h =
      let k = subst (PullBy login s0.state rounds e) none h in
      subst (λ (w : Names). IsSync (PullRound login) (pull_start s0.state w) rounds e) (one_wants s0.state k.0 (first_names s0) k.1 are) k.2

  to_commits : (rounds : Rounds) (commits : List (List Record)) → AreCommitsOf (IsPull login s0.state) (PullSoFar login s0.state) rounds commits → CommitsFrom (PullRound login) (from_here s0) rounds commits
  to_commits rounds commits (inl (e, h, is)) = inl (e, to_sync rounds e h, is)
  to_commits rounds commits (inr (few, (w, ws, (p, go, is)))) =
      inr (p, subst (λ (v : Names). GoOn (PullRound login) (pull_start s0.state v) rounds p) (one_wants s0.state w (first_names s0) ws are) go, is)

  pub pull_runs : Runs (PullRound login) (PullAsks login) (BrokenPull login) (a_pull login s0.state) (from_here s0)
  pull_runs =
      record {
        one = decided (PullRound login) (pull_determined login);
        longer = longer_by login;
        sync = λ rounds e h. subst (PullBy login s0.state rounds e) (sym none) (first_names s0, are, h);
        left_off = λ BreaksOff broken more rounds left h. (none, (first_names s0, are, h));
        broken = λ rounds left h. (none, (first_names s0, are, h));
        failed = λ rounds left few h. (none, few, (first_names s0, are, h));
        commits = to_commits;
      }

-- a turn of a disk that is only read
abbrev pub IsQuietTurn : Option Login → Names → LinkState → LinkState → DiskState → DiskState → Seen → Seen → Result (Option Names) PullFault → Type 0
IsQuietTurn login asked d e before after old new result =
    (p : Point Names) → p.state ≡ old.state → p.memory ≡ asked →
    TurnsTo SameNames (PullRound login) (PullAsks login) (BrokenPull login) p d e (IsKeptBy before after (Quiet before after) p) (IsCarried (stored old) (stored new) p) (Quiet before after) new.state result

-- a turn, as the code has it
pub turn_is : (login : Option Login) (a b : Names) (d e : LinkState) (before after : DiskState) (old new : Seen) (Still : Type 0) → (Still → Quiet before after) → (r q : Result (Option Names) PullFault) → a ≡ b → r ≡ q → IsTurned login a d e before after old new Still r → IsQuietTurn login b d e before after old new q
turn_is login a b d e before after old new Still to r q same is h p at m =
    quiet_turn SameNames (PullRound login) (PullAsks login) (BrokenPull login) p d e before after Still (Quiet before after) (IsCarried (stored old) (stored new) p) new.state q to (found p at m)
  where
    found : IsTurned login b d e before after old new Still q
    found = subst (λ (x : Names). IsTurned login x d e before after old new Still q) same (subst (λ (x : Result (Option Names) PullFault). IsTurned login a d e before after old new Still x) is h)

-- ---- a repository that is stopped

module _ {D : Type 0} (disk : D → DiskState) (login : Option Login) (l0 : LinkState) (d0 : D) (s0 : Seen) (only_now : (c : List ℕ) → IsTrue (disk d0).is_model → (disk d0).since (disk d0).moment c → (disk d0).images c) where
  pub stopped : (faults : ℕ) → s0.state.stopped ≡ Some faults → IsPullCall login s0.state s0.state (dialled l0 l0) (IsKeptAtAnyMoment (front s0.state) (disk d0) (disk d0)) (Err (fault.Stopped faults))
  stopped faults is = (
    [],
    [],
    none_joined (all_of l0),
    (
      (
        refl,
        (
          stopped_end s0.state faults,
          subst (PullBy login s0.state [] (stopped_end s0.state faults)) (sym is) (refl, refl),
          record { fault = refl; state = refl; numbers = inl refl },
        ),
      ),
      λ commits from. no_commits disk l0 d0 s0 only_now commits (by commits from),
    ),
  )
    where
      of_end : (e : End) → IsPull login s0.state [] e → e.commits ≡ []
      of_end e h = let k = subst (PullBy login s0.state [] e) is h in ap (λ (x : End). x.commits) k.1

      by : (commits : List (List Record)) → AreCommitsOf (IsPull login s0.state) (PullSoFar login s0.state) [] commits → commits ≡ []
      by commits (inl (e, h, same)) = same ∙ of_end e h
      by commits (inr (few, (w, ws, (p, go, same)))) = same ∙ ap (λ (x : Point Names). x.commits) go
