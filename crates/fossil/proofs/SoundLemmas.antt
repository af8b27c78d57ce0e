-- What a pull leaves, whether it has its end or was cut off.
use Rattle.std.proofs.Common.{◌≡◌, ◌≢◌, ◌⊎◌, inl, inr, ℕ, ◌+◌, ◌≤◌, Bool, true, false, List, [], ◌∷◌, ◌++◌, length, drop, Option, Some, None, Result, Ok, Err, refl, sym, ap, subst, ◌∙◌, arith, length-append}
use Rattle.std.specs.Prelude.{⊤, if◌then◌else◌, MatchBool, MatchOption}
use Rattle.std.specs.Str.{bytes_eq}
use Rattle.std.proofs.lemmas.List.{append-nil}
use Rattle.fsl_outside.specs.Connections.{Connection}
use Rattle.fsl_record.specs.declared.Record.{Record}
use Rattle.fsl_wire.specs.declared.WireCard.{WireCard}
use Rattle.fsl_repo.specs.Machine.{State, now, wants}
use Rattle.fsl_repo.specs.Replies.{IsSpoilt}
use Rattle.fsl_repo.proofs.SomeArrival.{some_items}
use Rattle.fsl_http.specs.Responses.{Exchanged}
use Rattle.fsl_pull.specs.declared.Login.{Login}
use Rattle.fsl_pull.specs.declared.PeerFault.{PeerFault}
use Rattle.fsl_pull.specs.declared.PullFault.{PullFault}
use Rattle.fsl_pull.specs.Rounds.{Round, Point, End, Then, goes_on, ends, GoOn, EndsIn, IsSync, most_rounds}
use Rattle.fsl_pull.specs.Dialled.{Rounds, Breaks, HasSent}
use Rattle.fsl_pull.specs.Requests.{request_bytes, pull_cards}
use Rattle.fsl_pull.specs.Replies.{announced_in}
use Rattle.fsl_pull.specs.Arrivals.{Taken, AreWants, with_commit}
use Rattle.fsl_pull.specs.Pulls.{next_names, is_end, missing, missing_fault, behind, ended, uncommitted, unread, pull_then, IsPullReply, PullRound, PullAsks, pull_start, stopped_end, IsPull, PullSoFar, IsPullLeftOff, IsPullBroken, IsPullFailed}
use Rattle.fsl_pull.specs.Locals.{local_then, LocalRound, AreLocalRounds, IsLocalPull, project_code, other_project_end}
use Rattle.fsl_pull.specs.Turns.{commits_of}
use Rattle.fsl_pull.specs.Calls.{Kind, AreCommitsOf, a_pull, MayBegin}
use Rattle.fsl_pull.proofs.RoundLemmas.{go_behind, end_behind}
use Rattle.fsl_pull.proofs.SomeEnd.{pull_step, some_read}
use Rattle.fossil.proofs.TakenLemmas.{IsTellable, IsTakenOver, takes_over, Start, IsAt, same_at, longer_same, IsEndAt, Behind, KeepsOn, unread_behind, cut_behind, taken_behind, partly_at, goes_at, ends_at, sync_at, other_commits, IsFailedAt, failed_at}

abbrev Names : Type 0
Names = List (List ℕ)

-- ---- a round of a pull

missing_told : (name : Option (List ℕ)) → IsTellable (missing_fault name)
missing_told None = tt
missing_told (Some name) = refl

module _ (base : Start) (p : Point Names) (h : IsAt base p.state p.commits) where
  pull_taken : (reply : List WireCard) (t : Taken) → IsTakenOver p.state t → (step : Then Names) (o : Option PullFault) → t.fault ≡ o
      → MatchOption o ((wanted : Names) × AreWants t.state wanted × (step ≡ pull_then p reply t wanted)) (λ why. step ≡ ends (uncommitted p t why)) → Behind base p.commits step
  pull_taken reply t over step None is (wanted, are, same) =
      let next = next_names (now t.state) wanted (announced_in reply) in
      subst (Behind base p.commits) (sym same)
      (taken_behind base p h t over (missing_fault (missing next (announced_in reply))) (missing_told (missing next (announced_in reply))) (is_end p.memory t next) next)
  pull_taken reply t over step (Some why) is same = subst (Behind base p.commits) (sym same) (cut_behind base p h t over why is)

  pull_read : (read : Result (List WireCard) PeerFault) (step : Then Names) → IsPullReply p read step → Behind base p.commits step
  pull_read (Err why) step same = subst (Behind base p.commits) (sym same) (unread_behind base p h (unread p why) refl refl refl)
  pull_read (Ok reply) step (t, takes, pulled) = pull_taken reply t (takes_over p.state None reply t takes) step t.fault refl pulled

  local_taken : (reply : List WireCard) (t : Taken) → IsTakenOver p.state t → (step : Then Names) (o : Option PullFault) → t.fault ≡ o
      → MatchOption o ((wanted : Names) × AreWants t.state wanted × (step ≡ local_then p reply t wanted)) (λ why. step ≡ ends (uncommitted p t why)) → Behind base p.commits step
  local_taken reply t over step None is (wanted, are, same) =
      let next = next_names (now t.state) wanted (announced_in reply) in
      subst (Behind base p.commits) (sym same) (taken_behind base p h t over None tt (is_end p.memory t next) next)
  local_taken reply t over step (Some why) is same = subst (Behind base p.commits) (sym same) (cut_behind base p h t over why is)

pub pull_keeps : (login : Option Login) → KeepsOn (PullRound login)
pull_keeps login base p r step h is = pull_read base p h is.1.0 step is.1.2

pub local_keeps : (peer : State) (unclustered : Names) → KeepsOn (LocalRound peer unclustered)
local_keeps peer unclustered base p r step h is = let t = is.2.0 in local_taken base p h r.reply t (takes_over p.state None r.reply t is.2.1) step t.fault refl is.2.2

-- ---- the commits of a round of a pull from another repository

-- the second commits are the first, or these and one more
abbrev pub HasOneMore : List (List Record) → List (List Record) → Type 0
HasOneMore before due = (more : List (List Record)) × (due ≡ before ++ more) × (length more ≤ 1)

none_more : (commits : List (List Record)) → HasOneMore commits commits
none_more commits = ([], sym (append-nil commits), omega arith)

one_more : (commits : List (List Record)) (records : List Record) → HasOneMore commits (with_commit commits records)
one_more commits [] = none_more commits
one_more commits (r ∷ records) = ((r ∷ records) ∷ [], refl, omega arith)

then_one : (p : Point Names) (t : Taken) (next : Names) (b : Bool) → HasOneMore p.commits (commits_of (if b then ends (ended p t None) else goes_on (behind p t next)))
then_one p t next true = one_more p.commits (drop (t.state).committed (t.state).records)
then_one p t next false = one_more p.commits (drop (t.state).committed (t.state).records)

taken_one : (p : Point Names) (reply : List WireCard) (t : Taken) (step : Then Names) (o : Option PullFault)
    → MatchOption o ((wanted : Names) × AreWants t.state wanted × (step ≡ local_then p reply t wanted)) (λ why. step ≡ ends (uncommitted p t why)) → HasOneMore p.commits (commits_of step)
taken_one p reply t step None (wanted, are, same) =
    let next = next_names (now t.state) wanted (announced_in reply) in
    subst (λ (x : Then Names). HasOneMore p.commits (commits_of x)) (sym same) (then_one p t next (is_end p.memory t next))
taken_one p reply t step (Some why) same = subst (λ (x : Then Names). HasOneMore p.commits (commits_of x)) (sym same) (none_more p.commits)

pub local_one : (peer : State) (unclustered : Names) (p : Point Names) (r : Round Names (List WireCard)) (step : Then Names) → LocalRound peer unclustered p r step → HasOneMore p.commits (commits_of step)
local_one peer unclustered p r step is = let t = is.2.0 in taken_one p r.reply t step t.fault is.2.2

-- ---- a pull from another repository

abbrev Given : Type 0
Given = List (Round Names (List WireCard))

abbrev LocalBy : State → State → Given → End → Option ℕ → Type 0
LocalBy s t rounds e o = MatchOption o (AreLocalRounds s t rounds e) (λ faults. (rounds ≡ []) × (e ≡ stopped_end s faults))

abbrev ProjectBy : State → State → Given → End → Bool → Type 0
ProjectBy s t rounds e b = MatchBool b (LocalBy s t rounds e s.stopped) ((rounds ≡ []) × (e ≡ other_project_end s (project_code (now t))))

-- its rounds, where it may begin
pub local_rounds : (s t : State) (rounds : Given) (e : End) → MayBegin s t → IsLocalPull s t rounds e → AreLocalRounds s t rounds e
local_rounds s t rounds e may is = subst (LocalBy s t rounds e) may.runs (subst (ProjectBy s t rounds e) may.project is)

-- and back
pub local_pull : (s t : State) (rounds : Given) (e : End) → MayBegin s t → AreLocalRounds s t rounds e → IsLocalPull s t rounds e
local_pull s t rounds e may is = subst (ProjectBy s t rounds e) (sym may.project) (subst (LocalBy s t rounds e) (sym may.runs) is)

local_by : (s t : State) (base : Start) → IsAt base s [] → (rounds : Given) (e : End) (b : Bool) → ProjectBy s t rounds e b → IsEndAt base [] e
local_by s t base start rounds e true h =
    let is = subst (LocalBy s t rounds e) start.runs h in
    ends_at (LocalRound t is.0) (local_keeps t is.0) base (pull_start s is.2.0) rounds e start is.2.2
local_by s t base start rounds e false h = subst (IsEndAt base []) (sym h.1) (record { stands = start; told = refl; longer = longer_same [] })

pub local_end_at : (s t : State) (base : Start) → IsAt base s [] → (rounds : Given) (e : End) → IsLocalPull s t rounds e → IsEndAt base [] e
local_end_at s t base start rounds e is = local_by s t base start rounds e (bytes_eq (project_code (now s)) (project_code (now t))) is

-- ---- a sync over a network, of whatever kind

-- nothing of a further round was taken: the rounds went on, so many more there may be, and a connection that broke off took what is due or a front of it
pub record IsLeftAt (k : Kind) (IsDue : Rounds → List ℕ → Type 0) (base : Start) (BreaksOff : Breaks) (broken : List Connection) (more : ℕ) (rounds : Rounds) (left : State) : Type 0 where
  pub commits : List (List Record)
  pub so_far : k.SoFar rounds commits
  pub stands : IsAt base left commits
  pub due : (body : List ℕ) × IsDue rounds body
  pub few : length rounds + more ≤ most_rounds
  pub sent : HasSent BreaksOff broken (IsDue rounds)

-- the rounds but the last all went on, and come to these commits
abbrev pub AreBefore : Kind → Rounds → List (List Record) → Type 0
AreBefore k rounds done = (front : Rounds) × (last : Round (List ℕ) Exchanged) × (rounds ≡ front ++ last ∷ []) × k.SoFar front done

-- the last reply was taken in part: the commits are those of its round, or would be
pub record IsBrokenAt (k : Kind) (base : Start) (rounds : Rounds) (left : State) : Type 0 where
  pub commits : List (List Record)
  pub are : AreCommitsOf k.Is k.SoFar rounds commits
  pub done : List (List Record)
  pub before : AreBefore k rounds done
  pub stands : IsAt base left done

-- the commit of the last round failed: the commits are those of this round, and others than those before it
pub record IsUncommittedAt (k : Kind) (base : Start) (rounds : Rounds) (left : State) : Type 0 where
  pub commits : List (List Record)
  pub are : AreCommitsOf k.Is k.SoFar rounds commits
  pub done : List (List Record)
  pub before : AreBefore k rounds done
  pub others : commits ≢ done
  pub stands : IsFailedAt base left done commits

-- what is said of a content that is to be read behind rounds that went on and come to these commits: its name, and the repository that holds it
abbrev pub Reading : Type 1
Reading = Rounds → List (List Record) → (List ℕ → State → Type 0) → Type 0

-- such a content wasn't read: all of these commits were made, and nothing was changed but, where the disk failed, its count
pub record IsUnreadAt (k : Kind) (Reads : Reading) (base : Start) (rounds : Rounds) (left : State) (Says : List ℕ → State → Type 0) : Type 0 where
  pub commits : List (List Record)
  pub so_far : k.SoFar rounds commits
  pub stands : IsAt (record base { faults = left.faults }) left commits
  pub reads : Reads rounds commits Says

-- rounds that have one behind them are as few
pub fewer : (rounds front : Rounds) (last : Round (List ℕ) Exchanged) → rounds ≡ front ++ last ∷ [] → length rounds ≤ most_rounds → length front ≤ most_rounds
fewer rounds front last split few = let n = ap length split in omega (arith, n, few, length-append front (last ∷ []))

pub record IsSound (k : Kind) (IsDue : Rounds → List ℕ → Type 0) (Reads : Reading) (base : Start) : Type 1 where
  pub none : k.SoFar [] []
  pub whole : (rounds : Rounds) (e : End) → k.Is rounds e → IsEndAt base [] e
  pub left_off : (BreaksOff : Breaks) (broken : List Connection) (more : ℕ) (rounds : Rounds) (left : State) → k.IsLeftOff BreaksOff broken more rounds left → IsLeftAt k IsDue base BreaksOff broken more rounds left
  pub broken : (rounds : Rounds) (left : State) → k.IsBroken rounds left → IsBrokenAt k base rounds left
  pub failed : (rounds : Rounds) (left : State) → k.IsFailed rounds left → IsUncommittedAt k base rounds left ⊎ IsUnreadAt k Reads base rounds left (λ name s. ⊤)
  pub damaged : (name found : List ℕ) (rounds : Rounds) (left : State) → k.IsDamaged name found rounds left →
      IsUnreadAt k Reads base rounds left (λ asked s. (asked ≡ name) × IsSpoilt s name found) × (left.faults ≡ base.faults)

pub sent_as : (BreaksOff : Breaks) (broken : List Connection) (P Q : List ℕ → Type 0) → ((body : List ℕ) → P body → Q body) → HasSent BreaksOff broken P → HasSent BreaksOff broken Q
sent_as BreaksOff [] P Q f h = tt
sent_as BreaksOff (c ∷ more) P Q f h = (h.0, f h.0 h.1, h.2)

-- ---- a pull

-- no content is read for it
abbrev pub no_reading : Reading
no_reading rounds commits Says = ⊥

-- what is due behind rounds that went on
abbrev pub PullIsDue : Option Login → State → Rounds → List ℕ → Type 0
PullIsDue login s rounds body = (wanted : Names) × AreWants s wanted × ((p : Point Names) × GoOn (PullRound login) (pull_start s wanted) rounds p × PullAsks login p body)

module _ (login : Option Login) (s : State) (base : Start) (fresh : IsAt base s []) where
  abbrev PullBy : Rounds → End → Option ℕ → Type 0
  PullBy rounds e o = MatchOption o ((wanted : Names) × AreWants s wanted × IsSync (PullRound login) (pull_start s wanted) rounds e) (λ faults. (rounds ≡ []) × (e ≡ stopped_end s faults))

  of_running : (rounds : Rounds) (e : End) → IsPull login s rounds e → (wanted : Names) × AreWants s wanted × IsSync (PullRound login) (pull_start s wanted) rounds e
  of_running rounds e h = subst (PullBy rounds e) fresh.runs h

  as_running : (rounds : Rounds) (e : End) (wanted : Names) → AreWants s wanted → IsSync (PullRound login) (pull_start s wanted) rounds e → IsPull login s rounds e
  as_running rounds e wanted are is = subst (PullBy rounds e) (sym fresh.runs) (wanted, are, is)

  none : PullSoFar login s [] []
  none = let i = some_items (now s).held in (omega arith, (wants (now s) i.0, (i.0, i.1, refl), (pull_start s (wants (now s) i.0), refl, refl)))

  whole : (rounds : Rounds) (e : End) → IsPull login s rounds e → IsEndAt base [] e
  whole rounds e h = let is = of_running rounds e h in sync_at (PullRound login) (pull_keeps login) base (pull_start s is.0) rounds e fresh is.2

  left_off : (BreaksOff : Breaks) (broken : List Connection) (more : ℕ) (rounds : Rounds) (left : State)
      → IsPullLeftOff login s (λ p. HasSent BreaksOff broken (PullAsks login p)) more rounds left → IsLeftAt (a_pull login s) (PullIsDue login s) base BreaksOff broken more rounds left
  left_off BreaksOff broken more rounds left (runs, (wanted, are, off)) =
      let p = off.point in
      let at_point = goes_at (PullRound login) (pull_keeps login) base (pull_start s wanted) rounds p fresh off.go in
      record {
        commits = p.commits;
        so_far = (let few = off.few in omega (arith, few), (wanted, are, (p, off.go, refl)));
        stands = same_at base p.state left p.commits off.state at_point.0;
        due = (request_bytes login (pull_cards (now p.state) p.memory), (wanted, are, (p, off.go, refl)));
        few = off.few;
        sent = sent_as BreaksOff broken (PullAsks login p) (PullIsDue login s rounds) (λ body asks. (wanted, are, (p, off.go, asks))) off.sent;
      }

  -- rounds that went on with one more behind them
  with_step : (rounds front : Rounds) (last : Round (List ℕ) Exchanged) (wanted : Names) (p : Point Names) (step : Then Names) → rounds ≡ front ++ last ∷ [] → length rounds ≤ most_rounds → AreWants s wanted → GoOn (PullRound login) (pull_start s wanted) front p
      → PullRound login p last step → AreCommitsOf (IsPull login s) (PullSoFar login s) rounds (commits_of step)
  with_step rounds front last wanted p (goes_on q) split few are go is =
      inr (few, (wanted, are, (q, subst (λ (rs : Rounds). GoOn (PullRound login) (pull_start s wanted) rs q) (sym split) (go_behind (PullRound login) (pull_start s wanted) front p q last go is), refl)))
  with_step rounds front last wanted p (ends e) split few are go is =
      inl (e, as_running rounds e wanted are (inl (few, subst (λ (rs : Rounds). EndsIn (PullRound login) (pull_start s wanted) rs e) (sym split) (end_behind (PullRound login) (pull_start s wanted) front p e last go is))), refl)

  -- whatever came there is a step
  some_step : (p : Point Names) (r : Round (List ℕ) Exchanged) → PullAsks login p r.request → (step : Then Names) × PullRound login p r step
  some_step p r asks =
      let one = pull_step some_items some_read login p r.reply in
      let same : one.0 ≡ r.request = one.2.0 ∙ sym asks in
      (one.1, subst (λ (body : List ℕ). PullRound login p (record { request = body; reply = r.reply }) one.1) same one.2)

  broken : (rounds : Rounds) (left : State) → IsPullBroken login s rounds left → IsBrokenAt (a_pull login s) base rounds left
  broken rounds left (runs, (wanted, are, part)) =
      let p = part.point in
      let at_point = goes_at (PullRound login) (pull_keeps login) base (pull_start s wanted) part.front p fresh part.go in
      let step = some_step p part.last part.broke.0 in
      record {
        commits = commits_of step.0;
        are = with_step rounds part.front part.last wanted p step.0 part.whole part.few are part.go step.1;
        done = p.commits;
        before = (part.front, part.last, part.whole, (fewer rounds part.front part.last part.whole part.few, (wanted, are, (p, part.go, refl))));
        stands = partly_at base p at_point.0 part.broke.1.0 left part.broke.1.2;
      }

  failed : (rounds : Rounds) (left : State) → IsPullFailed login s rounds left → IsUncommittedAt (a_pull login s) base rounds left
  failed rounds left (runs, few, (wanted, are, off)) =
      let p = off.point in
      let at_point = goes_at (PullRound login) (pull_keeps login) base (pull_start s wanted) off.front p fresh off.go in
      let kept = pull_keeps login base p off.last off.step at_point.0 off.is_round in
      record {
        commits = commits_of off.step;
        are = with_step rounds off.front off.last wanted p off.step off.whole few are off.go off.is_round;
        done = p.commits;
        before = (off.front, off.last, off.whole, (fewer rounds off.front off.last off.whole few, (wanted, are, (p, off.go, refl))));
        others = other_commits base p off.step at_point.0 kept off.is_due off.some;
        stands = failed_at base p off.step left at_point.0 kept off.is_due off.state;
      }

  pub pull_sound : IsSound (a_pull login s) (PullIsDue login s) no_reading base
  pull_sound = record {
    none = none;
    whole = whole;
    left_off = left_off;
    broken = broken;
    failed = λ rounds left is. inl (failed rounds left is);
    damaged = λ name found rounds left is. absurd is;
  }
