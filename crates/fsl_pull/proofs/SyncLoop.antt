-- A sync as a loop of rounds, whatever its course is.
use Rattle.std.specs.Prelude.{◌≡◌, ℕ, ◌+◌, ◌-◌, ◌≤◌, ◌^◌, ◌⊎◌, min, List, [], ◌∷◌, ◌++◌, length, Option, Some, None, Result, Ok, Err, IsTrue}
use Rattle.std.proofs.Common.{refl, sym, ap, subst, ◌∙◌, inl, inr, arith}
use Rattle.std.proofs.lemmas.List.{append-nil}
use Rattle.fsl_order.specs.Causes.{Rose}
use Rattle.fsl_disk.specs.Disk.{DiskState, Keeps, Quiet}
use Rattle.fsl_disk.proofs.Moments.{started, weaker, and_then, keeps_on, modelled_after}
use Rattle.fsl_outside.specs.Connections.{Connection, LinkState}
use Rattle.fsl_record.specs.declared.Record.{Record}
use Rattle.fsl_journal.specs.File.{IsFileOf}
use Rattle.fsl_repo.specs.Machine.{State}
use Rattle.fsl_repo.specs.Whole.{Seen, front}
use Rattle.fsl_http.specs.Responses.{Exchanged, IsBrokenOff, IsLeft}
use Rattle.fsl_pull.specs.declared.Pulled.{Pulled}
use Rattle.fsl_pull.specs.declared.PullFault.{PullFault}
use Rattle.fsl_pull.specs.declared.PullFault.TheVariants as fault
use Rattle.fsl_pull.specs.Rounds.{Round, Point, End, Then, goes_on, ends, Course, Asks, Broken, GoOn, IsSync, given_up, most_rounds, CommitFailed, IsLeftOff, IsTakenInPart}
use Rattle.fsl_pull.specs.Dialled.{Rounds, Grows, HasSent, Breaks}
use Rattle.fsl_pull.specs.Kept.{StandsForSome, IsKeptAtAnyMoment}
use Rattle.fsl_pull.specs.Taking.{IsRefusal}
use Rattle.fsl_pull.specs.Turns.{commits_of, AreCommitted, IsKeptBy, IsCarried, IsMade, TurnsTo, IsUncommitted}
use Rattle.fsl_pull.specs.Calls.{Kind, IsWhole, IsSynced, AreCommitsOf, dialled, IsCall}
use Rattle.fsl_pull.proofs.OneEnd.{IsDecided}
use Rattle.fsl_pull.proofs.RoundLemmas.{go_behind, end_behind, length_behind, fronts_are, CommitsFrom, front_commits, step_commits, known_commits}
use Rattle.fsl_pull.proofs.DialLemmas.{all_of, BreaksIn, grown, cut_off, idle, none_joined}
use Rattle.fsl_pull.proofs.KeptLemmas.{all_some, some_more, rests_on}

-- the second commits begin with the first
abbrev pub Longer : List (List Record) → List (List Record) → Type 0
Longer commits more = (rest : List (List Record)) × (more ≡ commits ++ rest)

-- a course from here on is that of a sync of this kind
pub record Runs {M : Type 0} (R : Course M (List ℕ) Exchanged) (A : Asks M (List ℕ)) (B : Broken M (List ℕ) Exchanged) (k : Kind) (start : Point M) : Type 1 where
  pub one : IsDecided R
  pub longer : (p : Point M) (r : Round (List ℕ) Exchanged) (step : Then M) → R p r step → Longer p.commits (commits_of step)
  pub sync : (rounds : Rounds) (e : End) → IsSync R start rounds e → k.Is rounds e
  pub left_off : (BreaksOff : Breaks) (broken : List Connection) (more : ℕ) (rounds : Rounds) (left : State) → IsLeftOff R (λ p. HasSent BreaksOff broken (A p)) more start rounds left → k.IsLeftOff BreaksOff broken more rounds left
  pub broken : (rounds : Rounds) (left : State) → IsTakenInPart R B start rounds left → k.IsBroken rounds left
  pub failed : (rounds : Rounds) (left : State) → length rounds ≤ most_rounds → CommitFailed R start rounds left → k.IsFailed rounds left
  pub commits : (rounds : Rounds) (commits : List (List Record)) → AreCommitsOf k.Is k.SoFar rounds commits → CommitsFrom R start rounds commits

-- where a sync stands behind n rounds, of which none was the end
pub record IsAt {D M : Type 0} (disk : D → DiskState) (R : Course M (List ℕ) Exchanged) (start : Point M) (Remembers : M → Type 0) (l0 l : LinkState) (d0 d : D) (s0 s : Seen) (c0 c n : ℕ) : Type 0 where
  pub rounds : Rounds
  pub point : Point M
  pub go : GoOn R start rounds point
  pub state : point.state ≡ s.state
  pub memory : Remembers point.memory
  pub many : length rounds ≡ n
  pub grows : Grows (all_of l0) (all_of l) rounds []
  pub count : point.count + c0 ≡ c
  pub committed : AreCommitted (front s0.state) point.state point.commits
  pub images : IsKeptAtAnyMoment (front s0.state) (disk d0) (disk d) point.commits
  pub keeps : Keeps (disk d0) (disk d)
  pub loaded : s.loaded ≡ s0.loaded
  pub faults : s0.state.faults ≤ s.state.faults
  pub dial : l0.faults ≤ l.faults

pub rose_since : (before mid now : ℕ) → before ≤ mid → Rose mid now → Rose before now
rose_since before mid now le rose =
    let r : min (mid + 1) (2 ^ 64 - 1) ≤ now = rose in
    let g : min (before + 1) (2 ^ 64 - 1) ≤ now = omega (arith, r, le) in g

module _ {D M : Type 0} (disk : D → DiskState) (R : Course M (List ℕ) Exchanged) (A : Asks M (List ℕ)) (B : Broken M (List ℕ) Exchanged) (l0 : LinkState) (d0 : D) (s0 : Seen) (k : Kind) (start : Point M) (runs : Runs R A B k start) where
  -- the rounds that a call made are told in its clause
  abbrev pub Tells : LinkState → D → Seen → Result Pulled PullFault → Type 0
  Tells l d s result = IsCall k s0.state s.state (dialled l0 l) (IsKeptAtAnyMoment (front s0.state) (disk d0) (disk d)) result

  abbrev Base : List Record
  Base = front s0.state

  abbrev Images : D → List (List Record) → Type 0
  Images x commits = IsKeptAtAnyMoment Base (disk d0) (disk x) commits

  longer_images : (x : D) (commits more : List (List Record)) → Longer commits more → Images x commits → Images x more
  longer_images x commits more longer images model old =
      weaker (disk d0) (disk x) (StandsForSome Base commits) (StandsForSome Base more)
      (λ c k. subst (λ (m : List (List Record)). StandsForSome Base m c) (sym longer.1) (some_more Base commits longer.0 c k)) (images model old)

  -- ---- one round more

  module _ (Remembers : M → Type 0) (l : LinkState) (d : D) (s : Seen) (c0 c n : ℕ) (h : IsAt disk R start Remembers l0 l d0 d s0 s c0 c n) where
    still_images : (x : D) → Quiet (disk d) (disk x) → Images x (h.point).commits
    still_images x quiet = λ model old.
        rests_on (disk d0) (disk d) (disk x) (StandsForSome Base (h.point).commits) (h.images model old) (modelled_after (disk d0) (disk d) h.keeps model).model quiet

    -- the commits of a step begin with those so far
    step_images : (x : D) (step : Then M) → Longer (h.point).commits (commits_of step) → IsKeptBy (disk d) (disk x) (Quiet (disk d) (disk x)) h.point step → Images x (commits_of step)
    step_images x step longer (inl (still, same)) = subst (Images x) (sym same) (still_images x still)
    step_images x step longer (inr k) = λ model old.
        and_then (disk d0) (disk d) (disk x) (StandsForSome Base (commits_of step)) (longer_images d (h.point).commits (commits_of step) longer h.images model old)
        (k Base h.committed (modelled_after (disk d0) (disk d) h.keeps model) (λ c left. (h.images model old).now c left))

    abbrev Turn : {X : Type 0} → (M → X → Type 0) → LinkState → D → Seen → ℕ → Result (Option X) PullFault → Type 0
    Turn Next l2 x s2 c2 result =
        (p : Point M) → p.state ≡ s.state → Remembers p.memory → TurnsTo Next R A B p l l2 (IsKeptBy (disk d) (disk x) (Quiet (disk d) (disk x)) p) (IsCarried c c2 p) (Quiet (disk d) (disk x)) s2.state result

    pub goes : {X : Type 0} (Next : M → X → Type 0) (l2 : LinkState) (x : D) (s2 : Seen) (c2 : ℕ) (next : X) → Turn Next l2 x s2 c2 (Ok (Some next)) → Keeps (disk d) (disk x) → s2.loaded ≡ s.loaded → s.state.faults ≤ s2.state.faults → l.faults ≤ l2.faults
        → IsAt disk R start (λ m. Next m next) l0 l2 d0 x s0 s2 c0 c2 (n + 1)
    goes Next l2 x s2 c2 next turned keeps loaded later dial =
        let k = turned h.point h.state h.memory in
        let q = k.0 in
        let made = k.1.0 in
        let count : q.count + c ≡ (h.point).count + c2 = (k.1.2).count in
        record {
          rounds = h.rounds ++ made.0 ∷ [];
          point = q;
          go = go_behind R start h.rounds h.point q made.0 h.go made.2;
          state = k.2;
          memory = k.3;
          many = length_behind h.rounds made.0 ∙ ap (λ (m : ℕ). m + 1) h.many;
          grows = grown l0 l l2 h.rounds h.grows made.0 made.1;
          count = omega (arith, count, h.count);
          committed = (k.1.2).committed Base h.committed;
          images = step_images x (goes_on q) (runs.longer h.point made.0 (goes_on q) made.2) k.1.1;
          keeps = keeps_on (disk d0) (disk d) (disk x) h.keeps keeps;
          loaded = loaded ∙ h.loaded;
          faults = omega (arith, later, h.faults);
          dial = omega (arith, dial, h.dial);
        }

    -- ---- ends

    abbrev Synced : LinkState → D → Seen → Result Pulled PullFault → Rounds → List Connection → Type 0
    Synced l2 x s2 result rounds broken = IsSynced k s0.state s2.state l0.faults l2.faults (Images x) result rounds broken

    told_step : (l2 : LinkState) (x : D) (s2 : Seen) (result : Result Pulled PullFault) (step : Then M) (made : IsMade l l2 (λ r. R h.point r step)) → IsKeptBy (disk d) (disk x) (Quiet (disk d) (disk x)) h.point step
        → Synced l2 x s2 result (h.rounds ++ made.0 ∷ []) [] → Tells l2 x s2 result
    told_step l2 x s2 result step made kept synced = (
      h.rounds ++ made.0 ∷ [],
      [],
      grown l0 l l2 h.rounds h.grows made.0 made.1,
      (
        synced,
        λ commits from.
            let same = known_commits R runs.one start h.rounds h.point made.0 step commits h.go made.2 (runs.commits (h.rounds ++ made.0 ∷ []) commits from) in
            subst (Images x) (sym same) (step_images x step (runs.longer h.point made.0 step made.2) kept),
      ),
    )

    few_more : (r : Round (List ℕ) Exchanged) → n + 1 ≤ most_rounds → length (h.rounds ++ r ∷ []) ≤ most_rounds
    few_more r lt = omega (arith, lt, length_behind h.rounds r, h.many)

    whole_by : (l2 : LinkState) (s2 : Seen) (e : End) (made : IsMade l l2 (λ r. R h.point r (ends e))) (why : Option PullFault) (pulled : Option Pulled) → n + 1 ≤ most_rounds → e.fault ≡ why → e.state ≡ s2.state
        → (pulled ≡ None) ⊎ (pulled ≡ Some (record { rounds = length (h.rounds ++ made.0 ∷ []); stored = e.count }))
        → IsWhole k.Is s2.state why pulled (h.rounds ++ made.0 ∷ []) []
    whole_by l2 s2 e made why pulled lt is_fault is_state numbers = (
      refl,
      (
        e,
        runs.sync (h.rounds ++ made.0 ∷ []) e (inl (few_more made.0 lt, end_behind R start h.rounds h.point e made.0 h.go made.2)),
        record { fault = is_fault; state = sym is_state; numbers = numbers },
      ),
    )

    pub ends_later : {X : Type 0} (Next : M → X → Type 0) (l2 : LinkState) (x : D) (s2 : Seen) (c2 : ℕ) → Turn Next l2 x s2 c2 (Ok None) → c0 ≤ c2
    ends_later Next l2 x s2 c2 turned = let k = turned h.point h.state h.memory in omega (arith, (k.1.2).later, h.count)

    pub ends_well : {X : Type 0} (Next : M → X → Type 0) (l2 : LinkState) (x : D) (s2 : Seen) (c2 rounds stores : ℕ) → Turn Next l2 x s2 c2 (Ok None) → n + 1 ≤ most_rounds → rounds ≡ n + 1 → stores ≡ c2 - c0
        → Tells l2 x s2 (Ok (record { rounds = rounds; stored = stores }))
    ends_well Next l2 x s2 c2 rounds stores turned lt is_rounds is_stores =
        let k = turned h.point h.state h.memory in
        let e = k.0 in
        let made = k.1.0 in
        let count : e.count + c ≡ (h.point).count + c2 = (k.1.2).count in
        let same_rounds : rounds ≡ length (h.rounds ++ made.0 ∷ []) = is_rounds ∙ ap (λ (m : ℕ). m + 1) (sym h.many) ∙ sym (length_behind h.rounds made.0) in
        let same_stores : stores ≡ e.count = omega (arith, is_stores, count, h.count) in
        told_step l2 x s2 (Ok (record { rounds = rounds; stored = stores })) (ends e) made k.1.1
        (whole_by l2 s2 e made None (Some (record { rounds = rounds; stored = stores })) lt k.2 k.3 (inr (λ i. Some (record { rounds = same_rounds i; stored = same_stores i }))))

    refusal_synced : (l2 : LinkState) (x : D) (s2 : Seen) (why : PullFault) (rounds : Rounds) (broken : List Connection) → IsRefusal why → IsWhole k.Is s2.state (Some why) None rounds broken → Synced l2 x s2 (Err why) rounds broken
    refusal_synced l2 x s2 (fault.NotEmpty len) rounds broken r w = w
    refusal_synced l2 x s2 (fault.NotRepository at) rounds broken r w = w
    refusal_synced l2 x s2 (fault.Project found) rounds broken r w = w
    refusal_synced l2 x s2 (fault.Stopped faults) rounds broken r w = w
    refusal_synced l2 x s2 fault.Link rounds broken r w = absurd r
    refusal_synced l2 x s2 fault.Disk rounds broken r w = absurd r
    refusal_synced l2 x s2 (fault.Peer why) rounds broken r w = w
    refusal_synced l2 x s2 (fault.TooLarge name size) rounds broken r w = w
    refusal_synced l2 x s2 (fault.Full name) rounds broken r w = w
    refusal_synced l2 x s2 (fault.Missing name) rounds broken r w = w
    refusal_synced l2 x s2 (fault.Damaged name found) rounds broken r w = absurd r
    refusal_synced l2 x s2 fault.Rounds rounds broken r w = w
    refusal_synced l2 x s2 fault.Memory rounds broken r w = absurd r

    same_commits : (commits : List (List Record)) → AreCommitsOf k.Is k.SoFar h.rounds commits → commits ≡ (h.point).commits
    same_commits commits from = front_commits R runs.one start h.rounds h.point commits h.go (runs.commits h.rounds commits from)

    kept_front : (x : D) → Quiet (disk d) (disk x) → (commits : List (List Record)) → AreCommitsOf k.Is k.SoFar h.rounds commits → Images x commits
    kept_front x still commits from = subst (Images x) (sym (same_commits commits from)) (still_images x still)

    left_off : (s2 : Seen) (BreaksOff : Breaks) (broken : List Connection) (more : ℕ) → n + 1 ≤ most_rounds → more ≤ 1 → s2.state ≡ (h.point).state → HasSent BreaksOff broken (A h.point) → k.IsLeftOff BreaksOff broken more h.rounds s2.state
    left_off s2 BreaksOff broken more lt le same sent =
        runs.left_off BreaksOff broken more h.rounds s2.state
        (record { point = h.point; go = h.go; few = omega (arith, lt, le, h.many); sent = sent; state = same })

    pub fails : {X : Type 0} (Next : M → X → Type 0) (l2 : LinkState) (x : D) (s2 : Seen) (c2 : ℕ) (why : PullFault) → Turn Next l2 x s2 c2 (Err why) → n + 1 ≤ most_rounds → l.faults ≤ l2.faults → Tells l2 x s2 (Err why)
    fails Next l2 x s2 c2 why turned lt dial = by (turned h.point h.state h.memory)
      where
        link : Quiet (disk d) (disk x) → s2.state ≡ (h.point).state → Rose l.faults l2.faults → BreaksIn (all_of l0) (all_of l2) h.rounds IsBrokenOff (A h.point) → Tells l2 x s2 (Err fault.Link)
        link still same rose b = (h.rounds, b.0, b.2, ((rose_since l0.faults l.faults l2.faults h.dial rose, left_off s2 IsBrokenOff b.0 1 lt (omega arith) same b.3), kept_front x still))

        left : Quiet (disk d) (disk x) → s2.state ≡ (h.point).state → BreaksIn (all_of l0) (all_of l2) h.rounds IsLeft (A h.point) → Tells l2 x s2 (Err fault.Memory)
        left still same b = (h.rounds, b.0, b.2, (inr (inl (left_off s2 IsLeft b.0 (length b.0) lt b.1 same b.3)), kept_front x still))

        in_part : Quiet (disk d) (disk x) → (made : IsMade l l2 (λ r. B h.point r s2.state)) → Tells l2 x s2 (Err fault.Memory)
        in_part still made = (
          h.rounds ++ made.0 ∷ [],
          [],
          grown l0 l l2 h.rounds h.grows made.0 made.1,
          (
            inr (inr (
              refl,
              runs.broken (h.rounds ++ made.0 ∷ []) s2.state
                  (record { front = h.rounds; last = made.0; whole = refl; point = h.point; go = h.go; few = few_more made.0 lt; broke = made.2 }),
              λ before last done parts so_far.
                  kept_front x still done (inr (subst (λ (rs : Rounds). k.SoFar rs done) (sym (fronts_are before h.rounds last made.0 (sym parts))) so_far)),
            )),
            λ commits from.
                let step = step_commits R runs.one start h.rounds h.point made.0 commits h.go (runs.commits (h.rounds ++ made.0 ∷ []) commits from) in
                let longer = runs.longer h.point made.0 step.0 step.1 in
                longer_images x (h.point).commits commits (longer.0, step.2 ∙ longer.1) (still_images x still),
          ),
        )

        failed : (step : Then M) (made : IsMade l l2 (λ r. R h.point r step)) → IsKeptBy (disk d) (disk x) (Quiet (disk d) (disk x)) h.point step → IsUncommitted h.point step s2.state → Tells l2 x s2 (Err fault.Disk)
        failed step made kept un =
            told_step l2 x s2 (Err fault.Disk) step made kept (
              rose_since s0.state.faults (h.point).state.faults s2.state.faults (subst (λ (t : State). s0.state.faults ≤ t.faults) (sym h.state) h.faults) un.rose,
              refl,
              runs.failed (h.rounds ++ made.0 ∷ []) s2.state (few_more made.0 lt)
                  (record {
                    front = h.rounds;
                    last = made.0;
                    whole = refl;
                    point = h.point;
                    go = h.go;
                    step = step;
                    is_round = made.2;
                    is_due = un.is_due;
                    some = omega (arith, un.some);
                    state = un.state;
                  }),
            )

        to : (w : PullFault) → why ≡ w → Tells l2 x s2 (Err w) → Tells l2 x s2 (Err why)
        to w e t = subst (λ (v : PullFault). Tells l2 x s2 (Err v)) (sym e) t

        by : TurnsTo Next R A B h.point l l2 (IsKeptBy (disk d) (disk x) (Quiet (disk d) (disk x)) h.point) (IsCarried c c2 h.point) (Quiet (disk d) (disk x)) s2.state (Err why) → Tells l2 x s2 (Err why)
        by (inl (inl (refusal, (e, (made, kept), is_fault, is_state)))) =
            told_step l2 x s2 (Err why) (ends e) made kept
            (refusal_synced l2 x s2 why (h.rounds ++ made.0 ∷ []) [] refusal (whole_by l2 s2 e made (Some why) None lt is_fault is_state (inl refl)))
        by (inl (inr (disk_fault, (step, (made, kept), un)))) = to fault.Disk disk_fault (failed step made kept un)
        by (inr (still, inl (is, same, (request, asks, (rose, inl idles))))) =
            to fault.Link is (link still same rose (idle l0 l l2 h.rounds h.grows IsBrokenOff (A h.point) idles))
        by (inr (still, inl (is, same, (request, asks, (rose, inr joins))))) =
            to fault.Link is (link still same rose (cut_off l0 l l2 h.rounds h.grows IsBrokenOff (A h.point) request joins asks))
        by (inr (still, inr (is, inl (same, inl idles)))) = to fault.Memory is (left still same (idle l0 l l2 h.rounds h.grows IsLeft (A h.point) idles))
        by (inr (still, inr (is, inl (same, inr (request, asks, joins))))) =
            to fault.Memory is (left still same (cut_off l0 l l2 h.rounds h.grows IsLeft (A h.point) request joins asks))
        by (inr (still, inr (is, inr made))) = to fault.Memory is (in_part still made)

    pub gives_up : n ≡ most_rounds → Tells l d s (Err fault.Rounds)
    gives_up all = (
      h.rounds,
      [],
      h.grows,
      (
        (
          refl,
          (
            given_up fault.Rounds h.point,
            runs.sync h.rounds (given_up fault.Rounds h.point) (inr (h.many ∙ all, (h.point, h.go, refl))),
            record { fault = refl; state = sym h.state; numbers = inl refl },
          ),
        ),
        λ commits from. subst (Images d) (sym (same_commits commits from)) h.images,
      ),
    )

-- what a round of a disk that is the same leaves is what one of a disk that is only read does
pub quiet_turn : {M X : Type 0} (Next : M → X → Type 0) (R : Course M (List ℕ) Exchanged) (A : Asks M (List ℕ)) (B : Broken M (List ℕ) Exchanged) (p : Point M) (l l2 : LinkState) (before after : DiskState) (Still Left : Type 0) (Carries : Then M → Type 0) (new : State) (result : Result (Option X) PullFault)
    → (Still → Left) → TurnsTo Next R A B p l l2 (IsKeptBy before after Still p) Carries Still new result → TurnsTo Next R A B p l l2 (IsKeptBy before after Left p) Carries Left new result
quiet_turn {M} {X} Next R A B p l l2 before after Still Left Carries new result to turned = by result turned
  where
    kept : (step : Then M) → IsKeptBy before after Still p step → IsKeptBy before after Left p step
    kept step (inl (still, same)) = inl (to still, same)
    kept step (inr k) = inr k

    by : (r : Result (Option X) PullFault) → TurnsTo Next R A B p l l2 (IsKeptBy before after Still p) Carries Still new r → TurnsTo Next R A B p l l2 (IsKeptBy before after Left p) Carries Left new r
    by (Ok (Some next)) (q, (made, k, carries), is, memory) = (q, (made, kept (goes_on q) k, carries), is, memory)
    by (Ok None) (e, (made, k, carries), none, is) = (e, (made, kept (ends e) k, carries), none, is)
    by (Err why) (inl (inl (refusal, (e, (made, k), some, is)))) = inl (inl (refusal, (e, (made, kept (ends e) k), some, is)))
    by (Err why) (inl (inr (disk_fault, (step, (made, k), un)))) = inl (inr (disk_fault, (step, (made, kept step k), un)))
    by (Err why) (inr (still, rest)) = inr (to still, rest)

-- ---- before the first round

module _ {D : Type 0} (disk : D → DiskState) (l0 : LinkState) (d0 : D) (s0 : Seen) (only_now : (c : List ℕ) → IsTrue (disk d0).is_model → (disk d0).since (disk d0).moment c → (disk d0).images c) where
  at_start : IsKeptAtAnyMoment (front s0.state) (disk d0) (disk d0) []
  at_start model old = started (disk d0) (StandsForSome (front s0.state) []) (λ c. only_now c model.model) (λ c k. all_some (front s0.state) [] c (subst (IsFileOf c) (sym (append-nil (front s0.state))) (old c k)))

  pub begins : {M : Type 0} (R : Course M (List ℕ) Exchanged) (start : Point M) (Remembers : M → Type 0) (c0 : ℕ) → start.state ≡ s0.state → start.commits ≡ [] → start.count ≡ 0 → Remembers start.memory → IsAt disk R start Remembers l0 l0 d0 d0 s0 s0 c0 c0 0
  begins R start Remembers c0 is none zeroes memory =
      record {
        rounds = [];
        point = start;
        go = refl;
        state = is;
        memory = memory;
        many = refl;
        grows = none_joined (all_of l0);
        count = omega (arith, zeroes);
        committed = subst (λ (commits : List (List Record)). AreCommitted (front s0.state) start.state commits) (sym none)
            (subst (λ (t : State). AreCommitted (front s0.state) t []) (sym is) (sym (append-nil (front s0.state))));
        images = subst (IsKeptAtAnyMoment (front s0.state) (disk d0) (disk d0)) (sym none) at_start;
        keeps = record { tells = refl; model = refl };
        loaded = refl;
        faults = omega arith;
        dial = omega arith;
      }

  -- without a commit nothing changes
  pub no_commits : (commits : List (List Record)) → commits ≡ [] → IsKeptAtAnyMoment (front s0.state) (disk d0) (disk d0) commits
  no_commits commits e = subst (IsKeptAtAnyMoment (front s0.state) (disk d0) (disk d0)) (sym e) at_start

  -- no memory before the first round
  pub wants_memory : {M : Type 0} (R : Course M (List ℕ) Exchanged) (A : Asks M (List ℕ)) (B : Broken M (List ℕ) Exchanged) (k : Kind) (start : Point M) → Runs R A B k start → start.commits ≡ []
      → IsCall k s0.state s0.state (dialled l0 l0) (IsKeptAtAnyMoment (front s0.state) (disk d0) (disk d0)) (Err fault.Memory)
  wants_memory R A B k start runs none = (
    [],
    [],
    none_joined (all_of l0),
    (
      inl (refl, refl, refl),
      λ commits from. no_commits commits (front_commits R runs.one start [] start commits refl (runs.commits [] commits from) ∙ none),
    ),
  )
