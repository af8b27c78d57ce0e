-- A pull from another repository as a loop of rounds.
use Rattle.std.specs.Prelude.{◌≡◌, ℕ, ◌+◌, ◌-◌, ◌≤◌, ◌<◌, ◌^◌, ◌⊎◌, min, Bool, true, false, List, [], ◌∷◌, ◌++◌, length, drop, Option, Some, None, Result, Ok, Err, MatchBool, MatchOption, if◌then◌else◌}
use Rattle.std.proofs.Common.{refl, sym, ap, subst, ◌∙◌, inl, inr, arith, append_assoc}
use Rattle.std.proofs.lemmas.List.{append-nil}
use Rattle.fsl_order.specs.Causes.{Rose}
use Rattle.fsl_disk.specs.Disk.{DiskState, Keeps}
use Rattle.fsl_disk.proofs.Moments.{weaker, and_then, keeps_on, modelled_after}
use Rattle.fsl_record.specs.declared.Record.{Record}
use Rattle.fsl_wire.specs.declared.WireCard.{WireCard}
use Rattle.fsl_repo.specs.Machine.{State, AreItems, now, wants, unclustered_names}
use Rattle.fsl_repo.specs.Whole.{Seen, front, stored}
use Rattle.fsl_pull.specs.declared.Pulled.{Pulled}
use Rattle.fsl_pull.specs.declared.PullFault.{PullFault}
use Rattle.fsl_pull.specs.declared.PullFault.TheVariants as fault
use Rattle.fsl_pull.specs.Rounds.{Round, Point, End, Then, goes_on, ends, GoOn, EndsIn}
use Rattle.fsl_pull.specs.Replies.{announced_in}
use Rattle.fsl_pull.specs.Arrivals.{Taken, AreWants, AreUnclustered, commits_with, IsPartlyTaken}
use Rattle.fsl_pull.specs.Pulls.{next_names, is_end, behind, ended, uncommitted, stopped_end, pull_start}
use Rattle.fsl_pull.specs.Locals.{local_reply, IsLocalReply, local_then, LocalRound, AreLocalRounds, IsLocalPull, project_code, other_project_end}
use Rattle.fsl_pull.specs.Kept.{StandsForSome, IsKeptAtAnyMoment}
use Rattle.fsl_pull.specs.Taking.{IsRefusal}
use Rattle.fsl_pull.specs.Turns.{commits_of, AreCommitted, IsKeptBy, IsCarried, ComesTo}
use Rattle.fsl_pull.specs.PullTurns.{none_missing, SameNames, IsReplied}
use Rattle.fsl_pull.specs.Calls.{MayBegin, IsLocalEnd, IsStuck, IsLocalUnread, IsLocalAnswer}
use Rattle.fsl_pull.specs.Reading.{CantRead}
use Rattle.fsl_pull.specs.LocalTurns.{IsLocalTurned, IsPulledFrom}
use Rattle.fsl_pull.proofs.EndsWell.{one_wants}
use Rattle.fsl_pull.proofs.OneEnd.{local_round_one, one_unclustered}
use Rattle.fsl_pull.proofs.RoundLemmas.{go_behind, end_behind, length_behind}
use Rattle.fsl_pull.proofs.CommitLemmas.{with_longer}
use Rattle.fsl_pull.proofs.KeptLemmas.{some_more}
use Rattle.fsl_pull.proofs.LocalEnds.{IsWarm, goes_further, rounds_left, one_fewer}
use Rattle.fsl_pull.proofs.ReadLemmas.{held_of, held_read}
use Rattle.fsl_pull.proofs.SyncLoop.{Longer}

abbrev Names : Type 0
Names = List (List ℕ)

abbrev Gives : Type 0
Gives = List (Round Names (List WireCard))

-- ---- the commits of a step

longer_on : (a b c : List (List Record)) → Longer a b → Longer b c → Longer a c
longer_on a b c (x, e) (y, f) = (x ++ y, f ∙ ap (λ (z : List (List Record)). z ++ y) e ∙ append_assoc a x y)

then_longer : (p : Point Names) (reply : List WireCard) (t : Taken) (wanted : Names) (step : Then Names) → step ≡ local_then p reply t wanted → Longer p.commits (commits_of step)
then_longer p reply t wanted step e =
    let w = with_longer p.commits (drop (t.state).committed (t.state).records) in
    (w.0, ap commits_of e ∙ by (is_end p.memory t (next_names (now t.state) wanted (announced_in reply))) ∙ w.1)
  where
    by : (b : Bool) → commits_of (if b then ends (ended p t None) else goes_on (behind p t (next_names (now t.state) wanted (announced_in reply)))) ≡ commits_with p.commits t.state
    by true = refl
    by false = refl

taken_longer : (p : Point Names) (reply : List WireCard) (t : Taken) (o : Option PullFault) (step : Then Names) → MatchOption o ((w : Names) × AreWants t.state w × (step ≡ local_then p reply t w)) (λ why. step ≡ ends (uncommitted p t why)) → Longer p.commits (commits_of step)
taken_longer p reply t None step h = then_longer p reply t h.0 step h.2
taken_longer p reply t (Some why) step h = ([], ap commits_of h ∙ sym (append-nil p.commits))

no_step : (p : Point Names) (e : End) → goes_on p ≡ ends e → ⊥
no_step p e h = cc

same_point : (p q : Point Names) → goes_on p ≡ goes_on q → p ≡ q
same_point p q h = cc

longer_by : (peer : State) (unclustered : Names) (p : Point Names) (r : Round Names (List WireCard)) (step : Then Names) → LocalRound peer unclustered p r step → Longer p.commits (commits_of step)
longer_by peer unclustered p r step h = taken_longer p r.reply h.2.0 (h.2.0).fault step h.2.2

module _ (peer : State) (unclustered : Names) where
  abbrev R : Point Names → Round Names (List WireCard) → Then Names → Type 0
  R = LocalRound peer unclustered

  -- the commits at the end begin with those so far
  end_longer : (q : Point Names) (zs : Gives) (e : End) → EndsIn R q zs e → Longer q.commits e.commits
  end_longer q [] e h = absurd h
  end_longer q (z ∷ zs) e (inl h) = longer_by peer unclustered q z (ends e) h.1
  end_longer q (z ∷ zs) e (inr h) = longer_on q.commits (h.0).commits e.commits (longer_by peer unclustered q z (goes_on h.0) h.1) (end_longer h.0 zs e h.2)

  -- over a disk that tells its contents and meets the disk model there is one end
  module _ (is : peer.honest ≡ true) where
    -- rounds that go on are the first of those that end
    pub rest_of : (p : Point Names) (xs ys : Gives) (q : Point Names) (e : End) → GoOn R p xs q → EndsIn R p ys e → (zs : Gives) × EndsIn R q zs e
    rest_of p [] ys q e h k = (ys, subst (λ (m : Point Names). EndsIn R m ys e) (sym h) k)
    rest_of p (x ∷ xs) [] q e h k = absurd k
    rest_of p (x ∷ xs) (y ∷ ys) q e h (inl k) = absurd (no_step h.0 e (local_round_one peer is unclustered p y x (ends e) (goes_on h.0) k.1 h.1).1)
    rest_of p (x ∷ xs) (y ∷ ys) q e h (inr k) =
        let same : h.0 ≡ k.0 = same_point h.0 k.0 (local_round_one peer is unclustered p y x (goes_on k.0) (goes_on h.0) k.1 h.1).1 in
        rest_of h.0 xs ys q e h.2 (subst (λ (m : Point Names). EndsIn R m ys e) (sym same) k.2)

    -- and with those of a round that was taken
    step_longer : (q : Point Names) (r : Round Names (List WireCard)) (step : Then Names) (zs : Gives) (e : End) → R q r step → EndsIn R q zs e → Longer (commits_of step) e.commits
    step_longer q r step [] e h k = absurd k
    step_longer q r step (z ∷ zs) e h (inl k) =
        let same : step ≡ ends e = (local_round_one peer is unclustered q z r (ends e) step k.1 h).1 in ([], sym (ap commits_of same) ∙ sym (append-nil (commits_of step)))
    step_longer q r step (z ∷ zs) e h (inr k) =
        let same : step ≡ goes_on k.0 = (local_round_one peer is unclustered q z r (goes_on k.0) step k.1 h).1 in
        subst (λ (c : List (List Record)). Longer c e.commits) (sym (ap commits_of same)) (end_longer k.0 zs e k.2)

-- ---- where it stands

abbrev pub local_start : Seen → Point Names
local_start s = pull_start s.state (wants (now s.state) s.items)

abbrev pub told_by : Seen → Names
told_by peer = unclustered_names peer.items

-- where a pull from another repository stands behind n rounds, of which none was the end
pub record LocalAt {D : Type 0} (disk : D → DiskState) (peer : Seen) (d0 d : D) (s0 s : Seen) (names : Names) (n : ℕ) : Type 0 where
  pub rounds : Gives
  pub point : Point Names
  pub go : GoOn (LocalRound peer.state (told_by peer)) (local_start s0) rounds point
  pub state : point.state ≡ s.state
  pub memory : point.memory ≡ names
  pub many : length rounds ≡ n
  pub count : point.count + stored s0 ≡ stored s
  pub committed : AreCommitted (front s0.state) point.state point.commits
  pub images : IsKeptAtAnyMoment (front s0.state) (disk d0) (disk d) point.commits
  pub keeps : Keeps (disk d0) (disk d)
  pub loaded : s.loaded ≡ s0.loaded
  pub faults : s0.state.faults ≤ s.state.faults
  -- behind the first round the names that are asked for are those that are next
  pub warm : 0 < n → IsWarm (told_by peer) point

rose_since : (before mid now : ℕ) → before ≤ mid → Rose mid now → Rose before now
rose_since before mid now le rose =
    let r : min (mid + 1) (2 ^ 64 - 1) ≤ now = rose in
    let g : min (before + 1) (2 ^ 64 - 1) ≤ now = omega (arith, r, le) in g

abbrev pub PullBy : State → State → Gives → End → Bool → Type 0
PullBy s peer rounds e b =
    MatchBool b (MatchOption s.stopped (AreLocalRounds s peer rounds e) (λ faults. (rounds ≡ []) × (e ≡ stopped_end s faults))) ((rounds ≡ []) × (e ≡ other_project_end s (project_code (now peer))))

abbrev pub RunBy : State → State → Gives → End → Option ℕ → Type 0
RunBy s peer rounds e o = MatchOption o (AreLocalRounds s peer rounds e) (λ faults. (rounds ≡ []) × (e ≡ stopped_end s faults))

module _ {D : Type 0} (disk : D → DiskState) (peer : Seen) (d0 : D) (s0 : Seen) (may : MayBegin s0.state peer.state) (items : AreItems (now s0.state).held s0.items) (peer_items : AreItems (now peer.state).held peer.items) where
  abbrev Base : List Record
  Base = front s0.state

  abbrev Images : D → List (List Record) → Type 0
  Images x commits = IsKeptAtAnyMoment Base (disk d0) (disk x) commits

  abbrev Told : Names
  Told = told_by peer

  abbrev pub Tells : D → Seen → Seen → Result Pulled PullFault → Type 0
  Tells x s left result = IsPulledFrom (disk d0) (disk x) s0 s peer left result

  are : AreWants s0.state (wants (now s0.state) s0.items)
  are = (s0.items, items, refl)

  are_told : AreUnclustered peer.state Told
  are_told = (peer.items, peer_items, refl)

  -- what a pull that may begin is
  to_rounds : (rounds : Gives) (e : End) → IsLocalPull s0.state peer.state rounds e → EndsIn (LocalRound peer.state Told) (local_start s0) rounds e
  to_rounds rounds e h =
      let k = subst (RunBy s0.state peer.state rounds e) may.runs (subst (PullBy s0.state peer.state rounds e) may.project h) in
      subst (λ (w : Names). EndsIn (LocalRound peer.state Told) (pull_start s0.state w) rounds e) (one_wants s0.state k.2.0 (wants (now s0.state) s0.items) k.2.1 are)
      (subst (λ (u : Names). EndsIn (LocalRound peer.state u) (pull_start s0.state k.2.0) rounds e) (one_unclustered peer.state k.0 Told k.1 are_told) k.2.2)

  of_rounds : (rounds : Gives) (e : End) → EndsIn (LocalRound peer.state Told) (local_start s0) rounds e → IsLocalPull s0.state peer.state rounds e
  of_rounds rounds e h =
      subst (PullBy s0.state peer.state rounds e) (sym may.project)
      (subst (RunBy s0.state peer.state rounds e) (sym may.runs) (Told, are_told, (wants (now s0.state) s0.items, are, h)))

  -- ---- one round more

  module _ (d : D) (s : Seen) (names : Names) (n : ℕ) (h : LocalAt disk peer d0 d s0 s names n) where
    still_images : (x : D) → x ≡ d → Images x (h.point).commits
    still_images x e = subst (λ (y : D). Images y (h.point).commits) (sym e) h.images

    longer_images : (x : D) (commits more : List (List Record)) → Longer commits more → Images x commits → Images x more
    longer_images x commits more longer images model old =
        weaker (disk d0) (disk x) (StandsForSome Base commits) (StandsForSome Base more)
        (λ c k. subst (λ (m : List (List Record)). StandsForSome Base m c) (sym longer.1) (some_more Base commits longer.0 c k)) (images model old)

    step_images : (x : D) (step : Then Names) → Longer (h.point).commits (commits_of step) → IsKeptBy (disk d) (disk x) (x ≡ d) h.point step → Images x (commits_of step)
    step_images x step longer (inl (still, same)) = subst (Images x) (sym same) (still_images x still)
    step_images x step longer (inr k) = λ model old.
        and_then (disk d0) (disk d) (disk x) (StandsForSome Base (commits_of step)) (longer_images d (h.point).commits (commits_of step) longer h.images model old)
        (k Base h.committed (modelled_after (disk d0) (disk d) h.keeps model) (λ c left. (h.images model old).now c left))

    abbrev pub Turn : D → Seen → Seen → Result (Option Names) PullFault → Type 0
    Turn x s2 left result = IsLocalTurned peer.state Told names (disk d) (disk x) s s2 (x ≡ d) result left.state

    abbrev Gives_so : List WireCard → Type 0
    Gives_so reply = IsLocalReply peer.state Told names reply

    -- the round that was made
    module _ (reply : List WireCard) (gives : Gives_so reply) where
      abbrev made : Round Names (List WireCard)
      made = record { request = (h.point).memory; reply = reply }

      abbrev Comes : D → Seen → Result (Option Names) PullFault → Type 0
      Comes x s2 result =
          ComesTo SameNames h.point (λ step. IsReplied none_missing h.point reply step × IsKeptBy (disk d) (disk x) (x ≡ d) h.point step) (IsCarried (stored s) (stored s2) h.point)
          (λ left. IsPartlyTaken reply (h.point).state left × (x ≡ d)) s2.state result

      gives_here : IsLocalReply peer.state Told (h.point).memory reply
      gives_here = subst (λ (m : Names). IsLocalReply peer.state Told m reply) (sym h.memory) gives

      round_of : (step : Then Names) → IsReplied none_missing h.point reply step → LocalRound peer.state Told h.point made step
      round_of step r = (refl, gives_here, r)

      -- what the images are, whatever the end is
      kept_so : (x : D) (step : Then Names) → LocalRound peer.state Told h.point made step → Images x (commits_of step) → peer.state.honest ≡ true → (rounds : Gives) (e : End) → IsLocalPull s0.state peer.state rounds e → Images x e.commits
      kept_so x step is_round images is rounds e all =
          let rest = rest_of peer.state Told is (local_start s0) h.rounds rounds h.point e h.go (to_rounds rounds e all) in
          longer_images x (commits_of step) e.commits (step_longer peer.state Told is h.point made step rest.0 e is_round rest.1) images

      ended_so : (x : D) (s2 : Seen) (e : End) (why : Option PullFault) (pulled : Option Pulled) → LocalRound peer.state Told h.point made (ends e) → Images x e.commits → e.fault ≡ why → e.state ≡ s2.state
          → (pulled ≡ None) ⊎ (pulled ≡ Some (record { rounds = length (h.rounds ++ made ∷ []); stored = e.count })) → IsLocalEnd s0.state peer.state s2.state (Images x) why pulled
      ended_so x s2 e why pulled is_round images is_fault is_state numbers = (
        h.rounds ++ made ∷ [],
        (
          e,
          of_rounds (h.rounds ++ made ∷ []) e (end_behind (LocalRound peer.state Told) (local_start s0) h.rounds h.point e made h.go is_round),
          record { fault = is_fault; state = sym is_state; numbers = numbers },
          images,
        ),
      )

      made_goes : (x : D) (s2 : Seen) (next : Names) → Comes x s2 (Ok (Some next)) → Keeps (disk d) (disk x) → s2.loaded ≡ s.loaded → s.state.faults ≤ s2.state.faults
          → LocalAt disk peer d0 x s0 s2 next (n + 1) × (rounds_left (now peer.state) s2.state (n + 1) < rounds_left (now peer.state) s.state n)
      made_goes x s2 next k keeps loaded later =
          let q = k.0 in
          let is_round = round_of (goes_on q) k.1.0.0 in
          let count : q.count + stored s ≡ (h.point).count + stored s2 = (k.1.1).count in
          let further = goes_further peer.state Told h.point q made is_round in (
            record {
              rounds = h.rounds ++ made ∷ [];
              point = q;
              go = go_behind (LocalRound peer.state Told) (local_start s0) h.rounds h.point q made h.go is_round;
              state = k.2;
              memory = k.3;
              many = length_behind h.rounds made ∙ ap (λ (m : ℕ). m + 1) h.many;
              count = omega (arith, count, h.count);
              committed = (k.1.1).committed Base h.committed;
              images = step_images x (goes_on q) (longer_by peer.state Told h.point made (goes_on q) is_round) k.1.0.1;
              keeps = keeps_on (disk d0) (disk d) (disk x) h.keeps keeps;
              loaded = loaded ∙ h.loaded;
              faults = omega (arith, later, h.faults);
              warm = λ some. further.warm;
            },
            subst (λ (t : State). rounds_left (now peer.state) t (n + 1) < rounds_left (now peer.state) s.state n) k.2
                (subst (λ (t : State). rounds_left (now peer.state) q.state (n + 1) < rounds_left (now peer.state) t n) h.state (one_fewer (now peer.state) Told h.point q n further h.warm)),
          )

      made_well : (x : D) (s2 left : Seen) (rounds stores : ℕ) → Comes x s2 (Ok None) → rounds ≡ n + 1 → stores ≡ stored s2 - stored s0 → Tells x s2 left (Ok (record { rounds = rounds; stored = stores }))
      made_well x s2 left rounds stores k is_rounds is_stores =
          let e = k.0 in
          let is_round = round_of (ends e) k.1.0.0 in
          let images = step_images x (ends e) (longer_by peer.state Told h.point made (ends e) is_round) k.1.0.1 in
          let count : e.count + stored s ≡ (h.point).count + stored s2 = (k.1.1).count in
          let same_rounds : rounds ≡ length (h.rounds ++ made ∷ []) = is_rounds ∙ ap (λ (m : ℕ). m + 1) (sym h.many) ∙ sym (length_behind h.rounds made) in
          let same_stores : stores ≡ e.count = omega (arith, is_stores, count, h.count) in (
            ended_so x s2 e None (Some (record { rounds = rounds; stored = stores })) is_round images k.2 k.3 (inr (λ i. Some (record { rounds = same_rounds i; stored = same_stores i }))),
            kept_so x (ends e) is_round images,
          )

      made_later : (x : D) (s2 : Seen) → Comes x s2 (Ok None) → stored s0 ≤ stored s2
      made_later x s2 k = omega (arith, (k.1.1).later, h.count)

    kept_before : (x : D) → x ≡ d → peer.state.honest ≡ true → (rounds : Gives) (e : End) → IsLocalPull s0.state peer.state rounds e → Images x e.commits
    kept_before x still is rounds e all =
        let rest = rest_of peer.state Told is (local_start s0) h.rounds rounds h.point e h.go (to_rounds rounds e all) in
        longer_images x (h.point).commits e.commits (end_longer peer.state Told h.point rest.0 e rest.1) (still_images x still)

    abbrev ok_of : Option Names → Result (Option Names) PullFault
    ok_of o = Ok o

    not_err : {P : Type 0} (o : Option Names) (why : PullFault) → ok_of o ≡ Err why → P
    not_err o why e = absurd (no o why e)
      where
        no : (o : Option Names) (why : PullFault) → ok_of o ≡ Err why → ⊥
        no o why e = cc

    pub goes : (x : D) (s2 left : Seen) (next : Names) → Turn x s2 left (Ok (Some next)) → Keeps (disk d) (disk x) → s2.loaded ≡ s.loaded → s.state.faults ≤ s2.state.faults
        → LocalAt disk peer d0 x s0 s2 next (n + 1) × (rounds_left (now peer.state) s2.state (n + 1) < rounds_left (now peer.state) s.state n)
    goes x s2 left next (inl (reply, gives, turned, same)) keeps loaded later = made_goes reply gives x s2 next (turned h.point h.state h.memory) keeps loaded later
    goes x s2 left next (inr (why, is, stuck, still)) keeps loaded later = not_err (Some next) why is

    pub ends_well : (x : D) (s2 left : Seen) (rounds stores : ℕ) → Turn x s2 left (Ok None) → rounds ≡ n + 1 → stores ≡ stored s2 - stored s0 → Tells x s2 left (Ok (record { rounds = rounds; stored = stores }))
    ends_well x s2 left rounds stores (inl (reply, gives, turned, same)) is_rounds is_stores = made_well reply gives x s2 left rounds stores (turned h.point h.state h.memory) is_rounds is_stores
    ends_well x s2 left rounds stores (inr (why, is, stuck, still)) is_rounds is_stores = not_err None why is

    pub ends_later : (x : D) (s2 left : Seen) → Turn x s2 left (Ok None) → stored s0 ≤ stored s2
    ends_later x s2 left (inl (reply, gives, turned, same)) = made_later reply gives x s2 (turned h.point h.state h.memory)
    ends_later x s2 left (inr (why, is, stuck, still)) = not_err None why is

    -- a round that doesn't fail leaves the peer's state
    pub peer_stays : (x : D) (s2 left : Seen) (o : Option Names) → Turn x s2 left (Ok o) → left.state ≡ peer.state
    peer_stays x s2 left o (inl (reply, gives, turned, same)) = same
    peer_stays x s2 left o (inr (why, is, stuck, still)) = not_err o why is

    refusal_answer : (x : D) (s2 left : Seen) (why : PullFault) → IsRefusal why → IsLocalEnd s0.state peer.state s2.state (Images x) (Some why) None → IsLocalAnswer s0.state s2.state peer.state left.state (Images x) (Err why)
    refusal_answer x s2 left (fault.NotEmpty len) r w = w
    refusal_answer x s2 left (fault.NotRepository at) r w = w
    refusal_answer x s2 left (fault.Project found) r w = w
    refusal_answer x s2 left (fault.Stopped faults) r w = w
    refusal_answer x s2 left fault.Link r w = absurd r
    refusal_answer x s2 left fault.Disk r w = absurd r
    refusal_answer x s2 left (fault.Damaged name found) r w = absurd r
    refusal_answer x s2 left (fault.Peer why) r w = w
    refusal_answer x s2 left (fault.TooLarge name size) r w = w
    refusal_answer x s2 left (fault.Full name) r w = w
    refusal_answer x s2 left (fault.Missing name) r w = w
    refusal_answer x s2 left fault.Rounds r w = w
    refusal_answer x s2 left fault.Memory r w = absurd r

    to : (x : D) (s2 left : Seen) (why w : PullFault) → why ≡ w → Tells x s2 left (Err w) → Tells x s2 left (Err why)
    to x s2 left why w e t = subst (λ (v : PullFault). Tells x s2 left (Err v)) (sym e) t

    cut : (x : D) (s2 left : Seen) (reply : List WireCard) → IsLocalReply peer.state Told (h.point).memory reply → IsPartlyTaken reply (h.point).state s2.state → x ≡ d → Tells x s2 left (Err fault.Memory)
    cut x s2 left reply gives partly still = (
      inr (may, (Told, wants (now s0.state) s0.items, are_told, are, (h.rounds, (h.point, h.go, ((reply, gives, partly), still_images x still))))),
      kept_before x still,
    )

    -- a file of the peer isn't read
    abbrev Unread : PullFault → D → Seen → Seen → Type 0
    Unread why x s2 left = IsLocalUnread why s0.state peer.state s2.state left.state (Images x)

    unread : (why : PullFault) (x : D) (s2 left : Seen) → IsStuck why peer.state Told names s.state s2.state left.state → x ≡ d → Unread why x s2 left
    unread why x s2 left stuck still = (
      may,
      (
        Told,
        wants (now s0.state) s0.items,
        are_told,
        are,
        (
          h.rounds,
          (
            h.point,
            h.go,
            (
              subst (λ (t : State). IsStuck why peer.state Told (h.point).memory t s2.state left.state) (sym h.state) (subst (λ (m : Names). IsStuck why peer.state Told m s.state s2.state left.state) (sym h.memory) stuck),
              still_images x still,
            ),
          ),
        ),
      ),
    )

    unread_answer : (why : PullFault) (x : D) (s2 left : Seen) (name : List ℕ) → CantRead why peer.state name left.state → Unread why x s2 left → IsLocalAnswer s0.state s2.state peer.state left.state (Images x) (Err why)
    unread_answer fault.Disk x s2 left name cant u = inr u
    unread_answer (fault.Damaged other found) x s2 left name cant u = u
    unread_answer (fault.NotEmpty len) x s2 left name cant u = absurd cant
    unread_answer (fault.NotRepository at) x s2 left name cant u = absurd cant
    unread_answer (fault.Project found) x s2 left name cant u = absurd cant
    unread_answer (fault.Stopped faults) x s2 left name cant u = absurd cant
    unread_answer fault.Link x s2 left name cant u = absurd cant
    unread_answer (fault.Peer why) x s2 left name cant u = absurd cant
    unread_answer (fault.TooLarge other size) x s2 left name cant u = absurd cant
    unread_answer (fault.Full other) x s2 left name cant u = absurd cant
    unread_answer (fault.Missing other) x s2 left name cant u = absurd cant
    unread_answer fault.Rounds x s2 left name cant u = absurd cant
    unread_answer fault.Memory x s2 left name cant u = absurd cant

    abbrev err_of : PullFault → Result (Option Names) PullFault
    err_of why = Err why

    same_fault : (a b : PullFault) → err_of a ≡ Err b → b ≡ a
    same_fault a b e = cc

    pub fails : (x : D) (s2 left : Seen) (why : PullFault) → Turn x s2 left (Err why) → Tells x s2 left (Err why)
    fails x s2 left why (inr (other, is, stuck, still)) =
        let mine = subst (λ (w : PullFault). IsStuck w peer.state Told names s.state s2.state left.state) (same_fault why other is) stuck in
        (unread_answer why x s2 left mine.name mine.cant (unread why x s2 left mine still), kept_before x still)
    fails x s2 left why (inl (reply, gives, turned, same)) = by (turned h.point h.state h.memory)
      where
        by : Comes reply gives x s2 (Err why) → Tells x s2 left (Err why)
        by (inl (inl (refusal, (e, (says, kept), is_fault, is_state)))) =
            let is_round = round_of reply gives (ends e) says in
            let images = step_images x (ends e) (longer_by peer.state Told h.point (made reply gives) (ends e) is_round) kept in (
              refusal_answer x s2 left why refusal (ended_so reply gives x s2 e (Some why) None is_round images is_fault is_state (inl refl)),
              kept_so reply gives x (ends e) is_round images,
            )
        by (inl (inr (is, (step, (says, kept), un)))) =
            let is_round = round_of reply gives step says in
            let images = step_images x step (longer_by peer.state Told h.point (made reply gives) step is_round) kept in
            to x s2 left why fault.Disk is (
              inl (
                same,
                rose_since s0.state.faults (h.point).state.faults s2.state.faults (subst (λ (t : State). s0.state.faults ≤ t.faults) (sym h.state) h.faults) un.rose,
                (
                  may,
                  (
                    Told,
                    wants (now s0.state) s0.items,
                    are_told,
                    are,
                    (
                      h.rounds ++ made reply gives ∷ [],
                      (
                        record { front = h.rounds; last = made reply gives; whole = refl; point = h.point; go = h.go; step = step; is_round = is_round; is_due = un.is_due; some = omega (arith, un.some); state = un.state },
                        images,
                      ),
                    ),
                  ),
                ),
              ),
              kept_so reply gives x step is_round images,
            )
        by (inr (is, (partly, still))) = to x s2 left why fault.Memory is (cut x s2 left reply (gives_here reply gives) partly still)

    pub gives_up : (left : Seen) → Tells d s left (Err fault.Memory)
    gives_up left =
        let held = held_of peer.state (h.point).memory in
        let reply = local_reply Told held in
        cut d s left reply (held, held_read peer.state (h.point).memory, refl) ([], reply, refl, (record { state = (h.point).state; arrivals = []; fault = None }, refl, refl, sym h.state)) refl
