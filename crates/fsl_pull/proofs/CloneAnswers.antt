-- The answers of a clone, by the rounds so far and by its last one.
use Rattle.std.specs.Prelude.{◌≡◌, ℕ, ◌+◌, ◌<◌, ◌≤◌, ◌⊎◌, List, [], ◌∷◌, ◌++◌, length, Option, Some, None, Result, Ok, Err}
use Rattle.std.proofs.Common.{refl, sym, subst, ◌∙◌, inl, inr, arith}
use Rattle.fsl_order.specs.Causes.{Rose}
use Rattle.fsl_outside.specs.Connections.{Connection, LinkState}
use Rattle.fsl_record.specs.declared.Record.{Record}
use Rattle.fsl_wire.specs.declared.WireCard.{WireCard}
use Rattle.fsl_http.specs.Responses.{Exchanged, IsBrokenOff, IsLeft}
use Rattle.fsl_http.specs.Exchanges.{IsExchangeOf}
use Rattle.fsl_pull.specs.declared.Pulled.{Pulled}
use Rattle.fsl_pull.specs.declared.PullFault.{PullFault}
use Rattle.fsl_pull.specs.declared.PullFault.TheVariants as fault
use Rattle.fsl_pull.specs.Rounds.{Round, Point, End, Then, ends, Course, GoOn, given_up, state_of, most_rounds}
use Rattle.fsl_pull.specs.Dialled.{Rounds, Grows}
use Rattle.fsl_pull.specs.Replies.{IsReplyRead}
use Rattle.fsl_pull.specs.Taking.{IsRefusal}
use Rattle.fsl_pull.specs.Turns.{commits_of, IsMade}
use Rattle.fsl_pull.specs.Clones.{Cloning, CloneAsks, clone_start}
use Rattle.fsl_pull.specs.Calls.{Dialled, dialled}
use Rattle.fsl_pull.specs.CloneCalls.{CloneOf, round_of, IsCloneEnd, AreBegun, IsUnmade, committed_before, commits_before, IsCloneFailed, IsCloneAnswer, AreCloneCommits, IsCloneCall, UnlessDisk}
use Rattle.fsl_pull.proofs.OneEnd.{IsDecided, decided, clone_determined}
use Rattle.fsl_pull.proofs.RoundLemmas.{end_behind, length_behind, CommitsFrom, front_commits, step_commits, known_commits}
use Rattle.fsl_pull.proofs.DialLemmas.{all_of, BreaksIn, grown, none_joined}

module _ (k : CloneOf) (IsKept : List (List Record) → Type 0) (l0 l l2 : LinkState) (faults : ℕ) where
  abbrev R : Course Cloning (List ℕ) Exchanged
  R = round_of k

  abbrev start : Point Cloning
  start = clone_start k.faults k.honest

  abbrev pub Call : Result Pulled PullFault → Type 0
  Call result = IsCloneCall k (dialled l0 l2) faults IsKept result

  one : IsDecided R
  one = decided R (clone_determined k.server k.fields k.login)

  from_start : (rounds : Rounds) (commits : List (List Record)) → AreCloneCommits k rounds commits → CommitsFrom R start rounds commits
  from_start rounds commits (inl (e, h, is)) = inl (e, h, is)
  from_start rounds commits (inr (few, (p, go, is))) = inr (p, go, is)

  refused_answer : (why : PullFault) (d : Dialled) (rounds : Rounds) → IsRefusal why → IsCloneEnd k (Some why) None rounds [] → IsCloneAnswer k d faults IsKept (Err why) rounds []
  refused_answer (fault.NotEmpty len) d rounds r w = absurd r
  refused_answer (fault.NotRepository at) d rounds r w = absurd r
  refused_answer (fault.Project found) d rounds r w = w
  refused_answer (fault.Stopped count) d rounds r w = w
  refused_answer fault.Link d rounds r w = absurd r
  refused_answer fault.Disk d rounds r w = absurd r
  refused_answer (fault.Peer why) d rounds r w = w
  refused_answer (fault.TooLarge name size) d rounds r w = w
  refused_answer (fault.Full name) d rounds r w = w
  refused_answer (fault.Missing name) d rounds r w = w
  refused_answer (fault.Damaged name found) d rounds r w = absurd r
  refused_answer fault.Rounds d rounds r w = w
  refused_answer fault.Memory d rounds r w = absurd r

  -- ---- behind some rounds that went on

  module _ (empty : k.Length 0) (front : Rounds) (point : Point Cloning) (go : GoOn R start front point) (grows : Grows (all_of l0) (all_of l) front []) where
    kept_front : IsKept point.commits → (commits : List (List Record)) → AreCloneCommits k front commits → IsKept commits
    kept_front kept commits from = subst IsKept (sym (front_commits R one start front point commits go (from_start front commits from))) kept

    -- nothing of a further round was taken
    pub cut : Rose l0.faults l2.faults → length front + 1 ≤ most_rounds → BreaksIn (all_of l0) (all_of l2) front IsBrokenOff (CloneAsks k.login point) → k.Leaves point.commits → IsKept point.commits → Call (Err fault.Link)
    cut rose lt b left kept = (
      front,
      b.0,
      b.2,
      ((rose, record { empty = empty; point = point; go = go; few = lt; sent = b.3; left = left }), kept_front kept),
    )

    pub left_off : length front + 1 ≤ most_rounds → BreaksIn (all_of l0) (all_of l2) front IsLeft (CloneAsks k.login point) → k.Leaves point.commits → IsKept point.commits → Call (Err fault.Memory)
    left_off lt b left kept = (
      front,
      b.0,
      b.2,
      (inl (record { empty = empty; point = point; go = go; few = omega (arith, lt, b.1); sent = b.3; left = left }), kept_front kept),
    )

    -- ---- with one round more

    few_more : (r : Round (List ℕ) Exchanged) → length front + 1 ≤ most_rounds → length (front ++ r ∷ []) ≤ most_rounds
    few_more r lt = omega (arith, lt, length_behind front r)

    told_step : (result : Result Pulled PullFault) (step : Then Cloning) (made : IsMade l l2 (λ r. R point r step)) → IsKept (commits_of step) → IsCloneAnswer k (dialled l0 l2) faults IsKept result (front ++ made.0 ∷ []) [] → Call result
    told_step result step made kept answer = (
      front ++ made.0 ∷ [],
      [],
      grown l0 l l2 front grows made.0 made.1,
      (
        answer,
        λ commits from.
            subst IsKept (sym (known_commits R one start front point made.0 step commits go made.2 (from_start (front ++ made.0 ∷ []) commits from))) kept,
      ),
    )

    whole_by : (e : End) (made : IsMade l l2 (λ r. R point r (ends e))) (why : Option PullFault) (pulled : Option Pulled) → length front + 1 ≤ most_rounds → e.fault ≡ why
        → (pulled ≡ None) ⊎ (pulled ≡ Some (record { rounds = length (front ++ made.0 ∷ []); stored = e.count })) → k.Leaves e.commits
        → IsCloneEnd k why pulled (front ++ made.0 ∷ []) []
    whole_by e made why pulled lt is numbers left = (
      refl,
      (0, empty, (e, inl (few_more made.0 lt, end_behind R start front point e made.0 go made.2), is, numbers, left)),
    )

    -- the last round was the end, or a fault of it was
    pub ended : (e : End) (made : IsMade l l2 (λ r. R point r (ends e))) (rounds stores : ℕ) → length front + 1 ≤ most_rounds → e.fault ≡ None → rounds ≡ length front + 1 → stores ≡ e.count → k.Leaves e.commits → IsKept e.commits
        → Call (Ok (record { rounds = rounds; stored = stores }))
    ended e made rounds stores lt none is_rounds is_stores left kept =
        let same : rounds ≡ length (front ++ made.0 ∷ []) = is_rounds ∙ sym (length_behind front made.0) in
        told_step (Ok (record { rounds = rounds; stored = stores })) (ends e) made kept
        (whole_by e made None (Some (record { rounds = rounds; stored = stores })) lt none (inr (λ i. Some (record { rounds = same i; stored = is_stores i }))) left)

    pub refused : (e : End) (made : IsMade l l2 (λ r. R point r (ends e))) (why : PullFault) → length front + 1 ≤ most_rounds → IsRefusal why → e.fault ≡ Some why → k.Leaves e.commits → IsKept e.commits → Call (Err why)
    refused e made why lt refusal is left kept =
        told_step (Err why) (ends e) made kept
        (refused_answer why (dialled l0 l2) (front ++ made.0 ∷ []) refusal (whole_by e made (Some why) None lt is (inl refl) left))

    -- its commit failed
    pub lost : (step : Then Cloning) (made : IsMade l l2 (λ r. R point r step)) → length front + 1 ≤ most_rounds → (state_of step).committed ≡ length (state_of step).records → committed_before point < length (state_of step).records
        → k.Loses (commits_before point (commits_of step)) (commits_of step) → Rose k.faults faults → IsKept (commits_of step) → Call (Err fault.Disk)
    lost step made lt due some left rose kept =
        told_step (Err fault.Disk) step made kept (
          rose,
          refl,
          inr (inr (record {
            empty = empty;
            front = front;
            last = made.0;
            whole = refl;
            few = few_more made.0 lt;
            point = point;
            go = go;
            step = step;
            is_round = made.2;
            is_due = due;
            some = some;
            left = left;
          })),
        )

    -- there was no memory within it
    pub in_part : (r : Round (List ℕ) Exchanged) (reply : List WireCard) (commits : List (List Record)) → IsExchangeOf l l2 r.request r.reply → length front + 1 ≤ most_rounds → CloneAsks k.login point r.request → IsReplyRead r.reply (Ok reply)
        → AreBegun k.server k.fields point reply commits → k.Leaves commits → IsKept commits → ((step : Then Cloning) → R point r step → IsKept (commits_of step)) → Call (Err fault.Memory)
    in_part r reply commits exchange lt asked read begun left no_more kept = (
      front ++ r ∷ [],
      [],
      grown l0 l l2 front grows r exchange,
      (
        inr (
          refl,
          record {
            empty = empty;
            front = front;
            last = r;
            whole = refl;
            few = few_more r lt;
            point = point;
            go = go;
            asked = asked;
            reply = reply;
            read = read;
            commits = commits;
            begun = begun;
            left = left;
            kept = no_more;
          },
        ),
        λ those from.
            let s = step_commits R one start front point r those go (from_start (front ++ r ∷ []) those from) in subst IsKept (sym s.2) (kept s.0 s.1),
      ),
    )

  -- ---- the first round alone, and none

  module _ (r : Round (List ℕ) Exchanged) (exchange : IsExchangeOf l0 l2 r.request r.reply) (unmade : IsUnmade k (r ∷ [])) (kept : (step : Then Cloning) → R start r step → IsKept (commits_of step)) where
    told_first : (result : Result Pulled PullFault) → IsCloneAnswer k (dialled l0 l2) faults IsKept result (r ∷ []) [] → Call result
    told_first result answer = (
      r ∷ [],
      [],
      grown l0 l0 l2 [] (none_joined (all_of l0)) r exchange,
      (
        answer,
        λ commits from. let s = step_commits R one start [] start r commits refl (from_start (r ∷ []) commits from) in subst IsKept (sym s.2) (kept s.0 s.1),
      ),
    )

    pub unmade_by_disk : Rose k.faults faults → Call (Err fault.Disk)
    unmade_by_disk rose = told_first (Err fault.Disk) (rose, refl, inr (inl unmade))

    pub differs : (at : ℕ) → k.MayDiffer → Call (Err (fault.NotRepository at))
    differs at may = told_first (Err (fault.NotRepository at)) (may, refl, unmade)

    pub forestalled : (len : ℕ) → k.MayDiffer → 0 < len → k.Leaves [] → Call (Err (fault.NotEmpty len))
    forestalled len may some left = told_first (Err (fault.NotEmpty len)) (inr (record { may = may; some = some; whole = refl; unmade = unmade; left = left }))

  pub no_round : (result : Result Pulled PullFault) → l2 ≡ l0 → IsKept [] → IsCloneAnswer k (dialled l0 l2) faults IsKept result [] [] → Call result
  no_round result same kept answer = (
    [],
    [],
    subst (λ (x : LinkState). Grows (all_of l0) (all_of x) [] []) (sym same) (none_joined (all_of l0)),
    (answer, λ commits from. subst IsKept (sym (front_commits R one start [] start commits refl (from_start [] commits from))) kept),
  )

  -- ---- all of them

  pub too_many : k.Length 0 → (rounds : Rounds) (point : Point Cloning) → GoOn R start rounds point → Grows (all_of l0) (all_of l2) rounds [] → length rounds ≡ most_rounds → k.Leaves point.commits → IsKept point.commits → Call (Err fault.Rounds)
  too_many empty rounds point go grows all left kept = (
    rounds,
    [],
    grows,
    (
      (refl, (0, empty, (given_up fault.Rounds point, inr (all, (point, go, refl)), refl, inl refl, left))),
      λ commits from. subst IsKept (sym (front_commits R one start rounds point commits go (from_start rounds commits from))) kept,
    ),
  )

-- ---- the same of another disk

-- of an answer other than `Disk`
pub unless_on : {A : Type 0} (P Q : Type 0) (result : Result A PullFault) → (P → Q) → UnlessDisk P result → UnlessDisk Q result
unless_on P Q (Ok x) f h = f h
unless_on P Q (Err (fault.NotEmpty len)) f h = f h
unless_on P Q (Err (fault.NotRepository at)) f h = f h
unless_on P Q (Err (fault.Project found)) f h = f h
unless_on P Q (Err (fault.Stopped count)) f h = f h
unless_on P Q (Err fault.Link) f h = f h
unless_on P Q (Err fault.Disk) f h = tt
unless_on P Q (Err (fault.Peer why)) f h = f h
unless_on P Q (Err (fault.TooLarge name size)) f h = f h
unless_on P Q (Err (fault.Full name)) f h = f h
unless_on P Q (Err (fault.Missing name)) f h = f h
unless_on P Q (Err (fault.Damaged name found)) f h = f h
unless_on P Q (Err fault.Rounds) f h = f h
unless_on P Q (Err fault.Memory) f h = f h

pub unless_all : {A : Type 0} (P : Type 0) (result : Result A PullFault) → P → UnlessDisk P result
unless_all P (Ok x) h = h
unless_all P (Err (fault.NotEmpty len)) h = h
unless_all P (Err (fault.NotRepository at)) h = h
unless_all P (Err (fault.Project found)) h = h
unless_all P (Err (fault.Stopped count)) h = h
unless_all P (Err fault.Link) h = h
unless_all P (Err fault.Disk) h = tt
unless_all P (Err (fault.Peer why)) h = h
unless_all P (Err (fault.TooLarge name size)) h = h
unless_all P (Err (fault.Full name)) h = h
unless_all P (Err (fault.Missing name)) h = h
unless_all P (Err (fault.Damaged name found)) h = h
unless_all P (Err fault.Rounds) h = h
unless_all P (Err fault.Memory) h = h

module _ (k : CloneOf) (Length : ℕ → Type 0) (Leaves : List (List Record) → Type 0) (Loses : List (List Record) → List (List Record) → Type 0) (MayDiffer : Type 0) (length_on : (len : ℕ) → k.Length len → Length len) (loses_on : (done all : List (List Record)) → k.Loses done all → Loses done all) (may_on : k.MayDiffer → MayDiffer) where
  abbrev q : CloneOf
  q = record k { Length = Length; Leaves = Leaves; Loses = Loses; MayDiffer = MayDiffer }

  abbrev LeavesOn : Type 0
  LeavesOn = (commits : List (List Record)) → k.Leaves commits → Leaves commits

  end_on : (why : Option PullFault) (pulled : Option Pulled) (rounds : Rounds) (broken : List Connection) → LeavesOn → IsCloneEnd k why pulled rounds broken → IsCloneEnd q why pulled rounds broken
  end_on why pulled rounds broken on (none, (len, long, (e, is, ends_so, numbers, left))) = (none, (len, length_on len long, (e, is, ends_so, numbers, on e.commits left)))

  unmade_on : (rounds : Rounds) → IsUnmade k rounds → IsUnmade q rounds
  unmade_on rounds h = record { empty = length_on 0 h.empty; last = h.last; one = h.one; asked = h.asked; reply = h.reply; read = h.read; pushes = h.pushes }

  failed_on : (rounds : Rounds) → IsCloneFailed k rounds → IsCloneFailed q rounds
  failed_on rounds (inl none) = inl none
  failed_on rounds (inr (inl h)) = inr (inl (unmade_on rounds h))
  failed_on rounds (inr (inr h)) =
      inr (inr (record {
        empty = length_on 0 h.empty;
        front = h.front;
        last = h.last;
        whole = h.whole;
        few = h.few;
        point = h.point;
        go = h.go;
        step = h.step;
        is_round = h.is_round;
        is_due = h.is_due;
        some = h.some;
        left = loses_on (commits_before h.point (commits_of h.step)) (commits_of h.step) h.left;
      }))

  answer_on : (IsKept IsKeptToo : List (List Record) → Type 0) (d : Dialled) (faults : ℕ) (result : Result Pulled PullFault) (rounds : Rounds) (broken : List Connection) → UnlessDisk LeavesOn result → ((commits : List (List Record)) → IsKept commits → IsKeptToo commits)
      → IsCloneAnswer k d faults IsKept result rounds broken → IsCloneAnswer q d faults IsKeptToo result rounds broken
  answer_on IsKept IsKeptToo d faults (Ok pulled) rounds broken on kept_on h = end_on None (Some pulled) rounds broken on h
  answer_on IsKept IsKeptToo d faults (Err fault.Link) rounds broken on kept_on (rose, h) =
      (rose, record { empty = length_on 0 h.empty; point = h.point; go = h.go; few = h.few; sent = h.sent; left = on (h.point).commits h.left })
  answer_on IsKept IsKeptToo d faults (Err fault.Disk) rounds broken on kept_on (rose, none, h) = (rose, none, failed_on rounds h)
  answer_on IsKept IsKeptToo d faults (Err fault.Memory) rounds broken on kept_on (inl h) =
      inl (record { empty = length_on 0 h.empty; point = h.point; go = h.go; few = h.few; sent = h.sent; left = on (h.point).commits h.left })
  answer_on IsKept IsKeptToo d faults (Err fault.Memory) rounds broken on kept_on (inr (none, h)) =
      inr (
        none,
        record {
          empty = length_on 0 h.empty;
          front = h.front;
          last = h.last;
          whole = h.whole;
          few = h.few;
          point = h.point;
          go = h.go;
          asked = h.asked;
          reply = h.reply;
          read = h.read;
          commits = h.commits;
          begun = h.begun;
          left = on h.commits h.left;
          kept = kept_on h.commits h.kept;
        },
      )
  answer_on IsKept IsKeptToo d faults (Err (fault.NotRepository at)) rounds broken on kept_on (may, none, h) = (may_on may, none, unmade_on rounds h)
  answer_on IsKept IsKeptToo d faults (Err (fault.NotEmpty len)) rounds broken on kept_on (inl h) = inl (end_on (Some (fault.NotEmpty len)) None rounds broken on h)
  answer_on IsKept IsKeptToo d faults (Err (fault.NotEmpty len)) rounds broken on kept_on (inr h) =
      inr (record { may = may_on h.may; some = h.some; whole = h.whole; unmade = unmade_on rounds h.unmade; left = on [] h.left })
  answer_on IsKept IsKeptToo d faults (Err (fault.Project found)) rounds broken on kept_on h = end_on (Some (fault.Project found)) None rounds broken on h
  answer_on IsKept IsKeptToo d faults (Err (fault.Stopped count)) rounds broken on kept_on h = end_on (Some (fault.Stopped count)) None rounds broken on h
  answer_on IsKept IsKeptToo d faults (Err (fault.Peer why)) rounds broken on kept_on h = end_on (Some (fault.Peer why)) None rounds broken on h
  answer_on IsKept IsKeptToo d faults (Err (fault.TooLarge name size)) rounds broken on kept_on h = end_on (Some (fault.TooLarge name size)) None rounds broken on h
  answer_on IsKept IsKeptToo d faults (Err (fault.Full name)) rounds broken on kept_on h = end_on (Some (fault.Full name)) None rounds broken on h
  answer_on IsKept IsKeptToo d faults (Err (fault.Missing name)) rounds broken on kept_on h = end_on (Some (fault.Missing name)) None rounds broken on h
  answer_on IsKept IsKeptToo d faults (Err (fault.Damaged name found)) rounds broken on kept_on h = end_on (Some (fault.Damaged name found)) None rounds broken on h
  answer_on IsKept IsKeptToo d faults (Err fault.Rounds) rounds broken on kept_on h = end_on (Some fault.Rounds) None rounds broken on h

  pub call_on : (IsKept IsKeptToo : List (List Record) → Type 0) (d : Dialled) (faults : ℕ) (result : Result Pulled PullFault) → UnlessDisk LeavesOn result → ((commits : List (List Record)) → IsKept commits → IsKeptToo commits) → IsCloneCall k d faults IsKept result → IsCloneCall q d faults IsKeptToo result
  call_on IsKept IsKeptToo d faults result on kept_on (rounds, broken, grows, (answer, kept)) =
      (rounds, broken, grows, (answer_on IsKept IsKeptToo d faults result rounds broken on kept_on answer, λ commits from. kept_on commits (kept commits from)))
