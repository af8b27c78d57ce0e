-- What the cards of a reply and the rounds of a sync leave of the records, and with which fault they end.
use Rattle.std.proofs.Common.{◌≡◌, ◌≢◌, inl, inr, ℕ, ◌^◌, ◌≤◌, Bool, true, false, List, [], ◌∷◌, ◌++◌, length, take, drop, Option, Some, None, Result, Ok, Err, IsTrue, is_some, refl, sym, ap, subst, ◌∙◌, arith, append_assoc, length-append}
use Rattle.std.specs.Prelude.{⊤, nat_lt, if◌then◌else◌, MatchBool, MatchOption}
use Rattle.std.specs.Str.{bytes_eq}
use Rattle.std.specs.FinMap as map_of
use Rattle.std.specs.FinSet as set
use Rattle.std.proofs.lemmas.List.{append-nil, take-append-le, take-append-drop, take_all, length-take-le}
use Rattle.fsl_name.specs.Name.{name_of}
use Rattle.fsl_record.specs.declared.Record.{Record}
use Rattle.fsl_record.specs.declared.Record.TheVariants as record_of
use Rattle.fsl_blobs.specs.Fold.{Held, Contents, contents, after}
use Rattle.fsl_wire.specs.declared.WireCard.{WireCard}
use Rattle.fsl_wire.specs.declared.WireCard.TheVariants as cards
use Rattle.fsl_repo.specs.declared.Arrival.{Arrival}
use Rattle.fsl_repo.specs.declared.Arrival.TheVariants as arrival
use Rattle.fsl_repo.specs.declared.ArriveFault.{ArriveFault}
use Rattle.fsl_repo.specs.declared.ArriveFault.TheVariants as arrive_fault
use Rattle.fsl_repo.specs.Machine.{State, again, IsRoom, IsArrivalOf, IsArrival, arrived}
use Rattle.fsl_repo.specs.Whole.{front}
use Rattle.fsl_pull.specs.declared.PeerFault.TheVariants as peer
use Rattle.fsl_pull.specs.declared.PullFault.{PullFault}
use Rattle.fsl_pull.specs.declared.PullFault.TheVariants as fault
use Rattle.fsl_pull.specs.Rounds.{Round, Point, End, Then, goes_on, ends, state_of, Course, GoOn, EndsIn, IsSync}
use Rattle.fsl_pull.specs.Turns.{commits_of}
use Rattle.fsl_pull.specs.Arrivals.{Taken, Takes, arrival_fault, stopped_by, is_onward, committed, with_commit, commits_with, IsPartlyTaken}
use Rattle.fsl_pull.specs.Pulls.{behind, ended, uncommitted}
use Rattle.fsl_pull.specs.Kept.{all_of_them}
use Rattle.fsl_pull.proofs.KeptLemmas.{of_both}
use Rattle.fsl_pull.proofs.CommitLemmas.{with_longer}
use Rattle.fsl_pull.proofs.SyncLoop.{Longer}
use Rattle.fsl_pull.proofs.TakesLemmas.{FileTaken}
use Rattle.fossil.specs.Syncs.{fault_printed}

-- ---- faults that have a line

abbrev pub IsTellable : Option PullFault → Type 0
IsTellable None = ⊤
IsTellable (Some why) = IsTrue (is_some (fault_printed why))

abbrev Told : Type 0
Told = Result Arrival ArriveFault

-- an arrival that is taken, or refused for a reason that has a line
abbrev IsPlain : List ℕ → Told → Type 0
IsPlain name (Ok a) = ⊤
IsPlain name (Err why) = IsTellable (Some (arrival_fault name why))

room_plain : (name : List ℕ) (b c w : ℕ) (t : Bool) (r : Told) → r ≡ (if t then Err (arrive_fault.Full b c w) else Ok arrival.Stored) → IsPlain name r
room_plain name b c w true r is = subst (IsPlain name) (sym is) refl
room_plain name b c w false r is = subst (IsPlain name) (sym is) tt

plain_room : (name : List ℕ) (c : Contents) (r : Told) → IsRoom c r → IsPlain name r
plain_room name c r (items, are, is) = room_plain name _ _ _ _ r is

plain_by : (name : List ℕ) (size : ℕ) (found : List ℕ) (c : Contents) (large same shunned : Bool) (held : Option Held) (r : Told)
    → MatchBool large (r ≡ Err (arrive_fault.TooLarge size))
    (MatchBool same (MatchBool shunned (r ≡ Ok arrival.Shunned) (MatchOption held (IsRoom c r) (λ a. r ≡ Ok (again a false)))) (r ≡ Err (arrive_fault.NameWrong found))) → IsPlain name r
plain_by name size found c true same shunned held r h = subst (IsPlain name) (sym h) refl
plain_by name size found c false false shunned held r h = subst (IsPlain name) (sym h) refl
plain_by name size found c false true true held r h = subst (IsPlain name) (sym h) tt
plain_by name size found c false true false None r h = plain_room name c r h
plain_by name size found c false true false (Some a) r h = subst (IsPlain name) (sym h) tt

abbrev ArrivalBy : Option ℕ → List Record → List ℕ → List ℕ → Told → Type 0
ArrivalBy stopped records name bytes result =
    MatchOption stopped
    (MatchBool (nat_lt (2 ^ 24) (length bytes)) (result ≡ Err (arrive_fault.TooLarge (length bytes)))
    (MatchBool (bytes_eq (name_of bytes) name) (IsArrivalOf (contents records) name bytes false result) (result ≡ Err (arrive_fault.NameWrong (name_of bytes)))))
    (λ faults. result ≡ Err (arrive_fault.Stopped faults))

arrival_plain : (s : State) (name bytes : List ℕ) (r : Told) → s.stopped ≡ None → IsArrival s name bytes false r → IsPlain name r
arrival_plain s name bytes r runs is =
    let c = contents s.records in
    plain_by name (length bytes) (name_of bytes) (after c (record_of.Blob false name None bytes)) (nat_lt (2 ^ 24) (length bytes)) (bytes_eq (name_of bytes) name) (set.contains c.shunned name) (map_of.get c.held name) r
    (subst (λ (o : Option ℕ). ArrivalBy o s.records name bytes r) runs is)

-- ---- the cards of a reply

-- records were appended, nothing was committed, no call of the disk failed, and a fault has a line
pub record IsTakenOver (s : State) (t : Taken) : Type 0 where
  pub more : List Record
  pub records : (t.state).records ≡ s.records ++ more
  pub committed : (t.state).committed ≡ s.committed
  pub stopped : (t.state).stopped ≡ s.stopped
  pub steady : (t.state).faults ≡ s.faults
  pub told : s.stopped ≡ None → IsTellable t.fault

none_over : (s : State) → IsTakenOver s (record { state = s; arrivals = []; fault = None })
none_over s = record { more = []; records = sym (append-nil s.records); committed = refl; stopped = refl; steady = refl; told = λ runs. tt }

stopped_over : (s : State) (why : PullFault) → (s.stopped ≡ None → IsTellable (Some why)) → IsTakenOver s (stopped_by s why)
stopped_over s why told = record { more = []; records = sym (append-nil s.records); committed = refl; stopped = refl; steady = refl; told = told }

pub record HasArrived (s new : State) : Type 0 where
  pub more : List Record
  pub records : new.records ≡ s.records ++ more
  pub committed : new.committed ≡ s.committed
  pub stopped : new.stopped ≡ s.stopped
  pub steady : new.faults ≡ s.faults

has_arrived : (s : State) (name bytes : List ℕ) (a : Arrival) → HasArrived s (arrived s name None bytes false (Ok a))
has_arrived s name bytes arrival.Shunned = record { more = []; records = sym (append-nil s.records); committed = refl; stopped = refl; steady = refl }
has_arrived s name bytes arrival.Present = record { more = []; records = sym (append-nil s.records); committed = refl; stopped = refl; steady = refl }
has_arrived s name bytes arrival.Published = record { more = record_of.Publish name ∷ []; records = refl; committed = refl; stopped = refl; steady = refl }
has_arrived s name bytes arrival.Stored = record { more = record_of.Blob false name None bytes ∷ []; records = refl; committed = refl; stopped = refl; steady = refl }

one_over : (s : State) (name bytes : List ℕ) (a : Arrival) (t : Taken) → IsTakenOver (arrived s name None bytes false (Ok a)) t → IsTakenOver s (record t { arrivals = a ∷ t.arrivals })
one_over s name bytes a t h =
    let one = has_arrived s name bytes a in
    record {
      more = one.more ++ h.more;
      records = h.records ∙ ap (λ (rs : List Record). rs ++ h.more) one.records ∙ append_assoc s.records one.more h.more;
      committed = h.committed ∙ one.committed;
      stopped = h.stopped ∙ one.stopped;
      steady = h.steady ∙ one.steady;
      told = λ runs. h.told (one.stopped ∙ runs);
    }

file_over : (s : State) (name bytes : List ℕ) (due : Option ℕ) (rest : List WireCard) (t : Taken) (answer : Told) → ((s2 : State) (m : Taken) → Takes s2 due rest m → IsTakenOver s2 m)
    → IsArrival s name bytes false answer → FileTaken s name bytes due rest t answer → IsTakenOver s t
file_over s name bytes due rest t (Ok a) others is h = subst (IsTakenOver s) (sym h.2) (one_over s name bytes a h.0 (others (arrived s name None bytes false (Ok a)) h.0 h.1))
file_over s name bytes due rest t (Err why) others is h =
    subst (IsTakenOver s) (sym h) (stopped_over s (arrival_fault name why) (λ runs. arrival_plain s name bytes (Err why) runs is))

sequel_over : (b : Bool) (s : State) (rest : List WireCard) (t : Taken) (next : ℕ) → ((s2 : State) (m : Taken) → Takes s2 None rest m → IsTakenOver s2 m)
    → MatchBool b (Takes s None rest t) (t ≡ stopped_by s (fault.Peer (peer.Sequence next))) → IsTakenOver s t
sequel_over true s rest t next others h = others s t h
sequel_over false s rest t next others h = subst (IsTakenOver s) (sym h) (stopped_over s (fault.Peer (peer.Sequence next)) (λ runs. refl))

pub takes_over : (s : State) (due : Option ℕ) (reply : List WireCard) (t : Taken) → Takes s due reply t → IsTakenOver s t
takes_over s due [] t h = subst (IsTakenOver s) (sym h) (none_over s)
takes_over s due (cards.File name bytes ∷ rest) t h = file_over s name bytes due rest t h.0 (λ s2 m. takes_over s2 due rest m) h.1 h.2
takes_over s (Some from) (cards.CloneSeqno next ∷ rest) t h = sequel_over (is_onward from next) s rest t next (λ s2 m. takes_over s2 None rest m) h
takes_over s None (cards.CloneSeqno next ∷ rest) t h = takes_over s None rest t h
takes_over s due (cards.Login user nonce signature tail line ∷ rest) t h = takes_over s due rest t h
takes_over s due (cards.Push server project ∷ rest) t h = takes_over s due rest t h
takes_over s due (cards.Pull server project ∷ rest) t h = takes_over s due rest t h
takes_over s due (cards.Clone from ∷ rest) t h = takes_over s due rest t h
takes_over s due (cards.Private ∷ rest) t h = takes_over s due rest t h
takes_over s due (cards.Igot name private ∷ rest) t h = takes_over s due rest t h
takes_over s due (cards.Gimme name ∷ rest) t h = takes_over s due rest t h
takes_over s due (cards.Error text ∷ rest) t h = takes_over s due rest t h
takes_over s due (cards.Message text ∷ rest) t h = takes_over s due rest t h
takes_over s due (cards.SendPrivate ∷ rest) t h = takes_over s due rest t h

-- ---- where a sync stands

-- where it started: the records that were there, and the disk's count of faults
pub record Start : Type 0 where
  pub records : List Record
  pub faults : ℕ

-- it runs, the committed records are those that were there and those of the commits, and no call of the disk failed
pub record IsAt (base : Start) (s : State) (commits : List (List Record)) : Type 0 where
  pub runs : s.stopped ≡ None
  pub stands : front s ≡ base.records ++ all_of_them commits
  pub within : s.committed ≤ length s.records
  pub steady : s.faults ≡ base.faults

-- the same of a state that is left as it was
pub same_at : (base : Start) (s new : State) (commits : List (List Record)) → new ≡ s → IsAt base s commits → IsAt base new commits
same_at base s new commits same h = subst (λ (x : State). IsAt base x commits) (sym same) h

with_records : (commits : List (List Record)) (more : List Record) → all_of_them (with_commit commits more) ≡ all_of_them commits ++ more
with_records commits [] = sym (append-nil (all_of_them commits))
with_records commits (r ∷ more) = of_both commits ((r ∷ more) ∷ []) ∙ ap (λ (x : List Record). all_of_them commits ++ x) (append-nil (r ∷ more))

module _ (base : Start) (s : State) (commits : List (List Record)) (h : IsAt base s commits) (t : Taken) (over : IsTakenOver s t) where
  -- cards that were taken, of which nothing is committed
  pub taken_at : IsAt base t.state commits
  taken_at = record {
    runs = over.stopped ∙ h.runs;
    stands = (λ i. take (over.committed i) (over.records i)) ∙ take-append-le s.committed s.records over.more h.within ∙ h.stands;
    within = let n = ap length over.records in omega (arith, n, over.committed, h.within, length-append s.records over.more);
    steady = over.steady ∙ h.steady;
  }

  -- and all of them committed
  pub committed_at : IsAt base (committed t.state) (commits_with commits t.state)
  committed_at =
      let n = (t.state).committed in
      let more = drop n (t.state).records in
      record {
        runs = taken_at.runs;
        stands =
            take_all (length (t.state).records) (t.state).records (omega arith) ∙ sym (take-append-drop n (t.state).records)
            ∙ ap (λ (x : List Record). x ++ more) taken_at.stands ∙ append_assoc base.records (all_of_them commits) more
            ∙ ap (λ (x : List Record). base.records ++ x) (sym (with_records commits more));
        within = omega arith;
        steady = taken_at.steady;
      }

-- ---- a round

pub longer_same : (commits : List (List Record)) → Longer commits commits
longer_same commits = ([], sym (append-nil commits))

pub longer_on : (a b c : List (List Record)) → Longer a b → Longer b c → Longer a c
longer_on a b c (x, e) (y, f) = (x ++ y, f ∙ ap (λ (z : List (List Record)). z ++ y) e ∙ append_assoc a x y)

-- where the sync stands at its end, whose fault has a line
pub record IsEndAt (base : Start) (before : List (List Record)) (e : End) : Type 0 where
  pub stands : IsAt base e.state e.commits
  pub told : IsTellable e.fault
  pub longer : Longer before e.commits

abbrev pub Behind : {M : Type 0} → Start → List (List Record) → Then M → Type 0
Behind base before (goes_on q) = IsAt base q.state q.commits × Longer before q.commits
Behind base before (ends e) = IsEndAt base before e

abbrev pub KeepsOn : {M Q A : Type 0} → Course M Q A → Type 0
KeepsOn {M} {Q} {A} R = (base : Start) (p : Point M) (r : Round Q A) (step : Then M) → IsAt base p.state p.commits → R p r step → Behind base p.commits step

module _ {M : Type 0} (base : Start) (p : Point M) (h : IsAt base p.state p.commits) where
  -- nothing of a reply was taken
  pub unread_behind : (e : End) → e.state ≡ p.state → e.commits ≡ p.commits → IsTellable e.fault → IsEndAt base p.commits e
  unread_behind e state commits told = record {
    stands = subst (λ (c : List (List Record)). IsAt base e.state c) (sym commits) (subst (λ (s : State). IsAt base s p.commits) (sym state) h);
    told = told;
    longer = subst (Longer p.commits) (sym commits) (longer_same p.commits);
  }

  module _ (t : Taken) (over : IsTakenOver p.state t) where
    -- a fault before the commit
    pub cut_behind : (why : PullFault) → t.fault ≡ Some why → IsEndAt base p.commits (uncommitted p t why)
    cut_behind why is = record {
      stands = taken_at base p.state p.commits h t over;
      told = subst IsTellable is (over.told h.runs);
      longer = longer_same p.commits;
    }

    -- all was taken and committed
    pub taken_behind : (finish : Option PullFault) → IsTellable finish → (b : Bool) (next : M) → Behind base p.commits (if b then ends (ended p t finish) else goes_on (behind p t next))
    taken_behind finish told true next = record {
      stands = committed_at base p.state p.commits h t over;
      told = told;
      longer = with_longer p.commits (drop (t.state).committed (t.state).records);
    }
    taken_behind finish told false next = (committed_at base p.state p.commits h t over, with_longer p.commits (drop (t.state).committed (t.state).records))

  -- a front of a reply was taken
  pub partly_at : (reply : List WireCard) (left : State) → IsPartlyTaken reply p.state left → IsAt base left p.commits
  partly_at reply left (cards_front, rest, split, (t, takes, none, same)) =
      same_at base t.state left p.commits same (taken_at base p.state p.commits h t (takes_over p.state None cards_front t takes))

-- ---- rounds

module _ {M Q A : Type 0} (R : Course M Q A) (keeps : KeepsOn R) (base : Start) where
  pub goes_at : (p : Point M) (rounds : List (Round Q A)) (q : Point M) → IsAt base p.state p.commits → GoOn R p rounds q → IsAt base q.state q.commits × Longer p.commits q.commits
  goes_at p [] q h go = subst (λ (m : Point M). IsAt base m.state m.commits × Longer p.commits m.commits) (sym go) (h, longer_same p.commits)
  goes_at p (r ∷ rounds) q h go =
      let one = keeps base p r (goes_on go.0) h go.1 in
      let more = goes_at go.0 rounds q one.0 go.2 in (more.0, longer_on p.commits (go.0).commits q.commits one.1 more.1)

  pub ends_at : (p : Point M) (rounds : List (Round Q A)) (e : End) → IsAt base p.state p.commits → EndsIn R p rounds e → IsEndAt base p.commits e
  ends_at p [] e h is = absurd is
  ends_at p (r ∷ rounds) e h (inl is) = keeps base p r (ends e) h is.1
  ends_at p (r ∷ rounds) e h (inr is) =
      let one = keeps base p r (goes_on is.0) h is.1 in
      let more = ends_at is.0 rounds e one.0 is.2 in
      record { stands = more.stands; told = more.told; longer = longer_on p.commits (is.0).commits e.commits one.1 more.longer }

  pub sync_at : (p : Point M) (rounds : List (Round Q A)) (e : End) → IsAt base p.state p.commits → IsSync R p rounds e → IsEndAt base p.commits e
  sync_at p rounds e h (inl is) = ends_at p rounds e h is.1
  sync_at p rounds e h (inr is) =
      let q = is.1.0 in
      let more = goes_at p rounds q h is.1.1 in
      subst (IsEndAt base p.commits) (sym is.1.2) (record { stands = more.0; told = refl; longer = more.1 })

-- ---- a round that had something to commit

-- as many are committed as there were and as came
committed_many : (base : Start) (s : State) (commits : List (List Record)) → IsAt base s commits → s.committed ≡ length (base.records ++ all_of_them commits)
committed_many base s commits h = sym (length-take-le s.committed s.records h.within) ∙ ap length h.stands

-- the commits behind a step begin with those before it
longer_of : {M : Type 0} (base : Start) (before : List (List Record)) (step : Then M) → Behind base before step → Longer before (commits_of step)
longer_of base before (goes_on q) h = h.1
longer_of base before (ends e) h = h.longer

step_at : {M : Type 0} (base : Start) (before : List (List Record)) (step : Then M) → Behind base before step → IsAt base (state_of step) (commits_of step)
step_at base before (goes_on q) h = h.0
step_at base before (ends e) h = h.stands

others_by : (base : Start) (old s : State) (before commits : List (List Record)) → IsAt base old before → IsAt base s commits → s.committed ≡ length s.records → old.committed ≢ length s.records → commits ≢ before
others_by base old s before commits h k is_due some none =
    some (committed_many base old before h ∙ ap (λ (c : List (List Record)). length (base.records ++ all_of_them c)) (sym none) ∙ sym (committed_many base s commits k) ∙ is_due)

-- its commits are others than those before it
pub other_commits : {M : Type 0} (base : Start) (p : Point M) (step : Then M) → IsAt base p.state p.commits → Behind base p.commits step → (state_of step).committed ≡ length (state_of step).records → (p.state).committed ≢ length (state_of step).records
    → commits_of step ≢ p.commits
other_commits base p step h k is_due some = others_by base p.state (state_of step) p.commits (commits_of step) h (step_at base p.commits step k) is_due some

-- ---- a commit that failed

-- it leaves the committed records as they were, and all records are those with the commit
pub record IsFailedAt (base : Start) (left : State) (done due : List (List Record)) : Type 0 where
  pub before : front left ≡ base.records ++ all_of_them done
  pub all : left.records ≡ base.records ++ all_of_them due

front_of : (n : ℕ) (xs ys : List Record) → n ≡ length xs → take n (xs ++ ys) ≡ xs
front_of n xs ys e = take-append-le n xs ys (omega (arith, e)) ∙ take_all n xs (omega (arith, e))

split_of : (base : List Record) (done due : List (List Record)) (longer : Longer done due) → base ++ all_of_them due ≡ (base ++ all_of_them done) ++ all_of_them longer.0
split_of base done due longer =
    ap (λ (x : List (List Record)). base ++ all_of_them x) longer.1 ∙ ap (λ (x : List Record). base ++ x) (of_both done longer.0) ∙ sym (append_assoc base (all_of_them done) (all_of_them longer.0))

-- where all records are committed, they are those that were there and those of the commits
all_records : (base : Start) (s : State) (commits : List (List Record)) → IsAt base s commits → s.committed ≡ length s.records → s.records ≡ base.records ++ all_of_them commits
all_records base s commits h is_due = sym (take_all s.committed s.records (omega (arith, is_due))) ∙ h.stands

pub failed_at : {M : Type 0} (base : Start) (p : Point M) (step : Then M) (left : State) → IsAt base p.state p.commits → Behind base p.commits step → (state_of step).committed ≡ length (state_of step).records
    → left ≡ record (state_of step) { committed = p.state.committed; stopped = Some left.faults; faults = left.faults } → IsFailedAt base left p.commits (commits_of step)
failed_at base p step left h k is_due is =
    let all = all_records base (state_of step) (commits_of step) (step_at base p.commits step k) is_due in
    let longer = longer_of base p.commits step k in
    record {
      before =
          ap front is ∙ ap (λ (rs : List Record). take (p.state).committed rs) (all ∙ split_of base.records p.commits (commits_of step) longer)
          ∙ front_of (p.state).committed (base.records ++ all_of_them p.commits) (all_of_them longer.0) (committed_many base p.state p.commits h);
      all = ap (λ (s : State). s.records) is ∙ all;
    }
