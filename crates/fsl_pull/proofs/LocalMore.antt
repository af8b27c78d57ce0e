-- The code of a pull from another repository.
use Rattle.std.specs.Prelude.{◌≡◌, ◌≢◌, ◌⊎◌, ℕ, length, Bool, true, false, List, [], map, Option, Some, None, Result, Ok, Err, if◌then◌else◌, IsTrue}
use Rattle.std.proofs.Common.{refl, sym, ap, subst, ◌∙◌, inl, inr, arith}
use Rattle.std.proofs.lemmas.List.{append-nil}
use Rattle.fsl_disk.specs.Disk.{DiskState}
use Rattle.fsl_disk.proofs.Moments.{started}
use Rattle.fsl_journal.specs.File.{IsFileOf}
use Rattle.fsl_repo.specs.Machine.{State, AreItems, now, wants}
use Rattle.fsl_repo.specs.Whole.{Seen, IsWhole, front}
use Rattle.fsl_pull.specs.declared.PullFault.{PullFault}
use Rattle.fsl_pull.specs.declared.next.Step.{Step}
use Rattle.fsl_pull.specs.declared.next.Step.TheVariants as step_is
use Rattle.fsl_pull.specs.Steps.{answer_by, local_answer, step_of, IsCommitted}
use Rattle.fsl_pull.specs.declared.PullFault.TheVariants as fault
use Rattle.fsl_pull.specs.PullTurns.{none_missing, IsTaken}
use Rattle.fsl_pull.specs.Pulls.{stopped_end}
use Rattle.fsl_pull.specs.Locals.{local_reply, project_code, other_project_end}
use Rattle.fsl_pull.specs.LocalTurns.{other_code, TakesAsked, IsLocalTurned, IsPulledFrom}
use Rattle.fsl_record.specs.declared.Record.{Record}
use Rattle.std.specs.Str.{bytes_eq}
use Rattle.fsl_pull.specs.Kept.{StandsForSome, IsKeptAtAnyMoment}
use Rattle.fsl_pull.specs.Taking.{IsRefusal, Appends}
use Rattle.fsl_pull.specs.Reading.{CantRead}
use Rattle.fsl_pull.specs.CloneCalls.{UnlessDisk}
use Rattle.fsl_pull.specs.declared.Pulled.{Pulled}
use Rattle.fsl_repo.specs.declared.Arrival.{Arrival}
use Rattle.fsl_pull.specs.Requests.{file_card}
use Rattle.fsl_journal.specs.declared.CommitFault.{CommitFault}
use Rattle.fsl_journal.specs.declared.CommitFault.TheVariants as commit_fault
use Rattle.fsl_order.specs.Causes.{Rose}
use Rattle.fsl_pull.proofs.TakingLemmas.{whole_taken}
use Rattle.fsl_pull.proofs.LocalTaken.{behind_igots, announced_are}
use Rattle.fsl_pull.proofs.PullTaken.{wrong_turn, behind_all, committed_turn, failed_turn}
use Rattle.fsl_pull.proofs.KeptLemmas.{all_some, none_of_them}
use Rattle.fsl_pull.proofs.LocalSync.{LocalAt, PullBy, RunBy}

abbrev some_bytes : List ℕ → Option (List ℕ)
some_bytes b = Some b

abbrev no_bytes : Option (List ℕ)
no_bytes = None

bytes_are : (a b : List ℕ) → some_bytes a ≡ some_bytes b → a ≡ b
bytes_are a b e = cc

none_not_some : (b : List ℕ) → no_bytes ≡ some_bytes b → ⊥
none_not_some b e = cc

-- the end of a pull from another repository
pub local_says : (step : Step) → answer_by none_missing step ≡ Ok (local_answer step)
local_says (step_is.On names) = refl
local_says (step_is.End name) = refl

abbrev no_fault : Option PullFault
no_fault = None

no_why : (why : PullFault) → no_fault ≡ Some why → ⊥
no_why why e = cc

pub none_refused : (name : Option (List ℕ)) (why : PullFault) → none_missing name ≡ Some why → IsRefusal why
none_refused name why e = absurd (no_why why e)

-- before the first round
pub local_begins : {D : Type 0} (disk : D → DiskState) (peer : Seen) (d0 : D) (s0 : Seen) (names : List (List ℕ)) → ((c : List ℕ) → IsTrue (disk d0).is_model → (disk d0).since (disk d0).moment c → (disk d0).images c) → names ≡ wants (now s0.state) s0.items → LocalAt disk peer d0 d0 s0 s0 names 0
local_begins disk peer d0 s0 names only_now is =
    record {
      rounds = [];
      point = record { state = s0.state; commits = []; count = 0; memory = wants (now s0.state) s0.items };
      go = refl;
      state = refl;
      memory = sym is;
      many = refl;
      count = omega arith;
      committed = sym (append-nil (front s0.state));
      images = λ model old. started (disk d0) (StandsForSome (front s0.state) []) (λ c. only_now c model.model) (λ c k. all_some (front s0.state) [] c (subst (IsFileOf c) (sym (append-nil (front s0.state))) (old c k)));
      keeps = record { tells = refl; model = refl };
      loaded = refl;
      faults = omega arith;
      warm = λ more. absurd (omega (arith, more));
    }

-- ---- answers without a round

code_differs : (b : Bool) (theirs found : List ℕ) → (if b then None else Some theirs) ≡ Some found → (b ≡ false) × (theirs ≡ found)
code_differs true theirs found e = absurd (none_not_some found e)
code_differs false theirs found e = (refl, bytes_are theirs found e)

some_not_none : (b : List ℕ) → some_bytes b ≡ no_bytes → ⊥
some_not_none b e = cc

code_same : (b : Bool) (theirs : List ℕ) → (if b then None else Some theirs) ≡ None → b ≡ true
code_same true theirs e = refl
code_same false theirs e = absurd (some_not_none theirs e)

pub same_project : (s peer : State) → other_code (project_code (now s)) (project_code (now peer)) ≡ None → IsTrue (bytes_eq (project_code (now s)) (project_code (now peer)))
same_project s peer e = code_same (bytes_eq (project_code (now s)) (project_code (now peer))) (project_code (now peer)) e

module _ {D : Type 0} (disk : D → DiskState) (d0 : D) (s0 peer : Seen) (only_now : (c : List ℕ) → IsTrue (disk d0).is_model → (disk d0).since (disk d0).moment c → (disk d0).images c) where
  -- nothing was written
  still : (commits : List (List Record)) → IsKeptAtAnyMoment (front s0.state) (disk d0) (disk d0) commits
  still commits model old = started (disk d0) (StandsForSome (front s0.state) commits) (λ c. only_now c model.model) (λ c k. none_of_them (front s0.state) commits c (old c k))

  pub project_refused : (found : List ℕ) → other_code (project_code (now s0.state)) (project_code (now peer.state)) ≡ Some found → IsPulledFrom (disk d0) (disk d0) s0 s0 peer peer (Err (fault.Project found))
  project_refused found e =
      let theirs = project_code (now peer.state) in
      let is = code_differs (bytes_eq (project_code (now s0.state)) theirs) theirs found e in (
        (
          [],
          (
            other_project_end s0.state theirs,
            subst (PullBy s0.state peer.state [] (other_project_end s0.state theirs)) (sym is.0) (refl, refl),
            record { fault = ap (λ (n : List ℕ). Some (fault.Project n)) is.1; state = refl; numbers = inl refl },
            still [],
          ),
        ),
        λ is rounds x h. still x.commits,
      )

  pub stopped_refused : (faults : ℕ) → IsTrue (bytes_eq (project_code (now s0.state)) (project_code (now peer.state))) → s0.state.stopped ≡ Some faults → IsPulledFrom (disk d0) (disk d0) s0 s0 peer peer (Err (fault.Stopped faults))
  stopped_refused faults same is = (
    (
      [],
      (
        stopped_end s0.state faults,
        subst (PullBy s0.state peer.state [] (stopped_end s0.state faults)) (sym same) (subst (RunBy s0.state peer.state [] (stopped_end s0.state faults)) (sym is) (refl, refl)),
        record { fault = refl; state = refl; numbers = inl refl },
        still [],
      ),
    ),
    λ is rounds x h. still x.commits,
  )

  -- no memory before the first round
  pub local_wants_memory : IsPulledFrom (disk d0) (disk d0) s0 s0 peer peer (Err fault.Memory)
  local_wants_memory = (inl (refl, still []), λ is rounds x h. still x.commits)

-- a turn, as the code has it: the peer is as it was, and what was told was told by it
pub local_turn_is : (peer peer2 : State) (told told2 asked asked2 : List (List ℕ)) (before after : DiskState) (old new : Seen) (Still : Type 0) (r q : Result (Option (List (List ℕ))) PullFault) (peer_new : State) → peer ≡ peer2 → told ≡ told2 → asked ≡ asked2 → r ≡ q
    → IsLocalTurned peer told asked before after old new Still r peer_new → IsLocalTurned peer2 told2 asked2 before after old new Still q peer_new
local_turn_is peer peer2 told told2 asked asked2 before after old new Still r q peer_new a b c d h =
    subst (λ (x : State). IsLocalTurned x told2 asked2 before after old new Still q peer_new) a
    (subst (λ (x : List (List ℕ)). IsLocalTurned peer x asked2 before after old new Still q peer_new) b
    (subst (λ (x : List (List ℕ)). IsLocalTurned peer told x before after old new Still q peer_new) c
    (subst (λ (x : Result (Option (List (List ℕ))) PullFault). IsLocalTurned peer told asked before after old new Still x peer_new) d h)))

-- ---- one round

abbrev Ok_bool : Bool → Result Bool PullFault
Ok_bool b = Ok b

no_err : {P : Type 0} (b : Bool) (why : PullFault) → Ok_bool b ≡ Err why → P
no_err b why e = absurd (no b why e)
  where
    no : (b : Bool) (why : PullFault) → Ok_bool b ≡ Err why → ⊥
    no b why e = cc

module _ (peer : State) (told asked : List (List ℕ)) (before after : DiskState) (old new : Seen) (Still : Type 0) (left : State) where
  abbrev Turned : Result (Option (List (List ℕ))) PullFault → Type 0
  Turned result = IsLocalTurned peer told asked before after old new Still result left

  abbrev Err_bool : PullFault → Result Bool PullFault
  Err_bool w = Err w

  abbrev Err_names : PullFault → Result (Option (List (List ℕ))) PullFault
  Err_names w = Err w

  why_same : (a b : PullFault) → Err_bool a ≡ Err b → a ≡ b
  why_same a b e = cc

  err_up : (a b : PullFault) → Err_bool a ≡ Err b → Err_names a ≡ Err b
  err_up a b e = ap Err_names (why_same a b e)

  pub local_wrong : (why : PullFault) → TakesAsked peer asked old (Err why) new left → Still → Turned (Err why)
  local_wrong why (inl (files, read, takes, same)) still =
      inl (local_reply told files, (files, read, refl), wrong_turn none_missing asked (local_reply told files) before after old new Still why (behind_igots old told (map file_card files) (Err why) new takes) still, same)
  local_wrong why (inr (other, is, k)) stays =
      let some = behind_igots old told (map file_card k.files) (Ok k.moved) new (None, k.takes) in
      inr (
        other,
        err_up why other is,
        record {
          front = k.front;
          name = k.name;
          rest = k.rest;
          whole = k.whole;
          public = k.public;
          files = k.files;
          read = k.read;
          taken = record { state = new.state; arrivals = (some.1).done; fault = None };
          takes = whole_taken old None (local_reply told k.files) k.moved new some.0 some.1;
          well = refl;
          state = refl;
          cant = k.cant;
        },
        stays,
      )

  pub local_behind : (moved : Bool) → TakesAsked peer asked old (Ok moved) new left → Still → Turned (Err fault.Memory)
  local_behind moved (inl (files, read, takes, same)) still =
      let all = behind_igots old told (map file_card files) (Ok moved) new (None, takes) in
      inl (local_reply told files, (files, read, refl), behind_all none_missing asked (local_reply told files) before after old new Still moved all.0 all.1 still, same)
  local_behind moved (inr (why, is, k)) still = no_err moved why is

  pub local_committed : (mid : Seen) (moved : Bool) (step : Step) (result : Result (Option (List (List ℕ))) PullFault) → TakesAsked peer asked old (Ok moved) mid left → IsWhole old → AreItems (now mid.state).held mid.items → step ≡ step_of asked moved told mid → IsCommitted before after mid new (Ok tt)
      → Ok (local_answer step) ≡ result → Turned result
  local_committed mid moved step result (inl (files, read, takes, same)) whole items follows committed is =
      let reply = local_reply told files in
      let all = behind_igots old told (map file_card files) (Ok moved) mid (None, takes) in
      inl (
        reply,
        (files, read, refl),
        subst (λ (r : Result (Option (List (List ℕ))) PullFault). IsTaken none_missing asked reply before after old new Still r) (local_says step ∙ is)
            (committed_turn none_missing asked reply before after old new Still mid moved all.0 step none_refused all.1 whole items (follows ∙ ap (λ (names : List (List ℕ)). step_of asked moved names mid) (sym (announced_are told files))) committed),
        same,
      )
  local_committed mid moved step result (inr (why, wrong, k)) whole items follows committed is = no_err moved why wrong

  pub local_failed : (mid : Seen) (moved : Bool) (e : CommitFault) → TakesAsked peer asked old (Ok moved) mid left → IsWhole old → AreItems (now mid.state).held mid.items → IsCommitted before after mid new (Err e) → Turned (Err fault.Disk)
  local_failed mid moved e (inl (files, read, takes, same)) whole items committed =
      let reply = local_reply told files in
      let all = behind_igots old told (map file_card files) (Ok moved) mid (None, takes) in
      inl (reply, (files, read, refl), failed_turn none_missing asked reply before after old new Still mid moved all.0 e none_refused all.1 whole items committed, same)
  local_failed mid moved e (inr (why, wrong, k)) whole items committed = no_err moved why wrong

-- what was taken leaves what was loaded, whether it is stopped and the count
pub record Keeps_so (old new : Seen) : Type 0 where
  pub loaded : new.loaded ≡ old.loaded
  pub stopped : new.state.stopped ≡ old.state.stopped
  pub faults : new.state.faults ≡ old.state.faults

appends_keep : (old new : Seen) (done : List Arrival) → Appends old new done → Keeps_so old new
appends_keep old new done h = record { loaded = h.loaded; stopped = h.stopped; faults = h.faults }

pub asked_keeps : (peer : State) (asked : List (List ℕ)) (old new : Seen) (r : Result Bool PullFault) (left : State) → TakesAsked peer asked old r new left → Keeps_so old new
asked_keeps peer asked old new (Ok moved) left (inl (files, read, takes, same)) = appends_keep old new takes.done takes.appends
asked_keeps peer asked old new (Err why) left (inl (files, read, inl up, same)) = appends_keep old new up.done up.appends
asked_keeps peer asked old new (Err why) left (inl (files, read, inr (memory, front), same)) = appends_keep old new front.done front.appends
asked_keeps peer asked old new r left (inr (why, is, k)) = appends_keep old new (k.takes).done (k.takes).appends

abbrev done_so : Result (Unit {0}) CommitFault
done_so = Ok tt

not_failed : {P : Type 0} (e : CommitFault) → done_so ≡ Err e → P
not_failed e is = absurd (no e is)
  where
    no : (e : CommitFault) → done_so ≡ Err e → ⊥
    no e is = cc

-- a commit that is done leaves a repository that runs
pub commit_runs : (before after : DiskState) (old new : Seen) → old.state.stopped ≡ None → IsCommitted before after old new (Ok tt) → new.state.stopped ≡ None
commit_runs before after old new none h = by h.state
  where
    by : ((done_so ≡ Ok tt) × (new.state ≡ record old.state { committed = length old.state.records }))
        ⊎ ((done_so ≡ Err commit_fault.Disk) × Rose old.state.faults new.state.faults × (new.state ≡ record old.state { stopped = Some new.state.faults; faults = new.state.faults }) × (old.state.committed ≢ length old.state.records)) → new.state.stopped ≡ None
    by (inl (is, same)) = ap (λ (s : State). s.stopped) same ∙ none
    by (inr (is, rose, same, some)) = not_failed commit_fault.Disk is

abbrev err_answer : PullFault → Result (Option (List (List ℕ))) PullFault
err_answer why = Err why

-- a call of the peer's disk that isn't told failed in none of its reads
pub peer_counts : (peer : State) (told asked : List (List ℕ)) (before after : DiskState) (old new : Seen) (Still : Type 0) (why : PullFault) (left : State) → IsLocalTurned peer told asked before after old new Still (Err why) left → UnlessDisk {A = Pulled} (left ≡ peer) (Err why)
peer_counts peer told asked before after old new Still why left turned = of turned
  where
    why_is : (a b : PullFault) → err_answer a ≡ Err b → b ≡ a
    why_is a b e = cc

    by : (w : PullFault) (name : List ℕ) → CantRead w peer name left ⊎ (left ≡ peer) → UnlessDisk {A = Pulled} (left ≡ peer) (Err w)
    by (fault.NotEmpty len) name (inl cant) = absurd cant
    by (fault.NotEmpty len) name (inr same) = same
    by (fault.NotRepository at) name (inl cant) = absurd cant
    by (fault.NotRepository at) name (inr same) = same
    by (fault.Project found) name (inl cant) = absurd cant
    by (fault.Project found) name (inr same) = same
    by (fault.Stopped faults) name (inl cant) = absurd cant
    by (fault.Stopped faults) name (inr same) = same
    by fault.Link name (inl cant) = absurd cant
    by fault.Link name (inr same) = same
    by fault.Disk name h = tt
    by (fault.Damaged other found) name (inl cant) = cant.2
    by (fault.Damaged other found) name (inr same) = same
    by (fault.Peer w) name (inl cant) = absurd cant
    by (fault.Peer w) name (inr same) = same
    by (fault.TooLarge other size) name (inl cant) = absurd cant
    by (fault.TooLarge other size) name (inr same) = same
    by (fault.Full other) name (inl cant) = absurd cant
    by (fault.Full other) name (inr same) = same
    by (fault.Missing other) name (inl cant) = absurd cant
    by (fault.Missing other) name (inr same) = same
    by fault.Rounds name (inl cant) = absurd cant
    by fault.Rounds name (inr same) = same
    by fault.Memory name (inl cant) = absurd cant
    by fault.Memory name (inr same) = same

    of : IsLocalTurned peer told asked before after old new Still (Err why) left → UnlessDisk {A = Pulled} (left ≡ peer) (Err why)
    of (inl (reply, gives, taken, same)) = by why [] (inr same)
    of (inr (other, is, stuck, stays)) = by why stuck.name (inl (subst (λ (w : PullFault). CantRead w peer stuck.name left) (why_is why other is) stuck.cant))
