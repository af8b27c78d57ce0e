-- The commit of a round.
use Rattle.std.specs.Prelude.{◌≡◌, ◌≢◌, ℕ, ◌+◌, ◌<◌, ◌≤◌, List, [], ◌∷◌, ◌++◌, length, take, drop, Option, None, Some, Result, Ok, Err}
use Rattle.std.proofs.Common.{refl, sym, ap, subst, ◌∙◌, inl, inr, arith, append_assoc, length-append}
use Rattle.std.proofs.lemmas.List.{append-nil, drop-append-le, take-append-le, take-append-drop, take_all}
use Rattle.fsl_order.specs.Causes.{Rose}
use Rattle.fsl_disk.specs.Disk.{DiskState, IsModelled, LeavesOnly}
use Rattle.fsl_disk.proofs.Moments.{weaker}
use Rattle.fsl_record.specs.declared.Record.{Record}
use Rattle.fsl_journal.specs.File.{IsFileOf}
use Rattle.fsl_journal.specs.Log.{BeforeOrAll}
use Rattle.fsl_journal.specs.declared.CommitFault.{CommitFault}
use Rattle.fsl_journal.specs.declared.CommitFault.TheVariants as commit_fault
use Rattle.fsl_repo.specs.declared.Arrival.{Arrival}
use Rattle.fsl_repo.specs.Machine.{State, IsCommit}
use Rattle.fsl_repo.specs.Whole.{Seen, front, stored, blobs, IsWhole}
use Rattle.fsl_pull.specs.Rounds.{Point, Then, state_of}
use Rattle.fsl_pull.specs.Arrivals.{stored_in, committed, with_commit, commits_with}
use Rattle.fsl_pull.specs.Kept.{all_of_them, StandsForSome}
use Rattle.fsl_pull.specs.Taking.{Appends}
use Rattle.fsl_pull.specs.Steps.{IsCommitted, log_in}
use Rattle.fsl_pull.specs.Turns.{commits_of, AreCommitted, IsKeptBy, IsUncommitted}
use Rattle.fsl_pull.proofs.KeptLemmas.{all_some, some_more, of_both}
use Rattle.fsl_pull.proofs.TakingLemmas.{blobs_both}

-- the commits of a round begin with those before it
pub with_longer : (commits : List (List Record)) (more : List Record) → (rest : List (List Record)) × (with_commit commits more ≡ commits ++ rest)
with_longer commits [] = ([], sym (append-nil commits))
with_longer commits (r ∷ more) = ((r ∷ more) ∷ [], refl)

-- and their records are those before it and these
pub with_records : (commits : List (List Record)) (more : List Record) → all_of_them (with_commit commits more) ≡ all_of_them commits ++ more
with_records commits [] = sym (append-nil (all_of_them commits))
with_records commits (r ∷ more) = of_both commits ((r ∷ more) ∷ []) ∙ ap (λ (x : List Record). all_of_them commits ++ x) (append-nil (r ∷ more))

-- how many were stored
pub stored_more : (old mid : Seen) (done : List Arrival) → old.loaded ≤ length old.state.records → Appends old mid done → stored mid ≡ stored old + stored_in done
stored_more old mid done within h =
    (λ i. blobs (drop (h.loaded i) (h.records i))) ∙ ap blobs (drop-append-le old.loaded old.state.records h.more within)
    ∙ blobs_both (drop old.loaded old.state.records) h.more ∙ ap (λ (n : ℕ). blobs (drop old.loaded old.state.records) + n) h.stored

module _ {M : Type 0} (p : Point M) (before after : DiskState) (old mid new : Seen) (done : List Arrival) (at : p.state ≡ old.state) (whole : IsWhole old) (h : Appends old mid done) where
  -- the records that were committed before stay
  front_is : take (mid.state).committed (mid.state).records ≡ front p.state
  front_is =
      (λ i. take (h.committed i) (h.records i)) ∙ take-append-le (old.state).committed (old.state).records h.more whole.committed
      ∙ ap front (sym at)

  -- and with those of the round they are all
  all_are : (base : List Record) → AreCommitted base p.state p.commits → (mid.state).records ≡ base ++ all_of_them (commits_with p.commits mid.state)
  all_are base are =
      let n = (mid.state).committed in
      let more = drop n (mid.state).records in
      sym (take-append-drop n (mid.state).records)
      ∙ ap (λ (x : List Record). x ++ more) (front_is ∙ are)
      ∙ append_assoc base (all_of_them p.commits) more
      ∙ ap (λ (x : List Record). base ++ x) (sym (with_records p.commits more))

  pub carried : (step : Then M) → state_of step ≡ committed mid.state → commits_of step ≡ commits_with p.commits mid.state → (base : List Record) → AreCommitted base p.state p.commits → AreCommitted base (state_of step) (commits_of step)
  carried step is_state is_commits base are =
      ap front is_state ∙ take_all (length (mid.state).records) (mid.state).records (omega arith) ∙ all_are base are
      ∙ ap (λ (c : List (List Record)). base ++ all_of_them c) (sym is_commits)

  stands : (base : List Record) (c : List ℕ) → AreCommitted base p.state p.commits → BeforeOrAll (log_in mid.state) c → StandsForSome base (commits_with p.commits mid.state) c
  stands base c are (inl k) =
      let longer = with_longer p.commits (drop (mid.state).committed (mid.state).records) in
      subst (λ (m : List (List Record)). StandsForSome base m c) (sym longer.1)
      (some_more base p.commits longer.0 c (all_some base p.commits c (subst (IsFileOf c) (front_is ∙ are) k)))
  stands base c are (inr k) = all_some base (commits_with p.commits mid.state) c (subst (IsFileOf c) (all_are base are) k)

  pub kept : {result : Result (Unit {0}) CommitFault} (Still : Type 0) (step : Then M) → commits_of step ≡ commits_with p.commits mid.state → IsCommitted before after mid new result → IsKeptBy before after Still p step
  kept Still step is_commits k =
      inr (λ base are model here.
      subst (λ (m : List (List Record)). LeavesOnly before after (StandsForSome base m)) (sym is_commits)
      (weaker before after (BeforeOrAll (log_in mid.state)) (StandsForSome base (commits_with p.commits mid.state)) (λ c. stands base c are) (k.moments model)))

  -- there was something to commit
  more_records : (step : Then M) → state_of step ≡ committed mid.state → (mid.state).committed ≢ length (mid.state).records → (p.state).committed < length (state_of step).records
  more_records step is_state some =
      let before : (p.state).committed ≡ (mid.state).committed = ap (λ (s : State). s.committed) at ∙ sym h.committed in
      let behind : length (state_of step).records ≡ length (mid.state).records = ap (λ (s : State). length s.records) is_state in
      let all : length (mid.state).records ≡ length (old.state).records + length h.more = ap (λ (x : List Record). length x) h.records ∙ length-append (old.state).records h.more in
      omega (arith, before, behind, all, whole.committed, some)

  -- a commit that failed
  pub uncommitted_by : (step : Then M) → state_of step ≡ committed mid.state → Rose (mid.state).faults (new.state).faults → new.state ≡ record mid.state { stopped = Some (new.state).faults; faults = (new.state).faults }
      → (mid.state).committed ≢ length (mid.state).records → IsUncommitted p step new.state
  uncommitted_by step is_state rose is some =
      record {
        rose = subst (λ (n : ℕ). Rose n (new.state).faults) (h.faults ∙ ap (λ (s : State). s.faults) (sym at)) rose;
        is_due = ap (λ (s : State). s.committed) is_state ∙ ap (λ (s : State). length s.records) (sym is_state);
        some = more_records step is_state some;
        state =
            is ∙ (λ i. record mid.state { committed = (h.committed ∙ ap (λ (s : State). s.committed) (sym at)) i; stopped = Some (new.state).faults; faults = (new.state).faults })
            ∙ ap (λ (s : State). record s { committed = (p.state).committed; stopped = Some (new.state).faults; faults = (new.state).faults }) (sym is_state);
      }

-- the count of faults doesn't fall
pub commit_later : (o : Option ℕ) (old : State) (r : Result ℕ CommitFault) (new : State) → IsCommit o old r new → old.faults ≤ new.faults
commit_later (Some faults) old r new h = (h.1).faults
commit_later None old r new (inl h) = (h.2).faults
commit_later None old r new (inr h) = subst (λ (s : State). old.faults ≤ s.faults) (sym h.1) (omega arith)

-- ---- a commit that failed had something to commit

no_some : (f : ℕ) → Some f ≡ None → ⊥
no_some f e = cc

not_ok : (e : CommitFault) (n : ℕ) → Err e ≡ Ok n → ⊥
not_ok e n h = cc

fault_is : (e d : CommitFault) {r : Result ℕ CommitFault} → r ≡ Err e → r ≡ Err d → e ≡ d
fault_is e d h k = cc

pub commit_failed : (before after : DiskState) (old new : Seen) (r : Result ℕ CommitFault) (e : CommitFault) (o : Option ℕ) → r ≡ Err e → o ≡ None → IsCommit o old.state r new.state → new.loaded ≡ old.loaded
    → (IsModelled before → LeavesOnly before after (BeforeOrAll (log_in old.state))) → (old.state.committed ≡ length old.state.records → r ≡ Ok (length old.state.records)) → IsCommitted before after old new (Err e)
commit_failed before after old new r e (Some f) is runs step loaded moments nothing = absurd (no_some f runs)
commit_failed before after old new r e None is runs (inl h) loaded moments nothing = record {
  loaded = loaded;
  state = inr (ap (λ (f : CommitFault). Err f) (fault_is e commit_fault.Disk is h.0), h.1, h.2.state, λ all. not_ok e (length old.state.records) (sym is ∙ nothing all));
  moments = moments;
}
commit_failed before after old new r e None is runs (inr h) loaded moments nothing = absurd (not_ok e (length old.state.records) (sym is ∙ h.0))
