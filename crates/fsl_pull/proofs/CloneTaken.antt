-- The cards of a reply to a clone were taken, and committed.
use Rattle.std.specs.Prelude.{◌≡◌, ◌≢◌, ℕ, ◌+◌, ◌≤◌, ◌==◌, ◌⊎◌, Bool, true, false, List, [], length, take, Option, Some, None, Result, Ok, Err, if◌then◌else◌}
use Rattle.std.proofs.Common.{refl, sym, ap, subst, ◌∙◌, inl, inr, arith}
use Rattle.std.proofs.lemmas.List.{take-append-le}
use Rattle.fsl_order.specs.Causes.{Rose}
use Rattle.fsl_disk.specs.Disk.{DiskState}
use Rattle.fsl_journal.specs.declared.CommitFault.{CommitFault}
use Rattle.fsl_journal.specs.declared.CommitFault.TheVariants as commit_fault
use Rattle.fsl_wire.specs.declared.WireCard.{WireCard}
use Rattle.fsl_repo.specs.declared.Arrival.{Arrival}
use Rattle.fsl_repo.specs.Machine.{State}
use Rattle.fsl_repo.specs.Whole.{Seen, front, stored, IsWhole}
use Rattle.fsl_pull.specs.declared.PeerFault.TheVariants as peer
use Rattle.fsl_pull.specs.declared.PullFault.{PullFault}
use Rattle.fsl_pull.specs.declared.PullFault.TheVariants as fault
use Rattle.fsl_pull.specs.Rounds.{Point, Then, goes_on, ends, state_of}
use Rattle.fsl_pull.specs.Replies.{sequel_in}
use Rattle.fsl_pull.specs.Arrivals.{Taken, Takes, stored_in, committed, commits_with}
use Rattle.fsl_pull.specs.Pulls.{behind, ended, uncommitted}
use Rattle.fsl_pull.specs.Clones.{Cloning, IsCloned, clone_then}
use Rattle.fsl_pull.specs.Taking.{Appends, TakesSome, TakesUpTo, TakesFront, TakesAll}
use Rattle.fsl_pull.specs.Steps.{IsCommitted}
use Rattle.fsl_record.specs.declared.Record.{Record}
use Rattle.fsl_pull.specs.Turns.{commits_of, count_of, AreCommitted, IsCarried, ComesTo}
use Rattle.fsl_pull.specs.CloneTurns.{cloning, AsksFrom, place_by, IsKeptOn, IsCloneTaken}
use Rattle.fsl_outside.specs.Connections.{LinkState}
use Rattle.fsl_pull.specs.Asking.{IsDialCounted}
use Rattle.fsl_pull.proofs.DialCounts.{no_dial}
use Rattle.fsl_pull.proofs.TakingLemmas.{whole_taken}
use Rattle.fsl_pull.proofs.CommitLemmas.{stored_more, carried, kept, uncommitted_by}
use Rattle.fsl_pull.proofs.PullTaken.{ok_unit, err_unit, no_fault, no_ok}

within : (s : Seen) → IsWhole s → s.loaded ≤ length s.state.records
within s w = omega (arith, w.loaded, w.committed)

module _ (from : ℕ) (cards : List WireCard) (before after : DiskState) (old new : Seen) (Still : Type 0) where
  abbrev Answered : Result (Option ℕ) PullFault → Type 0
  Answered result = IsCloneTaken from cards before after old new Still result

  -- what was committed stays so
  same_front : (whole : IsWhole old) (done : List Arrival) (mid : Seen) → Appends old mid done → front mid.state ≡ front old.state
  same_front whole done mid h = (λ i. take (h.committed i) (h.records i)) ∙ take-append-le (old.state).committed (old.state).records h.more whole.committed

  module _ (p : Point Cloning) (at : p.state ≡ old.state) (m : p.memory ≡ cloning from) where
    taken_at : (t : Taken) → Takes old.state (Some from) cards t → Takes p.state (Some (p.memory).from) cards t
    taken_at t h = subst (λ (s : State). Takes s (Some (p.memory).from) cards t) (sym at) (subst (λ (c : Cloning). Takes old.state (Some c.from) cards t) (sym m) h)

    -- and it is what the commits so far come to
    stays : (done : List Arrival) → IsWhole old → Appends old new done → (base : List Record) → AreCommitted base p.state p.commits → AreCommitted base new.state p.commits
    stays done whole h base are = same_front whole done new h ∙ ap front (sym at) ∙ are

    -- and the records begin with it
    in_front : (done : List Arrival) (mid : Seen) → IsWhole old → Appends old mid done → take p.state.committed mid.state.records ≡ front p.state
    in_front done mid whole h =
        ap (λ (n : ℕ). take n (mid.state).records) (ap (λ (s : State). s.committed) at ∙ sym h.committed) ∙ same_front whole done mid h ∙ ap front (sym at)

  -- a card was wrong
  refused : (why : PullFault) → IsWhole old → TakesUpTo old (Some from) cards why new → Still → Answered (Err why)
  refused why whole h still p at m =
      let t : Taken = record { state = new.state; arrivals = h.done; fault = Some why } in
      inl (inl (h.refusal, (uncommitted p t why, ((t, taken_at p at m t h.takes, refl), (inl (still, refl), stays p at m h.done whole h.appends, in_front p at m h.done new whole h.appends)), refl, refl)))

  -- no memory in the midst of the cards
  in_part : IsWhole old → TakesFront old (Some from) cards new → Still → Answered (Err fault.Memory)
  in_part whole h still p at m = inr (refl, (same_front whole h.done new h.appends ∙ ap front (sym at), still))

  -- either of these
  pub wrong_turn : (why : PullFault) → IsWhole old → TakesAll old (Some from) cards (Err why) new → Still → Answered (Err why)
  wrong_turn why whole (inl h) still = refused why whole h still
  wrong_turn why whole (inr (memory, h)) still = subst (λ (w : PullFault). Answered (Err w)) (sym memory) (in_part whole h still)

  -- no number where the clone goes on
  pub endless_turn : (moved : Bool) (left : Option ℕ) → IsWhole old → TakesSome old (Some from) cards moved new left → sequel_in cards ≡ None → Still → Answered (Err (fault.Peer peer.NoSequence))
  endless_turn moved left whole h none still p at m =
      let t : Taken = record { state = new.state; arrivals = h.done; fault = None } in
      inl (inl (
        tt,
        (
          uncommitted p t (fault.Peer peer.NoSequence),
          ((t, taken_at p at m t (whole_taken old (Some from) cards moved new left h), sym (ap (clone_then p t) none)), (inl (still, refl), stays p at m h.done whole h.appends, in_front p at m h.done new whole h.appends)),
          refl,
          refl,
        ),
      ))

  -- ---- a commit

  module _ (mid : Seen) (moved : Bool) (left : Option ℕ) (next : ℕ) (h : TakesSome old (Some from) cards moved mid left) (whole : IsWhole old) (some : sequel_in cards ≡ Some next) (p : Point Cloning) (at : p.state ≡ old.state) (m : p.memory ≡ cloning from) where
    abbrev t : Taken
    t = record { state = mid.state; arrivals = h.done; fault = None }

    abbrev Comes : Result (Option ℕ) PullFault → Type 0
    Comes result =
        ComesTo AsksFrom p (λ s. IsCloned p cards s × IsKeptOn before after Still p s) (IsCarried (stored old) (stored new) p) (λ left. (front left ≡ front p.state) × Still) new.state result

    -- the end, or a further round
    abbrev step_by : Bool → Then Cloning
    step_by last = if last then ends (ended p t None) else goes_on (behind p t (cloning next))

    abbrev place_of : Bool → Option ℕ
    place_of last = if last then None else Some next

    says : IsCloned p cards (step_by (next == 0))
    says = (t, taken_at p at m t (whole_taken old (Some from) cards moved mid left h), sym (ap (clone_then p t) some))

    keeps : (result : Result (Unit {0}) CommitFault) (s : Then Cloning) → state_of s ≡ committed mid.state → commits_of s ≡ commits_with p.commits mid.state → IsCommitted before after mid new result → IsKeptOn before after Still p s
    keeps result s is e k = (
      kept p before after old mid new h.done at whole h.appends Still s e k,
      carried p before after old mid new h.done at whole h.appends s is e,
      ap (λ (x : State). take (p.state).committed x.records) is ∙ in_front p at m h.done mid whole h.appends,
    )

    commits_by : (last : Bool) → commits_of (step_by last) ≡ commits_with p.commits mid.state
    commits_by true = refl
    commits_by false = refl

    state_by : (last : Bool) → state_of (step_by last) ≡ committed mid.state
    state_by true = refl
    state_by false = refl

    count_by : (last : Bool) → count_of (step_by last) ≡ p.count + stored_in h.done
    count_by true = refl
    count_by false = refl

    stored_new : new.loaded ≡ mid.loaded → (new.state).records ≡ (mid.state).records → stored new ≡ stored old + stored_in h.done
    stored_new loaded records = (λ i. stored (record { state = record mid.state { records = records i }; items = mid.items; loaded = loaded i })) ∙ stored_more old mid h.done (within old whole) h.appends

    carries : (last : Bool) → stored new ≡ stored old + stored_in h.done → IsCarried (stored old) (stored new) p (step_by last)
    carries last is_stored =
        record {
          count = omega (arith, count_by last, is_stored);
          later = omega (arith, is_stored);
          committed = carried p before after old mid new h.done at whole h.appends (step_by last) (state_by last) (commits_by last);
        }

    by_ok : (last : Bool) → IsCloned p cards (step_by last) → IsCommitted before after mid new (Ok tt) → new.state ≡ committed mid.state → stored new ≡ stored old + stored_in h.done → Comes (Ok (place_of last))
    by_ok true is k same count = (ended p t None, ((is, keeps (Ok tt) (step_by true) refl refl k), carries true count), refl, sym same)
    by_ok false is k same count = (behind p t (cloning next), ((is, keeps (Ok tt) (step_by false) refl refl k), carries false count), sym same, refl)

    by_err : IsCommitted before after mid new (Err commit_fault.Disk) → Rose (mid.state).faults (new.state).faults
        → new.state ≡ record mid.state { stopped = Some (new.state).faults; faults = (new.state).faults } → (mid.state).committed ≢ length (mid.state).records → Comes (Err fault.Disk)
    by_err k rose same more =
        let s = step_by (next == 0) in
        inl (inr (
          refl,
          (
            s,
            (says, keeps (Err commit_fault.Disk) s (state_by (next == 0)) (commits_by (next == 0)) k),
            uncommitted_by p before after old mid new h.done at whole h.appends s (state_by (next == 0)) rose same more,
          ),
        ))

  pub committed_turn : (mid : Seen) (moved : Bool) (left : Option ℕ) (next : ℕ) → TakesSome old (Some from) cards moved mid left → IsWhole old → sequel_in cards ≡ Some next → IsCommitted before after mid new (Ok tt) → Answered (Ok (place_by next))
  committed_turn mid moved left next h whole some k p at m = by k.state
    where
      by : ((ok_unit ≡ Ok tt) × (new.state ≡ record mid.state { committed = length mid.state.records }))
          ⊎ ((ok_unit ≡ Err commit_fault.Disk) × Rose mid.state.faults new.state.faults × (new.state ≡ record mid.state { stopped = Some new.state.faults; faults = new.state.faults }) × (mid.state.committed ≢ length mid.state.records))
          → Comes mid moved left next h whole some p at m (Ok (place_by next))
      by (inl (ok, same)) =
          by_ok mid moved left next h whole some p at m (next == 0) (says mid moved left next h whole some p at m) k same
          (stored_new mid moved left next h whole some p at m k.loaded (ap (λ (s : State). s.records) same))
      by (inr f) = absurd (no_fault f.0)

  pub failed_turn : (mid : Seen) (moved : Bool) (left : Option ℕ) (next : ℕ) (e : CommitFault) → TakesSome old (Some from) cards moved mid left → IsWhole old → sequel_in cards ≡ Some next → IsCommitted before after mid new (Err e) → Answered (Err fault.Disk)
  failed_turn mid moved left next e h whole some k p at m = by k.state
    where
      by : ((err_unit e ≡ Ok tt) × (new.state ≡ record mid.state { committed = length mid.state.records }))
          ⊎ ((err_unit e ≡ Err commit_fault.Disk) × Rose mid.state.faults new.state.faults × (new.state ≡ record mid.state { stopped = Some new.state.faults; faults = new.state.faults }) × (mid.state.committed ≢ length mid.state.records))
          → Comes mid moved left next h whole some p at m (Err fault.Disk)
      by (inl (ok, same)) = absurd (no_ok e ok)
      by (inr (f, rose, same, more)) = by_err mid moved left next h whole some p at m (subst (IsCommitted before after mid new) f k) rose same more

-- what a reply that a fault ended leaves of the state
pub wrong_same : (old new : Seen) (due : Option ℕ) (cards : List WireCard) (why : PullFault) → TakesAll old due cards (Err why) new → (new.state.stopped ≡ old.state.stopped) × (new.state.faults ≡ old.state.faults)
wrong_same old new due cards why (inl h) = ((h.appends).stopped, (h.appends).faults)
wrong_same old new due cards why (inr (memory, h)) = ((h.appends).stopped, (h.appends).faults)

-- and what a commit does
pub commit_same : (before after : DiskState) (mid new : Seen) → IsCommitted before after mid new (Ok tt) → (new.state.stopped ≡ mid.state.stopped) × (new.state.faults ≡ mid.state.faults)
commit_same before after mid new k = by k.state
  where
    by : ((ok_unit ≡ Ok tt) × (new.state ≡ record mid.state { committed = length mid.state.records }))
        ⊎ ((ok_unit ≡ Err commit_fault.Disk) × Rose mid.state.faults new.state.faults × (new.state ≡ record mid.state { stopped = Some new.state.faults; faults = new.state.faults }) × (mid.state.committed ≢ length mid.state.records))
        → (new.state.stopped ≡ mid.state.stopped) × (new.state.faults ≡ mid.state.faults)
    by (inl (ok, same)) = (ap (λ (s : State). s.stopped) same, ap (λ (s : State). s.faults) same)
    by (inr f) = absurd (no_fault f.0)

-- what takes a reply calls no dial
pub clone_counts : (from : ℕ) (cards : List WireCard) (before after : DiskState) (old new : Seen) (Still : Type 0) (result : Result (Option ℕ) PullFault) (d e : LinkState) → IsCloneTaken from cards before after old new Still result → e.faults ≡ d.faults → IsDialCounted d e result
clone_counts from cards before after old new Still result d e h same =
    let p : Point Cloning = record { state = old.state; commits = []; count = 0; memory = cloning from } in
    no_dial AsksFrom p (λ s. IsCloned p cards s × IsKeptOn before after Still p s) (IsCarried (stored old) (stored new) p) (λ left. (front left ≡ front p.state) × Still) new.state result d e (h p refl refl) same
