-- The cards of a reply to a pull were taken, and committed.
use Rattle.std.specs.Prelude.{◌≡◌, ◌≢◌, ℕ, ◌+◌, ◌≤◌, ◌⊎◌, ◌||◌, ◌&&◌, Bool, true, false, not, List, [], length, Option, Some, None, Result, Ok, Err, if◌then◌else◌}
use Rattle.std.specs.List.{list_all}
use Rattle.std.specs.Option.{option_map_or}
use Rattle.std.proofs.Common.{refl, sym, ap, subst, ◌∙◌, inl, inr, arith}
use Rattle.std.proofs.lemmas.List.{append-nil}
use Rattle.fsl_order.specs.Names.{has}
use Rattle.fsl_order.specs.Causes.{Rose}
use Rattle.fsl_disk.specs.Disk.{DiskState}
use Rattle.fsl_journal.specs.declared.CommitFault.{CommitFault}
use Rattle.fsl_journal.specs.declared.CommitFault.TheVariants as commit_fault
use Rattle.fsl_wire.specs.declared.WireCard.{WireCard}
use Rattle.fsl_repo.specs.Machine.{State, AreItems, now, wants}
use Rattle.fsl_repo.specs.Whole.{Seen, stored, IsWhole}
use Rattle.fsl_pull.specs.declared.PullFault.{PullFault}
use Rattle.fsl_pull.specs.declared.PullFault.TheVariants as fault
use Rattle.fsl_pull.specs.declared.next.Step.{Step}
use Rattle.fsl_pull.specs.declared.next.Step.TheVariants as step_is
use Rattle.fsl_pull.specs.Rounds.{Point, Then, goes_on, ends, state_of}
use Rattle.fsl_pull.specs.Replies.{announced_in}
use Rattle.fsl_pull.specs.Arrivals.{Taken, Takes, stored_in, committed, commits_with, IsPartlyTaken}
use Rattle.fsl_pull.specs.Pulls.{next_names, missing, missing_fault, behind, ended, uncommitted}
use Rattle.fsl_pull.specs.Taking.{IsRefusal, TakesSome, TakesUpTo, TakesFront, TakesAll}
use Rattle.fsl_pull.specs.Steps.{step_of, answer_by, IsCommitted}
use Rattle.fsl_pull.specs.Turns.{commits_of, count_of, IsKeptBy, IsCarried, ComesTo}
use Rattle.fsl_pull.specs.PullTurns.{SameNames, Finish, then_with, IsReplied, IsTaken}
use Rattle.fsl_pull.proofs.TakingLemmas.{whole_taken, front_taken}
use Rattle.fsl_pull.proofs.CommitLemmas.{stored_more, carried, kept, uncommitted_by}

abbrev Names : Type 0
Names = List (List ℕ)

abbrev pub ok_unit : Result (Unit {0}) CommitFault
ok_unit = Ok tt

abbrev pub err_unit : CommitFault → Result (Unit {0}) CommitFault
err_unit e = Err e

pub no_fault : ok_unit ≡ Err commit_fault.Disk → ⊥
no_fault e = cc

pub no_ok : (e : CommitFault) → err_unit e ≡ Ok tt → ⊥
no_ok e is = cc

within : (s : Seen) → IsWhole s → s.loaded ≤ length s.state.records
within s w = omega (arith, w.loaded, w.committed)

module _ (finish : Finish) (asked : Names) (cards : List WireCard) (before after : DiskState) (old new : Seen) (Still : Type 0) where
  abbrev Says : Point Names → Then Names → Type 0
  Says p s = IsReplied finish p cards s × IsKeptBy before after Still p s

  abbrev Comes : Point Names → Result (Option Names) PullFault → Type 0
  Comes p result = ComesTo SameNames p (Says p) (IsCarried (stored old) (stored new) p) (λ left. IsPartlyTaken cards p.state left × Still) new.state result

  -- a card was wrong
  pub refused : (why : PullFault) → TakesUpTo old None cards why new → Still → IsTaken finish asked cards before after old new Still (Err why)
  refused why h still p at m =
      let t : Taken = record { state = new.state; arrivals = h.done; fault = Some why } in
      inl (inl (
        h.refusal,
        (
          uncommitted p t why,
          ((t, subst (λ (s : State). Takes s None cards t) (sym at) h.takes, refl), inl (still, refl)),
          refl,
          refl,
        ),
      ))

  -- no memory in the midst of the cards
  pub in_part : TakesFront old None cards new → Still → IsTaken finish asked cards before after old new Still (Err fault.Memory)
  in_part h still p at m =
      let t : Taken = record { state = new.state; arrivals = h.done; fault = None } in
      inr (
        refl,
        (
          (h.front, h.rest, h.whole, (t, subst (λ (s : State). Takes s None h.front t) (sym at) (front_taken old None cards new h), refl, refl)),
          still,
        ),
      )

  -- no memory behind the cards
  pub behind_all : (moved : Bool) (due : Option ℕ) → TakesSome old None cards moved new due → Still → IsTaken finish asked cards before after old new Still (Err fault.Memory)
  behind_all moved due h still p at m =
      let t : Taken = record { state = new.state; arrivals = h.done; fault = None } in
      inr (
        refl,
        (
          (cards, [], sym (append-nil cards), (t, subst (λ (s : State). Takes s None cards t) (sym at) (whole_taken old None cards moved new due h), refl, refl)),
          still,
        ),
      )

  -- either of these
  pub wrong_turn : (why : PullFault) → TakesAll old None cards (Err why) new → Still → IsTaken finish asked cards before after old new Still (Err why)
  wrong_turn why (inl h) still = refused why h still
  wrong_turn why (inr (memory, h)) still = subst (λ (w : PullFault). IsTaken finish asked cards before after old new Still (Err w)) (sym memory) (in_part h still)

  -- ---- a commit

  module _ (mid : Seen) (moved : Bool) (due : Option ℕ) (fine : (absent : Option (List ℕ)) (why : PullFault) → finish absent ≡ Some why → IsRefusal why) (h : TakesSome old None cards moved mid due) (whole : IsWhole old) (items : AreItems (now mid.state).held mid.items) (p : Point Names) (at : p.state ≡ old.state) (m : p.memory ≡ asked) where
    abbrev t : Taken
    t = record { state = mid.state; arrivals = h.done; fault = None }

    abbrev told : Names
    told = announced_in cards

    abbrev wanted : Names
    wanted = wants (now mid.state) mid.items

    abbrev next : Names
    next = next_names (now mid.state) wanted told

    -- the step by what is tested
    abbrev then_by : Bool → Bool → Option (List ℕ) → Then Names
    then_by moves all absent = if not moves && all then ends (ended p t (finish absent)) else goes_on (behind p t next)

    abbrev code_by : Bool → Bool → Option (List ℕ) → Step
    code_by moves all absent = if moves || not all then step_is.On next else step_is.End absent

    then_is : then_with finish p cards t wanted ≡ then_by moved (list_all (has asked) next) (missing next told)
    then_is = λ i. then_by (sym h.is_moved i) (list_all (has (m i)) next) (missing next told)

    says : (s : Then Names) → s ≡ then_with finish p cards t wanted → IsReplied finish p cards s
    says s is = (t, subst (λ (x : State). Takes x None cards t) (sym at) (whole_taken old None cards moved mid due h), (wanted, (mid.items, items, refl), is))

    keeps : (result : Result (Unit {0}) CommitFault) (s : Then Names) → commits_of s ≡ commits_with p.commits mid.state → IsCommitted before after mid new result → IsKeptBy before after Still p s
    keeps result s is k = kept p before after old mid new h.done at whole h.appends Still s is k

    stored_new : new.loaded ≡ mid.loaded → (new.state).records ≡ (mid.state).records → stored new ≡ stored old + stored_in h.done
    stored_new loaded records = (λ i. stored (record { state = record mid.state { records = records i }; items = mid.items; loaded = loaded i })) ∙ stored_more old mid h.done (within old whole) h.appends

    carries : (s : Then Names) → state_of s ≡ committed mid.state → commits_of s ≡ commits_with p.commits mid.state → count_of s ≡ p.count + stored_in h.done → stored new ≡ stored old + stored_in h.done → IsCarried (stored old) (stored new) p s
    carries s is_state is_commits is_count is_stored =
        record {
          count = omega (arith, is_count, is_stored);
          later = omega (arith, is_stored);
          committed = carried p before after old mid new h.done at whole h.appends s is_state is_commits;
        }

    by_ok : (moves all : Bool) (absent : Option (List ℕ)) → then_with finish p cards t wanted ≡ then_by moves all absent → IsCommitted before after mid new (Ok tt) → new.state ≡ committed mid.state → stored new ≡ stored old + stored_in h.done
        → Comes p (answer_by finish (code_by moves all absent))
    by_ok true all absent is k same count = (
      behind p t next,
      ((says (goes_on (behind p t next)) (sym is), keeps (Ok tt) (goes_on (behind p t next)) refl k), carries (goes_on (behind p t next)) refl refl refl count),
      sym same,
      refl,
    )
    by_ok false false absent is k same count = (
      behind p t next,
      ((says (goes_on (behind p t next)) (sym is), keeps (Ok tt) (goes_on (behind p t next)) refl k), carries (goes_on (behind p t next)) refl refl refl count),
      sym same,
      refl,
    )
    by_ok false true absent is k same count = finished (finish absent) refl
      where
        finished : (o : Option PullFault) → finish absent ≡ o → Comes p (option_map_or (λ why. Err why) o (Ok None))
        finished None e = (
          ended p t None,
          ((says (ends (ended p t None)) (ap (λ (x : Option PullFault). ends (ended p t x)) (sym e) ∙ sym is), keeps (Ok tt) (ends (ended p t None)) refl k), carries (ends (ended p t None)) refl refl refl count),
          refl,
          sym same,
        )
        finished (Some why) e =
            inl (inl (
              fine absent why e,
              (
                ended p t (Some why),
                (says (ends (ended p t (Some why))) (ap (λ (x : Option PullFault). ends (ended p t x)) (sym e) ∙ sym is), keeps (Ok tt) (ends (ended p t (Some why))) refl k),
                refl,
                sym same,
              ),
            ))

    by_err : (moves all : Bool) (absent : Option (List ℕ)) → then_with finish p cards t wanted ≡ then_by moves all absent → IsCommitted before after mid new (Err commit_fault.Disk) → Rose (mid.state).faults (new.state).faults
        → new.state ≡ record mid.state { stopped = Some (new.state).faults; faults = (new.state).faults } → (mid.state).committed ≢ length (mid.state).records → Comes p (Err fault.Disk)
    by_err moves all absent is k rose same some = inl (inr (refl, (then_by moves all absent, (says (then_by moves all absent) (sym is), keeps (Err commit_fault.Disk) (then_by moves all absent) (commits_by moves all) k), uncommitted_by p before after old mid new h.done at whole h.appends (then_by moves all absent) (state_by moves all) rose same some)))
      where
        commits_by : (moves all : Bool) → commits_of (then_by moves all absent) ≡ commits_with p.commits mid.state
        commits_by true all = refl
        commits_by false true = refl
        commits_by false false = refl

        state_by : (moves all : Bool) → state_of (then_by moves all absent) ≡ committed mid.state
        state_by true all = refl
        state_by false true = refl
        state_by false false = refl

  pub committed_turn : (mid : Seen) (moved : Bool) (due : Option ℕ) (step : Step) → ((absent : Option (List ℕ)) (why : PullFault) → finish absent ≡ Some why → IsRefusal why) → TakesSome old None cards moved mid due → IsWhole old → AreItems (now mid.state).held mid.items → step ≡ step_of asked moved (announced_in cards) mid → IsCommitted before after mid new (Ok tt)
      → IsTaken finish asked cards before after old new Still (answer_by finish step)
  committed_turn mid moved due step fine h whole items is k p at m = subst (λ (s : Step). Comes p (answer_by finish s)) (sym is) (by k.state)
    where
      by : ((ok_unit ≡ Ok tt) × (new.state ≡ record mid.state { committed = length mid.state.records }))
          ⊎ ((ok_unit ≡ Err commit_fault.Disk) × Rose mid.state.faults new.state.faults × (new.state ≡ record mid.state { stopped = Some new.state.faults; faults = new.state.faults }) × (mid.state.committed ≢ length mid.state.records))
          → Comes p (answer_by finish (step_of asked moved (announced_in cards) mid))
      by (inl (ok, same)) =
          by_ok mid moved due fine h whole items p at m moved (list_all (has asked) (next_names (now mid.state) (wants (now mid.state) mid.items) (announced_in cards)))
          (missing (next_names (now mid.state) (wants (now mid.state) mid.items) (announced_in cards)) (announced_in cards))
          (then_is mid moved due fine h whole items p at m) k same (stored_new mid moved due fine h whole items p at m k.loaded (ap (λ (s : State). s.records) same))
      by (inr h) = absurd (no_fault h.0)

  pub failed_turn : (mid : Seen) (moved : Bool) (due : Option ℕ) (e : CommitFault) → ((absent : Option (List ℕ)) (why : PullFault) → finish absent ≡ Some why → IsRefusal why) → TakesSome old None cards moved mid due → IsWhole old → AreItems (now mid.state).held mid.items → IsCommitted before after mid new (Err e)
      → IsTaken finish asked cards before after old new Still (Err fault.Disk)
  failed_turn mid moved due e fine h whole items k p at m = by k.state
    where
      by : ((err_unit e ≡ Ok tt) × (new.state ≡ record mid.state { committed = length mid.state.records }))
          ⊎ ((err_unit e ≡ Err commit_fault.Disk) × Rose mid.state.faults new.state.faults × (new.state ≡ record mid.state { stopped = Some new.state.faults; faults = new.state.faults }) × (mid.state.committed ≢ length mid.state.records))
          → Comes p (Err fault.Disk)
      by (inl (ok, same)) = absurd (no_ok e ok)
      by (inr (is, rose, same, some)) =
          by_err mid moved due fine h whole items p at m moved (list_all (has asked) (next_names (now mid.state) (wants (now mid.state) mid.items) (announced_in cards)))
          (missing (next_names (now mid.state) (wants (now mid.state) mid.items) (announced_in cards)) (announced_in cards))
          (then_is mid moved due fine h whole items p at m) (subst (IsCommitted before after mid new) is k) rose same some

-- what is missing at the end of a pull is a refusal
pub missing_refused : (absent : Option (List ℕ)) (why : PullFault) → missing_fault absent ≡ Some why → IsRefusal why
missing_refused None why e = absurd (no_some why e)
  where
    no_some : (why : PullFault) → missing_fault None ≡ Some why → ⊥
    no_some why e = cc
missing_refused (Some name) why e = subst IsRefusal (is name why e) tt
  where
    is : (name : List ℕ) (why : PullFault) → missing_fault (Some name) ≡ Some why → fault.Missing name ≡ why
    is name why e = cc
