-- The cards of a reply to a push were taken, and committed.
use Rattle.std.specs.Prelude.{◌≡◌, ◌≢◌, ℕ, ◌+◌, ◌⊎◌, Bool, true, false, List, [], ◌∷◌, ◌++◌, length, Option, Some, None, Result, Ok, Err, if◌then◌else◌}
use Rattle.std.specs.List.{list_all}
use Rattle.std.proofs.Common.{refl, sym, ap, subst, ◌∙◌, inl, inr, arith, length-append}
use Rattle.std.proofs.lemmas.List.{append-nil, length-map}
use Rattle.fsl_order.specs.Names.{has}
use Rattle.fsl_order.specs.Causes.{Rose}
use Rattle.fsl_disk.specs.Disk.{DiskState}
use Rattle.fsl_journal.specs.declared.CommitFault.{CommitFault}
use Rattle.fsl_journal.specs.declared.CommitFault.TheVariants as commit_fault
use Rattle.fsl_wire.specs.declared.WireCard.{WireCard}
use Rattle.fsl_repo.specs.Machine.{State, now}
use Rattle.fsl_repo.specs.Whole.{Seen, IsWhole}
use Rattle.fsl_pull.specs.declared.PeerFault.TheVariants as peer
use Rattle.fsl_pull.specs.declared.PullFault.{PullFault}
use Rattle.fsl_pull.specs.declared.PullFault.TheVariants as fault
use Rattle.fsl_pull.specs.declared.pushing.PushStep.{PushStep}
use Rattle.fsl_pull.specs.declared.pushing.PushStep.TheVariants as push_is
use Rattle.fsl_pull.specs.Sent.{SentNames}
use Rattle.fsl_pull.specs.Rounds.{Point, Then, goes_on, ends, state_of}
use Rattle.fsl_pull.specs.Replies.{asked_in}
use Rattle.fsl_pull.specs.Arrivals.{Taken, Takes, committed, commits_with, IsPartlyTaken}
use Rattle.fsl_pull.specs.Pushes.{Sending, names_of, asked_here, sent_on, push_ended, quiet_then, push_then, push_uncommitted, IsPushReply}
use Rattle.fsl_pull.specs.Taking.{TakesSome, TakesUpTo, TakesFront, TakesAll}
use Rattle.fsl_pull.specs.Steps.{IsCommitted}
use Rattle.fsl_pull.specs.Turns.{commits_of, count_of, IsKeptBy, IsCarried, ComesTo}
use Rattle.fsl_pull.specs.PushTurns.{Remembers, quiet_by, push_by, push_step, push_answer, IsPushTaken}
use Rattle.fsl_pull.proofs.TakingLemmas.{whole_taken, front_taken}
use Rattle.fsl_pull.proofs.CommitLemmas.{carried, kept, uncommitted_by}
use Rattle.fsl_pull.proofs.PullTaken.{ok_unit, err_unit, no_fault, no_ok}

abbrev Names : Type 0
Names = List (List ℕ)

abbrev Files : Type 0
Files = List (List ℕ × List ℕ)

module _ (due : Names) (cards : List WireCard) (before after : DiskState) (old new : Seen) (sent sent_new : SentNames) (Still : Type 0) where
  abbrev Answered : Result (Option Names) PullFault → Type 0
  Answered result = IsPushTaken due cards before after old new sent sent_new Still result

  -- a card was wrong
  refused : (why : PullFault) → TakesUpTo old None cards why new → Still → Answered (Err why)
  refused why h still p files at m is =
      let t : Taken = record { state = new.state; arrivals = h.done; fault = Some why } in
      inl (inl (
        h.refusal,
        (
          push_uncommitted p t why,
          ((t, subst (λ (s : State). Takes s None cards t) (sym at) h.takes, refl), inl (still, refl)),
          refl,
          refl,
        ),
      ))

  -- no memory in the midst of the cards
  in_part : TakesFront old None cards new → Still → Answered (Err fault.Memory)
  in_part h still p files at m is =
      let t : Taken = record { state = new.state; arrivals = h.done; fault = None } in
      inr (
        refl,
        (
          (h.front, h.rest, h.whole, (t, subst (λ (s : State). Takes s None h.front t) (sym at) (front_taken old None cards new h), refl, refl)),
          still,
        ),
      )

  -- no memory behind the cards
  pub behind_all : (moved : Bool) (left : Option ℕ) → TakesSome old None cards moved new left → Still → Answered (Err fault.Memory)
  behind_all moved left h still p files at m is =
      let t : Taken = record { state = new.state; arrivals = h.done; fault = None } in
      inr (
        refl,
        (
          (cards, [], sym (append-nil cards), (t, subst (λ (s : State). Takes s None cards t) (sym at) (whole_taken old None cards moved new left h), refl, refl)),
          still,
        ),
      )

  -- either of these
  pub wrong_turn : (why : PullFault) → TakesAll old None cards (Err why) new → Still → Answered (Err why)
  wrong_turn why (inl h) still = refused why h still
  wrong_turn why (inr (memory, h)) still = subst (λ (w : PullFault). Answered (Err w)) (sym memory) (in_part h still)

  -- ---- a commit

  module _ (mid : Seen) (moved : Bool) (left : Option ℕ) (h : TakesSome old None cards moved mid left) (whole : IsWhole old) (p : Point Sending) (files : Files) (at : p.state ≡ old.state) (m : p.memory.sent ≡ sent.order) (is : names_of files ≡ due) where
    abbrev t : Taken
    t = record { state = mid.state; arrivals = h.done; fault = None }

    abbrev here : Names
    here = asked_here (now mid.state) cards

    abbrev next : Names
    next = asked_in cards

    abbrev Comes : Result (Option Names) PullFault → Type 0
    Comes result =
        ComesTo (Remembers sent_new) p (λ s. IsPushReply p files (Ok cards) s × IsKeptBy before after Still p s) (IsCarried (length sent.order) (length sent_new.order) p)
        (λ left. IsPartlyTaken cards p.state left × Still) new.state result

    says : (s : Then Sending) → s ≡ push_then p cards t files → IsPushReply p files (Ok cards) s
    says s e = (t, subst (λ (x : State). Takes x None cards t) (sym at) (whole_taken old None cards moved mid left h), e)

    keeps : (result : Result (Unit {0}) CommitFault) (s : Then Sending) → commits_of s ≡ commits_with p.commits mid.state → IsCommitted before after mid new result → IsKeptBy before after Still p s
    keeps result s e k = kept p before after old mid new h.done at whole h.appends Still s e k

    -- where a step leads: on with the files, to the end without them
    abbrev quiet : Names → Bool → Then Sending
    quiet [] all = ends (push_ended p t None)
    quiet (least ∷ more) all = if all then ends (push_ended p t (Some (fault.Peer (peer.Again least)))) else goes_on (sent_on p cards t [])

    abbrev step_to : Files → Names → Bool → Then Sending
    step_to [] ns all = quiet ns all
    step_to (f ∷ fs) ns all = goes_on (sent_on p cards t (f ∷ fs))

    quiet_is : (ns : Names) → quiet_then p cards t ns ≡ quiet ns (list_all (has p.memory.sent) ns)
    quiet_is [] = refl
    quiet_is (n ∷ ns) = refl

    then_is : (fs : Files) → push_then p cards t fs ≡ step_to fs here (list_all (has p.memory.sent) here)
    then_is [] = quiet_is here
    then_is (f ∷ fs) = refl

    commits_by : (fs : Files) (ns : Names) (all : Bool) → commits_of (step_to fs ns all) ≡ commits_with p.commits mid.state
    commits_by (f ∷ fs) ns all = refl
    commits_by [] [] all = refl
    commits_by [] (n ∷ ns) true = refl
    commits_by [] (n ∷ ns) false = refl

    state_by : (fs : Files) (ns : Names) (all : Bool) → state_of (step_to fs ns all) ≡ committed mid.state
    state_by (f ∷ fs) ns all = refl
    state_by [] [] all = refl
    state_by [] (n ∷ ns) true = refl
    state_by [] (n ∷ ns) false = refl

    count_by : (fs : Files) (ns : Names) (all : Bool) → count_of (step_to fs ns all) ≡ p.count + length fs
    count_by (f ∷ fs) ns all = refl
    count_by [] [] all = omega arith
    count_by [] (n ∷ ns) true = omega arith
    count_by [] (n ∷ ns) false = omega arith

    -- the code's step
    abbrev quiet_code : Names → Bool → PushStep
    quiet_code [] all = push_is.End
    quiet_code (least ∷ more) all = if all then push_is.Again least else push_is.On next

    abbrev code : Files → Names → Bool → PushStep
    code [] ns all = quiet_code ns all
    code (f ∷ fs) ns all = push_is.On next

    quiet_code_is : (ns : Names) → quiet_by sent.order ns next ≡ quiet_code ns (list_all (has sent.order) ns)
    quiet_code_is [] = refl
    quiet_code_is (n ∷ ns) = refl

    code_is : (fs : Files) → push_by sent.order (names_of fs) here next ≡ code fs here (list_all (has sent.order) here)
    code_is [] = quiet_code_is here
    code_is (f ∷ fs) = refl

    carries : (fs : Files) (ns : Names) (all : Bool) → length sent_new.order ≡ length sent.order + length fs → IsCarried (length sent.order) (length sent_new.order) p (step_to fs ns all)
    carries fs ns all more =
        record {
          count = omega (arith, count_by fs ns all, more);
          later = omega (arith, more);
          committed = carried p before after old mid new h.done at whole h.appends (step_to fs ns all) (state_by fs ns all) (commits_by fs ns all);
        }

    by_ok : (fs : Files) (ns : Names) (all : Bool) → step_to fs ns all ≡ push_then p cards t files → IsCommitted before after mid new (Ok tt) → new.state ≡ committed mid.state → sent_new.order ≡ p.memory.sent ++ names_of fs
        → length sent_new.order ≡ length sent.order + length fs → Comes (push_answer (code fs ns all))
    by_ok (f ∷ fs) ns all e k same more count = (
      sent_on p cards t (f ∷ fs),
      ((says (goes_on (sent_on p cards t (f ∷ fs))) e, keeps (Ok tt) (goes_on (sent_on p cards t (f ∷ fs))) refl k), carries (f ∷ fs) ns all count),
      sym same,
      (λ i. record { sent = sym more i; gimmes = asked_in cards }),
    )
    by_ok [] [] all e k same more count = (
      push_ended p t None,
      ((says (ends (push_ended p t None)) e, keeps (Ok tt) (ends (push_ended p t None)) refl k), carries [] [] all count),
      refl,
      sym same,
    )
    by_ok [] (n ∷ ns) true e k same more count =
        inl (inl (
          tt,
          (
            push_ended p t (Some (fault.Peer (peer.Again n))),
            (says (ends (push_ended p t (Some (fault.Peer (peer.Again n))))) e, keeps (Ok tt) (ends (push_ended p t (Some (fault.Peer (peer.Again n))))) refl k),
            refl,
            sym same,
          ),
        ))
    by_ok [] (n ∷ ns) false e k same more count = (
      sent_on p cards t [],
      ((says (goes_on (sent_on p cards t [])) e, keeps (Ok tt) (goes_on (sent_on p cards t [])) refl k), carries [] (n ∷ ns) false count),
      sym same,
      (λ i. record { sent = sym more i; gimmes = asked_in cards }),
    )

    all_is : list_all (has p.memory.sent) here ≡ list_all (has sent.order) here
    all_is = ap (λ (ns : Names). list_all (has ns) here) m

    step_code : push_step sent due mid cards ≡ code files here (list_all (has sent.order) here)
    step_code = ap (λ (ns : Names). push_by sent.order ns here next) (sym is) ∙ code_is files

    step_then : step_to files here (list_all (has sent.order) here) ≡ push_then p cards t files
    step_then = ap (step_to files here) (sym all_is) ∙ sym (then_is files)

    told : sent_new.order ≡ sent.order ++ due → length sent_new.order ≡ length sent.order + length files
    told more =
        ap (λ (ns : Names). length ns) more ∙ length-append sent.order due
        ∙ ap (λ (n : ℕ). length sent.order + n) (ap (λ (ns : Names). length ns) (sym is) ∙ length-map files (λ (f : List ℕ × List ℕ). f.0))

    by_err : IsCommitted before after mid new (Err commit_fault.Disk) → Rose (mid.state).faults (new.state).faults
        → new.state ≡ record mid.state { stopped = Some (new.state).faults; faults = (new.state).faults } → (mid.state).committed ≢ length (mid.state).records → Comes (Err fault.Disk)
    by_err k rose same some =
        let all = list_all (has sent.order) here in
        inl (inr (
          refl,
          (
            step_to files here all,
            (says (step_to files here all) step_then, keeps (Err commit_fault.Disk) (step_to files here all) (commits_by files here all) k),
            uncommitted_by p before after old mid new h.done at whole h.appends (step_to files here all) (state_by files here all) rose same some,
          ),
        ))

  pub committed_turn : (mid : Seen) (moved : Bool) (left : Option ℕ) (step : PushStep) → TakesSome old None cards moved mid left → IsWhole old → step ≡ push_step sent due mid cards → sent_new.order ≡ sent.order ++ due → IsCommitted before after mid new (Ok tt)
      → Answered (push_answer step)
  committed_turn mid moved left step h whole e more k p files at m is = subst (λ (s : PushStep). Comes mid moved left h whole p files at m is (push_answer s)) (sym (e ∙ step_code mid moved left h whole p files at m is)) (by k.state)
    where
      by : ((ok_unit ≡ Ok tt) × (new.state ≡ record mid.state { committed = length mid.state.records }))
          ⊎ ((ok_unit ≡ Err commit_fault.Disk) × Rose mid.state.faults new.state.faults × (new.state ≡ record mid.state { stopped = Some new.state.faults; faults = new.state.faults }) × (mid.state.committed ≢ length mid.state.records))
          → Comes mid moved left h whole p files at m is (push_answer (code mid moved left h whole p files at m is files (asked_here (now mid.state) cards) (list_all (has sent.order) (asked_here (now mid.state) cards))))
      by (inl (ok, same)) =
          by_ok mid moved left h whole p files at m is files (asked_here (now mid.state) cards) (list_all (has sent.order) (asked_here (now mid.state) cards))
          (step_then mid moved left h whole p files at m is) k same (more ∙ (λ i. sym m i ++ sym is i)) (told mid moved left h whole p files at m is more)
      by (inr f) = absurd (no_fault f.0)

  pub failed_turn : (mid : Seen) (moved : Bool) (left : Option ℕ) (e : CommitFault) → TakesSome old None cards moved mid left → IsWhole old → IsCommitted before after mid new (Err e) → Answered (Err fault.Disk)
  failed_turn mid moved left e h whole k p files at m is = by k.state
    where
      by : ((err_unit e ≡ Ok tt) × (new.state ≡ record mid.state { committed = length mid.state.records }))
          ⊎ ((err_unit e ≡ Err commit_fault.Disk) × Rose mid.state.faults new.state.faults × (new.state ≡ record mid.state { stopped = Some new.state.faults; faults = new.state.faults }) × (mid.state.committed ≢ length mid.state.records))
          → Comes mid moved left h whole p files at m is (Err fault.Disk)
      by (inl (ok, same)) = absurd (no_ok e ok)
      by (inr (f, rose, same, some)) = by_err mid moved left h whole p files at m is (subst (IsCommitted before after mid new) f k) rose same some
