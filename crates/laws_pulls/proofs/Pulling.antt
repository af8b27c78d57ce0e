-- What a whole pull leaves of the contents.
use Rattle.std.specs.Prelude.{◌≡◌, ℕ, Bool, true, false, List, [], ◌∷◌, cond, Option, Some, None, MatchBool, MatchOption}
use Rattle.std.proofs.Common.{refl, sym, ap, subst, ◌∙◌, inl, inr}
use Rattle.std.specs.Str.{bytes_eq}
use Rattle.fsl_wire.specs.declared.WireCard.{WireCard}
use Rattle.fsl_repo.specs.Machine.{State, now}
use Rattle.fsl_pull.specs.declared.PullFault.{PullFault}
use Rattle.fsl_pull.specs.Rounds.{Round, Point, End, Then, goes_on, ends, EndsIn, state_of}
use Rattle.fsl_pull.specs.Replies.{announced_in}
use Rattle.fsl_pull.specs.Arrivals.{Taken, AreWants}
use Rattle.fsl_pull.specs.Pulls.{next_names, is_end, behind, ended, uncommitted, stopped_end, pull_start}
use Rattle.fsl_pull.specs.Locals.{LocalRound, IsLocalTaken, local_then, AreLocalRounds, IsLocalPull, project_code, other_project_end}
use Rattle.laws_pulls.specs.Shown.{Gains}
use Rattle.laws_pulls.proofs.Gaining.{no_gain, gain_to, both_gain}
use Rattle.laws_pulls.proofs.Taking.{reply_gains}

abbrev Names : Type 0
Names = List (List ℕ)

-- ---- a round leaves what its reply left

by_end : (p : Point Names) (t : Taken) (next : Names) (b : Bool) (step : Then Names) → step ≡ cond b (ends (ended p t None)) (goes_on (behind p t next)) → now (state_of step) ≡ now t.state
by_end p t next true step e = ap (λ (x : Then Names). now (state_of x)) e
by_end p t next false step e = ap (λ (x : Then Names). now (state_of x)) e

by_fault : (p : Point Names) (reply : List WireCard) (t : Taken) (step : Then Names) (o : Option PullFault)
    → MatchOption o ((wanted : Names) × AreWants t.state wanted × (step ≡ local_then p reply t wanted)) (λ why. step ≡ ends (uncommitted p t why)) → now (state_of step) ≡ now t.state
by_fault p reply t step None h = let next = next_names (now t.state) h.0 (announced_in reply) in by_end p t next (is_end p.memory t next) step h.2
by_fault p reply t step (Some why) h = ap (λ (x : Then Names). now (state_of x)) h

module _ (peer : State) (honest : peer.honest ≡ true) (unclustered : Names) where
  round_gains : (p : Point Names) (r : Round Names (List WireCard)) (step : Then Names) → LocalRound peer unclustered p r step → Gains (now p.state) (now peer) (now (state_of step))
  round_gains p r step is =
      gain_to (now p.state) (now peer) (now (is.2.0).state) (now (state_of step)) (sym (by_fault p r.reply is.2.0 step (is.2.0).fault is.2.2))
      (reply_gains peer unclustered p.memory r.reply honest is.1 p.state is.2.0 is.2.1)

  rounds_gain : (p : Point Names) (rounds : List (Round Names (List WireCard))) (e : End) → EndsIn (LocalRound peer unclustered) p rounds e → Gains (now p.state) (now peer) (now e.state)
  rounds_gain p [] e h = absurd h
  rounds_gain p (r ∷ rounds) e (inl h) = round_gains p r (ends e) h.1
  rounds_gain p (r ∷ rounds) e (inr h) =
      both_gain (now peer) (now p.state) (now (h.0).state) (now e.state) (round_gains p r (goes_on h.0) h.1) (rounds_gain h.0 rounds e h.2)

-- ---- the whole

module _ (s peer : State) (honest : peer.honest ≡ true) (rounds : List (Round Names (List WireCard))) (e : End) where
  same_state : (x : End) → e ≡ x → now x.state ≡ now s → Gains (now s) (now peer) (now e.state)
  same_state x is same = gain_to (now s) (now peer) (now s) (now e.state) (sym (ap (λ (y : End). now y.state) is ∙ same)) (no_gain (now s) (now peer))

  by_stopped : (o : Option ℕ) → MatchOption o (AreLocalRounds s peer rounds e) (λ faults. (rounds ≡ []) × (e ≡ stopped_end s faults)) → Gains (now s) (now peer) (now e.state)
  by_stopped None h = rounds_gain peer honest h.0 (pull_start s h.2.0) rounds e h.2.2
  by_stopped (Some faults) h = same_state (stopped_end s faults) h.1 refl

  by_project : (b : Bool)
      → MatchBool b (MatchOption s.stopped (AreLocalRounds s peer rounds e) (λ faults. (rounds ≡ []) × (e ≡ stopped_end s faults))) ((rounds ≡ []) × (e ≡ other_project_end s (project_code (now peer))))
      → Gains (now s) (now peer) (now e.state)
  by_project true h = by_stopped s.stopped h
  by_project false h = same_state (other_project_end s (project_code (now peer))) h.1 refl

  pub pull_gains : IsLocalPull s peer rounds e → Gains (now s) (now peer) (now e.state)
  pull_gains h = by_project (bytes_eq (project_code (now s)) (project_code (now peer))) h
