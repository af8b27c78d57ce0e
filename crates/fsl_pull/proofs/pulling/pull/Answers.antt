use Rattle.std.proofs.Common.{◌≡◌, ℕ, ◌+◌, ◌-◌, List, Option, Some, None, Result, Ok, Err, refl, sym, ap, subst, ◌∙◌, arith, rules}
use Rattle.std.specs.Prelude.{IfOk, OnOk}
use Rattle.fsl_repo.specs.Whole.{stored}
use Rattle.fsl_pull.specs.declared.Pulled.{Pulled}
use Rattle.fsl_pull.specs.declared.PullFault.{PullFault}
use Rattle.fsl_pull.specs.Pulls.{PullRound, PullAsks, BrokenPull}
use Rattle.fsl_pull.specs.Calls.{a_pull}
use Rattle.fsl_pull.specs.Asking.{IsDialCounted}
use Rattle.fsl_pull.proofs.DialCounts.{counts_on}
use Rattle.fsl_pull.specs.Steps.{NamesRise}
use Rattle.fsl_pull.specs.PullTurns.{SameNames}
use Rattle.fsl_pull.proofs.KeptLemmas.{same_quiet}
use Rattle.fsl_pull.proofs.PullRuns.{from_here, pull_runs, turn_is, stopped}
use Rattle.fsl_pull.proofs.SyncLoop.{begins, wants_memory, goes, ends_later, ends_well, fails, gives_up}
use Rattle.fsl_pull.proofs.pulling.pull.Goals as goal

abbrev Answer : Type 0
Answer = Result (Option (List (List ℕ))) PullFault

pub returns-in-Some-clause-pulls : goal.returns-in-Some-clause-pulls
returns-in-Some-clause-pulls g c =
    stopped g.D.Disk.state c.args.login.now (g.N.Link.state c.args.dial.now) c.args.repo.now.disk c.args.repo.now.seen (λ f model left. g.met.D.Disk.only_now c.args.repo.now.disk f model left) c.in-Some.faults (sym c.stopped.ensures ∙ c.in-Some.is)

pub returns-in-Err-clause-pulls : goal.returns-in-Err-clause-pulls
returns-in-Err-clause-pulls g c =
    let none : c.args.repo.now.seen.state.stopped ≡ None = sym c.stopped.ensures ∙ c.in-None.is in
    wants_memory g.D.Disk.state (g.N.Link.state c.args.dial.now) c.args.repo.now.disk c.args.repo.now.seen (λ f model left. g.met.D.Disk.only_now c.args.repo.now.disk f model left) (PullRound c.args.login.now) (PullAsks c.args.login.now) (BrokenPull c.args.login.now) (a_pull c.args.login.now c.args.repo.now.seen.state) (from_here c.args.repo.now.seen)
    (pull_runs c.args.login.now c.args.repo.now.seen none (c.is_whole.ensures.seen).items) refl

pub loop-round-init : goal.loop-round-init
loop-round-init g c =
    let none : c.args.repo.now.seen.state.stopped ≡ None = sym c.stopped.ensures ∙ c.in-None.is in
    record {
      at = begins g.D.Disk.state (g.N.Link.state c.args.dial.now) c.args.repo.now.disk c.args.repo.now.seen (λ f model left. g.met.D.Disk.only_now c.args.repo.now.disk f model left) (PullRound c.args.login.now) (from_here c.args.repo.now.seen) _ (stored c.args.repo.now.seen) refl refl refl (sym c.in-Ok.ensures.names);
      counts = refl;
      none = none;
      runs = none;
      rising = c.in-Ok.ensures.rising;
    }

pub overflow_sub-result : goal.overflow_sub-result
overflow_sub-result g c =
    let is : c.pull_round.result ≡ Ok None = c.in-Ok-None.is ∙ ap (λ (o : Option (List (List ℕ))). Ok o) c.in-Ok-None.field-0-is in
    let later = ends_later g.D.Disk.state (PullRound c.args.login.now) (PullAsks c.args.login.now) (BrokenPull c.args.login.now) (g.N.Link.state c.args.dial.now) c.args.repo.now.disk c.args.repo.now.seen (a_pull c.args.login.now c.args.repo.now.seen.state) (from_here c.args.repo.now.seen) (pull_runs c.args.login.now c.args.repo.now.seen c.loop-round.invariant.none (c.is_whole.ensures.seen).items)
    (λ (m : List (List ℕ)). m ≡ c.loop-round.names) (g.N.Link.state c.loop-round.dial) c.loop-round.repo.disk c.loop-round.repo.seen (stored c.args.repo.now.seen) (stored c.loop-round.repo.seen) c.loop-round.round c.loop-round.invariant.at
    SameNames (g.N.Link.state c.pull_round.new.dial) c.pull_round.new.repo.disk c.pull_round.new.repo.seen (stored c.pull_round.new.repo.seen) (turn_is c.args.login.now c.items.result.now c.loop-round.names (g.N.Link.state c.loop-round.dial) (g.N.Link.state c.pull_round.new.dial) (g.D.Disk.state c.loop-round.repo.disk) (g.D.Disk.state c.pull_round.new.repo.disk) c.loop-round.repo.seen c.pull_round.new.repo.seen (c.pull_round.new.repo.disk ≡ c.loop-round.repo.disk) (same_quiet g.D.Disk.state c.loop-round.repo.disk c.pull_round.new.repo.disk) c.pull_round.result (Ok None) c.items.ensures is c.pull_round.ensures.round) in
    omega (arith, later, c.stored-before.ensures, c.stored.ensures)

pub returns-in-Ok-None-clause-pulls : goal.returns-in-Ok-None-clause-pulls
returns-in-Ok-None-clause-pulls g c =
    let is : c.pull_round.result ≡ Ok None = c.in-Ok-None.is ∙ ap (λ (o : Option (List (List ℕ))). Ok o) c.in-Ok-None.field-0-is in
    ends_well g.D.Disk.state (PullRound c.args.login.now) (PullAsks c.args.login.now) (BrokenPull c.args.login.now) (g.N.Link.state c.args.dial.now) c.args.repo.now.disk c.args.repo.now.seen (a_pull c.args.login.now c.args.repo.now.seen.state) (from_here c.args.repo.now.seen) (pull_runs c.args.login.now c.args.repo.now.seen c.loop-round.invariant.none (c.is_whole.ensures.seen).items)
    (λ (m : List (List ℕ)). m ≡ c.loop-round.names) (g.N.Link.state c.loop-round.dial) c.loop-round.repo.disk c.loop-round.repo.seen (stored c.args.repo.now.seen) (stored c.loop-round.repo.seen) c.loop-round.round c.loop-round.invariant.at
    SameNames (g.N.Link.state c.pull_round.new.dial) c.pull_round.new.repo.disk c.pull_round.new.repo.seen (stored c.pull_round.new.repo.seen) (c.loop-round.round + 1) (c.stored.result - c.stored-before.result) (turn_is c.args.login.now c.items.result.now c.loop-round.names (g.N.Link.state c.loop-round.dial) (g.N.Link.state c.pull_round.new.dial) (g.D.Disk.state c.loop-round.repo.disk) (g.D.Disk.state c.pull_round.new.repo.disk) c.loop-round.repo.seen c.pull_round.new.repo.seen (c.pull_round.new.repo.disk ≡ c.loop-round.repo.disk) (same_quiet g.D.Disk.state c.loop-round.repo.disk c.pull_round.new.repo.disk) c.pull_round.result (Ok None) c.items.ensures is c.pull_round.ensures.round) (omega (arith, c.loop-round-test.true)) refl
    (λ i. c.stored.ensures i - c.stored-before.ensures i)

pub returns-in-Err-pull_round-clause-pulls : goal.returns-in-Err-pull_round-clause-pulls
returns-in-Err-pull_round-clause-pulls g c =
    let is = c.in-Err-pull_round.is in
    fails g.D.Disk.state (PullRound c.args.login.now) (PullAsks c.args.login.now) (BrokenPull c.args.login.now) (g.N.Link.state c.args.dial.now) c.args.repo.now.disk c.args.repo.now.seen (a_pull c.args.login.now c.args.repo.now.seen.state) (from_here c.args.repo.now.seen) (pull_runs c.args.login.now c.args.repo.now.seen c.loop-round.invariant.none (c.is_whole.ensures.seen).items)
    (λ (m : List (List ℕ)). m ≡ c.loop-round.names) (g.N.Link.state c.loop-round.dial) c.loop-round.repo.disk c.loop-round.repo.seen (stored c.args.repo.now.seen) (stored c.loop-round.repo.seen) c.loop-round.round c.loop-round.invariant.at
    SameNames (g.N.Link.state c.pull_round.new.dial) c.pull_round.new.repo.disk c.pull_round.new.repo.seen (stored c.pull_round.new.repo.seen) c.in-Err-pull_round.fault (turn_is c.args.login.now c.items.result.now c.loop-round.names (g.N.Link.state c.loop-round.dial) (g.N.Link.state c.pull_round.new.dial) (g.D.Disk.state c.loop-round.repo.disk) (g.D.Disk.state c.pull_round.new.repo.disk) c.loop-round.repo.seen c.pull_round.new.repo.seen (c.pull_round.new.repo.disk ≡ c.loop-round.repo.disk) (same_quiet g.D.Disk.state c.loop-round.repo.disk c.pull_round.new.repo.disk) c.pull_round.result (Err c.in-Err-pull_round.fault) c.items.ensures is c.pull_round.ensures.round) (omega (arith, c.loop-round-test.true)) c.pull_round.ensures.dialled

pub loop-round-preserved : goal.loop-round-preserved
loop-round-preserved g c =
    let is : c.pull_round.result ≡ Ok (Some c.in-Ok-Some.next) = c.in-Ok-Some.is ∙ ap (λ (o : Option (List (List ℕ))). Ok o) c.in-Ok-Some.field-0-is in
    record {
      at = goes g.D.Disk.state (PullRound c.args.login.now) (PullAsks c.args.login.now) (BrokenPull c.args.login.now) (g.N.Link.state c.args.dial.now) c.args.repo.now.disk c.args.repo.now.seen (a_pull c.args.login.now c.args.repo.now.seen.state) (from_here c.args.repo.now.seen) (pull_runs c.args.login.now c.args.repo.now.seen c.loop-round.invariant.none (c.is_whole.ensures.seen).items)
          (λ (m : List (List ℕ)). m ≡ c.loop-round.names) (g.N.Link.state c.loop-round.dial) c.loop-round.repo.disk c.loop-round.repo.seen (stored c.args.repo.now.seen) (stored c.loop-round.repo.seen) c.loop-round.round c.loop-round.invariant.at
          SameNames (g.N.Link.state c.pull_round.new.dial) c.pull_round.new.repo.disk c.pull_round.new.repo.seen (stored c.pull_round.new.repo.seen) c.in-Ok-Some.next (turn_is c.args.login.now c.items.result.now c.loop-round.names (g.N.Link.state c.loop-round.dial) (g.N.Link.state c.pull_round.new.dial) (g.D.Disk.state c.loop-round.repo.disk) (g.D.Disk.state c.pull_round.new.repo.disk) c.loop-round.repo.seen c.pull_round.new.repo.seen (c.pull_round.new.repo.disk ≡ c.loop-round.repo.disk) (same_quiet g.D.Disk.state c.loop-round.repo.disk c.pull_round.new.repo.disk) c.pull_round.result (Ok (Some c.in-Ok-Some.next)) c.items.ensures is c.pull_round.ensures.round) c.pull_round.ensures.keeps c.pull_round.ensures.loaded c.pull_round.ensures.later c.pull_round.ensures.dialled;
      counts = subst (λ (r : Answer). IsDialCounted (g.N.Link.state c.loop-round.dial) (g.N.Link.state c.pull_round.new.dial) r) is c.pull_round.ensures.counts ∙ c.loop-round.invariant.counts;
      none = c.loop-round.invariant.none;
      runs = subst (λ (r : Answer). OnOk r (c.pull_round.new.repo.seen.state.stopped ≡ None)) is c.pull_round.ensures.runs;
      rising = subst (λ (r : Answer). IfOk r NamesRise) is c.pull_round.ensures.rising;
    }

pub returns-clause-pulls : goal.returns-clause-pulls
returns-clause-pulls g c =
    gives_up g.D.Disk.state (PullRound c.args.login.now) (PullAsks c.args.login.now) (BrokenPull c.args.login.now) (g.N.Link.state c.args.dial.now) c.args.repo.now.disk c.args.repo.now.seen (a_pull c.args.login.now c.args.repo.now.seen.state) (from_here c.args.repo.now.seen) (pull_runs c.args.login.now c.args.repo.now.seen c.loop-round.invariant.none (c.is_whole.ensures.seen).items)
    (λ (m : List (List ℕ)). m ≡ c.loop-round.names) (g.N.Link.state c.loop-round.dial) c.loop-round.repo.disk c.loop-round.repo.seen (stored c.args.repo.now.seen) (stored c.loop-round.repo.seen) c.loop-round.round c.loop-round.invariant.at
    (omega (arith, c.loop-round-test.false, c.loop-round.auto.round-end))

pub returns-in-Ok-None-clause-counts : goal.returns-in-Ok-None-clause-counts
returns-in-Ok-None-clause-counts g c =
    let is : c.pull_round.result ≡ Ok None = c.in-Ok-None.is ∙ ap (λ (o : Option (List (List ℕ))). Ok o) c.in-Ok-None.field-0-is in
    subst (λ (r : Answer). IsDialCounted (g.N.Link.state c.loop-round.dial) (g.N.Link.state c.pull_round.new.dial) r) is c.pull_round.ensures.counts ∙ c.loop-round.invariant.counts

pub returns-in-Err-pull_round-clause-counts : goal.returns-in-Err-pull_round-clause-counts
returns-in-Err-pull_round-clause-counts g c =
    let is = c.in-Err-pull_round.is in
    counts_on (Option (List (List ℕ))) Pulled (g.N.Link.state c.args.dial.now) (g.N.Link.state c.loop-round.dial) (g.N.Link.state c.pull_round.new.dial) c.in-Err-pull_round.fault c.loop-round.invariant.counts
    (subst (λ (r : Answer). IsDialCounted (g.N.Link.state c.loop-round.dial) (g.N.Link.state c.pull_round.new.dial) r) is c.pull_round.ensures.counts)
