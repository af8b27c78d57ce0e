use Rattle.std.proofs.Common.{◌≡◌, ℕ, ◌+◌, List, length, Option, Some, None, Result, Ok, Err, refl, sym, ap, subst, ◌∙◌, arith}
use Rattle.std.specs.Prelude.{OnOk}
use Rattle.fsl_pull.specs.declared.Pulled.{Pulled}
use Rattle.fsl_pull.specs.declared.PullFault.{PullFault}
use Rattle.fsl_pull.specs.Pushes.{Sending, PushRound, PushAsks, BrokenPush, push_start}
use Rattle.fsl_pull.specs.Calls.{a_push}
use Rattle.fsl_pull.specs.Asking.{IsDialCounted}
use Rattle.fsl_pull.proofs.DialCounts.{counts_on}
use Rattle.fsl_pull.specs.PushTurns.{Remembers}
use Rattle.fsl_pull.proofs.PushRuns.{push_runs, turn_is, made_ok, push_fails, stopped}
use Rattle.fsl_pull.proofs.SyncLoop.{IsAt, begins, goes, ends_well, gives_up}
use Rattle.fsl_pull.proofs.pushing.push.Goals as goal

abbrev Answer : Type 0
Answer = Result (Option (List (List ℕ))) PullFault

pub returns-in-Some-clause-pushes : goal.returns-in-Some-clause-pushes
returns-in-Some-clause-pushes g c =
    stopped g.D.Disk.state c.args.login.now (g.N.Link.state c.args.dial.now) c.args.repo.now.disk c.args.repo.now.seen (λ f model left. g.met.D.Disk.only_now c.args.repo.now.disk f model left) c.in-Some.faults (sym c.stopped.ensures ∙ c.in-Some.is)

pub loop-round-init : goal.loop-round-init
loop-round-init g c =
    let none : c.args.repo.now.seen.state.stopped ≡ None = sym c.stopped.ensures ∙ c.in-None.is in
    record {
      at =
          subst (λ (n : ℕ). IsAt g.D.Disk.state (PushRound c.args.login.now) (push_start c.args.repo.now.seen.state) (λ (m : Sending). Remembers c.new-sent.result m c.new-gimmes.result) (g.N.Link.state c.args.dial.now) (g.N.Link.state c.args.dial.now) c.args.repo.now.disk c.args.repo.now.disk c.args.repo.now.seen c.args.repo.now.seen 0 n 0)
          (sym (ap (λ (ns : List (List ℕ)). length ns) c.new-sent.ensures))
          (begins g.D.Disk.state (g.N.Link.state c.args.dial.now) c.args.repo.now.disk c.args.repo.now.seen (λ f model left. g.met.D.Disk.only_now c.args.repo.now.disk f model left) (PushRound c.args.login.now) (push_start c.args.repo.now.seen.state)
          (λ (m : Sending). Remembers c.new-sent.result m c.new-gimmes.result) 0 refl refl refl (λ i. record { sent = sym c.new-sent.ensures i; gimmes = sym c.new-gimmes.ensures i }));
      counts = refl;
      none = none;
      runs = none;
    }

pub returns-in-Ok-None-clause-pushes : goal.returns-in-Ok-None-clause-pushes
returns-in-Ok-None-clause-pushes g c =
    let is : c.push_round.result ≡ Ok None = c.in-Ok-None.is ∙ ap (λ (o : Option (List (List ℕ))). Ok o) c.in-Ok-None.field-0-is in
    ends_well g.D.Disk.state (PushRound c.args.login.now) (PushAsks c.args.login.now) (BrokenPush c.args.login.now) (g.N.Link.state c.args.dial.now) c.args.repo.now.disk c.args.repo.now.seen (a_push c.args.login.now c.args.repo.now.seen.state) (push_start c.args.repo.now.seen.state) (push_runs c.args.login.now c.args.repo.now.seen.state c.loop-round.invariant.none)
    (λ (m : Sending). Remembers c.loop-round.sent m c.loop-round.gimmes) (g.N.Link.state c.loop-round.dial) c.loop-round.repo.disk c.loop-round.repo.seen 0 (length c.loop-round.sent.order) c.loop-round.round c.loop-round.invariant.at
    (Remembers c.push_round.new.sent) (g.N.Link.state c.push_round.new.dial) c.push_round.new.repo.disk c.push_round.new.repo.seen (length c.push_round.new.sent.order) (c.loop-round.round + 1) c.count.result (made_ok c.args.login.now c.loop-round.gimmes (g.N.Link.state c.loop-round.dial) (g.N.Link.state c.push_round.new.dial) (g.D.Disk.state c.loop-round.repo.disk) (g.D.Disk.state c.push_round.new.repo.disk) c.loop-round.repo.seen c.push_round.new.repo.seen c.loop-round.sent c.push_round.new.sent None (turn_is c.args.login.now c.items.result.now c.loop-round.gimmes (g.N.Link.state c.loop-round.dial) (g.N.Link.state c.push_round.new.dial) (g.D.Disk.state c.loop-round.repo.disk) (g.D.Disk.state c.push_round.new.repo.disk) c.loop-round.repo.seen c.push_round.new.repo.seen c.loop-round.sent c.push_round.new.sent c.push_round.result (Ok None) c.items.ensures is c.push_round.ensures.round)) (omega (arith, c.loop-round-test.true)) refl
    (omega (arith, c.count.ensures))

pub returns-in-Err-clause-pushes : goal.returns-in-Err-clause-pushes
returns-in-Err-clause-pushes g c =
    push_fails g.D.Disk.state c.args.login.now (g.N.Link.state c.args.dial.now) c.args.repo.now.disk c.args.repo.now.seen c.loop-round.invariant.none c.loop-round.gimmes c.loop-round.sent (g.N.Link.state c.loop-round.dial) c.loop-round.repo.disk c.loop-round.repo.seen c.loop-round.round c.loop-round.invariant.at (omega (arith, c.loop-round-test.true))
    (g.N.Link.state c.push_round.new.dial) c.push_round.new.repo.disk c.push_round.new.repo.seen c.push_round.new.sent c.in-Err.fault
    (turn_is c.args.login.now c.items.result.now c.loop-round.gimmes (g.N.Link.state c.loop-round.dial) (g.N.Link.state c.push_round.new.dial) (g.D.Disk.state c.loop-round.repo.disk) (g.D.Disk.state c.push_round.new.repo.disk) c.loop-round.repo.seen c.push_round.new.repo.seen c.loop-round.sent c.push_round.new.sent c.push_round.result (Err c.in-Err.fault) c.items.ensures c.in-Err.is c.push_round.ensures.round) c.push_round.ensures.dialled

pub loop-round-preserved : goal.loop-round-preserved
loop-round-preserved g c =
    let is : c.push_round.result ≡ Ok (Some c.in-Ok-Some.next) = c.in-Ok-Some.is ∙ ap (λ (o : Option (List (List ℕ))). Ok o) c.in-Ok-Some.field-0-is in
    record {
      at = goes g.D.Disk.state (PushRound c.args.login.now) (PushAsks c.args.login.now) (BrokenPush c.args.login.now) (g.N.Link.state c.args.dial.now) c.args.repo.now.disk c.args.repo.now.seen (a_push c.args.login.now c.args.repo.now.seen.state) (push_start c.args.repo.now.seen.state) (push_runs c.args.login.now c.args.repo.now.seen.state c.loop-round.invariant.none)
          (λ (m : Sending). Remembers c.loop-round.sent m c.loop-round.gimmes) (g.N.Link.state c.loop-round.dial) c.loop-round.repo.disk c.loop-round.repo.seen 0 (length c.loop-round.sent.order) c.loop-round.round c.loop-round.invariant.at
          (Remembers c.push_round.new.sent) (g.N.Link.state c.push_round.new.dial) c.push_round.new.repo.disk c.push_round.new.repo.seen (length c.push_round.new.sent.order) c.in-Ok-Some.next (made_ok c.args.login.now c.loop-round.gimmes (g.N.Link.state c.loop-round.dial) (g.N.Link.state c.push_round.new.dial) (g.D.Disk.state c.loop-round.repo.disk) (g.D.Disk.state c.push_round.new.repo.disk) c.loop-round.repo.seen c.push_round.new.repo.seen c.loop-round.sent c.push_round.new.sent (Some c.in-Ok-Some.next) (turn_is c.args.login.now c.items.result.now c.loop-round.gimmes (g.N.Link.state c.loop-round.dial) (g.N.Link.state c.push_round.new.dial) (g.D.Disk.state c.loop-round.repo.disk) (g.D.Disk.state c.push_round.new.repo.disk) c.loop-round.repo.seen c.push_round.new.repo.seen c.loop-round.sent c.push_round.new.sent c.push_round.result (Ok (Some c.in-Ok-Some.next)) c.items.ensures is c.push_round.ensures.round)) c.push_round.ensures.keeps c.push_round.ensures.loaded c.push_round.ensures.later c.push_round.ensures.dialled;
      counts = subst (λ (r : Answer). IsDialCounted (g.N.Link.state c.loop-round.dial) (g.N.Link.state c.push_round.new.dial) r) is c.push_round.ensures.counts ∙ c.loop-round.invariant.counts;
      none = c.loop-round.invariant.none;
      runs = subst (λ (r : Answer). OnOk r (c.push_round.new.repo.seen.state.stopped ≡ None)) is c.push_round.ensures.runs;
    }

pub returns-clause-pushes : goal.returns-clause-pushes
returns-clause-pushes g c =
    gives_up g.D.Disk.state (PushRound c.args.login.now) (PushAsks c.args.login.now) (BrokenPush c.args.login.now) (g.N.Link.state c.args.dial.now) c.args.repo.now.disk c.args.repo.now.seen (a_push c.args.login.now c.args.repo.now.seen.state) (push_start c.args.repo.now.seen.state) (push_runs c.args.login.now c.args.repo.now.seen.state c.loop-round.invariant.none)
    (λ (m : Sending). Remembers c.loop-round.sent m c.loop-round.gimmes) (g.N.Link.state c.loop-round.dial) c.loop-round.repo.disk c.loop-round.repo.seen 0 (length c.loop-round.sent.order) c.loop-round.round c.loop-round.invariant.at
    (omega (arith, c.loop-round-test.false, c.loop-round.auto.round-end))

pub returns-in-Ok-None-clause-counts : goal.returns-in-Ok-None-clause-counts
returns-in-Ok-None-clause-counts g c =
    let is : c.push_round.result ≡ Ok None = c.in-Ok-None.is ∙ ap (λ (o : Option (List (List ℕ))). Ok o) c.in-Ok-None.field-0-is in
    subst (λ (r : Answer). IsDialCounted (g.N.Link.state c.loop-round.dial) (g.N.Link.state c.push_round.new.dial) r) is c.push_round.ensures.counts ∙ c.loop-round.invariant.counts

pub returns-in-Err-clause-counts : goal.returns-in-Err-clause-counts
returns-in-Err-clause-counts g c =
    let is = c.in-Err.is in
    counts_on (Option (List (List ℕ))) Pulled (g.N.Link.state c.args.dial.now) (g.N.Link.state c.loop-round.dial) (g.N.Link.state c.push_round.new.dial) c.in-Err.fault c.loop-round.invariant.counts
    (subst (λ (r : Answer). IsDialCounted (g.N.Link.state c.loop-round.dial) (g.N.Link.state c.push_round.new.dial) r) is c.push_round.ensures.counts)
