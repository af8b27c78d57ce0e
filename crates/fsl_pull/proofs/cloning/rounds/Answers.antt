use Rattle.std.proofs.Common.{◌≡◌, ℕ, ◌+◌, Option, Some, None, Result, Ok, Err, refl, ap, subst, ◌∙◌, arith}
use Rattle.fsl_disk.proofs.Moments.{keeps_on}
use Rattle.fsl_pull.specs.declared.PullFault.{PullFault}
use Rattle.fsl_pull.specs.declared.Pulled.{Pulled}
use Rattle.fsl_pull.specs.Asking.{IsDialCounted}
use Rattle.fsl_pull.specs.CloneCalls.{UnlessDisk}
use Rattle.fsl_pull.proofs.CloneTaken.{clone_counts}
use Rattle.fsl_pull.proofs.DialCounts.{counts_on}
use Rattle.fsl_pull.proofs.CloneLoop.{first_turn, turn_is, first_goes, first_ends, first_fails, goes, ends_well, fails, gives_up}
use Rattle.fsl_pull.proofs.cloning.rounds.Goals as goal

abbrev Answer : Type 0
Answer = Result (Option ℕ) PullFault

pub returns-in-Ok-None-clause-clones : goal.returns-in-Ok-None-clause-clones
returns-in-Ok-None-clause-clones g c server fields l0 project r h =
    let is : c.take_reply.result ≡ Ok None = c.in-Ok-None.is ∙ ap (λ (o : Option ℕ). Ok o) c.in-Ok-None.field-0-is in
    first_ends g.D.Disk.state server fields c.args.login.now project r l0 c.args.repo.now.disk c.args.repo.now.seen.state.faults c.args.repo.now.seen.state.honest (g.N.Link.state c.args.dial.now) c.args.repo.now.seen c.args.first.now h refl refl (λ f model left. g.met.D.Disk.only_now c.args.repo.now.disk f model left) (λ model f left. c.is_whole.ensures.exact c.requires.runs model f left)
    c.take_reply.new.repo.disk c.take_reply.new.repo.seen c.stored.result (first_turn c.args.first.now (g.D.Disk.state c.args.repo.now.disk) (g.D.Disk.state c.take_reply.new.repo.disk) c.args.repo.now.seen c.take_reply.new.repo.seen (c.take_reply.new.repo.disk ≡ c.args.repo.now.disk) c.take_reply.result (Ok None) (is) c.take_reply.ensures.step) c.stored.ensures

pub returns-in-Err-clause-clones : goal.returns-in-Err-clause-clones
returns-in-Err-clause-clones g c server fields l0 project r h =
    first_fails g.D.Disk.state server fields c.args.login.now project r l0 c.args.repo.now.disk c.args.repo.now.seen.state.faults c.args.repo.now.seen.state.honest (g.N.Link.state c.args.dial.now) c.args.repo.now.seen c.args.first.now h refl refl (λ f model left. g.met.D.Disk.only_now c.args.repo.now.disk f model left) (λ model f left. c.is_whole.ensures.exact c.requires.runs model f left)
    c.take_reply.new.repo.disk c.take_reply.new.repo.seen c.in-Err.fault (first_turn c.args.first.now (g.D.Disk.state c.args.repo.now.disk) (g.D.Disk.state c.take_reply.new.repo.disk) c.args.repo.now.seen c.take_reply.new.repo.seen (c.take_reply.new.repo.disk ≡ c.args.repo.now.disk) c.take_reply.result (Err c.in-Err.fault) (c.in-Err.is) c.take_reply.ensures.step)

pub loop-round-init : goal.loop-round-init
loop-round-init g c =
    let is : c.take_reply.result ≡ Ok (Some c.in-Ok-Some.next) = c.in-Ok-Some.is ∙ ap (λ (o : Option ℕ). Ok o) c.in-Ok-Some.field-0-is in
    let steady = subst (λ (x : Answer). UnlessDisk (c.take_reply.new.repo.seen.state.faults ≡ c.args.repo.now.seen.state.faults) x) is c.take_reply.ensures.steady in
    record {
      counts = refl;
      at = λ server fields l0 project r h.
          first_goes g.D.Disk.state server fields c.args.login.now project r l0 c.args.repo.now.disk c.args.repo.now.seen.state.faults c.args.repo.now.seen.state.honest (g.N.Link.state c.args.dial.now) c.args.repo.now.seen c.args.first.now h refl refl (λ f model left. g.met.D.Disk.only_now c.args.repo.now.disk f model left) (λ model f left. c.is_whole.ensures.exact c.requires.runs model f left)
          c.take_reply.new.repo.disk c.take_reply.new.repo.seen c.in-Ok-Some.next (first_turn c.args.first.now (g.D.Disk.state c.args.repo.now.disk) (g.D.Disk.state c.take_reply.new.repo.disk) c.args.repo.now.seen c.take_reply.new.repo.seen (c.take_reply.new.repo.disk ≡ c.args.repo.now.disk) c.take_reply.result (Ok (Some c.in-Ok-Some.next)) (is) c.take_reply.ensures.step) c.take_reply.ensures.keeps steady;
      runs = subst (λ (x : Answer). UnlessDisk (c.take_reply.new.repo.seen.state.stopped ≡ None) x) is c.take_reply.ensures.runs;
      steady = steady;
      keeps = c.take_reply.ensures.keeps;
    }

pub returns-in-Ok-None-clone_round-clause-clones : goal.returns-in-Ok-None-clone_round-clause-clones
returns-in-Ok-None-clone_round-clause-clones g c server fields l0 project r h =
    let is : c.clone_round.result ≡ Ok None = c.in-Ok-None-clone_round.is ∙ ap (λ (o : Option ℕ). Ok o) c.in-Ok-None-clone_round.field-0-is in
    ends_well g.D.Disk.state server fields c.args.login.now project r l0 c.args.repo.now.disk c.args.repo.now.seen.state.faults c.args.repo.now.seen.state.honest (g.N.Link.state c.loop-round.dial) c.loop-round.repo.disk c.loop-round.repo.seen c.loop-round.from c.loop-round.round (c.loop-round.invariant.at server fields l0 project r h)
    (g.N.Link.state c.clone_round.new.dial) c.clone_round.new.repo.disk c.clone_round.new.repo.seen (c.loop-round.round + 1) c.stored-in-Ok-None-clone_round.result (turn_is c.args.login.now c.loop-round.from (g.N.Link.state c.loop-round.dial) (g.N.Link.state c.clone_round.new.dial) (g.D.Disk.state c.loop-round.repo.disk) (g.D.Disk.state c.clone_round.new.repo.disk) c.loop-round.repo.seen c.clone_round.new.repo.seen (c.clone_round.new.repo.disk ≡ c.loop-round.repo.disk) c.clone_round.result (Ok None) (is) c.clone_round.ensures.round) (omega (arith, c.loop-round-test.true)) refl c.stored-in-Ok-None-clone_round.ensures

pub returns-in-Err-clone_round-clause-clones : goal.returns-in-Err-clone_round-clause-clones
returns-in-Err-clone_round-clause-clones g c server fields l0 project r h =
    fails g.D.Disk.state server fields c.args.login.now project r l0 c.args.repo.now.disk c.args.repo.now.seen.state.faults c.args.repo.now.seen.state.honest (g.N.Link.state c.loop-round.dial) c.loop-round.repo.disk c.loop-round.repo.seen c.loop-round.from c.loop-round.round (c.loop-round.invariant.at server fields l0 project r h)
    (g.N.Link.state c.clone_round.new.dial) c.clone_round.new.repo.disk c.clone_round.new.repo.seen c.in-Err-clone_round.fault (turn_is c.args.login.now c.loop-round.from (g.N.Link.state c.loop-round.dial) (g.N.Link.state c.clone_round.new.dial) (g.D.Disk.state c.loop-round.repo.disk) (g.D.Disk.state c.clone_round.new.repo.disk) c.loop-round.repo.seen c.clone_round.new.repo.seen (c.clone_round.new.repo.disk ≡ c.loop-round.repo.disk) c.clone_round.result (Err c.in-Err-clone_round.fault) (c.in-Err-clone_round.is) c.clone_round.ensures.round) (omega (arith, c.loop-round-test.true)) c.clone_round.ensures.dialled

pub loop-round-preserved : goal.loop-round-preserved
loop-round-preserved g c =
    let is : c.clone_round.result ≡ Ok (Some c.in-Ok-Some-clone_round.next) = c.in-Ok-Some-clone_round.is ∙ ap (λ (o : Option ℕ). Ok o) c.in-Ok-Some-clone_round.field-0-is in
    let steady = subst (λ (x : Answer). UnlessDisk (c.clone_round.new.repo.seen.state.faults ≡ c.loop-round.repo.seen.state.faults) x) is c.clone_round.ensures.steady in
    record {
      counts = subst (λ (x : Answer). IsDialCounted (g.N.Link.state c.loop-round.dial) (g.N.Link.state c.clone_round.new.dial) x) is c.clone_round.ensures.counts ∙ c.loop-round.invariant.counts;
      at = λ server fields l0 project r h.
          goes g.D.Disk.state server fields c.args.login.now project r l0 c.args.repo.now.disk c.args.repo.now.seen.state.faults c.args.repo.now.seen.state.honest (g.N.Link.state c.loop-round.dial) c.loop-round.repo.disk c.loop-round.repo.seen c.loop-round.from c.loop-round.round (c.loop-round.invariant.at server fields l0 project r h)
          (g.N.Link.state c.clone_round.new.dial) c.clone_round.new.repo.disk c.clone_round.new.repo.seen c.in-Ok-Some-clone_round.next (turn_is c.args.login.now c.loop-round.from (g.N.Link.state c.loop-round.dial) (g.N.Link.state c.clone_round.new.dial) (g.D.Disk.state c.loop-round.repo.disk) (g.D.Disk.state c.clone_round.new.repo.disk) c.loop-round.repo.seen c.clone_round.new.repo.seen (c.clone_round.new.repo.disk ≡ c.loop-round.repo.disk) c.clone_round.result (Ok (Some c.in-Ok-Some-clone_round.next)) (is) c.clone_round.ensures.round) c.clone_round.ensures.keeps steady c.clone_round.ensures.dialled;
      runs = subst (λ (x : Answer). UnlessDisk (c.clone_round.new.repo.seen.state.stopped ≡ None) x) is c.clone_round.ensures.runs;
      steady = steady ∙ c.loop-round.invariant.steady;
      keeps = keeps_on (g.D.Disk.state c.args.repo.now.disk) (g.D.Disk.state c.loop-round.repo.disk) (g.D.Disk.state c.clone_round.new.repo.disk) c.loop-round.invariant.keeps c.clone_round.ensures.keeps;
    }

pub returns-clause-clones : goal.returns-clause-clones
returns-clause-clones g c server fields l0 project r h =
    gives_up g.D.Disk.state server fields c.args.login.now project r l0 c.args.repo.now.disk c.args.repo.now.seen.state.faults c.args.repo.now.seen.state.honest (g.N.Link.state c.loop-round.dial) c.loop-round.repo.disk c.loop-round.repo.seen c.loop-round.from c.loop-round.round (c.loop-round.invariant.at server fields l0 project r h) (omega (arith, c.loop-round-test.false, c.loop-round.auto.round-end))

pub returns-in-Err-clause-counts : goal.returns-in-Err-clause-counts
returns-in-Err-clause-counts g c =
    let dial = g.N.Link.state c.args.dial.now in
    let same : dial.faults ≡ dial.faults = refl in
    counts_on (Option ℕ) Pulled dial dial dial c.in-Err.fault same
    (clone_counts 1 c.args.first.now (g.D.Disk.state c.args.repo.now.disk) (g.D.Disk.state c.take_reply.new.repo.disk) c.args.repo.now.seen c.take_reply.new.repo.seen (c.take_reply.new.repo.disk ≡ c.args.repo.now.disk) (Err c.in-Err.fault) dial dial
    (first_turn c.args.first.now (g.D.Disk.state c.args.repo.now.disk) (g.D.Disk.state c.take_reply.new.repo.disk) c.args.repo.now.seen c.take_reply.new.repo.seen (c.take_reply.new.repo.disk ≡ c.args.repo.now.disk) c.take_reply.result (Err c.in-Err.fault) c.in-Err.is c.take_reply.ensures.step) same)

pub returns-in-Ok-None-clone_round-clause-counts : goal.returns-in-Ok-None-clone_round-clause-counts
returns-in-Ok-None-clone_round-clause-counts g c =
    let is : c.clone_round.result ≡ Ok None = c.in-Ok-None-clone_round.is ∙ ap (λ (o : Option ℕ). Ok o) c.in-Ok-None-clone_round.field-0-is in
    subst (λ (x : Answer). IsDialCounted (g.N.Link.state c.loop-round.dial) (g.N.Link.state c.clone_round.new.dial) x) is c.clone_round.ensures.counts ∙ c.loop-round.invariant.counts

pub returns-in-Err-clone_round-clause-counts : goal.returns-in-Err-clone_round-clause-counts
returns-in-Err-clone_round-clause-counts g c =
    counts_on (Option ℕ) Pulled (g.N.Link.state c.args.dial.now) (g.N.Link.state c.loop-round.dial) (g.N.Link.state c.clone_round.new.dial) c.in-Err-clone_round.fault c.loop-round.invariant.counts
    (subst (λ (x : Answer). IsDialCounted (g.N.Link.state c.loop-round.dial) (g.N.Link.state c.clone_round.new.dial) x) c.in-Err-clone_round.is c.clone_round.ensures.counts)
