use Rattle.std.proofs.Common.{◌∙◌, arith}
use Rattle.std.proofs.lemmas.Result.{on_ok_weaker}
use Rattle.fsl_disk.proofs.Moments.{keeps_on, rests}
use Rattle.fsl_journal.specs.Commit.{HeldOrMarked}
use Rattle.fsl_journal.proofs.Ends.{no_success, fault_cause, cause_on, on_success}
use Rattle.fsl_journal.proofs.Versions.{mark_moments, mark_held, mark_ends}
use Rattle.fsl_journal.proofs.commit.write_mark.Goals as goal

pub write_at-requires : goal.write_at-requires
write_at-requires g c = λ held told. omega (arith, c.requires.ends.last held told, c.requires.header)

pub returns-in_err-write_at : goal.returns-in_err-write_at
returns-in_err-write_at g c =
    let r = c.from_residual.result in
    let is = c.from_residual.ensures.1 in record {
      contents = no_success r _ is _;
      ends = no_success r _ is _;
      any_moment = λ model held told.
          mark_moments held c.args.place (g.D.Disk.state c.args.disk.now) c.requires.ends c.requires.header told (g.D.Disk.state c.write_at.new.self) model (λ f left. g.met.D.Disk.only_now c.args.disk.now f model left) c.write_at.ensures.call;
      keeps = c.write_at.ensures.call.keeps;
      cause = fault_cause r _ is _ _ c.in_err-write_at.ensures.cause.later c.in_err-write_at.ensures.cause.failed;
    }

pub returns : goal.returns
returns g c =
    let s0 = g.D.Disk.state c.args.disk.now in
    let s1 = g.D.Disk.state c.write_at.new.self in
    let s2 = g.D.Disk.state c.sync.new.self in
    let r = c.sync.result in
    let first = c.write_at.ensures.call in
    let keeps = keeps_on s0 s1 s2 first.keeps c.sync.ensures.call.keeps in
    let held = mark_held s0 s1 s2 c.in_ok-write_at.ensures.written c.sync.ensures.contents in record {
      contents = on_success r _ held;
      ends = on_ok_weaker r (λ durable. mark_ends c.args.place s0 s1 s2 c.requires.ends c.requires.header keeps held durable first.keeps.model c.sync.ensures.contents) c.sync.ensures.durable;
      any_moment = λ model held told.
          rests s0 s1 s2 (HeldOrMarked held) (mark_moments held c.args.place s0 c.requires.ends c.requires.header told s1 model (λ f left. g.met.D.Disk.only_now c.args.disk.now f model left) first) (first.keeps.model ∙ model) c.sync.ensures.call;
      keeps = keeps;
      cause = cause_on r _ _ _ c.in_ok-write_at.ensures.cause.same c.sync.ensures.cause;
    }
