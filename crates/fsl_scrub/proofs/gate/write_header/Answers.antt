use Rattle.std.proofs.Common.{◌∙◌, arith}
use Rattle.std.proofs.lemmas.Result.{on_ok_weaker}
use Rattle.fsl_disk.proofs.Moments.{keeps_on, rests}
use Rattle.fsl_journal.specs.Create.{new_file, IsShort}
use Rattle.fsl_scrub.proofs.Ends.{no_success, fault_cause, cause_on, on_success}
use Rattle.fsl_scrub.proofs.Opening.{header_moments, header_held}
use Rattle.fsl_scrub.proofs.gate.write_header.Goals as goal

pub write_at-requires : goal.write_at-requires
write_at-requires g c = λ held told. omega arith

pub returns-in_err-write_at : goal.returns-in_err-write_at
returns-in_err-write_at g c =
    let r = c.from_residual.result in
    let is = c.from_residual.ensures.1 in record {
      contents = no_success r _ is _;
      durable = no_success r _ is _;
      keeps = c.write_at.ensures.call.keeps;
      any_moment = λ model empty. header_moments (g.P.Disk.state c.args.spare.now) (g.P.Disk.state c.write_at.new.self) c.write_at.ensures.call model (λ f left. g.met.P.Disk.only_now c.args.spare.now f model left) empty;
      cause = fault_cause r _ is _ _ c.in_err-write_at.ensures.cause.later c.in_err-write_at.ensures.cause.failed;
    }

pub returns : goal.returns
returns g c =
    let s0 = g.P.Disk.state c.args.spare.now in
    let s1 = g.P.Disk.state c.write_at.new.self in
    let s2 = g.P.Disk.state c.sync.new.self in
    let r = c.sync.result in
    let first = c.write_at.ensures.call in record {
      contents = on_success r _ (λ held told. c.sync.ensures.contents ∙ header_held held s0 s1 (c.requires held told) told c.in_ok-write_at.ensures.written);
      durable = on_ok_weaker r (λ durable model held told f left. durable (first.keeps.model ∙ model) new_file (header_held held s0 s1 (c.requires held told) told c.in_ok-write_at.ensures.written) f left) c.sync.ensures.durable;
      keeps = keeps_on s0 s1 s2 first.keeps c.sync.ensures.call.keeps;
      any_moment = λ model empty. rests s0 s1 s2 IsShort (header_moments s0 s1 first model (λ f left. g.met.P.Disk.only_now c.args.spare.now f model left) empty) (first.keeps.model ∙ model) c.sync.ensures.call;
      cause = cause_on r _ _ _ c.in_ok-write_at.ensures.cause.same c.sync.ensures.cause;
    }
