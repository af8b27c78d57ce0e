use Rattle.std.proofs.Common.{sym, ◌∙◌, arith}
use Rattle.std.proofs.lemmas.Result.{on_ok_weaker}
use Rattle.fsl_disk.proofs.Moments.{quiet_call, quiet_on}
use Rattle.fsl_journal.proofs.Ends.{no_answer, no_success, same_fault}
use Rattle.fsl_journal.proofs.Rereading.{answer_weaker, fault_weaker, failed_on}
use Rattle.fsl_journal.proofs.contents.read_if_there.Goals as goal

pub returns-in_err-len : goal.returns-in_err-len
returns-in_err-len g c =
    let r = c.from_residual.result in
    let is = c.from_residual.ensures.1 in record {
      sized = no_answer r _ is _;
      held = no_answer r _ is _;
      count = no_success r _ is _;
      later = c.in_err-len.ensures.cause.later;
      fault = same_fault r _ is _ c.in_err-len.ensures.cause.failed;
      quiet = quiet_call _ _ c.len.ensures.call c.len.ensures.contents;
    }

pub returns-then-at-size : goal.returns-then-at-size
returns-then-at-size g c = record {
  sized = tt;
  held = tt;
  count = tt;
  later = c.in_ok-len.ensures.cause.later;
  fault = c.in_ok-len.ensures.cause.same;
  quiet = quiet_call _ _ c.len.ensures.call c.len.ensures.contents;
}

pub read_text-requires : goal.read_text-requires
read_text-requires g c = record { inside = λ held told. omega (arith, c.in_ok-len.ensures.answer.1 held (sym c.len.ensures.contents ∙ told)) }

pub returns : goal.returns
returns g c =
    let s0 = g.D.Disk.state c.args.disk.now in
    let s1 = g.D.Disk.state c.len.new.self in
    let s2 = g.D.Disk.state c.read_text.new.disk in
    let r = c.read_text.result in record {
      sized = c.read_text.ensures.sized;
      held = answer_weaker r _ _ (λ text is held told. is held (c.len.ensures.contents ∙ told)) c.read_text.ensures.held;
      count = on_ok_weaker r (λ same. same ∙ c.in_ok-len.ensures.cause.same) c.read_text.ensures.count;
      later = omega (arith, c.in_ok-len.ensures.cause.later, c.read_text.ensures.later);
      fault = fault_weaker r _ _ (λ fault failed. failed_on fault s0 s1 s2 c.in_ok-len.ensures.cause.same failed) c.read_text.ensures.fault;
      quiet = quiet_on s0 s1 s2 (quiet_call s0 s1 c.len.ensures.call c.len.ensures.contents) c.read_text.ensures.quiet;
    }
