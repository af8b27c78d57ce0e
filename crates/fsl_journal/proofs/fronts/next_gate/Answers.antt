use Rattle.std.proofs.Common.{◌≡◌, ◌+◌, ◌∙◌, Some, ap, arith}
use Rattle.fsl_disk.specs.Shared.{IsLengthOf}
use Rattle.fsl_journal.proofs.Ends.{on_fault}
use Rattle.fsl_journal.specs.Commit.{eight}
use Rattle.fsl_journal.proofs.Still.{known_on, read_on}
use Rattle.fsl_journal.proofs.Turning.{long_enough, number_read, number_failed, told_or}
use Rattle.fsl_journal.proofs.fronts.next_gate.Goals as goal

pub returns-then-gate-len-clause-on : goal.returns-then-gate-len-clause-on
returns-then-gate-len-clause-on g c = λ size held told opened.
    let s = g.F.Shared.state c.args.file.now in
    let s1 = g.F.Shared.state c.len_with.new.file in
    long_enough _ s s s1 held c.args.gate size c.in_ok-len.len (c.args.gate + 9) opened (omega arith) (told_or s (λ h. IsLengthOf s s1 h c.in_ok-len.len) held told c.in_ok-len.ensures.answer) (omega arith) c.if-gate-len.true

pub returns-in_err-size-clause-cause : goal.returns-in_err-size-clause-cause
returns-in_err-size-clause-cause g c =
    let s = g.F.Shared.state c.args.file.now in
    let s1 = g.F.Shared.state c.len_with.new.file in
    let s2 = g.F.Shared.state c.number_at.new.file in
    on_fault c.from_residual-in_err-size.result _ (λ opened. number_failed s s1 s2 c.args.gate c.len_with.ensures.sees c.in_ok-len.ensures.cause.same c.in_err-size.ensures.cause.failed opened)

pub returns-then-place-len-clause-on : goal.returns-then-place-len-clause-on
returns-then-place-len-clause-on g c = λ size held told opened.
    let s = g.F.Shared.state c.args.file.now in
    let s1 = g.F.Shared.state c.len_with.new.file in
    let s2 = g.F.Shared.state c.number_at.new.file in
    let s3 = g.F.Shared.state c.len_with-2.new.file in
    let first = c.len_with.ensures.sees in
    let then = c.number_at.ensures.sees in
    let number = number_read s s1 s2 held c.args.gate size c.in_ok-size.size opened first.later c.in_ok-size.ensures.fits (c.in_ok-size.ensures.answer held (first.same ∙ told)) in
    long_enough _ s s2 s3 held c.args.gate size c.in_ok-len-2.len c.saturating_add-place.result opened (omega (arith, first.later, then.later))
    (told_or s2 (λ h. IsLengthOf s2 s3 h c.in_ok-len-2.len) held (then.same ∙ first.same ∙ told) c.in_ok-len-2.ensures.answer) (omega (arith, number, c.saturating_add-place.ensures)) c.if-place-len.true

pub returns-then-place-len-clause-known : goal.returns-then-place-len-clause-known
returns-then-place-len-clause-known g c =
    let s = g.F.Shared.state c.args.file.now in
    let s1 = g.F.Shared.state c.len_with.new.file in
    let s2 = g.F.Shared.state c.number_at.new.file in
    let s3 = g.F.Shared.state c.len_with-2.new.file in
    known_on s s1 s2 s3 c.args.len c.in_ok-len.len c.in_ok-len-2.len c.len_with.ensures.sees c.number_at.ensures.sees c.len_with-2.ensures.sees c.in_ok-len.ensures.known c.in_ok-len-2.ensures.known

pub returns-clause-known : goal.returns-clause-known
returns-clause-known g c =
    let s = g.F.Shared.state c.args.file.now in
    let s1 = g.F.Shared.state c.len_with.new.file in
    let s2 = g.F.Shared.state c.number_at.new.file in
    let s3 = g.F.Shared.state c.len_with-2.new.file in
    known_on s s1 s2 s3 c.args.len c.in_ok-len.len c.in_ok-len-2.len c.len_with.ensures.sees c.number_at.ensures.sees c.len_with-2.ensures.sees c.in_ok-len.ensures.known c.in_ok-len-2.ensures.known

pub returns-clause-behind : goal.returns-clause-behind
returns-clause-behind g c =
    let s = g.F.Shared.state c.args.file.now in
    let s1 = g.F.Shared.state c.len_with.new.file in
    let s2 = g.F.Shared.state c.number_at.new.file in
    let s3 = g.F.Shared.state c.len_with-2.new.file in
    let first = c.len_with.ensures.sees in
    let place : c.saturating_add-place.result ≡ c.args.gate + 9 + c.in_ok-size.size = omega (arith, c.saturating_add-place.ensures, c.if-place-len.false, c.in_ok-len-2.ensures.fits) in (
      c.in_ok-size.size,
      place,
      c.in_ok-size.ensures.fits,
      λ held told. read_on s s1 s2 s3 held (c.args.gate + 1) (eight c.in_ok-size.size) first c.len_with-2.ensures.sees (c.in_ok-size.ensures.answer held (first.same ∙ told)),
    )

pub returns-clause-on : goal.returns-clause-on
returns-clause-on g c = λ size held told opened.
    let s = g.F.Shared.state c.args.file.now in
    let s1 = g.F.Shared.state c.len_with.new.file in
    let s2 = g.F.Shared.state c.number_at.new.file in
    let first = c.len_with.ensures.sees in
    let number = number_read s s1 s2 held c.args.gate size c.in_ok-size.size opened first.later c.in_ok-size.ensures.fits (c.in_ok-size.ensures.answer held (first.same ∙ told)) in
    let place : c.saturating_add-place.result ≡ c.args.gate + 9 + size = omega (arith, number, c.saturating_add-place.ensures, c.if-place-len.false, c.in_ok-len-2.ensures.fits) in
    ap Some place
