use Rattle.std.proofs.Common.{arith, subst, Ok}
use Rattle.httparse.specs.declared.Error.{Error}
use Rattle.httparse.specs.Outcome.{OnPartial}
use Rattle.httparse.specs.Grammar.{HasNoRequest, MayBecomeRequest}
use Rattle.fsl_http.proofs.Headed.{full_request}
use Rattle.fsl_http.proofs.request_head.VerdictHead.front_of.Goals as goal

pub returns-else-bytes-lt-HEAD_LIMIT : goal.returns-else-bytes-lt-HEAD_LIMIT
returns-else-bytes-lt-HEAD_LIMIT c =
    let none : HasNoRequest c.args.bytes.now =
    subst (λ x. OnPartial {E = Error} (Ok x) (HasNoRequest c.args.bytes.now)) c.in-Ok-Partial.field-0-is c.in-Ok-Partial.ensures.partial in
    full_request c.args.bytes.now (omega arith) (λ h rest is. none h rest is.reads)

pub returns-then-bytes-lt-HEAD_LIMIT : goal.returns-then-bytes-lt-HEAD_LIMIT
returns-then-bytes-lt-HEAD_LIMIT c =
    let none : HasNoRequest c.args.bytes.now =
    subst (λ x. OnPartial {E = Error} (Ok x) (HasNoRequest c.args.bytes.now)) c.in-Ok-Partial.field-0-is c.in-Ok-Partial.ensures.partial in
    let may : MayBecomeRequest c.args.bytes.now =
    subst (λ x. OnPartial {E = Error} (Ok x) (MayBecomeRequest c.args.bytes.now)) c.in-Ok-Partial.field-0-is c.in-Ok-Partial.ensures.unfinished in
    (record { none = λ h rest is. none h rest is.reads; may = may; fits = omega arith }, omega arith)

-- no head has more fields than there is room for
pub returns-in-Err : goal.returns-in-Err
returns-in-Err c = λ more h rest is.
    let over = c.in-Err.ensures.no_room more h rest is.reads in
    let few = is.fields in
    absurd (omega (arith, over, few))
