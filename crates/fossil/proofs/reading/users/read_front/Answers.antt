use Rattle.std.proofs.Common.{◌≡◌, false, take, ◌∙◌, arith}
use Rattle.std.specs.Prelude.{is_err}
use Rattle.fossil.proofs.FrontLemmas.{grown_by, read_on, read_out, read_more}
use Rattle.fossil.proofs.reading.users.read_front.Goals as goal

pub returns-in-Ok-eq0-clause-read : goal.returns-in-Ok-eq0-clause-read
returns-in-Ok-eq0-clause-read g c =
    read_out (g.S.Source.state c.args.source.now).left (g.S.Source.state c.loop.source).left (g.S.Source.state c.read.new.self).left _ _ _ _ c.in-Ok-eq0.field-0 c.loop.text.items c.read.new.into c.from_vec.result
    c.loop.invariant c.in-Ok-eq0.ensures.bytes.0 c.in-Ok-eq0.field-0-test c.from_vec.ensures

pub returns-in-Ok-eq0-clause-same : goal.returns-in-Ok-eq0-clause-same
returns-in-Ok-eq0-clause-same g c = c.in-Ok-eq0.ensures.cause.same ∙ c.loop.invariant.same

pub returns-then-len-gt-MOST_OF_USERS-clause-read : goal.returns-then-len-gt-MOST_OF_USERS-clause-read
returns-then-len-gt-MOST_OF_USERS-clause-read g c =
    let none : is_err c.extend_from_slice.result ≡ false = (let a = c.if-is_err.ensures.value in let b = c.if-is_err.false in cc) in
    read_on (g.S.Source.state c.args.source.now).left (g.S.Source.state c.loop.source).left (g.S.Source.state c.read.new.self).left _ _ _ _ c.in-Ok.count c.loop.text.items c.read.new.into c.from_vec-then-len-gt-MOST_OF_USERS.result
    c.loop.invariant c.in-Ok.ensures.bytes.0 (c.from_vec-then-len-gt-MOST_OF_USERS.ensures ∙ grown_by c.extend_from_slice.result c.extend_from_slice.new.self.items c.loop.text.items (take c.in-Ok.count c.read.new.into) none c.extend_from_slice.ensures.items)

pub returns-then-len-gt-MOST_OF_USERS-clause-same : goal.returns-then-len-gt-MOST_OF_USERS-clause-same
returns-then-len-gt-MOST_OF_USERS-clause-same g c = c.in-Ok.ensures.cause.same ∙ c.loop.invariant.same

pub loop-preserved : goal.loop-preserved
loop-preserved g c =
    let none : is_err c.extend_from_slice.result ≡ false = (let a = c.if-is_err.ensures.value in let b = c.if-is_err.false in cc) in
    read_more (g.S.Source.state c.args.source.now).left (g.S.Source.state c.loop.source).left (g.S.Source.state c.read.new.self).left _ _ _ _ c.in-Ok.count c.loop.text.items c.read.new.into c.extend_from_slice.new.self.items
    c.loop.invariant c.in-Ok.ensures.bytes.0 (g.S.Source.state c.read.new.self).faults c.in-Ok.ensures.cause.same c.in-Ok.count-test.1 c.in-Ok.ensures.bound.0
    (grown_by c.extend_from_slice.result c.extend_from_slice.new.self.items c.loop.text.items (take c.in-Ok.count c.read.new.into) none c.extend_from_slice.ensures.items) (let size = c.len.ensures in let most = c.if-len-gt-MOST_OF_USERS.false in omega (arith, size, most))

pub returns-then-is_err-clause-cause : goal.returns-then-is_err-clause-cause
returns-then-is_err-clause-cause g c = c.in-Ok.ensures.cause.same ∙ c.loop.invariant.same
