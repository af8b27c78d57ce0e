use Rattle.std.proofs.Common.{◌∙◌, length, ap, subst, arith}
use Rattle.fsl_order.specs.Causes.{Rose}
use Rattle.fsl_outside.proofs.WholeLemmas.{Consumes-twice, read_to_end, read_kept, stored_is, read_more, read_on}
use Rattle.fsl_outside.proofs.whole.read_whole.Goals as goal

pub returns-in-Ok-eq0 : goal.returns-in-Ok-eq0
returns-in-Ok-eq0 g c =
    let read = c.in-Ok-eq0.ensures in record {
      whole = read_to_end _ (g.S.Source.state c.loop.source).left _ c.loop.text.items _ c.read.new.into _ c.loop.invariant.read read.bytes.0 c.in-Ok-eq0.field-0-test c.from_vec.ensures;
      end = (let kept = c.read.auto.into in read.bytes.1 c.in-Ok-eq0.field-0-test (omega (arith, kept)));
      within = (let size = ap (λ t. length t) c.from_vec.ensures in let within = c.loop.invariant.within in omega (arith, within, size));
      long = tt;
      lost = tt;
      cause = tt;
      same = read.cause.same ∙ c.loop.invariant.same;
    }

pub returns-then-is_err : goal.returns-then-is_err
returns-then-is_err g c = record {
  whole = tt;
  end = tt;
  within = tt;
  long = tt;
  lost = (_, Consumes-twice _ (g.S.Source.state c.loop.source).left _ _ _ c.loop.invariant.read c.in-Ok.ensures.bytes.0);
  cause = c.in-Ok.ensures.cause.same ∙ c.loop.invariant.same;
  same = tt;
}

pub returns-then-len-limit : goal.returns-then-len-limit
returns-then-len-limit g c =
    let read = c.in-Ok.ensures in
    let stored = stored_is c.loop.text.items c.extend_from_slice.new.self.items c.read.new.into c.in-Ok.count _ c.if-is_err.ensures.negation c.extend_from_slice.ensures.items in record {
      whole = tt;
      end = tt;
      within = tt;
      long = (
        c.extend_from_slice.new.self.items,
        (let above = c.if-len-limit.true in let is = c.len.ensures in omega (arith, above, is)),
        read_more _ (g.S.Source.state c.loop.source).left _ c.loop.text.items _ c.read.new.into c.in-Ok.count c.loop.invariant.read read.bytes.0 stored,
      );
      lost = tt;
      cause = tt;
      same = read.cause.same ∙ c.loop.invariant.same;
    }

pub returns-in-Err : goal.returns-in-Err
returns-in-Err g c = record {
  whole = tt;
  end = tt;
  within = tt;
  long = tt;
  lost = (c.loop.text.items, read_kept _ (g.S.Source.state c.loop.source).left _ c.loop.text.items c.loop.invariant.read c.in-Err.ensures.bytes);
  cause = subst (λ n. Rose n (g.S.Source.state c.read.new.self).faults) c.loop.invariant.same c.in-Err.ensures.cause.failed;
  same = tt;
}

pub loop-preserved : goal.loop-preserved
loop-preserved g c =
    let read = c.in-Ok.ensures in
    let stored = stored_is c.loop.text.items c.extend_from_slice.new.self.items c.read.new.into c.in-Ok.count _ c.if-is_err.ensures.negation c.extend_from_slice.ensures.items in
    read_on _ (g.S.Source.state c.loop.source).left _ _ (g.S.Source.state c.loop.source).faults _ c.loop.counter _ c.loop.text.items _ c.read.new.into c.in-Ok.count c.loop.invariant read.bytes.0 read.bound.0
    c.in-Ok.count-test.1 read.cause.same stored (let few = c.if-len-limit.false in let is = c.len.ensures in omega (arith, few, is))
