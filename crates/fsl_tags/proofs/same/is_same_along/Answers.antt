use Rattle.std.proofs.Common.{◌∙◌, ◌<◌, ◌+◌, drop, length, ap, sym, arith}
use Rattle.std.specs.Prelude.{◌&&◌}
use Rattle.fsl_tags.specs.Same.{same_rows}
use Rattle.fsl_tags.proofs.SameRows.{rows-step}
use Rattle.fsl_tags.proofs.same.is_same_along.Goals as goal

pub returns-then-not-is_same_at : goal.returns-then-not-is_same_at
returns-then-not-is_same_at c =
    let n = c.loop-place.place in
    let a = c.args.a.now in
    let b = c.args.b.now in
    let less : n < length a = omega (arith, c.loop-place-test.true, c.len.ensures) in
    let step = rows-step n a b less (omega (arith, less, c.requires)) in
    sym (ap (λ f. f && same_rows (drop (n + 1) a) (drop (n + 1) b)) (sym c.is_same_at.ensures ∙ c.if-not-is_same_at.true)) ∙ sym step ∙ c.loop-place.invariant.left

pub loop-place-preserved : goal.loop-place-preserved
loop-place-preserved c =
    let n = c.loop-place.place in
    let a = c.args.a.now in
    let b = c.args.b.now in
    let less : n < length a = omega (arith, c.loop-place-test.true, c.len.ensures) in
    let step = rows-step n a b less (omega (arith, less, c.requires)) in
    record {
      left = sym (ap (λ f. f && same_rows (drop (n + 1) a) (drop (n + 1) b)) (sym c.is_same_at.ensures ∙ c.if-not-is_same_at.false)) ∙ sym step ∙ c.loop-place.invariant.left;
      within = omega (arith, less);
    }
