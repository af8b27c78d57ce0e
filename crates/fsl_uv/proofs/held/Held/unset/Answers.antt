use Rattle.std.proofs.Common.{◌≡◌, sym, ap, subst, arith}
use Rattle.fsl_uv.specs.Maps.{total}
use Rattle.fsl_uv.specs.Holding.{size_at}
use Rattle.fsl_uv.proofs.HeldLemmas.{total-remove}
use Rattle.fsl_uv.proofs.held.Held.unset.Goals as goal

pub invariant_of-self : goal.invariant_of-self
invariant_of-self c =
    let m = c.self.inside.map.entries in
    let p = c.args.path.now in
    let less = total-remove p m in
    let size : c.size_of.result ≡ size_at m p = subst (λ x. c.size_of.result ≡ size_at x p) (sym c.self.view_is) c.size_of.ensures.size in
    let same = ap total c.remove.ensures.entries in
    record {
      rises = c.remove.ensures.ordered;
      sum = omega (arith, less, size, same, c.self.invariant.sum);
      small = omega (arith, c.self.invariant.small);
    }
