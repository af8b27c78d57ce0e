use Rattle.std.proofs.Common.{◌≡◌, ◌+◌, ◌<◌, ◌^◌, length, sym, ap, subst, arith}
use Rattle.std.specs.BTreeMap.{insert_entry}
use Rattle.fsl_order.specs.Names.{bytes_cmp}
use Rattle.fsl_uv.specs.Maps.{total}
use Rattle.fsl_uv.specs.Holding.{size_at}
use Rattle.fsl_uv.proofs.HeldLemmas.{total-insert}
use Rattle.fsl_uv.proofs.held.Held.put_back.Goals as goal

pub invariant_of-self : goal.invariant_of-self
invariant_of-self c =
    let m = c.self.inside.map.entries in
    let p = c.args.path in
    let v = c.args.version in
    let more = total-insert p v m c.self.invariant.rises in
    let sum : c.bytes_with-bytes.result + size_at m p ≡ total m + length c.bytes.result.now =
    subst (λ x. c.bytes_with-bytes.result + size_at x p ≡ total x + length c.bytes.result.now) (sym c.self.view_is) c.bytes_with-bytes.ensures in
    let room : total (insert_entry bytes_cmp m p v) < 2 ^ 63 = subst (λ x. total (insert_entry bytes_cmp x p v) < 2 ^ 63) (sym c.self.view_is) c.requires.small in
    let same = ap total c.in-Ok.ensures.entries in
    let size = ap length c.bytes.ensures in
    record {
      rises = c.in-Ok.ensures.ordered;
      sum = omega (arith, more, sum, same, size);
      small = omega (arith, more, sum, same, size, room);
    }
