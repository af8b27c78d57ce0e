use Rattle.std.proofs.Common.{◌≡◌, true, false, ◌∙◌, arith}
use Rattle.std.specs.Ordering.{is_lt}
use Rattle.fsl_table.proofs.Weaving.{next-step}
use Rattle.fsl_table.proofs.table.Table.next_after.Goals as goal

pub loop-at-preserved-then-is_lt : goal.loop-at-preserved-then-is_lt
loop-at-preserved-then-is_lt g c =
    let t : is_lt (g.K.Ord.cmp c.args.key.now c.index-entry.result.now.0) ≡ true = cc in
    record {
      within = omega (arith, c.loop-at.invariant.within);
      next = c.lower_of-best.ensures ∙ next-step g.met.K.Ord.total c.args.key.now c.self.inside.waiting.items c.self.inside.tree.entries c.loop-at.at c.index-entry.result.now _ true t (omega arith) c.loop-at.invariant.within c.index-entry.ensures c.self.invariant.apart c.loop-at.invariant.next;
    }

pub loop-at-preserved : goal.loop-at-preserved
loop-at-preserved g c =
    let t : is_lt (g.K.Ord.cmp c.args.key.now c.index-entry.result.now.0) ≡ false = cc in
    record {
      within = omega (arith, c.loop-at.invariant.within);
      next = next-step g.met.K.Ord.total c.args.key.now c.self.inside.waiting.items c.self.inside.tree.entries c.loop-at.at c.index-entry.result.now _ false t (omega arith) c.loop-at.invariant.within c.index-entry.ensures c.self.invariant.apart c.loop-at.invariant.next;
    }
