use Rattle.std.proofs.Common.{◌∙◌, arith}
use Rattle.fsl_table.proofs.Weaving.{first-step}
use Rattle.fsl_table.proofs.table.Table.first.Goals as goal

pub loop-at-preserved : goal.loop-at-preserved
loop-at-preserved g c = record {
  within = omega (arith, c.loop-at.invariant.within);
  first = c.lower_of-best.ensures ∙ first-step g.met.K.Ord.total c.self.inside.waiting.items c.self.inside.tree.entries c.loop-at.at c.index.result.now _ (omega arith) c.loop-at.invariant.within c.index.ensures c.self.invariant.apart c.loop-at.invariant.first;
}
