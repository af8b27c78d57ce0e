use Rattle.std.proofs.Common.{arith}
use Rattle.fsl_table.proofs.Weaving.{length-weave, sorted-weave}
use Rattle.fsl_table.proofs.table.Table.len.Goals as goal

pub returns-clause-len : goal.returns-clause-len
returns-clause-len g c = rw (← c.self.view_is) (let h = length-weave g.met.K.Ord.total c.self.inside.waiting.items c.self.inside.tree.entries c.self.invariant.apart in grind (arith, h, c.len.ensures.len, c.len-2.ensures))

pub returns-clause-ordered : goal.returns-clause-ordered
returns-clause-ordered g c = rw (← c.self.view_is) (sorted-weave g.met.K.Ord.total c.self.inside.waiting.items c.self.inside.tree.entries c.self.invariant.ordered)
