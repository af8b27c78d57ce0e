use Rattle.fsl_table.proofs.tracked.Tracked+Pair+unit.unlink_each.Goals as goal

pub invariant_of-self : goal.invariant_of-self
invariant_of-self g c = c.unlink_each.ensures.undoes c.self.inside.was.value c.self.invariant
