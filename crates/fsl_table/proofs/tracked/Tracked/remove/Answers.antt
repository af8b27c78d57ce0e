use Rattle.fsl_table.proofs.tracked.Tracked.remove.Goals as goal

pub invariant_of-self : goal.invariant_of-self
invariant_of-self g c = c.remove.ensures.undoes c.self.inside.was.value c.self.invariant
