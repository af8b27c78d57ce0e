use Rattle.fsl_table.proofs.tracked.Tracked.take.Goals as goal

pub invariant_of-self : goal.invariant_of-self
invariant_of-self g c = c.take.ensures.undoes c.self.inside.was.value c.self.invariant
