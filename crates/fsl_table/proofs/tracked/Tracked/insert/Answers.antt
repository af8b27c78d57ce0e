use Rattle.fsl_table.proofs.tracked.Tracked.insert.Goals as goal

pub invariant_of-self : goal.invariant_of-self
invariant_of-self g c = c.insert.ensures.undoes c.self.inside.was.value c.self.invariant
