use Rattle.fsl_cross.proofs.derived.Derived.build.Goals as goal

pub after-requires-clause-history : goal.after-requires-clause-history
after-requires-clause-history c =
    let told = c.in_ok-history.ensures in
    record { links = told.links; tags = told.tags; leaves = told.leaves }
