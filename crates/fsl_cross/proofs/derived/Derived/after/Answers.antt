use Rattle.fsl_cross.proofs.derived.Derived.after.Goals as goal

pub joined-requires-clause-contents : goal.joined-requires-clause-contents
joined-requires-clause-contents c =
    let told = c.in-Ok.ensures in
    record { files = told.files; pages = told.pages; configured = told.tickets.0; tickets = told.tickets.1; threads = told.threads; clusters = told.clusters }
