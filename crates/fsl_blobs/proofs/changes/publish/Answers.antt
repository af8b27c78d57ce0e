use Rattle.std.proofs.Common.{rules, false, ap}
use Rattle.fsl_blobs.proofs.KeptLemmas.{published_here, published_nowhere}
use Rattle.fsl_blobs.proofs.changes.publish.Goals as goal

pub returns-in-Some : goal.returns-in-Some
returns-in-Some c = λ q. let h = c.get_mut.follows.holds (record c.in-Some.artifact.now { private = false }) in
    published_here c.args.name.now c.args.held.now.entries (c.get_mut.follows.lender (record c.in-Some.artifact.now { private = false })).entries c.in-Some.artifact.now (search rules) (λ q. (h.3 (search rules)).0 q) q

pub returns-in_default : goal.returns-in_default
returns-in_default c = λ q. published_nowhere c.args.name.now c.args.held.now.entries _ (search rules) (ap (λ m. m.entries) c.get_mut.follows.holds-at-none) q
