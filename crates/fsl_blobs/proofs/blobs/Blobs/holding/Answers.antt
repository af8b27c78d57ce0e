use Rattle.std.proofs.Common.{◌≡◌, Some, None, refl, ap, rules}
use Rattle.fsl_blobs.specs.Seen.{Seen}
use Rattle.fsl_blobs.specs.Kept.{held_at}
use Rattle.fsl_blobs.proofs.Holdings.{held-some, held-none, from-some}
use Rattle.fsl_blobs.proofs.blobs.Blobs.holding.Goals as goal

pub returns-in-Some-clause-held : goal.returns-in-Some-clause-held
returns-in-Some-clause-held c =
    let at : held_at c.self.inside.held.entries c.args.name ≡ Some c.in-Some.artifact.now = search rules in
    held-some _ _ c.self.invariant.kept.held c.args.self.now (ap (λ (b : Seen). b.records) c.self.view_is) c.args.name c.in-Some.artifact.now at

pub returns-in-Some-clause-from : goal.returns-in-Some-clause-from
returns-in-Some-clause-from c =
    let at : held_at c.self.inside.held.entries c.args.name ≡ Some c.in-Some.artifact.now = search rules in
    from-some _ _ _ c.self.invariant.from c.args.self.now (ap (λ (b : Seen). b.records) c.self.view_is) c.args.name c.in-Some.artifact.now at _ refl refl refl refl

pub returns-in-None-clause-held : goal.returns-in-None-clause-held
returns-in-None-clause-held c =
    let none : held_at c.self.inside.held.entries c.args.name ≡ None = search rules in
    held-none _ _ c.self.invariant.kept.held c.args.self.now (ap (λ (b : Seen). b.records) c.self.view_is) c.args.name none
