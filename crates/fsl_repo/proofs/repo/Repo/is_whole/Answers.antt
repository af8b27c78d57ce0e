use Rattle.fsl_repo.specs.Whole.{IsWholeOn}
use Rattle.fsl_repo.proofs.Wholes.{whole_of}
use Rattle.std.proofs.Common.{subst}
use Rattle.fsl_repo.proofs.repo.Repo.is_whole.Goals as goal

pub returns : goal.returns
returns g c =
    let disk = g.D.Disk.state c.self.inside.disk in
    let r = c.self.inside in
    let seen = whole_of r.disk r.journal r.blobs r.tables r.loaded r.stored disk c.self.invariant in
    subst (λ v. IsWholeOn (g.D.Disk.state v.disk) v) c.self.view_is seen
