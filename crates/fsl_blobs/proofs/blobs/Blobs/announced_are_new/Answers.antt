use Rattle.fsl_blobs.proofs.AnnouncedNames.{announced-new}
use Rattle.fsl_blobs.proofs.blobs.Blobs.announced_are_new.Goals as goal

pub returns : goal.returns
returns c = announced-new _ _ _ _ _ c.self.invariant.kept _ _ c.args.self.now c.self.view_is
