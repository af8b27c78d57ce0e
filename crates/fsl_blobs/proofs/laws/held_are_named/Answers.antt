use Rattle.fsl_blobs.proofs.NamedHeld as named
use Rattle.fsl_blobs.proofs.laws.held_are_named.Goals as goal

pub returns : goal.returns
returns c = named.held_are_named
