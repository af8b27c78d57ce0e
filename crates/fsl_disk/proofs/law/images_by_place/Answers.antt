use Rattle.fsl_disk.proofs.Places.{images_by_place}
use Rattle.fsl_disk.proofs.law.images_by_place.Goals as goal

pub returns : goal.returns
returns c = images_by_place
