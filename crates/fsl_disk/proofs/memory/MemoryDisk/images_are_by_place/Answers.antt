use Rattle.std.proofs.Common.{List, ℕ, ◌↔◌, subst}
use Rattle.fsl_disk.specs.Change.{Leaves}
use Rattle.fsl_disk.specs.Images.{IsImage}
use Rattle.fsl_disk.specs.Memory.{InMemory}
use Rattle.fsl_disk.proofs.Places.{images_by_place}
use Rattle.fsl_disk.proofs.memory.MemoryDisk.images_are_by_place.Goals as goal

pub returns : goal.returns
returns c =
    subst (λ (d : InMemory). (image : List ℕ) → Leaves d.first d.past image ↔ IsImage d.first d.past image) c.self.view_is
    (images_by_place c.self.inside.history.first c.self.inside.history.changes c.are_inside.ensures)
