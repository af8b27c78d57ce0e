-- What each command of unversioned files uses.
use Rattle.std.specs.Prelude.{true}
use Rattle.fsl_words.specs.declared.Unversioned.{Unversioned}
use Rattle.fsl_words.specs.declared.Unversioned.TheVariants.{Init, Add, Remove, List, Cat, Sync}
use Rattle.fossil.specs.Use.{Use, nothing}

abbrev pub uv_use : Unversioned → Use
uv_use (Init project server) = record nothing { opens = true; begins = true }
uv_use (Add path) = record nothing { reads = true; opens = true; ticks = true }
uv_use (Remove path) = record nothing { opens = true; ticks = true }
uv_use List = record nothing { opens = true }
uv_use (Cat path) = record nothing { opens = true }
uv_use (Sync peer) = record nothing { opens = true; merges = true; asks_peer = true }
