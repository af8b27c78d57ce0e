-- What holds of the artifacts that any records leave.
use Rattle.std.specs.Prelude.{◌≡◌, ℕ, List, IsTrue, None}
use Rattle.std.specs.FinMap as map_of
use Rattle.std.specs.FinSet as set
use Rattle.std.specs.List.{AllByRecursion}
use Rattle.fsl_record.specs.declared.Record.{Record}
use Rattle.fsl_record.specs.Records.{IsFit}
use Rattle.fsl_blobs.specs.Fold.{AreNamed, contents}

-- where each record is fit, each held artifact has the name of its bytes
abbrev pub HeldAreNamed : Type 0
HeldAreNamed = (records : List Record) → AllByRecursion IsFit records → AreNamed (contents records).held

-- a shunned name isn't held
abbrev pub ShunnedAreNotHeld : Type 0
ShunnedAreNotHeld = (records : List Record) (name : List ℕ) → IsTrue (set.contains (contents records).shunned name) → map_of.get (contents records).held name ≡ None
