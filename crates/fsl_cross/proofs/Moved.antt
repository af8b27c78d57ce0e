-- The name of an item.
use Rattle.std.proofs.Common.{ℕ, List}
use Rattle.fsl_cross.specs.declared.Item.{Item}

abbrev pub item_name : Item → List ℕ
item_name item = item.name
