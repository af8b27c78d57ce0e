-- An artifact that is made private or public.
use Rattle.std.specs.Prelude.{ℕ, List, Bool, if◌then◌else◌}
use Rattle.std.specs.Str.{bytes_eq}
use Rattle.fsl_cross.specs.declared.Item.{Item}

-- the item, private or public where it has this name
abbrev pub private_at : List ℕ → Bool → Item → Item
private_at name private item = if bytes_eq item.name name then record item { private = private } else item

-- the entry of the item under its name
abbrev pub entry_at : List ℕ → Bool → List ℕ × Item → List ℕ × Item
entry_at name private e = (e.0, if bytes_eq e.0 name then record e.1 { private = private } else e.1)
