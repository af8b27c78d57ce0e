-- The checksum of a tree.
use Rattle.std.specs.Prelude.{ℕ, List, ◌∷◌, ◌++◌, length, flat_map, decimal}
use Rattle.md5.specs.Md5.{md5}
use Rattle.fsl_order.specs.Rows.{by_name}
use Rattle.fsl_checkin.specs.declared.types.TreeItem.{TreeItem}

-- what the checksum takes of a file: its name, a space, its size in decimal, a newline and its content
abbrev pub summed : List ℕ → List ℕ → List ℕ
summed path bytes = path ++ 32 ∷ decimal (length bytes) ++ 10 ∷ bytes

abbrev pub summed_file : TreeItem → List ℕ
summed_file item = summed item.path item.bytes

-- the checksum of a tree: the MD5 of this, over all files in the order of their names
abbrev pub sum : List TreeItem → List ℕ
sum items = md5 (flat_map summed_file (by_name (λ item. item.path) items))
