-- Maps by text or name, and maps of such maps, as contracts see them.
use Rattle.std.specs.Prelude.{ℕ, List, [], Option}
use Rattle.std.specs.Option.{option_map_or}
use Rattle.std.specs.Map.{lookup}
use Rattle.std.specs.BTreeMap.{BTreeMap, is_at}
use Rattle.fsl_order.specs.Names.{bytes_cmp}

-- the value of a text or a name
abbrev pub value_at : {X : Type 0} → List (List ℕ × X) → List ℕ → Option X
value_at entries key = lookup (is_at (bytes_cmp key)) entries

-- the entries of the map of a text or a name, none where there is none
abbrev pub group_at : {K X : Type 0} → List (List ℕ × BTreeMap K X) → List ℕ → List (K × X)
group_at groups key = option_map_or (λ group. group.entries) (value_at groups key) []
