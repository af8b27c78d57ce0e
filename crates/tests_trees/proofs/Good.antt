-- The paths of a tree are good.
use Rattle.std.proofs.Common.{◌≡◌, ℕ, true, List, [], ◌∷◌, refl}
use Rattle.std.specs.List.{AllZip, list_all}
use Rattle.std.proofs.lemmas.Bool.{and_from}
use Rattle.fsl_text.specs.Paths.{path_ok}
use Rattle.fsl_checkin.specs.declared.types.TreeItem.{TreeItem}
use Rattle.fsl_checkin.specs.Trees.{IsItemText, IsTreeText, paths}

goods : (parts : List (List ℕ)) (t : List TreeItem) → AllZip IsItemText parts t → list_all path_ok (paths t) ≡ true
goods [] [] each = refl
goods [] (item ∷ t) each = absurd each
goods (part ∷ parts) [] each = absurd each
goods (part ∷ parts) (item ∷ t) each = and_from (path_ok item.path) (list_all path_ok (paths t)) (each.0).good (goods parts t each.1)

pub good_tree : (text : List ℕ) (t : List TreeItem) → IsTreeText text t → list_all path_ok (paths t) ≡ true
good_tree text t is = goods is.parts t is.each
