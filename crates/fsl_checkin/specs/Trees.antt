-- Trees: the files of a check-in with their contents, and the text of a tree.
use Rattle.std.specs.Prelude.{◌≡◌, ◌≢◌, ℕ, ◌+◌, List, [], ◌∷◌, ◌++◌, length, map, flat_map, codes, decimal, IsTrue, ⊤}
use Rattle.std.specs.List.{AllZip}
use Rattle.fsl_order.specs.Rows.{rises}
use Rattle.fsl_text.specs.Escapes.{unescape, escape}
use Rattle.fsl_text.specs.Paths.{path_ok}
use Rattle.fsl_card.specs.Cards.{is_argument}
use Rattle.fsl_checkin.specs.declared.types.Perm.{Perm}
use Rattle.fsl_checkin.specs.declared.types.Perm.TheVariants.{Plain, Exec, Symlink}
use Rattle.fsl_checkin.specs.declared.types.TreeItem.{TreeItem}
use Rattle.fsl_checkin.specs.declared.types.TreeFault.{TreeFault}
use Rattle.fsl_checkin.specs.declared.types.TreeFault.TheVariants.{Item, Memory}

-- a permission as it is written
abbrev pub perm_text : Perm → List ℕ
perm_text Plain = codes "-"
perm_text Exec = codes "x"
perm_text Symlink = codes "l"

-- an item whose path is written so: `add`, the path, the permission and the size with a space between, a newline, the content and a newline
abbrev pub item_text : List ℕ → TreeItem → List ℕ
item_text written item =
    codes "add" ++ 32 ∷ written ++ 32 ∷ perm_text item.perm ++ 32 ∷ decimal (length item.bytes) ++ 10 ∷ item.bytes ++ 10 ∷ []

-- the text is this item: its path is good, and written as an argument that stands for it
pub record IsItemText (text : List ℕ) (item : TreeItem) : Type 0 where
  pub written : List ℕ
  pub spelled : text ≡ item_text written item
  pub argument : IsTrue (is_argument written)
  pub stands_for : unescape written ≡ item.path
  pub good : IsTrue (path_ok item.path)

abbrev pub paths : List TreeItem → List (List ℕ)
paths items = map (λ item. item.path) items

-- the text is these items, one after another, and their paths rise
pub record IsTreeText (text : List ℕ) (items : List TreeItem) : Type 0 where
  pub parts : List (List ℕ)
  pub spelled : text ≡ flat_map (λ part. part) parts
  pub each : AllZip IsItemText parts items
  pub rising : IsTrue (rises (paths items))

-- the first item that isn't one has this number: items that are a tree stand before it, bytes stand there, and no item at their front goes on with the tree
pub record IsBadItem (text : List ℕ) (number : ℕ) : Type 0 where
  pub items : List TreeItem
  pub front : List ℕ
  pub rest : List ℕ
  pub split : text ≡ front ++ rest
  pub read : IsTreeText front items
  pub count : number ≡ length items + 1
  pub some : rest ≢ []
  pub none : (item : TreeItem) (own more : List ℕ) → rest ≡ own ++ more → IsItemText own item → IsTrue (rises (paths (items ++ item ∷ []))) → ⊥

-- why a text isn't read
abbrev pub IsTreeFault : List ℕ → TreeFault → Type 0
IsTreeFault text (Item number) = IsBadItem text number
IsTreeFault text Memory = ⊤

-- the text that is written of a tree
abbrev pub tree_text : List TreeItem → List ℕ
tree_text items = flat_map (λ item. item_text (escape item.path) item) items
