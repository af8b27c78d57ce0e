-- Which attachments name an id as their target, and which ticket changes have it.
use Rattle.std.specs.Prelude.{◌≡◌, ℕ, ◌≤◌, List, [], Bool, false, ◌&&◌, Option, Some, None, is_some, option_map, unwrap_or}
use Rattle.std.specs.List.{list_any}
use Rattle.std.specs.Option.{option_map_or}
use Rattle.std.specs.List.Sorted.{IsStrictlySortedBy}
use Rattle.std.specs.Map.{keys_of}
use Rattle.std.specs.Str.{bytes_eq}
use Rattle.fsl_name.specs.Name.{name_in}
use Rattle.fsl_artifact.specs.declared.Artifact.{Artifact}
use Rattle.fsl_artifact.specs.declared.Artifact.TheVariants as kind
use Rattle.fsl_table.specs.Contents.{Contents, value_at}
use Rattle.fsl_table.specs.Exact.{pair_cmp}
use Rattle.fsl_table.specs.Pairs.{is_name}
use Rattle.fsl_table.specs.Undo.{undone, CanUndo}
use Rattle.fsl_table.specs.declared.key.Pair.{Pair}
use Rattle.fsl_table.specs.declared.step.Step.{Step}
use Rattle.fsl_cross.specs.declared.Item.{Item}

-- the pair of an id and the name of what belongs to it
abbrev pub pair_of : List ℕ → List ℕ → Pair
pair_of name id = record { first = id; second = Some name }

-- the id that the target of an attachment is, where it is one
abbrev pub target_id : Artifact → Option (List ℕ)
target_id (kind.Attachment a) = name_in a.target
target_id _ = None

-- the id of the ticket of a ticket change
abbrev pub change_id : Artifact → Option (List ℕ)
change_id (kind.Ticket t) = Some t.id
change_id _ = None

abbrev pub target_pair : Item → Option Pair
target_pair item = option_map (pair_of item.name) (target_id item.artifact)

abbrev pub change_pair : Item → Option Pair
change_pair item = option_map (pair_of item.name) (change_id item.artifact)

-- the name in a pair
abbrev pub pair_name : Pair → List ℕ
pair_name p = unwrap_or p.second []

-- whether a key is this pair
abbrev pub is_pair : Pair → Pair → Bool
is_pair k p = is_name k.second (pair_name p) && bytes_eq k.first p.first

-- whether a key is the pair of an id that may be there
abbrev pub is_pair_of : Pair → Option (List ℕ) → List ℕ → Bool
is_pair_of k id name = option_map_or (λ id. is_pair k (pair_of name id)) id false

-- the entries are in order
abbrev pub AreOrdered : List (Pair × Unit {0}) → Type 0
AreOrdered es = IsStrictlySortedBy pair_cmp (keys_of es)

-- they are these pairs
pub record ArePairs (pairs : List Pair) (es : List (Pair × Unit {0})) : Type 0 where
  pub ordered : AreOrdered es
  pub there : (k : Pair) → is_some (value_at pair_cmp k es) ≡ list_any (is_pair k) pairs

-- a log takes a table back to these pairs, with no less room
pub record TakesBack (log : List (Step Pair (Unit {0}))) (before : List Pair) (room : ℕ) (now : Contents Pair (Unit {0})) : Type 0 where
  pub can : CanUndo pair_cmp log now
  pub pairs : ArePairs before (undone pair_cmp log now).entries
  pub spare : room ≤ (undone pair_cmp log now).spare
