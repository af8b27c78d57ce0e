-- The maps by which the ends of all chains are found, and where a post stands by its end.
use Rattle.std.specs.Prelude.{◌≡◌, ◌⊎◌, ℕ, suc, List, true, if◌then◌else◌, Option, Some, None, is_some, unwrap_or, map, option_map}
use Rattle.std.specs.Option.{option_or, option_map_or}
use Rattle.std.specs.Str.{bytes_eq}
use Rattle.fsl_order.specs.Names.{has}
use Rattle.fsl_order.specs.Rows.{steps_on}
use Rattle.fsl_order.specs.Maps.{value_at}
use Rattle.fsl_forum.specs.declared.Fact.{Fact}
use Rattle.fsl_forum.specs.Threads.{post, next, next_of, end}

-- names that have a next post, or none
abbrev pub Nexts : Type 0
Nexts = List (List ℕ × Option (List ℕ))

-- the map has of each post its next post
abbrev pub AreNexts : List Fact → Nexts → Type 0
AreNexts facts nexts = (name : List ℕ) → value_at nexts name ≡ option_map next (post facts name)

-- each name that has a value in the first map has one in the second
abbrev pub IsWithin : Nexts → Nexts → Type 0
IsWithin some more = (name : List ℕ) → is_some (value_at some name) ≡ true → is_some (value_at more name) ≡ true

-- the map has of its names the ends of their chains, and none where a chain is broken
abbrev pub AreRight : List Fact → Nexts → Type 0
AreRight facts ends = (name : List ℕ) (found : Option (List ℕ)) → value_at ends name ≡ Some found → found ≡ end facts name

-- the map has these of all posts
abbrev pub AreEnds : List Fact → Nexts → Type 0
AreEnds facts ends = (name : List ℕ) → has (map (λ f. f.name) facts) name ≡ true → value_at ends name ≡ Some (end facts name)

-- the end of the chain at a name where a climb stops: the known one, else the name itself where it is a post
abbrev pub known_end : Nexts → Nexts → List ℕ → Option (List ℕ)
known_end nexts ends name = unwrap_or (value_at ends name) (if is_some (value_at nexts name) then Some name else None)

-- one name is some steps on from another
abbrev pub Leads : List Fact → List ℕ → List ℕ → Type 0
Leads facts name at = (n : ℕ) × (steps_on (next_of facts) name (suc n) ≡ Some at)

-- a climb from a name has come to another: those on the path stand as broken, and lead to where it is; the others are right
pub record IsClimb (facts : List Fact) (ends : Nexts) (path : List (List ℕ)) (begun at : List ℕ) : Type 0 where
  pub kept : (name : List ℕ) (found : Option (List ℕ)) → value_at ends name ≡ Some found → (found ≡ end facts name) ⊎ ((found ≡ None) × (has path name ≡ true))
  pub leads : (name : List ℕ) → has path name ≡ true → Leads facts name at
  pub first : (begun ≡ at) ⊎ Leads facts begun at

-- a climb has found the end of the chains of its path and of the name that it began at; the others are right
pub record IsClimbed (facts : List Fact) (ends : Nexts) (path : List (List ℕ)) (begun : List ℕ) (found : Option (List ℕ)) : Type 0 where
  pub kept : (name : List ℕ) (other : Option (List ℕ)) → value_at ends name ≡ Some other → (other ≡ end facts name) ⊎ (has path name ≡ true)
  pub path_is : (name : List ℕ) → has path name ≡ true → found ≡ end facts name
  pub begun_is : found ≡ end facts begun

-- of whatever posts these are the next ones: where the ends were right, it is such a climb
abbrev pub Climbs : Nexts → Nexts → Nexts → List (List ℕ) → List ℕ → Option (List ℕ) → Type 0
Climbs nexts old new path begun found = (facts : List Fact) → AreNexts facts nexts → AreRight facts old → IsClimbed facts new path begun found

-- and where they were right, they are
abbrev pub StayRight : Nexts → Nexts → Nexts → Type 0
StayRight nexts old new = (facts : List Fact) → AreNexts facts nexts → AreRight facts old → AreRight facts new

-- where a post stands, by the end of its chain: none where it isn't valid
abbrev pub place_by : Option (List ℕ) → Fact → Option (List ℕ)
place_by end f =
    if option_map_or (λ e. option_map_or (bytes_eq e) f.root true) end true then Some (unwrap_or (option_or end f.root) f.name) else None
