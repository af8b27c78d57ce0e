-- How the tables hold posts: each by its name, a pair for each next post and the post that has it, the ends of whole chains, and a pair for each root and valid post of its thread.
use Rattle.std.specs.Prelude.{◌≡◌, ℕ, List, [], ◌∷◌, cond, Option, map, is_some, option_and_then}
use Rattle.std.specs.Option.{option_or}
use Rattle.std.specs.Str.{bytes_eq}
use Rattle.std.specs.List.Sorted.{IsStrictlySortedBy}
use Rattle.std.specs.Map.{keys_of}
use Rattle.fsl_order.specs.TableState.{TableState}
use Rattle.fsl_order.specs.Names.{bytes_cmp, has}
use Rattle.fsl_order.specs.Rows.{ListsChanged}
use Rattle.fsl_table.specs.Exact.{pair_cmp}
use Rattle.fsl_table.specs.declared.key.Pair.{Pair}
use Rattle.fsl_table.specs.Contents.{Contents, value_at}
use Rattle.fsl_table.specs.Pairs.{is_name}
use Rattle.fsl_table.specs.Undo.{IsAsGood}
use Rattle.fsl_forum.specs.declared.Fact.{Fact}
use Rattle.fsl_forum.specs.declared.maps.Maps.{Maps}
use Rattle.fsl_forum.specs.declared.maps.Ways.{Ways}
use Rattle.fsl_forum.specs.declared.node.Node.{Node}
use Rattle.fsl_forum.specs.Threads.{end, next, next_of, place, threads_row}

abbrev pub Nodes : Type 0
Nodes = List (List ℕ × Node)

abbrev pub Pairs : Type 0
Pairs = List (Pair × Unit {0})

abbrev pub Ends : Type 0
Ends = List (List ℕ × List ℕ)

abbrev pub fact_of : List ℕ × Node → Fact
fact_of e = record { name = e.0; date = e.1.date; user = e.1.user; root = e.1.root; reply = e.1.reply; prior = e.1.prior }

abbrev pub facts_of : Nodes → List Fact
facts_of es = map fact_of es

-- what a post has beside its name
abbrev pub node_of : Fact → Node
node_of f = record { date = f.date; user = f.user; root = f.root; reply = f.reply; prior = f.prior }

pub record Rows : Type 0 where
  pub posts : Contents (List ℕ) Node
  pub followers : Contents Pair (Unit {0})
  pub ends : Contents (List ℕ) (List ℕ)
  pub placed : Contents Pair (Unit {0})

abbrev pub held_of : Rows → TableState Fact
held_of r = record { facts = facts_of r.posts.entries; spare = r.posts.spare ∷ r.followers.spare ∷ r.ends.spare ∷ r.placed.spare ∷ [] }

-- there is a pair exactly for each name and the one to which it belongs
pub record AreOf (first : List ℕ → Option (List ℕ)) (es : Pairs) : Type 0 where
  pub ordered : IsStrictlySortedBy pair_cmp (keys_of es)
  pub pairs : (k : Pair) → is_some (value_at pair_cmp k es) ≡ is_name (option_and_then first k.second) k.first

-- all tables are as the posts say
pub record IsKept (r : Rows) : Type 0 where
  pub ordered : IsStrictlySortedBy bytes_cmp (keys_of r.posts.entries)
  pub followers : AreOf (next_of (facts_of r.posts.entries)) r.followers.entries
  pub ends_ordered : IsStrictlySortedBy bytes_cmp (keys_of r.ends.entries)
  pub ends : (x : List ℕ) → value_at bytes_cmp x r.ends.entries ≡ end (facts_of r.posts.entries) x
  pub placed : AreOf (place (facts_of r.posts.entries)) r.placed.entries

-- to whatever each name belonged, it does now, but that this one came from one to another
abbrev pub AreMoved : List ℕ → Option (List ℕ) → Option (List ℕ) → Pairs → Pairs → Type 0
AreMoved name was up old new = (first : List ℕ → Option (List ℕ)) → AreOf first old → first name ≡ was → AreOf (λ x. cond (bytes_eq x name) up (first x)) new

-- the ends are as they were, but that this name has this one; and that these names have it
abbrev pub IsEnded : List ℕ → Option (List ℕ) → Ends → Ends → Type 0
IsEnded name found old new = (x : List ℕ) → value_at bytes_cmp x new ≡ cond (bytes_eq x name) found (value_at bytes_cmp x old)

abbrev pub AreEnded : List (List ℕ) → Option (List ℕ) → Ends → Ends → Type 0
AreEnded names found old new = (x : List ℕ) → value_at bytes_cmp x new ≡ cond (has names x) found (value_at bytes_cmp x old)

-- the next post of a name
abbrev pub next_at : Nodes → List ℕ → Option (List ℕ)
next_at es name = option_and_then (λ n. option_or n.reply n.prior) (value_at bytes_cmp name es)

-- the post is put in among these: its next post is the one to which it belongs, in the place of the old one
abbrev pub IsLinked : Fact → Nodes → Pairs → Pairs → Type 0
IsLinked f es old new = AreMoved f.name (next_at es f.name) (next f) old new

-- these are the names whose rows differ
abbrev pub HaveChanged : Nodes → Nodes → List (List ℕ) → Type 0
HaveChanged old new changed = ListsChanged (threads_row (facts_of old)) (threads_row (facts_of new)) changed

-- the maps as they are, and as they were where the change began
abbrev pub rows_of : Maps → Rows
rows_of m = record { posts = m.posts.held; followers = m.followers.held; ends = m.ends.held; placed = m.placed.held }

abbrev pub rows_before : Maps → Rows
rows_before m = record { posts = m.posts.was; followers = m.followers.was; ends = m.ends.was; placed = m.placed.was }

-- where ways back end, and where they begin
abbrev pub starts_of : Ways → Rows
starts_of w = record { posts = w.posts.was; followers = w.followers.was; ends = w.ends.was; placed = w.placed.was }

abbrev pub ends_of : Ways → Rows
ends_of w = record { posts = w.posts.held; followers = w.followers.held; ends = w.ends.held; placed = w.placed.held }

-- each map is as good
pub record AreAsGood (before now : Rows) : Type 0 where
  pub posts : IsAsGood before.posts now.posts
  pub followers : IsAsGood before.followers now.followers
  pub ends : IsAsGood before.ends now.ends
  pub placed : IsAsGood before.placed now.placed
