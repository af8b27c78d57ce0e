-- The derived tables of a set of artifacts and of the configured ticket fields.
use Rattle.std.specs.Prelude.{◌≡◌, ℕ, List, [], ◌∷◌, false, not, if◌then◌else◌, Option, Some, None, is_some, map, filter, filter_map, unwrap_or, option_map, slice_get, IsPermutation}
use Rattle.std.specs.List.{list_any}
use Rattle.std.specs.Option.{option_eq, option_map_or}
use Rattle.std.specs.Str.{bytes_eq}
use Rattle.fsl_name.specs.Name.{name_text}
use Rattle.fsl_order.specs.Rows.{by_name, AreDistinct}
use Rattle.fsl_grammar.specs.declared.Prefix.{Prefix}
use Rattle.fsl_grammar.specs.declared.Prefix.TheVariants.{Once, Cancel, Propagate}
use Rattle.fsl_grammar.specs.declared.TagCard.{TagCard}
use Rattle.fsl_artifact.specs.declared.Artifact.{Artifact}
use Rattle.fsl_artifact.specs.Kind.{IsKind}
use Rattle.fsl_artifact.specs.declared.Artifact.TheVariants as kind
use Rattle.fsl_links.specs.declared.Fact as links
use Rattle.fsl_tags.specs.declared.Fact as tags
use Rattle.fsl_leaves.specs.declared.Fact as leaves
use Rattle.fsl_files.specs.declared.Fact as files
use Rattle.fsl_timeline.specs.declared.Row.{Row}
use Rattle.fsl_timeline.specs.declared.RowKind.{RowKind}
use Rattle.fsl_timeline.specs.declared.RowKind.TheVariants as row
use Rattle.fsl_wiki.specs.declared.Fact as wiki
use Rattle.fsl_wiki.specs.Pages as pages
use Rattle.fsl_ticket.specs.declared.Fact as ticket
use Rattle.fsl_forum.specs.declared.Fact as forum
use Rattle.fsl_forum.specs.Threads as threads
use Rattle.fsl_cluster.specs.declared.Fact as cluster
use Rattle.fsl_table.specs.Trail.{AreAllAtMost}
use Rattle.fsl_cross.specs.declared.Item.{Item}
use Rattle.fsl_cross.specs.Facts.{as_manifest, files_fact, pages_fact, ticket_fact, forum_fact, cluster_fact, parent_names}
use Rattle.fsl_cross.specs.Checkins.{links_facts, tags_facts, branch, values_of}

-- a check-in with its parents and its branch
abbrev pub leaves_fact : List Item → Item → Option leaves.Fact
leaves_fact items item =
    option_map (λ m. record { name = item.name; parents = parent_names m; branch = branch items item.name }) (as_manifest item.artifact)

abbrev pub leaves_facts : List Item → List leaves.Fact
leaves_facts items = filter_map (leaves_fact items) items

abbrev pub files_facts : List Item → List files.Fact
files_facts items = filter_map files_fact items

abbrev pub pages_facts : List Item → List wiki.Fact
pages_facts items = filter_map pages_fact items

abbrev pub ticket_facts : List Item → List ticket.Fact
ticket_facts items = filter_map ticket_fact items

abbrev pub forum_facts : List Item → List forum.Fact
forum_facts items = filter_map forum_fact items

abbrev pub cluster_facts : List Item → List cluster.Fact
cluster_facts items = map cluster_fact items

-- the byte of a prefix: `+`, `-` or `*`
abbrev pub sign : Prefix → ℕ
sign Once = 43
sign Cancel = 45
sign Propagate = 42

-- a prefix and the name of a tag
abbrev pub tag_text : TagCard → List ℕ
tag_text card = sign card.prefix ∷ card.tag

-- an attachment belongs to a ticket or a technote whose id it targets, else to the wiki
abbrev pub attachment_kind : List Item → List ℕ → RowKind
attachment_kind items target =
    if list_any (λ f. bytes_eq (name_text f.id) target) (ticket_facts items) then row.Ticket
    else (if list_any (λ n. bytes_eq (name_text n.id) target) (filter_map pages.as_note (pages_facts items)) then row.Note else row.Wiki)

-- the row of the timeline that an artifact gives; a missing value is empty
abbrev pub timeline_row_of : List Item → List ℕ → Artifact → Option Row
timeline_row_of items name (kind.Manifest m) =
    let v = values_of items name m in Some (record { time = v.date; name = name; kind = row.Checkin; user = v.user; text = v.comment })
timeline_row_of items name (kind.Wiki w) = Some (record { time = w.date; name = name; kind = row.Wiki; user = w.user; text = w.title })
timeline_row_of items name (kind.Ticket t) = Some (record { time = t.date; name = name; kind = row.Ticket; user = t.user; text = name_text t.id })
timeline_row_of items name (kind.Technote t) =
    if option_eq bytes_eq (pages.note (pages_facts items) t.id) (Some name)
    then Some (record { time = t.time; name = name; kind = row.Note; user = unwrap_or t.user []; text = unwrap_or t.comment [] })
    else None
timeline_row_of items name (kind.Attachment a) =
    Some (record { time = a.date; name = name; kind = attachment_kind items a.target; user = unwrap_or a.user []; text = a.file })
timeline_row_of items name (kind.Forum f) =
    if is_some (threads.place (forum_facts items) name)
    then Some (record { time = f.date; name = name; kind = row.Forum; user = f.user; text = unwrap_or f.title [] })
    else None
timeline_row_of items name (kind.Control c) =
    Some (record { time = c.date; name = name; kind = row.Tag; user = c.user; text = option_map_or tag_text (slice_get c.tags 0) [] })
timeline_row_of items name _ = None

abbrev pub timeline_rows : List Item → List Row
timeline_rows items = filter_map (λ item. timeline_row_of items item.name item.artifact) items

-- what the nine tables hold: the facts of each, and the rows of the timeline, by name
pub record TableFacts : Type 0 where
  pub links : List links.Fact
  pub tags : List tags.Fact
  pub leaves : List leaves.Fact
  pub files : List files.Fact
  pub timeline : List Row
  pub pages : List wiki.Fact
  pub fields : List (List ℕ)
  pub tickets : List ticket.Fact
  pub threads : List forum.Fact
  pub clusters : List cluster.Fact

-- what an item meets: its artifact is what some bytes are
abbrev pub IsItem : Item → Type 0
IsItem item = (bytes : List ℕ) × IsKind bytes item.artifact

-- the set of the items, by name
abbrev pub item_set : List Item → List Item
item_set items = by_name (λ item. item.name) items

-- the tables of a set of artifacts, which stand by name, and of the configured fields
abbrev pub tables_of_set : List (List ℕ) → List Item → TableFacts
tables_of_set fields set =
    record {
      links = by_name (λ f. f.name) (links_facts set);
      tags = by_name (λ f. f.name) (tags_facts set);
      leaves = by_name (λ f. f.name) (leaves_facts set);
      files = by_name (λ f. f.name) (files_facts set);
      timeline = by_name (λ r. r.name) (timeline_rows set);
      pages = by_name pages.fact_name (pages_facts set);
      fields = fields;
      tickets = by_name (λ f. f.name) (ticket_facts set);
      threads = by_name (λ f. f.name) (forum_facts set);
      clusters = by_name (λ f. f.name) (cluster_facts set);
    }

-- the tables of items in any order
abbrev pub tables : List (List ℕ) → List Item → TableFacts
tables fields items = tables_of_set fields (item_set items)

-- what contracts see of all tables: the configured fields, the items by name, and the room that the maps inside have to spare, one list a table
pub record Seen : Type 0 where
  pub fields : List (List ℕ)
  pub items : List Item
  pub spare : List (List ℕ)

-- all tables are as before: they have the same fields and the same items, and no less room
pub record IsAsBefore (before now : Seen) : Type 0 where
  pub fields : now.fields ≡ before.fields
  pub items : now.items ≡ before.items
  pub spare : AreAllAtMost before.spare now.spare

-- a change of all tables: what they were, and what they became
pub record Change : Type 0 where
  pub before : Seen
  pub after : Seen

-- Law. Items whose names differ have the same tables in whatever order they stand
abbrev pub SameInAnyOrder : Type 0
SameInAnyOrder =
    (fields : List (List ℕ)) (xs ys : List Item) → AreDistinct (map (λ item. item.name) xs) → IsPermutation xs ys →
    tables fields xs ≡ tables fields ys

-- the set with one item more, or with a new item in place of the one of its name
abbrev pub with_item : Item → List Item → List Item
with_item item items = item_set (item ∷ items)

-- the set with some items more, one after another
abbrev pub added : List Item → List Item → List Item
added set [] = set
added set (item ∷ items) = added (with_item item set) items

-- Law. Items whose names differ, added one after another in whatever order to an empty set, are the set of the items
pub record AddedInAnyOrder : Type 0 where
  pub built : (xs : List Item) → AreDistinct (map (λ item. item.name) xs) → added [] xs ≡ item_set xs
  pub same : (xs ys : List Item) → AreDistinct (map (λ item. item.name) xs) → IsPermutation xs ys → added [] xs ≡ added [] ys

-- the item, public where it has this name
abbrev pub public_at : List ℕ → Item → Item
public_at name item = if bytes_eq item.name name then record item { private = false } else item

-- the set in which the artifact of this name is public
abbrev pub published : List ℕ → List Item → List Item
published name items = map (public_at name) items

-- the set without the artifact of this name
abbrev pub without : List ℕ → List Item → List Item
without name items = filter (λ item. not (bytes_eq item.name name)) items
