-- What the tables of a set hold.
use Rattle.std.specs.Prelude.{◌≡◌, ℕ, List, [], ◌∷◌, All, map, filter_map}
use Rattle.std.specs.List.Sorted.{IsStrictlySortedBy}
use Rattle.fsl_order.specs.Names.{bytes_cmp}
use Rattle.fsl_cross.specs.declared.Item.{Item}
use Rattle.fsl_cross.specs.declared.attached.Attached.{Attached}
use Rattle.fsl_cross.specs.declared.history.History.{History}
use Rattle.fsl_cross.specs.declared.contents.Contents.{Contents}
use Rattle.fsl_cross.specs.declared.derived.Derived.{Derived}
use Rattle.fsl_cross.specs.Attached.{ArePairs, target_pair, change_pair}
use Rattle.fsl_cross.specs.Checkins.{links_facts, tags_facts}
use Rattle.fsl_cross.specs.Tables.{IsItem, leaves_facts, files_facts, pages_facts, ticket_facts, forum_facts, cluster_facts, timeline_rows}

-- the tables of parentage, tags and leaves have the facts that the items give
pub record IsHistoryOf (items : List Item) (h : History) : Type 0 where
  pub links : h.links.facts ≡ links_facts items
  pub tags : h.tags.facts ≡ tags_facts items
  pub leaves : h.leaves.facts ≡ leaves_facts items

-- so have those of files, pages, tickets, posts and clusters
pub record AreContentsOf (fields : List (List ℕ)) (items : List Item) (c : Contents) : Type 0 where
  pub files : c.files.facts ≡ files_facts items
  pub pages : c.pages.facts ≡ pages_facts items
  pub configured : c.tickets.fields ≡ fields
  pub tickets : c.tickets.facts ≡ ticket_facts items
  pub threads : c.threads.facts ≡ forum_facts items
  pub clusters : c.clusters.facts ≡ cluster_facts items

-- the pairs of attachments and of ticket changes are those of the items
pub record IsAttachedOf (items : List Item) (a : Attached) : Type 0 where
  pub targets : ArePairs (filter_map target_pair items) a.targets.entries
  pub changes : ArePairs (filter_map change_pair items) a.changes.entries

-- the items rise by name, each is what some bytes are, and each table has the facts that they give
pub record AreTablesOf (fields : List (List ℕ)) (items : List Item) (d : Derived) : Type 0 where
  pub rising : IsStrictlySortedBy bytes_cmp (map (λ item. item.name) items)
  pub kinds : All IsItem items
  pub history : IsHistoryOf items d.history
  pub contents : AreContentsOf fields items d.contents
  pub timeline : d.timeline.facts ≡ timeline_rows items
  pub attached : IsAttachedOf items d.attached

-- the room that each table has to spare
abbrev pub spare_of : Derived → List (List ℕ)
spare_of d =
    d.history.links.spare ∷ d.history.tags.spare ∷ d.history.leaves.spare ∷ d.contents.files.spare ∷ d.timeline.spare ∷ d.contents.pages.spare ∷ d.contents.tickets.spare
    ∷ d.contents.threads.spare ∷ d.contents.clusters.spare ∷ (d.attached.targets.spare ∷ d.attached.changes.spare ∷ []) ∷ []
