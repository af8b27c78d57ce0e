-- What items give while a table is changed, one name after another.
use Rattle.std.specs.Prelude.{◌≡◌, ℕ, ◌≤◌, List, [], ◌∷◌, Bool, not, ◌&&◌, if◌then◌else◌, cond, Option, Some, None, false, is_some, map, filter_map, flat_map, length}
use Rattle.std.specs.Str.{bytes_eq}
use Rattle.std.specs.List.Sorted.{IsStrictlySortedBy}
use Rattle.fsl_order.specs.Names.{bytes_cmp, has}
use Rattle.fsl_order.specs.Rows.{named}
use Rattle.fsl_order.specs.TableState.{TableState, Change}
use Rattle.fsl_table.specs.Pairs.{is_name}
use Rattle.fsl_links.specs.declared.Fact as links
use Rattle.fsl_links.specs.Links.{primary}
use Rattle.fsl_tags.specs.declared.Fact as tags
use Rattle.fsl_leaves.specs.declared.Fact as leaves
use Rattle.fsl_wiki.specs.declared.Fact as wiki
use Rattle.fsl_forum.specs.declared.Fact as forum
use Rattle.fsl_timeline.specs.declared.Row.{Row}
use Rattle.fsl_cross.specs.declared.Item.{Item}
use Rattle.fsl_cross.specs.Facts.{as_manifest}
use Rattle.fsl_cross.specs.Checkins.{links_facts, tags_fact, tags_facts, checkin}
use Rattle.fsl_cross.specs.Trails.{Leads, LinksTold, TagsTold, PagesTold, ThreadsTold}
use Rattle.fsl_cross.specs.Tables.{leaves_fact, pages_facts, forum_facts, timeline_row_of, without}

-- the new gift at the names that are done, the old one elsewhere
abbrev pub mixed : {X F : Type 0} → (X → List ℕ) → (X → Option F) → (X → Option F) → List (List ℕ) → X → Option F
mixed name old new done x = cond (has done (name x)) (new x) (old x)

-- the row of the timeline that an item gives
abbrev pub timeline_row : List Item → Item → Option Row
timeline_row items item = timeline_row_of items item.name item.artifact

-- the facts of a set, where those of the names that are done are by the whole set and the others by the set without one name
abbrev pub tags_mixed : List Item → List ℕ → List (List ℕ) → List tags.Fact
tags_mixed items n done = filter_map (mixed (λ item. item.name) (tags_fact (without n items)) (tags_fact items) done) items

abbrev pub leaves_mixed : List Item → List ℕ → List (List ℕ) → List leaves.Fact
leaves_mixed items n done = filter_map (mixed (λ item. item.name) (leaves_fact (without n items)) (leaves_fact items) done) items

abbrev pub rows_mixed : List Item → List ℕ → List (List ℕ) → List Row
rows_mixed items n done = filter_map (mixed (λ item. item.name) (timeline_row (without n items)) (timeline_row items) done) items

-- facts are a mixture, with some names done
abbrev pub IsMixture : {F : Type 0} → (List (List ℕ) → List F) → List F → Type 0
IsMixture mixture facts = (done : List (List ℕ)) × (facts ≡ mixture done)

-- whichever names were done before, these are done now
abbrev pub GoesOn : {F : Type 0} → (List (List ℕ) → List F) → (List (List ℕ) → List (List ℕ)) → List F → List F → Type 0
GoesOn mixture more before now = (done : List (List ℕ)) → before ≡ mixture done → now ≡ mixture (more done)

-- names that pass a test, one after another in front of those that are done
abbrev pub pushed : (List ℕ → Bool) → List (List ℕ) → List (List ℕ) → List (List ℕ)
pushed test [] done = done
pushed test (q ∷ qs) done = pushed test qs (if test q then q ∷ done else done)

-- whether another check-in has the name as its primary parent
abbrev pub is_child : List Item → List ℕ → List ℕ → Bool
is_child items n q = not (bytes_eq q n) && is_name (primary (links_facts items) q) n

-- whether another name is that of a check-in
abbrev pub is_other_checkin : List Item → List ℕ → List ℕ → Bool
is_other_checkin items n q = not (bytes_eq q n) && is_some (checkin items q)

-- each of some names that has the name as its primary parent, or is that of another check-in, has its new fact
abbrev pub TagsGo : List Item → List ℕ → List (List ℕ) → List tags.Fact → List tags.Fact → Type 0
TagsGo items n names before now = GoesOn (tags_mixed items n) (pushed (is_child items n) names) before now

abbrev pub LeavesGo : List Item → List ℕ → List (List ℕ) → List leaves.Fact → List leaves.Fact → Type 0
LeavesGo items n names before now = GoesOn (leaves_mixed items n) (pushed (is_other_checkin items n) names) before now

abbrev pub RowsGo : List Item → List ℕ → List (List ℕ) → List Row → List Row → Type 0
RowsGo items n names before now = GoesOn (rows_mixed items n) (pushed (is_other_checkin items n) names) before now

-- the names whose rows some changes changed
abbrev pub all_changed : {F : Type 0} → List (Change F) → List (List ℕ)
all_changed us = flat_map (λ u. u.changed) us

-- the name of a new artifact, and those of other check-ins whose rows some changes changed
abbrev pub tagged_done : {F : Type 0} → List Item → List ℕ → List (Change F) → List (List ℕ)
tagged_done items n us = pushed (is_other_checkin items n) (all_changed us) (n ∷ [])

-- the items rise by name, and this is one of them
pub record IsIn (items : List Item) (item : Item) : Type 0 where
  pub rising : IsStrictlySortedBy bytes_cmp (map (λ i. i.name) items)
  pub there : named (λ i. i.name) items item.name ≡ Some item

-- changes of the table of parentage led from the set without one name to the whole set
pub record IsLinksTrail (items : List Item) (n : List ℕ) (us : List (Change links.Fact)) (now : TableState links.Fact) : Type 0 where
  pub first : TableState links.Fact
  pub before : first.facts ≡ links_facts (without n items)
  pub leads : Leads first us now
  pub told : LinksTold us

-- so did changes of the table of tags
pub record IsTagsTrail (items : List Item) (n : List ℕ) (us : List (Change tags.Fact)) (now : TableState tags.Fact) : Type 0 where
  pub first : TableState tags.Fact
  pub before : first.facts ≡ tags_facts (without n items)
  pub leads : Leads first us now
  pub told : TagsTold us

-- so did the change of the table of pages, where there is one
pub record IsPagesTrail (items : List Item) (n : List ℕ) (us : List (Change wiki.Fact)) (now : TableState wiki.Fact) : Type 0 where
  pub first : TableState wiki.Fact
  pub before : first.facts ≡ pages_facts (without n items)
  pub leads : Leads first us now
  pub told : PagesTold us
  pub single : length us ≤ 1

-- so did that of the table of posts
pub record IsThreadsTrail (items : List Item) (n : List ℕ) (us : List (Change forum.Fact)) (now : TableState forum.Fact) : Type 0 where
  pub first : TableState forum.Fact
  pub before : first.facts ≡ forum_facts (without n items)
  pub leads : Leads first us now
  pub told : ThreadsTold us
  pub single : length us ≤ 1

-- the row of each other artifact that is no check-in is the same with and without the one of this name
abbrev pub OtherRowsStay : List Item → List ℕ → Type 0
OtherRowsStay items n = (item : Item) → bytes_eq item.name n ≡ false → as_manifest item.artifact ≡ None → timeline_row items item ≡ timeline_row (without n items) item
