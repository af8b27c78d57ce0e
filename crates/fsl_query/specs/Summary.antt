-- The summary of a set of artifacts: how many there are of each sort.
use Rattle.std.specs.Prelude.{ℕ, List, ◌++◌, length, map, filter_map, Option, Some, None, codes}
use Rattle.std.specs.List.{sum_by}
use Rattle.fsl_order.specs.Rows.{ascending}
use Rattle.fsl_artifact.specs.declared.Artifact.{Artifact}
use Rattle.fsl_artifact.specs.declared.Artifact.TheVariants as kind
use Rattle.fsl_tags.specs.Tags.{in_force}
use Rattle.fsl_leaves.specs.Leaves.{leaves}
use Rattle.fsl_timeline.specs.Timeline.{timeline}
use Rattle.fsl_forum.specs.Threads.{place}
use Rattle.fsl_cluster.specs.Clusters.{unclustered, missing}
use Rattle.fsl_cross.specs.declared.Item.{Item}
use Rattle.fsl_cross.specs.Tables.{TableFacts}
use Rattle.fsl_query.specs.declared.Note.{Note}
use Rattle.fsl_query.specs.declared.Note.TheVariants as note
use Rattle.fsl_query.specs.Lines.{count_line}

-- what the summary notes of an artifact
abbrev pub note_of : Artifact → Note
note_of (kind.Manifest m) = note.Checkin
note_of (kind.Ticket t) = note.Ticket t.id
note_of (kind.Forum f) = note.Post
note_of _ = note.Other

-- a name with what is noted of its artifact
abbrev pub entry_of : Item → List ℕ × Note
entry_of item = (item.name, note_of item.artifact)

-- the name, where it is that of a check-in
abbrev pub checkin_in : List ℕ × Note → Option (List ℕ)
checkin_in (name, note.Checkin) = Some name
checkin_in _ = None

-- the id of the ticket, where it is a change of one
abbrev pub id_in : List ℕ × Note → Option (List ℕ)
id_in (name, note.Ticket id) = Some id
id_in _ = None

-- the name, where it is that of a post
abbrev pub post_in : List ℕ × Note → Option (List ℕ)
post_in (name, note.Post) = Some name
post_in _ = None

-- the pairs of one of these names and a tag in force on it
abbrev pub tags_on : TableFacts → List (List ℕ) → ℕ
tags_on t names = sum_by (λ name. length (in_force t.tags name)) names

-- the threads of the valid ones of these posts
abbrev pub threads_of : TableFacts → List (List ℕ) → List (List ℕ)
threads_of t posts = filter_map (place t.threads) posts

-- how many different names there are
abbrev pub different : List (List ℕ) → ℕ
different names = length (ascending names)

-- the lines of what the artifacts are: check-ins, and leaves and tags among them
abbrev pub checkin_lines : TableFacts → List (List ℕ × Note) → List ℕ
checkin_lines t noted =
    count_line (codes "checkins") (length (filter_map checkin_in noted))
    ++ count_line (codes "leaves") (length (leaves t.leaves))
    ++ count_line (codes "tags") (tags_on t (filter_map checkin_in noted))

-- the rows of the timeline, the tickets that changes name, and the threads with a valid post
abbrev pub event_lines : TableFacts → List (List ℕ × Note) → List ℕ
event_lines t noted =
    count_line (codes "timeline") (length (timeline t.timeline))
    ++ count_line (codes "tickets") (different (filter_map id_in noted))
    ++ count_line (codes "threads") (different (threads_of t (filter_map post_in noted)))

-- the names that stand in no cluster, and those that are named and not there
abbrev pub cluster_lines : TableFacts → List ℕ
cluster_lines t =
    count_line (codes "unclustered") (length (unclustered t.clusters)) ++ count_line (codes "wanted") (length (missing t.clusters))

-- the summary of the items, by their tables
abbrev pub summary : TableFacts → List Item → List ℕ
summary t items =
    let noted = map entry_of items in
    count_line (codes "artifacts") (length items) ++ checkin_lines t noted ++ event_lines t noted ++ cluster_lines t
