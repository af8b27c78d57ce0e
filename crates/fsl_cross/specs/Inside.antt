-- The facts and the values of check-ins over the facts of a table, and what the tables of a set hold.
use Rattle.std.specs.Prelude.{ℕ, List, [], Bool, false, if◌then◌else◌, Option, Some, None, is_some, filter_map, slice_get, option_map, option_and_then, unwrap_or, codes}
use Rattle.std.specs.List.{list_any}
use Rattle.std.specs.Option.{option_eq, option_map_or}
use Rattle.std.specs.Str.{bytes_eq}
use Rattle.fsl_order.specs.Rows.{named}
use Rattle.fsl_name.specs.Name.{name_text}
use Rattle.fsl_date.specs.Moment.{date_in}
use Rattle.fsl_manifest.specs.declared.Manifest.{Manifest}
use Rattle.fsl_forms.specs.declared.control.Control.{Control}
use Rattle.fsl_forms.specs.declared.wiki.Wiki.{Wiki}
use Rattle.fsl_forms.specs.declared.ticket.Ticket.{Ticket}
use Rattle.fsl_forms.specs.declared.attachment.Attachment.{Attachment}
use Rattle.fsl_forms.specs.declared.technote.Technote.{Technote}
use Rattle.fsl_forms.specs.declared.forum.Forum.{Forum}
use Rattle.fsl_artifact.specs.declared.Artifact.{Artifact}
use Rattle.fsl_artifact.specs.declared.Artifact.TheVariants as kind
use Rattle.fsl_links.specs.declared.Fact as links
use Rattle.fsl_links.specs.Links.{primary}
use Rattle.fsl_tags.specs.declared.Fact as tags
use Rattle.fsl_tags.specs.Tags.{force}
use Rattle.fsl_leaves.specs.declared.Fact as leaves
use Rattle.fsl_timeline.specs.declared.Row.{Row}
use Rattle.fsl_timeline.specs.declared.RowKind.{RowKind}
use Rattle.fsl_timeline.specs.declared.RowKind.TheVariants as row
use Rattle.fsl_wiki.specs.declared.Fact as wiki
use Rattle.fsl_wiki.specs.Pages as pages
use Rattle.fsl_forum.specs.declared.Fact as forum
use Rattle.fsl_forum.specs.Threads as threads
use Rattle.fsl_cross.specs.declared.Item.{Item}
use Rattle.fsl_cross.specs.declared.Values.{Values}
use Rattle.fsl_cross.specs.Facts.{as_manifest, tag_cards, assertions, pages_fact, ticket_fact, parent_names}
use Rattle.fsl_cross.specs.Tables.{pages_facts, ticket_facts, tag_text}

-- an artifact that may have T cards, with its assertions and its primary parent by some facts
abbrev pub tags_fact_over : List links.Fact → Item → Option tags.Fact
tags_fact_over facts item =
    option_map (λ cards. record {
      name = item.name;
      checkin = is_some (as_manifest item.artifact);
      parent = primary facts item.name;
      tags = assertions item cards;
    }) (tag_cards item.artifact)

-- the value of a tag, where it is in force by some facts
abbrev pub forced_over : List tags.Fact → List ℕ → List ℕ → Option (List ℕ)
forced_over facts name tag = option_map (λ a. a.value) (force facts name tag)

-- .. else another value
abbrev pub text_over : List tags.Fact → List ℕ → List ℕ → List ℕ → List ℕ
text_over facts name tag card = unwrap_or (forced_over facts name tag) card

-- the branch of a check-in
abbrev pub branch_over : List tags.Fact → List ℕ → List ℕ
branch_over facts name = text_over facts name (codes "branch") (codes "trunk")

-- its date
abbrev pub date_over : List tags.Fact → List ℕ → Manifest → ℕ
date_over facts name m = unwrap_or (option_and_then date_in (forced_over facts name (codes "date"))) m.date

-- its values
abbrev pub values_over : List tags.Fact → List ℕ → Manifest → Values
values_over facts name m =
    record {
      comment = text_over facts name (codes "comment") m.comment;
      user = text_over facts name (codes "user") m.user;
      date = date_over facts name m;
      branch = branch_over facts name;
    }

-- a check-in with its parents and its branch
abbrev pub leaves_fact_over : List tags.Fact → Item → Option leaves.Fact
leaves_fact_over facts item =
    option_map (λ m. record { name = item.name; parents = parent_names m; branch = branch_over facts item.name }) (as_manifest item.artifact)

-- the date and the name of the check-in of a name
abbrev pub dated_over : List tags.Fact → List Item → List ℕ → Option (ℕ × List ℕ)
dated_over facts items name =
    option_map (λ m. (date_over facts name m, name)) (option_and_then (λ item. as_manifest item.artifact) (named (λ item. item.name) items name))

-- whether a text is the id of a ticket change in 40 digits
abbrev pub is_ticket : List Item → List ℕ → Bool
is_ticket items target = list_any (λ f. bytes_eq (name_text f.id) target) (ticket_facts items)

-- .. of a technote
abbrev pub is_note : List Item → List ℕ → Bool
is_note items target = list_any (λ n. bytes_eq (name_text n.id) target) (filter_map pages.as_note (pages_facts items))

-- what one artifact adds to the ids of ticket changes, and to those of technotes
abbrev pub has_ticket : Item → List ℕ → Bool
has_ticket item target = option_map_or (λ f. bytes_eq (name_text f.id) target) (ticket_fact item) false

abbrev pub has_note : Item → List ℕ → Bool
has_note item target = option_map_or (λ n. bytes_eq (name_text n.id) target) (option_and_then pages.as_note (pages_fact item)) false

-- the kind of an attachment, by whether its target is the id of a ticket, and of a technote
abbrev pub kind_by : Bool → Bool → RowKind
kind_by on_ticket on_note = if on_ticket then row.Ticket else (if on_note then row.Note else row.Wiki)

-- a check-in's row by facts of tags
abbrev pub checkin_row : List tags.Fact → List ℕ → Manifest → Row
checkin_row facts name m =
    record {
      time = date_over facts name m;
      name = name;
      kind = row.Checkin;
      user = text_over facts name (codes "user") m.user;
      text = text_over facts name (codes "comment") m.comment;
    }

-- a version's of a wiki page
abbrev pub page_row : List ℕ → Wiki → Row
page_row name w = record { time = w.date; name = name; kind = row.Wiki; user = w.user; text = w.title }

-- a ticket change's
abbrev pub ticket_row : List ℕ → Ticket → Row
ticket_row name t = record { time = t.date; name = name; kind = row.Ticket; user = t.user; text = name_text t.id }

-- a technote's by facts of technotes, where it is the current one
abbrev pub note_row : List wiki.Fact → List ℕ → Technote → Option Row
note_row facts name t =
    if option_eq bytes_eq (pages.note facts t.id) (Some name)
    then Some (record { time = t.time; name = name; kind = row.Note; user = unwrap_or t.user []; text = unwrap_or t.comment [] })
    else None

-- an attachment's
abbrev pub attachment_row : RowKind → List ℕ → Attachment → Row
attachment_row what name a = record { time = a.date; name = name; kind = what; user = unwrap_or a.user []; text = a.file }

-- a post's by facts of posts, where it is valid
abbrev pub post_row : List forum.Fact → List ℕ → Forum → Option Row
post_row facts name f =
    if is_some (threads.place facts name)
    then Some (record { time = f.date; name = name; kind = row.Forum; user = f.user; text = unwrap_or f.title [] })
    else None

-- a control artifact's
abbrev pub control_row : List ℕ → Control → Row
control_row name c = record { time = c.date; name = name; kind = row.Tag; user = c.user; text = option_map_or tag_text (slice_get c.tags 0) [] }

-- the row of an artifact by facts of tags, technotes and posts, and by tests of the ids of tickets and technotes
abbrev pub row_over : List tags.Fact → List wiki.Fact → List forum.Fact → (List ℕ → Bool) → (List ℕ → Bool) → List ℕ → Artifact → Option Row
row_over ts ps fs on_ticket on_note name (kind.Manifest m) = Some (checkin_row ts name m)
row_over ts ps fs on_ticket on_note name (kind.Wiki w) = Some (page_row name w)
row_over ts ps fs on_ticket on_note name (kind.Ticket t) = Some (ticket_row name t)
row_over ts ps fs on_ticket on_note name (kind.Technote t) = note_row ps name t
row_over ts ps fs on_ticket on_note name (kind.Attachment a) = Some (attachment_row (kind_by (on_ticket a.target) (on_note a.target)) name a)
row_over ts ps fs on_ticket on_note name (kind.Forum f) = post_row fs name f
row_over ts ps fs on_ticket on_note name (kind.Control c) = Some (control_row name c)
row_over ts ps fs on_ticket on_note name _ = None

abbrev pub item_row_over : List tags.Fact → List wiki.Fact → List forum.Fact → (List ℕ → Bool) → (List ℕ → Bool) → Item → Option Row
item_row_over ts ps fs on_ticket on_note item = row_over ts ps fs on_ticket on_note item.name item.artifact
