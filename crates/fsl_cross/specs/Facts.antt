-- What one artifact gives to each table, apart from what other artifacts decide.
use Rattle.std.specs.Prelude.{ℕ, List, [], Bool, Option, Some, None, is_some, map, filter_map, slice_get, unwrap_or, option_map}
use Rattle.std.specs.List.{enumerate_from}
use Rattle.fsl_name.specs.Ref.{own_name, own_names}
use Rattle.fsl_name.specs.declared.reference.Ref.{Ref}
use Rattle.fsl_grammar.specs.declared.Prefix.{Prefix}
use Rattle.fsl_grammar.specs.declared.Prefix.TheVariants as card
use Rattle.fsl_grammar.specs.declared.TagCard.{TagCard}
use Rattle.fsl_manifest.specs.declared.Perm.{Perm}
use Rattle.fsl_manifest.specs.declared.Perm.TheVariants as perm
use Rattle.fsl_manifest.specs.declared.FileCard.{FileCard}
use Rattle.fsl_manifest.specs.declared.Manifest.{Manifest}
use Rattle.fsl_forms.specs.declared.ticket.TicketChange.{TicketChange}
use Rattle.fsl_artifact.specs.declared.Artifact.{Artifact}
use Rattle.fsl_artifact.specs.declared.Artifact.TheVariants as kind
use Rattle.fsl_artifact.specs.References.{members, references}
use Rattle.fsl_links.specs.declared.Fact as links
use Rattle.fsl_tags.specs.declared.Assertion.{Assertion}
use Rattle.fsl_tags.specs.declared.Prefix as tag_prefix
use Rattle.fsl_tags.specs.declared.Prefix.TheVariants as tag
use Rattle.fsl_files.specs.declared.Fact as files
use Rattle.fsl_files.specs.declared.FileRow.{FileRow}
use Rattle.fsl_files.specs.declared.Perm as row_perm
use Rattle.fsl_files.specs.declared.Perm.TheVariants as row
use Rattle.fsl_wiki.specs.declared.Fact as wiki
use Rattle.fsl_wiki.specs.declared.Fact.TheVariants as pages
use Rattle.fsl_ticket.specs.declared.Fact as ticket
use Rattle.fsl_ticket.specs.declared.FieldChange.{FieldChange}
use Rattle.fsl_forum.specs.declared.Fact as forum
use Rattle.fsl_cluster.specs.declared.Fact as cluster
use Rattle.fsl_cross.specs.declared.Item.{Item}

-- the manifest, where the artifact is one
abbrev pub as_manifest : Artifact → Option Manifest
as_manifest (kind.Manifest m) = Some m
as_manifest _ = None

-- the date and the T cards of a manifest, a control artifact or a technote
abbrev pub tag_cards : Artifact → Option (ℕ × List TagCard)
tag_cards (kind.Manifest m) = Some (m.date, m.tags)
tag_cards (kind.Control c) = Some (c.date, c.tags)
tag_cards (kind.Technote t) = Some (t.date, t.tags)
tag_cards _ = None

-- a prefix and a permission as the tables have them
abbrev pub tag_prefix_of : Prefix → tag_prefix.Prefix
tag_prefix_of card.Once = tag.Once
tag_prefix_of card.Cancel = tag.Cancel
tag_prefix_of card.Propagate = tag.Propagate

abbrev pub row_perm_of : Perm → row_perm.Perm
row_perm_of perm.Plain = row.Plain
row_perm_of perm.Writable = row.Writable
row_perm_of perm.Exec = row.Exec
row_perm_of perm.Symlink = row.Symlink

-- what a T card of an artifact is on: without a target the artifact itself; on a foreign target it asserts nothing
abbrev pub target_of : List ℕ → Option Ref → Option (List ℕ)
target_of source None = Some source
target_of source (Some r) = own_name r

-- whether a T card asserts something
abbrev pub asserts : TagCard → Bool
asserts card = is_some (target_of [] card.target)

-- the assertion of the T card at a place, counted from 0, on a target; a missing value is empty
abbrev pub assertion_on : ℕ → List ℕ → ℕ × TagCard → List ℕ → Assertion
assertion_on date source numbered target =
    record {
      date = date;
      source = source;
      place = numbered.0;
      prefix = tag_prefix_of numbered.1.prefix;
      tag = numbered.1.tag;
      value = unwrap_or numbered.1.value [];
      target = target;
    }

abbrev pub assertion : ℕ → List ℕ → ℕ × TagCard → Option Assertion
assertion date source numbered = option_map (assertion_on date source numbered) (target_of source numbered.1.target)

-- the assertions of an artifact; the places count all its T cards
abbrev pub assertions : Item → ℕ × List TagCard → List Assertion
assertions item cards = filter_map (assertion cards.0 item.name) (enumerate_from 0 cards.1)

-- the own names of the P card of a check-in; the first of them is its first P name, which is never foreign
abbrev pub parent_names : Manifest → List (List ℕ)
parent_names m = own_names m.parents

-- a check-in with its parents
abbrev pub links_fact : Item → Option links.Fact
links_fact item = option_map (λ m. record { name = item.name; parents = parent_names m }) (as_manifest item.artifact)

-- a file of a check-in
abbrev pub file_row : FileCard → FileRow
file_row f = record { path = f.path; hash = f.hash; perm = row_perm_of f.perm }

-- a check-in with its B name, its first P name and its F cards
abbrev pub files_fact : Item → Option files.Fact
files_fact item =
    option_map (λ m. record { name = item.name; baseline = m.baseline; parent = slice_get (parent_names m) 0; files = map file_row m.files }) (as_manifest item.artifact)

-- a wiki page, a technote or an attachment
abbrev pub pages_fact_of : List ℕ → Artifact → Option wiki.Fact
pages_fact_of name (kind.Wiki w) = Some (pages.Page (record { name = name; date = w.date; title = w.title; user = w.user }))
pages_fact_of name (kind.Attachment a) = Some (pages.Attached (record { name = name; date = a.date; target = a.target; file = a.file; sourced = is_some a.source }))
pages_fact_of name (kind.Technote t) = Some (pages.Note (record { name = name; date = t.date; time = t.time; id = t.id }))
pages_fact_of name _ = None

abbrev pub pages_fact : Item → Option wiki.Fact
pages_fact item = pages_fact_of item.name item.artifact

-- what a J card says; a missing value is empty
abbrev pub field_change : TicketChange → FieldChange
field_change c = record { append = c.append; field = c.field; value = unwrap_or c.value [] }

-- a ticket change
abbrev pub ticket_fact_of : List ℕ → Artifact → Option ticket.Fact
ticket_fact_of name (kind.Ticket t) = Some (record { name = name; date = t.date; id = t.id; changes = map field_change t.changes })
ticket_fact_of name _ = None

abbrev pub ticket_fact : Item → Option ticket.Fact
ticket_fact item = ticket_fact_of item.name item.artifact

-- a forum post
abbrev pub forum_fact_of : List ℕ → Artifact → Option forum.Fact
forum_fact_of name (kind.Forum f) = Some (record { name = name; date = f.date; user = f.user; root = f.root; reply = f.reply; prior = f.prior })
forum_fact_of name _ = None

abbrev pub forum_fact : Item → Option forum.Fact
forum_fact item = forum_fact_of item.name item.artifact

-- any artifact, with its members and references
abbrev pub cluster_fact : Item → cluster.Fact
cluster_fact item = record { name = item.name; private = item.private; members = members item.artifact; refs = references item.artifact }
