-- Attachments, whose kind depends on the ticket changes and the technotes of the id that is their target.
use Rattle.std.specs.Prelude.{◌≡◌, ℕ, List, [], Bool, true, false, Option, Some, None, All, IfSome, is_some, option_and_then}
use Rattle.std.specs.Option.{option_map_or}
use Rattle.fsl_order.specs.TableState.{TableState}
use Rattle.fsl_order.specs.Names.{has}
use Rattle.fsl_order.specs.Rows.{named}
use Rattle.fsl_name.specs.Name.{name_text}
use Rattle.fsl_table.specs.Pairs.{seconds}
use Rattle.fsl_forms.specs.declared.attachment.Attachment.{Attachment}
use Rattle.fsl_artifact.specs.declared.Artifact.{Artifact}
use Rattle.fsl_artifact.specs.declared.Artifact.TheVariants as kind
use Rattle.fsl_tags.specs.declared.Fact as tags
use Rattle.fsl_wiki.specs.declared.Fact as wiki
use Rattle.fsl_timeline.specs.declared.Row.{Row}
use Rattle.fsl_timeline.specs.declared.RowKind.{RowKind}
use Rattle.fsl_timeline.specs.declared.RowKind.TheVariants as row
use Rattle.fsl_cross.specs.declared.Item.{Item}
use Rattle.fsl_cross.specs.declared.attached.Attached.{Attached}
use Rattle.fsl_cross.specs.Built.{IsAttachedOf}
use Rattle.fsl_cross.specs.Tables.{IsItem, attachment_kind, pages_facts}
use Rattle.fsl_cross.specs.Inside.{checkin_row, control_row, page_row, attachment_row}
use Rattle.fsl_cross.specs.Mixed.{GoesOn, pushed, rows_mixed}

-- ---- attachments

-- the attachment, where the artifact is one
abbrev pub as_attachment : Artifact → Option Attachment
as_attachment (kind.Attachment a) = Some a
as_attachment _ = None

-- the attachment of a name
abbrev pub attachment : List Item → List ℕ → Option Attachment
attachment items name = option_and_then (λ item. as_attachment item.artifact) (named (λ item. item.name) items name)

-- whether a name is that of one
abbrev pub is_attachment : List Item → List ℕ → Bool
is_attachment items name = is_some (attachment items name)

-- the kind that an attachment has; other artifacts have none, and are given that of the wiki
abbrev pub target_kind : List Item → Artifact → RowKind
target_kind items a = option_map_or (λ at. attachment_kind items at.target) (as_attachment a) row.Wiki

-- the attachment of a name, if there is one, has this kind
abbrev pub IsOfKind : RowKind → List Item → List ℕ → Type 0
IsOfKind what items name = IfSome (attachment items name) (λ a. attachment_kind items a.target ≡ what)

-- so have those of some names
abbrev pub AreOfKind : RowKind → List Item → List (List ℕ) → Type 0
AreOfKind what items names = (name : List ℕ) → has names name ≡ true → IsOfKind what items name

-- each of some names that is an attachment's has its new row
abbrev pub KindsGo : List Item → List ℕ → List (List ℕ) → List Row → List Row → Type 0
KindsGo items n names before now = GoesOn (rows_mixed items n) (pushed (is_attachment items) names) before now

-- it holds of whatever items these are the tables of
abbrev pub OfItems : Attached → TableState wiki.Fact → (List Item → Type 0) → Type 0
OfItems attached pages P = (items : List Item) → All IsItem items → IsAttachedOf items attached → pages.facts ≡ pages_facts items → P items

-- ---- what gives them their kind

-- the id of a ticket change or of a technote
abbrev pub own_id : Artifact → Option (List ℕ)
own_id (kind.Ticket t) = Some t.id
own_id (kind.Technote t) = Some t.id
own_id _ = None

-- the kind of the attachments of that id
abbrev pub own_kind : List Item → Artifact → RowKind
own_kind items a = option_map_or (λ id. attachment_kind items (name_text id)) (own_id a) row.Wiki

-- their names
abbrev pub own_names : Attached → Artifact → List (List ℕ)
own_names attached a = option_map_or (λ id. seconds id attached.targets.entries) (own_id a) []

-- ---- rows

-- whether no row of another artifact depends on it but by tags: it is no technote, no post and no ticket change
abbrev pub is_alone : Artifact → Bool
is_alone (kind.Technote t) = false
is_alone (kind.Forum f) = false
is_alone (kind.Ticket t) = false
is_alone _ = true

-- the row of such an artifact, by facts of tags and the kind of its target
abbrev pub own_row : List tags.Fact → RowKind → List ℕ → Artifact → Option Row
own_row ts what name (kind.Manifest m) = Some (checkin_row ts name m)
own_row ts what name (kind.Wiki w) = Some (page_row name w)
own_row ts what name (kind.Attachment a) = Some (attachment_row what name a)
own_row ts what name (kind.Control c) = Some (control_row name c)
own_row ts what name _ = None
