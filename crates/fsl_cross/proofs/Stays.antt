-- The facts and rows that an artifact more leaves as they were.
use Rattle.std.proofs.Common.{◌≡◌, ℕ, true, false, List, [], ◌∷◌, Option, Some, None, cond, refl, sym, ap, ◌∙◌}
use Rattle.std.specs.Prelude.{◌||◌, filter, filter_map, option_map, option_and_then, unwrap_or, IfSome}
use Rattle.std.specs.List.{list_any, cons_option}
use Rattle.std.specs.Option.{option_eq, option_map_or}
use Rattle.std.specs.Ordering.{on}
use Rattle.std.specs.Str.{bytes_eq}
use Rattle.fsl_name.specs.Name.{name_text}
use Rattle.fsl_order.specs.Names.{dated_cmp}
use Rattle.fsl_order.specs.Rows.{named, greatest}
use Rattle.fsl_forms.specs.declared.attachment.Attachment.{Attachment}
use Rattle.fsl_forms.specs.declared.technote.Technote.{Technote}
use Rattle.fsl_artifact.specs.declared.Artifact.{Artifact}
use Rattle.fsl_artifact.specs.declared.Artifact.TheVariants as kind
use Rattle.fsl_wiki.specs.declared.Fact as wiki
use Rattle.fsl_wiki.specs.declared.Note.{Note}
use Rattle.fsl_wiki.specs.Pages as pages
use Rattle.fsl_timeline.specs.declared.Row.{Row}
use Rattle.fsl_timeline.specs.declared.RowKind.{RowKind}
use Rattle.fsl_timeline.specs.declared.RowKind.TheVariants as row
use Rattle.fsl_ticket.specs.declared.Fact as ticket
use Rattle.fsl_forum.specs.declared.Fact as forum
use Rattle.fsl_cross.specs.declared.Item.{Item}
use Rattle.fsl_cross.specs.Facts.{as_manifest, pages_fact, pages_fact_of, ticket_fact, ticket_fact_of, forum_fact, forum_fact_of}
use Rattle.fsl_cross.specs.Checkins.{tags_facts}
use Rattle.fsl_cross.specs.Kinds.{as_attachment, target_kind, own_row, is_alone}
use Rattle.fsl_cross.specs.Tables.{pages_facts, forum_facts, attachment_kind, timeline_row_of, without}
use Rattle.fsl_cross.specs.Inside.{is_ticket, is_note, has_ticket, has_note, kind_by, attachment_row, post_row}
use Rattle.fsl_cross.specs.Mixed.{OtherRowsStay, timeline_row}
use Rattle.fsl_cross.proofs.Moved.{item_name}
use Rattle.fsl_cross.proofs.FactLemmas.{Rise}
use Rattle.fsl_cross.proofs.TableLemmas.{ticket-own, forum-own}
use Rattle.fsl_cross.proofs.Added.{none-added}
use Rattle.fsl_cross.proofs.PairsAdded.{any-with}

-- ---- rows of kinds

-- the row of an attachment
pub row-attachment : (items : List Item) (name : List ℕ) (a : Artifact) (file : Attachment) → as_attachment a ≡ Some file → timeline_row_of items name a ≡ Some (attachment_row (attachment_kind items file.target) name file)
row-attachment items name (kind.Attachment w) file e = ap (λ (f : Attachment). Some (attachment_row (attachment_kind items f.target) name f)) (inside e)
  where
    inside : Some w ≡ Some file → w ≡ file
    inside r = cc
row-attachment items name (kind.Manifest w) file e = cc
row-attachment items name kind.Plain file e = cc
row-attachment items name (kind.Cluster w) file e = cc
row-attachment items name (kind.Control w) file e = cc
row-attachment items name (kind.Wiki w) file e = cc
row-attachment items name (kind.Ticket w) file e = cc
row-attachment items name (kind.Technote w) file e = cc
row-attachment items name (kind.Forum w) file e = cc

-- an artifact's own row, by the kind of its target
pub row-own_kind : (items : List Item) (what : RowKind) (name : List ℕ) (a : Artifact) → is_alone a ≡ true → what ≡ target_kind items a → own_row (tags_facts items) what name a ≡ timeline_row_of items name a
row-own_kind items what name (kind.Attachment a) own is = ap (λ k. Some (attachment_row k name a)) is
row-own_kind items what name (kind.Manifest m) own is = refl
row-own_kind items what name (kind.Control c) own is = refl
row-own_kind items what name (kind.Cluster c) own is = refl
row-own_kind items what name kind.Plain own is = refl
row-own_kind items what name (kind.Wiki w) own is = refl
row-own_kind items what name (kind.Ticket w) own is = cc
row-own_kind items what name (kind.Technote w) own is = cc
row-own_kind items what name (kind.Forum w) own is = cc

-- the technotes among the facts
abbrev pub notes_of : List Item → List Note
notes_of items = filter_map pages.as_note (pages_facts items)

abbrev pub note_of : Item → Option Note
note_of item = option_and_then pages.as_note (pages_fact item)

pub notes-given : (items : List Item) → notes_of items ≡ filter_map note_of items
notes-given [] = refl
notes-given (item ∷ items) = by (pages_fact item) (notes-given items)
  where
    by : (o : Option wiki.Fact) → notes_of items ≡ filter_map note_of items → filter_map pages.as_note (cons_option o (pages_facts items)) ≡ cons_option (option_and_then pages.as_note o) (filter_map note_of items)
    by None rest = rest
    by (Some f) rest = ap (cons_option (pages.as_note f)) rest

note-own_of : (name : List ℕ) (a : Artifact) → IfSome (option_and_then pages.as_note (pages_fact_of name a)) (λ n. n.name ≡ name)
note-own_of name kind.Plain = tt
note-own_of name (kind.Manifest m) = tt
note-own_of name (kind.Cluster c) = tt
note-own_of name (kind.Control c) = tt
note-own_of name (kind.Wiki w) = tt
note-own_of name (kind.Ticket t) = tt
note-own_of name (kind.Attachment a) = tt
note-own_of name (kind.Technote t) = refl
note-own_of name (kind.Forum f) = tt

pub note-own : (item : Item) → IfSome (note_of item) (λ n. n.name ≡ item.name)
note-own item = note-own_of item.name item.artifact

-- a technote's row by the technotes
abbrev note_row_by : List Note → List ℕ → Technote → Option Row
note_row_by notes name t =
    cond (option_eq bytes_eq (option_map (λ (n : Note). n.name) (greatest (on (λ (n : Note). (n.date, n.name)) dated_cmp) (filter (λ n. bytes_eq n.id t.id) notes))) (Some name))
    (Some (record { time = t.time; name = name; kind = row.Note; user = unwrap_or t.user []; text = unwrap_or t.comment [] })) None

-- a row that neither a check-in nor an attachment has, where technotes and posts are the same
pub row-stays : (items old : List Item) → notes_of items ≡ notes_of old → forum_facts items ≡ forum_facts old → (name : List ℕ) (a : Artifact) → as_manifest a ≡ None → as_attachment a ≡ None
    → timeline_row_of items name a ≡ timeline_row_of old name a
row-stays items old ns fs name (kind.Manifest m) none other = cc
row-stays items old ns fs name (kind.Attachment a) none other = cc
row-stays items old ns fs name (kind.Technote t) none other = ap (λ notes. note_row_by notes name t) ns
row-stays items old ns fs name (kind.Forum f) none other = ap (λ facts. post_row facts name f) fs
row-stays items old ns fs name kind.Plain none other = refl
row-stays items old ns fs name (kind.Cluster c) none other = refl
row-stays items old ns fs name (kind.Control c) none other = refl
row-stays items old ns fs name (kind.Wiki w) none other = refl
row-stays items old ns fs name (kind.Ticket t) none other = refl

-- ---- what an artifact of a kind gives

no-note : (name : List ℕ) (a : Artifact) → is_alone a ≡ true → option_and_then pages.as_note (pages_fact_of name a) ≡ None
no-note name (kind.Technote w) alone = cc
no-note name (kind.Wiki w) alone = refl
no-note name (kind.Attachment w) alone = refl
no-note name (kind.Ticket w) alone = refl
no-note name (kind.Forum w) alone = refl
no-note name (kind.Manifest w) alone = refl
no-note name (kind.Control w) alone = refl
no-note name (kind.Cluster w) alone = refl
no-note name kind.Plain alone = refl

no-ticket : (name : List ℕ) (a : Artifact) → is_alone a ≡ true → ticket_fact_of name a ≡ None
no-ticket name (kind.Ticket w) alone = cc
no-ticket name (kind.Wiki w) alone = refl
no-ticket name (kind.Attachment w) alone = refl
no-ticket name (kind.Technote w) alone = refl
no-ticket name (kind.Forum w) alone = refl
no-ticket name (kind.Manifest w) alone = refl
no-ticket name (kind.Control w) alone = refl
no-ticket name (kind.Cluster w) alone = refl
no-ticket name kind.Plain alone = refl

no-post : (name : List ℕ) (a : Artifact) → is_alone a ≡ true → forum_fact_of name a ≡ None
no-post name (kind.Forum w) alone = cc
no-post name (kind.Wiki w) alone = refl
no-post name (kind.Attachment w) alone = refl
no-post name (kind.Technote w) alone = refl
no-post name (kind.Ticket w) alone = refl
no-post name (kind.Manifest w) alone = refl
no-post name (kind.Control w) alone = refl
no-post name (kind.Cluster w) alone = refl
no-post name kind.Plain alone = refl

-- ---- the others

module _ (items : List Item) (rise : Rise items) (x : Item) (at : named item_name items x.name ≡ Some x) where
  abbrev old : List Item
  old = without x.name items

  -- an artifact that gives a table nothing leaves its facts
  pub facts-stay : {F : Type 0} (fact_name : F → List ℕ) (give : Item → Option F) → ((item : Item) → IfSome (give item) (λ f. fact_name f ≡ item.name)) → give x ≡ None → filter_map give items ≡ filter_map give old
  facts-stay fact_name give own none = sym (none-added item_name fact_name give own items rise x at (filter_map give old) refl none)

  pub notes-stay : note_of x ≡ None → notes_of items ≡ notes_of old
  notes-stay none = notes-given items ∙ facts-stay (λ (n : Note). n.name) note_of note-own none ∙ sym (notes-given old)

  pub posts-stay : forum_fact x ≡ None → forum_facts items ≡ forum_facts old
  posts-stay none = facts-stay (λ (f : forum.Fact). f.name) forum_fact forum-own none

  -- a text that isn't the id of the new one has the kind that it had
  pub kind-stays : (text : List ℕ) → has_ticket x text ≡ false → has_note x text ≡ false → attachment_kind items text ≡ attachment_kind old text
  kind-stays text no_ticket no_note = λ i. kind_by (tickets i) (notes i)
    where
      tickets : is_ticket items text ≡ is_ticket old text
      tickets = any-with (λ (f : ticket.Fact). f.name) ticket_fact ticket-own (λ f. bytes_eq (name_text f.id) text) items rise x at ∙ ap (λ b. b || is_ticket old text) no_ticket

      notes : is_note items text ≡ is_note old text
      notes =
          ap (list_any (λ n. bytes_eq (name_text n.id) text)) (notes-given items)
          ∙ any-with (λ (n : Note). n.name) note_of note-own (λ n. bytes_eq (name_text n.id) text) items rise x at
          ∙ (λ i. no_note i || list_any (λ n. bytes_eq (name_text n.id) text) (sym (notes-given old) i))

  -- where it has, so has the row of an attachment
  pub attachment-stays : (name : List ℕ) (a : Artifact) (file : Attachment) → as_attachment a ≡ Some file → attachment_kind items file.target ≡ attachment_kind old file.target → timeline_row_of items name a ≡ timeline_row_of old name a
  attachment-stays name a file is same = row-attachment items name a file is ∙ ap (λ k. Some (attachment_row k name file)) same ∙ sym (row-attachment old name a file is)

  -- no other row depends on an artifact that is no technote, ticket or post but by tags
  pub alone-stay : is_alone x.artifact ≡ true → OtherRowsStay items x.name
  alone-stay alone item apart none =
      elim (as_attachment item.artifact) as (λ o. as_attachment item.artifact ≡ o → timeline_row items item ≡ timeline_row old item) [
        | Some file ↦ λ is. attachment-stays item.name item.artifact file is (kind-stays file.target
            (ap (λ o. option_map_or (λ f. bytes_eq (name_text f.id) file.target) o false) (no-ticket x.name x.artifact alone))
            (ap (λ o. option_map_or (λ n. bytes_eq (name_text n.id) file.target) o false) (no-note x.name x.artifact alone)))
        | None ↦ λ is. row-stays items old (notes-stay (no-note x.name x.artifact alone)) (posts-stay (no-post x.name x.artifact alone)) item.name item.artifact none is
      ] refl
