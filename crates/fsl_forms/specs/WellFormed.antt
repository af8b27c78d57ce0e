-- Which values of the seven kinds have a text.
use Rattle.std.specs.Prelude.{◌==◌, ◌&&◌, ◌||◌, Bool, true, not, slice_index, List, [], ◌∷◌}
use Rattle.std.specs.List.{list_all}
use Rattle.fsl_name.specs.Ref.{is_written_before}
use Rattle.fsl_name.specs.declared.reference.Ref.{Ref}
use Rattle.fsl_text.specs.Bytes.{is_empty}
use Rattle.fsl_grammar.specs.Forms.{is_filled, is_tag_written, refs_differ}
use Rattle.fsl_forms.specs.declared.cluster.Cluster.{Cluster}
use Rattle.fsl_forms.specs.declared.control.Control.{Control}
use Rattle.fsl_forms.specs.declared.wiki.Wiki.{Wiki}
use Rattle.fsl_forms.specs.declared.ticket.TicketChange.{TicketChange}
use Rattle.fsl_forms.specs.declared.ticket.Ticket.{Ticket}
use Rattle.fsl_forms.specs.declared.attachment.Attachment.{Attachment}
use Rattle.fsl_forms.specs.declared.technote.Technote.{Technote}
use Rattle.fsl_forms.specs.declared.forum.Forum.{Forum}
use Rattle.fsl_forms.specs.Kinds.{names_target, is_own_tag, begins_or_replies}

-- references rise as they are written, so that each stands once
abbrev pub rise_as_written : List Ref → Bool
rise_as_written [] = true
rise_as_written (a ∷ []) = true
rise_as_written (a ∷ b ∷ refs) = is_written_before a b && rise_as_written (b ∷ refs)

abbrev pub is_cluster_well_formed : Cluster → Bool
is_cluster_well_formed c = not (is_empty c.members) && rise_as_written c.members

abbrev pub is_control_well_formed : Control → Bool
is_control_well_formed c =
    not (is_empty c.tags) && list_all is_tag_written c.tags && list_all names_target c.tags && not (is_empty c.user)

abbrev pub is_wiki_well_formed : Wiki → Bool
is_wiki_well_formed w =
    is_filled w.comment && not (is_empty w.title) && is_filled w.mime && refs_differ w.parents && not (is_empty w.user)

-- a field that replaces doesn't begin with `+`
abbrev pub is_change_written : TicketChange → Bool
is_change_written c = not (is_empty c.field) && (c.append || not (slice_index c.field 0 == 43))

abbrev pub is_ticket_well_formed : Ticket → Bool
is_ticket_well_formed t = not (is_empty t.changes) && list_all is_change_written t.changes && not (is_empty t.user)

abbrev pub is_attachment_well_formed : Attachment → Bool
is_attachment_well_formed a =
    not (is_empty a.file) && not (is_empty a.target) && is_filled a.comment && is_filled a.mime && is_filled a.user

abbrev pub is_technote_well_formed : Technote → Bool
is_technote_well_formed n =
    is_filled n.comment && is_filled n.mime && refs_differ n.parents
    && list_all is_tag_written n.tags && list_all is_own_tag n.tags && is_filled n.user

abbrev pub is_forum_well_formed : Forum → Bool
is_forum_well_formed f = is_filled f.title && is_filled f.mime && not (is_empty f.user) && begins_or_replies f
