-- The texts that the seven kinds are written as.
use Rattle.std.specs.Prelude.{IsTrue, flat_map, option_to_list}
use Rattle.std.specs.List.{AllByRecursion}
use Rattle.fsl_name.specs.Name.{IsName}
use Rattle.fsl_grammar.specs.declared.TagCard.{TagCard}
use Rattle.fsl_card.specs.Cards.{IsTextOf}
use Rattle.fsl_forms.specs.Kinds.{IsCluster, IsControl, IsWiki, IsTicket, IsAttachment, IsTechnote, IsForum}
use Rattle.fsl_forms.specs.WellFormed.{is_cluster_well_formed, is_control_well_formed, is_wiki_well_formed, is_ticket_well_formed, is_attachment_well_formed, is_technote_well_formed, is_forum_well_formed}
use Rattle.std.specs.Prelude.{◌≡◌, ◌↔◌, ℕ, ◌<◌, ◌^◌, List, [], ◌∷◌, ◌++◌, length, map, if◌then◌else◌}
use Rattle.fsl_text.specs.Escapes.{escape}
use Rattle.fsl_name.specs.Name.{name_text}
use Rattle.fsl_name.specs.Ref.{IsRef, ref_text}
use Rattle.fsl_name.specs.declared.reference.Ref.{Ref}
use Rattle.fsl_date.specs.Moment.{IsMoment, moment_text}
use Rattle.fsl_card.specs.declared.types.Card.{Card}
use Rattle.fsl_forms.specs.declared.cluster.Cluster.{Cluster}
use Rattle.fsl_forms.specs.declared.control.Control.{Control}
use Rattle.fsl_forms.specs.declared.wiki.Wiki.{Wiki}
use Rattle.fsl_forms.specs.declared.ticket.TicketChange.{TicketChange}
use Rattle.fsl_forms.specs.declared.ticket.Ticket.{Ticket}
use Rattle.fsl_forms.specs.declared.attachment.Attachment.{Attachment}
use Rattle.fsl_forms.specs.declared.technote.Technote.{Technote}
use Rattle.fsl_forms.specs.declared.forum.Forum.{Forum}
use Rattle.fsl_card.specs.Writing.{sealed_text}
use Rattle.fsl_grammar.specs.Writing.{card, written_if, card_if, parents_card, body_card, tag_card}

abbrev pub cluster_cards : Cluster → List Card
cluster_cards c = map (λ r. card 77 (ref_text r ∷ [])) c.members

abbrev pub control_cards : Control → List Card
control_cards c = card 68 (moment_text c.date ∷ []) ∷ map tag_card c.tags ++ card 85 (escape c.user ∷ []) ∷ []

abbrev pub wiki_cards : Wiki → List Card
wiki_cards w =
    card_if 67 escape w.comment ++ card 68 (moment_text w.date ∷ []) ∷ card 76 (escape w.title ∷ []) ∷ card_if 78 escape w.mime
    ++ parents_card w.parents ++ card 85 (escape w.user ∷ []) ∷ body_card w.text ∷ []

-- a `+` stands before a field that is appended to
abbrev pub change_card : TicketChange → Card
change_card c = card 74 (escape (if c.append then 43 ∷ c.field else c.field) ∷ written_if escape c.value)

abbrev pub ticket_cards : Ticket → List Card
ticket_cards t =
    card 68 (moment_text t.date ∷ []) ∷ map change_card t.changes ++ card 75 (name_text t.id ∷ []) ∷ card 85 (escape t.user ∷ []) ∷ []

abbrev pub attached_card : Attachment → Card
attached_card a = card 65 (escape a.file ∷ escape a.target ∷ written_if ref_text a.source)

abbrev pub attachment_cards : Attachment → List Card
attachment_cards a =
    attached_card a ∷ card_if 67 escape a.comment
    ++ card 68 (moment_text a.date ∷ []) ∷ card_if 78 escape a.mime ++ card_if 85 escape a.user

abbrev pub event_card : List ℕ → List ℕ → Card
event_card time id = card 69 (time ∷ name_text id ∷ [])

abbrev pub technote_cards : Technote → List Card
technote_cards n =
    card_if 67 escape n.comment ++ card 68 (moment_text n.date ∷ []) ∷ event_card (moment_text n.time) n.id ∷ card_if 78 escape n.mime
    ++ parents_card n.parents ++ map tag_card n.tags ++ card_if 85 escape n.user ++ body_card n.text ∷ []

abbrev pub forum_cards : Forum → List Card
forum_cards f =
    card 68 (moment_text f.date ∷ []) ∷ card_if 71 name_text f.root ++ card_if 72 escape f.title ++ card_if 73 name_text f.reply
    ++ card_if 78 escape f.mime ++ card_if 80 name_text f.prior ++ card 85 (escape f.user ∷ []) ∷ body_card f.text ∷ []

-- ---- texts

abbrev pub IsClusterText : List ℕ → Cluster → Type 0
IsClusterText text c = text ≡ sealed_text (cluster_cards c)

abbrev pub IsControlText : List ℕ → Control → Type 0
IsControlText text c = text ≡ sealed_text (control_cards c)

abbrev pub IsWikiText : List ℕ → Wiki → Type 0
IsWikiText text w = text ≡ sealed_text (wiki_cards w)

abbrev pub IsTicketText : List ℕ → Ticket → Type 0
IsTicketText text t = text ≡ sealed_text (ticket_cards t)

abbrev pub IsAttachmentText : List ℕ → Attachment → Type 0
IsAttachmentText text a = text ≡ sealed_text (attachment_cards a)

abbrev pub IsForumText : List ℕ → Forum → Type 0
IsForumText text f = text ≡ sealed_text (forum_cards f)

abbrev pub IsTechnoteText : List ℕ → Technote → Type 0
IsTechnoteText text n = text ≡ sealed_text (technote_cards n)

-- ---- laws

-- names are names and references references, as their types keep it, and a text has fewer than 2^64 bytes, as memory does
abbrev pub AreNames : List (List ℕ) → Type 0
AreNames names = AllByRecursion IsName names

abbrev pub AreRefs : List Ref → Type 0
AreRefs refs = AllByRecursion IsRef refs

abbrev pub targets : List TagCard → List Ref
targets tags = flat_map (λ t. option_to_list t.target) tags

-- what is written reads back
pub record AreReadBack : Type 0 where
  pub cluster : (c : Cluster) (text : List ℕ) → AreRefs c.members → IsTrue (is_cluster_well_formed c) → IsClusterText text c → IsTextOf IsCluster text c
  pub control : (c : Control) (text : List ℕ) → AreRefs (targets c.tags) → IsMoment c.date → IsTrue (is_control_well_formed c) → IsControlText text c → IsTextOf IsControl text c
  pub wiki : (w : Wiki) (text : List ℕ) → AreRefs w.parents → IsMoment w.date → length w.text < 2 ^ 64 → IsTrue (is_wiki_well_formed w) → IsWikiText text w → IsTextOf IsWiki text w
  pub ticket : (t : Ticket) (text : List ℕ) → IsName t.id → IsMoment t.date → IsTrue (is_ticket_well_formed t) → IsTicketText text t → IsTextOf IsTicket text t
  pub attachment : (a : Attachment) (text : List ℕ) → AreRefs (option_to_list a.source) → IsMoment a.date → IsTrue (is_attachment_well_formed a) → IsAttachmentText text a → IsTextOf IsAttachment text a
  pub technote : (n : Technote) (text : List ℕ) → IsName n.id → AreRefs (n.parents ++ targets n.tags) → IsMoment n.date → IsMoment n.time → length n.text < 2 ^ 64 → IsTrue (is_technote_well_formed n) → IsTechnoteText text n → IsTextOf IsTechnote text n
  pub forum : (f : Forum) (text : List ℕ) → AreNames (option_to_list f.root ++ option_to_list f.reply ++ option_to_list f.prior) → IsMoment f.date → length f.text < 2 ^ 64 → IsTrue (is_forum_well_formed f) → IsForumText text f → IsTextOf IsForum text f

-- each value can be written exactly where some text is it
pub record AreWrittenExactly : Type 0 where
  pub cluster : (c : Cluster) → AreRefs c.members → IsTrue (is_cluster_well_formed c) ↔ ((text : List ℕ) × IsTextOf IsCluster text c)
  pub control : (c : Control) → AreRefs (targets c.tags) → IsMoment c.date → IsTrue (is_control_well_formed c) ↔ ((text : List ℕ) × IsTextOf IsControl text c)
  pub wiki : (w : Wiki) → AreRefs w.parents → IsMoment w.date → length w.text < 2 ^ 64 → IsTrue (is_wiki_well_formed w) ↔ ((text : List ℕ) × IsTextOf IsWiki text w)
  pub ticket : (t : Ticket) → IsName t.id → IsMoment t.date → IsTrue (is_ticket_well_formed t) ↔ ((text : List ℕ) × IsTextOf IsTicket text t)
  pub attachment : (a : Attachment) → AreRefs (option_to_list a.source) → IsMoment a.date → IsTrue (is_attachment_well_formed a) ↔ ((text : List ℕ) × IsTextOf IsAttachment text a)
  pub technote : (n : Technote) → IsName n.id → AreRefs (n.parents ++ targets n.tags) → IsMoment n.date → IsMoment n.time → length n.text < 2 ^ 64
      → IsTrue (is_technote_well_formed n) ↔ ((text : List ℕ) × IsTextOf IsTechnote text n)
  pub forum : (f : Forum) → AreNames (option_to_list f.root ++ option_to_list f.reply ++ option_to_list f.prior) → IsMoment f.date → length f.text < 2 ^ 64
      → IsTrue (is_forum_well_formed f) ↔ ((text : List ℕ) × IsTextOf IsForum text f)
