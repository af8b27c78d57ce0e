-- A text is one artifact only: its cards are those of one list, their letters those of one kind, and they give one value.
use Rattle.std.proofs.Common.{◌≡◌, ℕ, List, refl, ap, subst}
use Rattle.fsl_card.specs.declared.types.Card.{Card}
use Rattle.fsl_card.specs.Cards.{IsCards}
use Rattle.fsl_card.proofs.ReadAgain.{unambiguous}
use Rattle.fsl_grammar.specs.Letters.{manifest_letters, cluster_letters, control_letters, wiki_letters, ticket_letters, attachment_letters, technote_letters, forum_letters}
use Rattle.fsl_grammar.specs.Forms.{hash_form, ref_form, text_form, date_form, user_form, tag_form, checksum_form}
use Rattle.fsl_grammar.proofs.Apart.{apart}
use Rattle.fsl_grammar.proofs.Determined.{one_is, at_most_one_is, each_is, parents_are, body_is}
use Rattle.fsl_manifest.specs.Manifests.{IsManifest, file_form, pick_form}
use Rattle.fsl_manifest.specs.declared.Manifest as manifests
use Rattle.fsl_forms.specs.Kinds.{IsCluster, IsControl, IsWiki, IsTicket, IsAttachment, IsTechnote, IsForum, attached_form, event_form, change_form}
use Rattle.fsl_forms.specs.declared.cluster.Cluster as cluster_types
use Rattle.fsl_forms.specs.declared.control.Control as control_types
use Rattle.fsl_forms.specs.declared.wiki.Wiki as wiki_types
use Rattle.fsl_forms.specs.declared.ticket.Ticket as ticket_types
use Rattle.fsl_forms.specs.declared.attachment.Attachment as attachment_types
use Rattle.fsl_forms.specs.declared.technote.Technote as technote_types
use Rattle.fsl_forms.specs.declared.forum.Forum as forum_types
use Rattle.fsl_artifact.specs.declared.Artifact.{Artifact}
use Rattle.fsl_artifact.specs.declared.Artifact.TheVariants.{Plain, Manifest, Cluster, Control, Wiki, Ticket, Attachment, Technote, Forum}
use Rattle.fsl_artifact.specs.Kind.{IsOfKind, AreOfKind, IsKind, IsOfOneKind, IsOneArtifact}

manifest_is : (cards : List Card) (a b : manifests.Manifest) → IsManifest cards a → IsManifest cards b → a ≡ b
manifest_is cards a b h k =
    let baseline_same = at_most_one_is cards 66 hash_form a.baseline b.baseline h.baseline k.baseline in
    let comment_same = one_is cards 67 text_form a.comment b.comment h.comment k.comment in
    let date_same = one_is cards 68 date_form a.date b.date h.date k.date in
    let files_same = each_is cards 70 file_form a.files b.files h.files k.files in
    let mime_same = at_most_one_is cards 78 text_form a.mime b.mime h.mime k.mime in
    let parents_same = parents_are cards a.parents b.parents h.parents k.parents in
    let picks_same = each_is cards 81 pick_form a.picks b.picks h.picks k.picks in
    let checksum_same = at_most_one_is cards 82 checksum_form a.checksum b.checksum h.checksum k.checksum in
    let tags_same = each_is cards 84 tag_form a.tags b.tags h.tags k.tags in
    let user_same = one_is cards 85 user_form a.user b.user h.user k.user in
    λ i. record { baseline = baseline_same i; comment = comment_same i; date = date_same i; files = files_same i; mime = mime_same i; parents = parents_same i; picks = picks_same i; checksum = checksum_same i; tags = tags_same i; user = user_same i }

cluster_is : (cards : List Card) (a b : cluster_types.Cluster) → IsCluster cards a → IsCluster cards b → a ≡ b
cluster_is cards a b h k =
    let members_same = each_is cards 77 ref_form a.members b.members h.members k.members in
    λ i. record { members = members_same i }

control_is : (cards : List Card) (a b : control_types.Control) → IsControl cards a → IsControl cards b → a ≡ b
control_is cards a b h k =
    let date_same = one_is cards 68 date_form a.date b.date h.date k.date in
    let tags_same = each_is cards 84 tag_form a.tags b.tags h.tags k.tags in
    let user_same = one_is cards 85 user_form a.user b.user h.user k.user in
    λ i. record { date = date_same i; tags = tags_same i; user = user_same i }

wiki_is : (cards : List Card) (a b : wiki_types.Wiki) → IsWiki cards a → IsWiki cards b → a ≡ b
wiki_is cards a b h k =
    let comment_same = at_most_one_is cards 67 text_form a.comment b.comment h.comment k.comment in
    let date_same = one_is cards 68 date_form a.date b.date h.date k.date in
    let title_same = one_is cards 76 text_form a.title b.title h.title k.title in
    let mime_same = at_most_one_is cards 78 text_form a.mime b.mime h.mime k.mime in
    let parents_same = parents_are cards a.parents b.parents h.parents k.parents in
    let user_same = one_is cards 85 user_form a.user b.user h.user k.user in
    let text_same = body_is cards a.text b.text h.text k.text in
    λ i. record { comment = comment_same i; date = date_same i; title = title_same i; mime = mime_same i; parents = parents_same i; user = user_same i; text = text_same i }

ticket_is : (cards : List Card) (a b : ticket_types.Ticket) → IsTicket cards a → IsTicket cards b → a ≡ b
ticket_is cards a b h k =
    let date_same = one_is cards 68 date_form a.date b.date h.date k.date in
    let changes_same = each_is cards 74 change_form a.changes b.changes h.changes k.changes in
    let id_same = one_is cards 75 hash_form a.id b.id h.id k.id in
    let user_same = one_is cards 85 user_form a.user b.user h.user k.user in
    λ i. record { date = date_same i; changes = changes_same i; id = id_same i; user = user_same i }

attachment_is : (cards : List Card) (a b : attachment_types.Attachment) → IsAttachment cards a → IsAttachment cards b → a ≡ b
attachment_is cards a b h k =
    let attached_same = one_is cards 65 attached_form (record { file = a.file; target = a.target; source = a.source }) (record { file = b.file; target = b.target; source = b.source }) h.attached k.attached in
    let comment_same = at_most_one_is cards 67 text_form a.comment b.comment h.comment k.comment in
    let date_same = one_is cards 68 date_form a.date b.date h.date k.date in
    let mime_same = at_most_one_is cards 78 text_form a.mime b.mime h.mime k.mime in
    let user_same = at_most_one_is cards 85 user_form a.user b.user h.user k.user in
    λ i. record { file = (attached_same i).file; target = (attached_same i).target; source = (attached_same i).source; comment = comment_same i; date = date_same i; mime = mime_same i; user = user_same i }

technote_is : (cards : List Card) (a b : technote_types.Technote) → IsTechnote cards a → IsTechnote cards b → a ≡ b
technote_is cards a b h k =
    let comment_same = at_most_one_is cards 67 text_form a.comment b.comment h.comment k.comment in
    let date_same = one_is cards 68 date_form a.date b.date h.date k.date in
    let event_same = one_is cards 69 event_form (record { time = a.time; id = a.id }) (record { time = b.time; id = b.id }) h.event k.event in
    let mime_same = at_most_one_is cards 78 text_form a.mime b.mime h.mime k.mime in
    let parents_same = parents_are cards a.parents b.parents h.parents k.parents in
    let tags_same = each_is cards 84 tag_form a.tags b.tags h.tags k.tags in
    let user_same = at_most_one_is cards 85 user_form a.user b.user h.user k.user in
    let text_same = body_is cards a.text b.text h.text k.text in
    λ i. record { comment = comment_same i; date = date_same i; time = (event_same i).time; id = (event_same i).id; mime = mime_same i; parents = parents_same i; tags = tags_same i; user = user_same i; text = text_same i }

forum_is : (cards : List Card) (a b : forum_types.Forum) → IsForum cards a → IsForum cards b → a ≡ b
forum_is cards a b h k =
    let date_same = one_is cards 68 date_form a.date b.date h.date k.date in
    let root_same = at_most_one_is cards 71 hash_form a.root b.root h.root k.root in
    let title_same = at_most_one_is cards 72 text_form a.title b.title h.title k.title in
    let reply_same = at_most_one_is cards 73 hash_form a.reply b.reply h.reply k.reply in
    let mime_same = at_most_one_is cards 78 text_form a.mime b.mime h.mime k.mime in
    let prior_same = at_most_one_is cards 80 hash_form a.prior b.prior h.prior k.prior in
    let user_same = one_is cards 85 user_form a.user b.user h.user k.user in
    let text_same = body_is cards a.text b.text h.text k.text in
    λ i. record { date = date_same i; root = root_same i; title = title_same i; reply = reply_same i; mime = mime_same i; prior = prior_same i; user = user_same i; text = text_same i }

-- cards are of one kind, with one value
one_value : (cards : List Card) (a b : Artifact) → AreOfKind cards a → AreOfKind cards b → a ≡ b
one_value cards Plain b h k = absurd h
one_value cards (Manifest x) Plain h k = absurd k
one_value cards (Manifest x) (Manifest y) h k = ap Manifest (manifest_is cards x y h k)
one_value cards (Manifest x) (Cluster y) h k = absurd (apart manifest_letters cluster_letters 67 cards refl refl h.letters k.letters)
one_value cards (Manifest x) (Control y) h k = absurd (apart manifest_letters control_letters 67 cards refl refl h.letters k.letters)
one_value cards (Manifest x) (Wiki y) h k = absurd (apart wiki_letters manifest_letters 76 cards refl refl k.letters h.letters)
one_value cards (Manifest x) (Ticket y) h k = absurd (apart manifest_letters ticket_letters 67 cards refl refl h.letters k.letters)
one_value cards (Manifest x) (Attachment y) h k = absurd (apart attachment_letters manifest_letters 65 cards refl refl k.letters h.letters)
one_value cards (Manifest x) (Technote y) h k = absurd (apart technote_letters manifest_letters 69 cards refl refl k.letters h.letters)
one_value cards (Manifest x) (Forum y) h k = absurd (apart manifest_letters forum_letters 67 cards refl refl h.letters k.letters)
one_value cards (Cluster x) Plain h k = absurd k
one_value cards (Cluster x) (Manifest y) h k = absurd (apart cluster_letters manifest_letters 77 cards refl refl h.letters k.letters)
one_value cards (Cluster x) (Cluster y) h k = ap Cluster (cluster_is cards x y h k)
one_value cards (Cluster x) (Control y) h k = absurd (apart cluster_letters control_letters 77 cards refl refl h.letters k.letters)
one_value cards (Cluster x) (Wiki y) h k = absurd (apart cluster_letters wiki_letters 77 cards refl refl h.letters k.letters)
one_value cards (Cluster x) (Ticket y) h k = absurd (apart cluster_letters ticket_letters 77 cards refl refl h.letters k.letters)
one_value cards (Cluster x) (Attachment y) h k = absurd (apart cluster_letters attachment_letters 77 cards refl refl h.letters k.letters)
one_value cards (Cluster x) (Technote y) h k = absurd (apart cluster_letters technote_letters 77 cards refl refl h.letters k.letters)
one_value cards (Cluster x) (Forum y) h k = absurd (apart cluster_letters forum_letters 77 cards refl refl h.letters k.letters)
one_value cards (Control x) Plain h k = absurd k
one_value cards (Control x) (Manifest y) h k = absurd (apart manifest_letters control_letters 67 cards refl refl k.letters h.letters)
one_value cards (Control x) (Cluster y) h k = absurd (apart control_letters cluster_letters 68 cards refl refl h.letters k.letters)
one_value cards (Control x) (Control y) h k = ap Control (control_is cards x y h k)
one_value cards (Control x) (Wiki y) h k = absurd (apart control_letters wiki_letters 84 cards refl refl h.letters k.letters)
one_value cards (Control x) (Ticket y) h k = absurd (apart control_letters ticket_letters 84 cards refl refl h.letters k.letters)
one_value cards (Control x) (Attachment y) h k = absurd (apart control_letters attachment_letters 84 cards refl refl h.letters k.letters)
one_value cards (Control x) (Technote y) h k = absurd (apart technote_letters control_letters 69 cards refl refl k.letters h.letters)
one_value cards (Control x) (Forum y) h k = absurd (apart control_letters forum_letters 84 cards refl refl h.letters k.letters)
one_value cards (Wiki x) Plain h k = absurd k
one_value cards (Wiki x) (Manifest y) h k = absurd (apart wiki_letters manifest_letters 76 cards refl refl h.letters k.letters)
one_value cards (Wiki x) (Cluster y) h k = absurd (apart wiki_letters cluster_letters 68 cards refl refl h.letters k.letters)
one_value cards (Wiki x) (Control y) h k = absurd (apart wiki_letters control_letters 76 cards refl refl h.letters k.letters)
one_value cards (Wiki x) (Wiki y) h k = ap Wiki (wiki_is cards x y h k)
one_value cards (Wiki x) (Ticket y) h k = absurd (apart wiki_letters ticket_letters 76 cards refl refl h.letters k.letters)
one_value cards (Wiki x) (Attachment y) h k = absurd (apart wiki_letters attachment_letters 76 cards refl refl h.letters k.letters)
one_value cards (Wiki x) (Technote y) h k = absurd (apart wiki_letters technote_letters 76 cards refl refl h.letters k.letters)
one_value cards (Wiki x) (Forum y) h k = absurd (apart wiki_letters forum_letters 76 cards refl refl h.letters k.letters)
one_value cards (Ticket x) Plain h k = absurd k
one_value cards (Ticket x) (Manifest y) h k = absurd (apart ticket_letters manifest_letters 75 cards refl refl h.letters k.letters)
one_value cards (Ticket x) (Cluster y) h k = absurd (apart ticket_letters cluster_letters 68 cards refl refl h.letters k.letters)
one_value cards (Ticket x) (Control y) h k = absurd (apart ticket_letters control_letters 75 cards refl refl h.letters k.letters)
one_value cards (Ticket x) (Wiki y) h k = absurd (apart ticket_letters wiki_letters 75 cards refl refl h.letters k.letters)
one_value cards (Ticket x) (Ticket y) h k = ap Ticket (ticket_is cards x y h k)
one_value cards (Ticket x) (Attachment y) h k = absurd (apart ticket_letters attachment_letters 75 cards refl refl h.letters k.letters)
one_value cards (Ticket x) (Technote y) h k = absurd (apart ticket_letters technote_letters 75 cards refl refl h.letters k.letters)
one_value cards (Ticket x) (Forum y) h k = absurd (apart ticket_letters forum_letters 75 cards refl refl h.letters k.letters)
one_value cards (Attachment x) Plain h k = absurd k
one_value cards (Attachment x) (Manifest y) h k = absurd (apart attachment_letters manifest_letters 65 cards refl refl h.letters k.letters)
one_value cards (Attachment x) (Cluster y) h k = absurd (apart attachment_letters cluster_letters 65 cards refl refl h.letters k.letters)
one_value cards (Attachment x) (Control y) h k = absurd (apart attachment_letters control_letters 65 cards refl refl h.letters k.letters)
one_value cards (Attachment x) (Wiki y) h k = absurd (apart attachment_letters wiki_letters 65 cards refl refl h.letters k.letters)
one_value cards (Attachment x) (Ticket y) h k = absurd (apart attachment_letters ticket_letters 65 cards refl refl h.letters k.letters)
one_value cards (Attachment x) (Attachment y) h k = ap Attachment (attachment_is cards x y h k)
one_value cards (Attachment x) (Technote y) h k = absurd (apart attachment_letters technote_letters 65 cards refl refl h.letters k.letters)
one_value cards (Attachment x) (Forum y) h k = absurd (apart attachment_letters forum_letters 65 cards refl refl h.letters k.letters)
one_value cards (Technote x) Plain h k = absurd k
one_value cards (Technote x) (Manifest y) h k = absurd (apart technote_letters manifest_letters 69 cards refl refl h.letters k.letters)
one_value cards (Technote x) (Cluster y) h k = absurd (apart technote_letters cluster_letters 68 cards refl refl h.letters k.letters)
one_value cards (Technote x) (Control y) h k = absurd (apart technote_letters control_letters 69 cards refl refl h.letters k.letters)
one_value cards (Technote x) (Wiki y) h k = absurd (apart technote_letters wiki_letters 69 cards refl refl h.letters k.letters)
one_value cards (Technote x) (Ticket y) h k = absurd (apart technote_letters ticket_letters 69 cards refl refl h.letters k.letters)
one_value cards (Technote x) (Attachment y) h k = absurd (apart technote_letters attachment_letters 69 cards refl refl h.letters k.letters)
one_value cards (Technote x) (Technote y) h k = ap Technote (technote_is cards x y h k)
one_value cards (Technote x) (Forum y) h k = absurd (apart technote_letters forum_letters 69 cards refl refl h.letters k.letters)
one_value cards (Forum x) Plain h k = absurd k
one_value cards (Forum x) (Manifest y) h k = absurd (apart forum_letters manifest_letters 87 cards refl refl h.letters k.letters)
one_value cards (Forum x) (Cluster y) h k = absurd (apart forum_letters cluster_letters 68 cards refl refl h.letters k.letters)
one_value cards (Forum x) (Control y) h k = absurd (apart forum_letters control_letters 87 cards refl refl h.letters k.letters)
one_value cards (Forum x) (Wiki y) h k = absurd (apart wiki_letters forum_letters 76 cards refl refl k.letters h.letters)
one_value cards (Forum x) (Ticket y) h k = absurd (apart forum_letters ticket_letters 87 cards refl refl h.letters k.letters)
one_value cards (Forum x) (Attachment y) h k = absurd (apart forum_letters attachment_letters 87 cards refl refl h.letters k.letters)
one_value cards (Forum x) (Technote y) h k = absurd (apart technote_letters forum_letters 69 cards refl refl k.letters h.letters)
one_value cards (Forum x) (Forum y) h k = ap Forum (forum_is cards x y h k)

-- a text is of one kind, with one value
pub of_one_kind : IsOfOneKind
of_one_kind text a b h k =
    let same = unambiguous text h.0 k.0 h.1 k.1 in
    one_value k.0 a b (subst (λ (cards : List Card). AreOfKind cards a) same h.2) k.2

-- a text whose cards are of no kind is of none
pub of_no_kind : (text : List ℕ) (cards : List Card) → IsCards text cards → ((a : Artifact) → AreOfKind cards a → ⊥) → (a : Artifact) → IsOfKind text a → ⊥
of_no_kind text cards h none a k = none a (subst (λ (others : List Card). AreOfKind others a) (unambiguous text k.0 cards k.1 h) k.2)

-- a text whose cards are of a kind is of this
pub of_this_kind : (text : List ℕ) (cards : List Card) (a : Artifact) → IsCards text cards → AreOfKind cards a → IsKind text a
of_this_kind text cards Plain h k = absurd k
of_this_kind text cards (Manifest x) h k = (cards, h, k)
of_this_kind text cards (Cluster x) h k = (cards, h, k)
of_this_kind text cards (Control x) h k = (cards, h, k)
of_this_kind text cards (Wiki x) h k = (cards, h, k)
of_this_kind text cards (Ticket x) h k = (cards, h, k)
of_this_kind text cards (Attachment x) h k = (cards, h, k)
of_this_kind text cards (Technote x) h k = (cards, h, k)
of_this_kind text cards (Forum x) h k = (cards, h, k)

pub one_artifact : IsOneArtifact
one_artifact text Plain Plain h k = refl
one_artifact text Plain (Manifest y) h k = absurd (h (Manifest y) k)
one_artifact text Plain (Cluster y) h k = absurd (h (Cluster y) k)
one_artifact text Plain (Control y) h k = absurd (h (Control y) k)
one_artifact text Plain (Wiki y) h k = absurd (h (Wiki y) k)
one_artifact text Plain (Ticket y) h k = absurd (h (Ticket y) k)
one_artifact text Plain (Attachment y) h k = absurd (h (Attachment y) k)
one_artifact text Plain (Technote y) h k = absurd (h (Technote y) k)
one_artifact text Plain (Forum y) h k = absurd (h (Forum y) k)
one_artifact text (Manifest x) Plain h k = absurd (k (Manifest x) h)
one_artifact text (Manifest x) (Manifest y) h k = of_one_kind text (Manifest x) (Manifest y) h k
one_artifact text (Manifest x) (Cluster y) h k = of_one_kind text (Manifest x) (Cluster y) h k
one_artifact text (Manifest x) (Control y) h k = of_one_kind text (Manifest x) (Control y) h k
one_artifact text (Manifest x) (Wiki y) h k = of_one_kind text (Manifest x) (Wiki y) h k
one_artifact text (Manifest x) (Ticket y) h k = of_one_kind text (Manifest x) (Ticket y) h k
one_artifact text (Manifest x) (Attachment y) h k = of_one_kind text (Manifest x) (Attachment y) h k
one_artifact text (Manifest x) (Technote y) h k = of_one_kind text (Manifest x) (Technote y) h k
one_artifact text (Manifest x) (Forum y) h k = of_one_kind text (Manifest x) (Forum y) h k
one_artifact text (Cluster x) Plain h k = absurd (k (Cluster x) h)
one_artifact text (Cluster x) (Manifest y) h k = of_one_kind text (Cluster x) (Manifest y) h k
one_artifact text (Cluster x) (Cluster y) h k = of_one_kind text (Cluster x) (Cluster y) h k
one_artifact text (Cluster x) (Control y) h k = of_one_kind text (Cluster x) (Control y) h k
one_artifact text (Cluster x) (Wiki y) h k = of_one_kind text (Cluster x) (Wiki y) h k
one_artifact text (Cluster x) (Ticket y) h k = of_one_kind text (Cluster x) (Ticket y) h k
one_artifact text (Cluster x) (Attachment y) h k = of_one_kind text (Cluster x) (Attachment y) h k
one_artifact text (Cluster x) (Technote y) h k = of_one_kind text (Cluster x) (Technote y) h k
one_artifact text (Cluster x) (Forum y) h k = of_one_kind text (Cluster x) (Forum y) h k
one_artifact text (Control x) Plain h k = absurd (k (Control x) h)
one_artifact text (Control x) (Manifest y) h k = of_one_kind text (Control x) (Manifest y) h k
one_artifact text (Control x) (Cluster y) h k = of_one_kind text (Control x) (Cluster y) h k
one_artifact text (Control x) (Control y) h k = of_one_kind text (Control x) (Control y) h k
one_artifact text (Control x) (Wiki y) h k = of_one_kind text (Control x) (Wiki y) h k
one_artifact text (Control x) (Ticket y) h k = of_one_kind text (Control x) (Ticket y) h k
one_artifact text (Control x) (Attachment y) h k = of_one_kind text (Control x) (Attachment y) h k
one_artifact text (Control x) (Technote y) h k = of_one_kind text (Control x) (Technote y) h k
one_artifact text (Control x) (Forum y) h k = of_one_kind text (Control x) (Forum y) h k
one_artifact text (Wiki x) Plain h k = absurd (k (Wiki x) h)
one_artifact text (Wiki x) (Manifest y) h k = of_one_kind text (Wiki x) (Manifest y) h k
one_artifact text (Wiki x) (Cluster y) h k = of_one_kind text (Wiki x) (Cluster y) h k
one_artifact text (Wiki x) (Control y) h k = of_one_kind text (Wiki x) (Control y) h k
one_artifact text (Wiki x) (Wiki y) h k = of_one_kind text (Wiki x) (Wiki y) h k
one_artifact text (Wiki x) (Ticket y) h k = of_one_kind text (Wiki x) (Ticket y) h k
one_artifact text (Wiki x) (Attachment y) h k = of_one_kind text (Wiki x) (Attachment y) h k
one_artifact text (Wiki x) (Technote y) h k = of_one_kind text (Wiki x) (Technote y) h k
one_artifact text (Wiki x) (Forum y) h k = of_one_kind text (Wiki x) (Forum y) h k
one_artifact text (Ticket x) Plain h k = absurd (k (Ticket x) h)
one_artifact text (Ticket x) (Manifest y) h k = of_one_kind text (Ticket x) (Manifest y) h k
one_artifact text (Ticket x) (Cluster y) h k = of_one_kind text (Ticket x) (Cluster y) h k
one_artifact text (Ticket x) (Control y) h k = of_one_kind text (Ticket x) (Control y) h k
one_artifact text (Ticket x) (Wiki y) h k = of_one_kind text (Ticket x) (Wiki y) h k
one_artifact text (Ticket x) (Ticket y) h k = of_one_kind text (Ticket x) (Ticket y) h k
one_artifact text (Ticket x) (Attachment y) h k = of_one_kind text (Ticket x) (Attachment y) h k
one_artifact text (Ticket x) (Technote y) h k = of_one_kind text (Ticket x) (Technote y) h k
one_artifact text (Ticket x) (Forum y) h k = of_one_kind text (Ticket x) (Forum y) h k
one_artifact text (Attachment x) Plain h k = absurd (k (Attachment x) h)
one_artifact text (Attachment x) (Manifest y) h k = of_one_kind text (Attachment x) (Manifest y) h k
one_artifact text (Attachment x) (Cluster y) h k = of_one_kind text (Attachment x) (Cluster y) h k
one_artifact text (Attachment x) (Control y) h k = of_one_kind text (Attachment x) (Control y) h k
one_artifact text (Attachment x) (Wiki y) h k = of_one_kind text (Attachment x) (Wiki y) h k
one_artifact text (Attachment x) (Ticket y) h k = of_one_kind text (Attachment x) (Ticket y) h k
one_artifact text (Attachment x) (Attachment y) h k = of_one_kind text (Attachment x) (Attachment y) h k
one_artifact text (Attachment x) (Technote y) h k = of_one_kind text (Attachment x) (Technote y) h k
one_artifact text (Attachment x) (Forum y) h k = of_one_kind text (Attachment x) (Forum y) h k
one_artifact text (Technote x) Plain h k = absurd (k (Technote x) h)
one_artifact text (Technote x) (Manifest y) h k = of_one_kind text (Technote x) (Manifest y) h k
one_artifact text (Technote x) (Cluster y) h k = of_one_kind text (Technote x) (Cluster y) h k
one_artifact text (Technote x) (Control y) h k = of_one_kind text (Technote x) (Control y) h k
one_artifact text (Technote x) (Wiki y) h k = of_one_kind text (Technote x) (Wiki y) h k
one_artifact text (Technote x) (Ticket y) h k = of_one_kind text (Technote x) (Ticket y) h k
one_artifact text (Technote x) (Attachment y) h k = of_one_kind text (Technote x) (Attachment y) h k
one_artifact text (Technote x) (Technote y) h k = of_one_kind text (Technote x) (Technote y) h k
one_artifact text (Technote x) (Forum y) h k = of_one_kind text (Technote x) (Forum y) h k
one_artifact text (Forum x) Plain h k = absurd (k (Forum x) h)
one_artifact text (Forum x) (Manifest y) h k = of_one_kind text (Forum x) (Manifest y) h k
one_artifact text (Forum x) (Cluster y) h k = of_one_kind text (Forum x) (Cluster y) h k
one_artifact text (Forum x) (Control y) h k = of_one_kind text (Forum x) (Control y) h k
one_artifact text (Forum x) (Wiki y) h k = of_one_kind text (Forum x) (Wiki y) h k
one_artifact text (Forum x) (Ticket y) h k = of_one_kind text (Forum x) (Ticket y) h k
one_artifact text (Forum x) (Attachment y) h k = of_one_kind text (Forum x) (Attachment y) h k
one_artifact text (Forum x) (Technote y) h k = of_one_kind text (Forum x) (Technote y) h k
one_artifact text (Forum x) (Forum y) h k = of_one_kind text (Forum x) (Forum y) h k
