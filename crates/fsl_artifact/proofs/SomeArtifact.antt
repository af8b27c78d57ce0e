-- Each text is some artifact.
use Rattle.std.specs.Prelude.{◌≡◌, ◌&&◌, ℕ, List, IsTrue}
use Rattle.std.proofs.lemmas.Bool.{and_from}
use Rattle.fsl_order.proofs.Booleans.{first_holds, second_holds}
use Rattle.std.proofs.Common.{subst, inl, inr}
use Rattle.std.specs.List.{list_all}
use Rattle.fsl_card.specs.declared.types.Card.{Card}
use Rattle.fsl_card.specs.Cards.{IsCards}
use Rattle.fsl_card.proofs.Deciding.{Decided, decide_by, decide_true, decide_cards}
use Rattle.fsl_grammar.specs.Letters.{has_letters, manifest_letters, cluster_letters, control_letters, wiki_letters, ticket_letters, attachment_letters, technote_letters, forum_letters}
use Rattle.fsl_grammar.specs.Forms.{hash_form, ref_form, text_form, date_form, user_form, tag_form, checksum_form}
use Rattle.fsl_grammar.proofs.Determined.{one_is, at_most_one_is, each_is, parents_are, body_is}
use Rattle.fsl_grammar.proofs.Deciding.{decide_one, decide_most, decide_each, decide_parents, decide_text_body}
use Rattle.fsl_manifest.specs.Manifests.{IsManifest, begins_own, file_form, has_hashes, pick_form}
use Rattle.fsl_manifest.specs.declared.Manifest as manifests
use Rattle.fsl_forms.specs.Kinds.{IsCluster, IsControl, IsWiki, IsTicket, IsAttachment, IsTechnote, IsForum, attached_form, event_form, change_form, names_target, is_own_tag, begins_or_replies}
use Rattle.fsl_forms.specs.declared.cluster.Cluster as cluster_types
use Rattle.fsl_forms.specs.declared.control.Control as control_types
use Rattle.fsl_forms.specs.declared.wiki.Wiki as wiki_types
use Rattle.fsl_forms.specs.declared.ticket.Ticket as ticket_types
use Rattle.fsl_forms.specs.declared.attachment.Attachment as attachment_types
use Rattle.fsl_forms.specs.declared.technote.Technote as technote_types
use Rattle.fsl_forms.specs.declared.forum.Forum as forum_types
use Rattle.fsl_artifact.specs.declared.Artifact.{Artifact}
use Rattle.fsl_artifact.specs.declared.Artifact.TheVariants.{Plain, Manifest, Cluster, Control, Wiki, Ticket, Attachment, Technote, Forum}
use Rattle.fsl_artifact.specs.Kind.{IsKind, IsOfKind, AreOfKind, IsSomeArtifact}
use Rattle.fsl_artifact.proofs.OneKind.{of_no_kind}

manifest_value : (cards : List Card) → Decided ((m : manifests.Manifest) × IsManifest cards m)
manifest_value cards =
    decide_by (decide_true (has_letters manifest_letters cards)) (λ letters.
    decide_by (decide_most cards 66 hash_form) (λ baseline.
    decide_by (decide_one cards 67 text_form) (λ comment.
    decide_by (decide_one cards 68 date_form) (λ date.
    decide_by (decide_each cards 70 file_form) (λ files.
    decide_by (decide_most cards 78 text_form) (λ mime.
    decide_by (decide_parents cards) (λ parents.
    decide_by (decide_each cards 81 pick_form) (λ picks.
    decide_by (decide_most cards 82 checksum_form) (λ checksum.
    decide_by (decide_each cards 84 tag_form) (λ tags.
    decide_by (decide_one cards 85 user_form) (λ user.
    let m : manifests.Manifest = record { baseline = baseline.0; comment = comment.0; date = date.0; files = files.0; mime = mime.0; parents = parents.0; picks = picks.0; checksum = checksum.0; tags = tags.0; user = user.0 } in
    decide_by (decide_true (has_hashes m && begins_own m.parents)) (λ whole. inl (m, record { letters = letters; baseline = baseline.1; comment = comment.1; date = date.1; files = files.1; mime = mime.1; parents = parents.1; picks = picks.1; checksum = checksum.1; tags = tags.1; user = user.1; hashes = first_holds _ (begins_own m.parents) whole; primary = second_holds (has_hashes m) _ whole }))
    (λ n h.
    let baseline_same = at_most_one_is cards 66 hash_form h.0.baseline baseline.0 h.1.baseline baseline.1 in
    let comment_same = one_is cards 67 text_form h.0.comment comment.0 h.1.comment comment.1 in
    let date_same = one_is cards 68 date_form h.0.date date.0 h.1.date date.1 in
    let files_same = each_is cards 70 file_form h.0.files files.0 h.1.files files.1 in
    let mime_same = at_most_one_is cards 78 text_form h.0.mime mime.0 h.1.mime mime.1 in
    let parents_same = parents_are cards h.0.parents parents.0 h.1.parents parents.1 in
    let picks_same = each_is cards 81 pick_form h.0.picks picks.0 h.1.picks picks.1 in
    let checksum_same = at_most_one_is cards 82 checksum_form h.0.checksum checksum.0 h.1.checksum checksum.1 in
    let tags_same = each_is cards 84 tag_form h.0.tags tags.0 h.1.tags tags.1 in
    let user_same = one_is cards 85 user_form h.0.user user.0 h.1.user user.1 in
    let same : h.0 ≡ m = λ i. record { baseline = baseline_same i; comment = comment_same i; date = date_same i; files = files_same i; mime = mime_same i; parents = parents_same i; picks = picks_same i; checksum = checksum_same i; tags = tags_same i; user = user_same i } in
    n (subst (λ (x : manifests.Manifest). IsTrue (has_hashes x && begins_own x.parents)) {x = h.0} same (and_from _ _ h.1.hashes h.1.primary))))
    (λ n h. n (h.0.user, h.1.user)))
    (λ n h. n (h.0.tags, h.1.tags)))
    (λ n h. n (h.0.checksum, h.1.checksum)))
    (λ n h. n (h.0.picks, h.1.picks)))
    (λ n h. n (h.0.parents, h.1.parents)))
    (λ n h. n (h.0.mime, h.1.mime)))
    (λ n h. n (h.0.files, h.1.files)))
    (λ n h. n (h.0.date, h.1.date)))
    (λ n h. n (h.0.comment, h.1.comment)))
    (λ n h. n (h.0.baseline, h.1.baseline)))
    (λ n h. n h.1.letters)

cluster_value : (cards : List Card) → Decided ((m : cluster_types.Cluster) × IsCluster cards m)
cluster_value cards =
    decide_by (decide_true (has_letters cluster_letters cards)) (λ letters.
    decide_by (decide_each cards 77 ref_form) (λ members.
    let m : cluster_types.Cluster = record { members = members.0 } in
    inl (m, record { letters = letters; members = members.1 }))
    (λ n h. n (h.0.members, h.1.members)))
    (λ n h. n h.1.letters)

control_value : (cards : List Card) → Decided ((m : control_types.Control) × IsControl cards m)
control_value cards =
    decide_by (decide_true (has_letters control_letters cards)) (λ letters.
    decide_by (decide_one cards 68 date_form) (λ date.
    decide_by (decide_each cards 84 tag_form) (λ tags.
    decide_by (decide_one cards 85 user_form) (λ user.
    let m : control_types.Control = record { date = date.0; tags = tags.0; user = user.0 } in
    decide_by (decide_true (list_all names_target m.tags)) (λ targets. inl (m, record { letters = letters; date = date.1; tags = tags.1; user = user.1; targets = targets }))
    (λ n h.
    let date_same = one_is cards 68 date_form h.0.date date.0 h.1.date date.1 in
    let tags_same = each_is cards 84 tag_form h.0.tags tags.0 h.1.tags tags.1 in
    let user_same = one_is cards 85 user_form h.0.user user.0 h.1.user user.1 in
    let same : h.0 ≡ m = λ i. record { date = date_same i; tags = tags_same i; user = user_same i } in
    n (subst (λ (x : control_types.Control). IsTrue (list_all names_target x.tags)) {x = h.0} same h.1.targets)))
    (λ n h. n (h.0.user, h.1.user)))
    (λ n h. n (h.0.tags, h.1.tags)))
    (λ n h. n (h.0.date, h.1.date)))
    (λ n h. n h.1.letters)

wiki_value : (cards : List Card) → Decided ((m : wiki_types.Wiki) × IsWiki cards m)
wiki_value cards =
    decide_by (decide_true (has_letters wiki_letters cards)) (λ letters.
    decide_by (decide_most cards 67 text_form) (λ comment.
    decide_by (decide_one cards 68 date_form) (λ date.
    decide_by (decide_one cards 76 text_form) (λ title.
    decide_by (decide_most cards 78 text_form) (λ mime.
    decide_by (decide_parents cards) (λ parents.
    decide_by (decide_one cards 85 user_form) (λ user.
    decide_by (decide_text_body cards) (λ text.
    let m : wiki_types.Wiki = record { comment = comment.0; date = date.0; title = title.0; mime = mime.0; parents = parents.0; user = user.0; text = text.0 } in
    inl (m, record { letters = letters; comment = comment.1; date = date.1; title = title.1; mime = mime.1; parents = parents.1; user = user.1; text = text.1 }))
    (λ n h. n (h.0.text, h.1.text)))
    (λ n h. n (h.0.user, h.1.user)))
    (λ n h. n (h.0.parents, h.1.parents)))
    (λ n h. n (h.0.mime, h.1.mime)))
    (λ n h. n (h.0.title, h.1.title)))
    (λ n h. n (h.0.date, h.1.date)))
    (λ n h. n (h.0.comment, h.1.comment)))
    (λ n h. n h.1.letters)

ticket_value : (cards : List Card) → Decided ((m : ticket_types.Ticket) × IsTicket cards m)
ticket_value cards =
    decide_by (decide_true (has_letters ticket_letters cards)) (λ letters.
    decide_by (decide_one cards 68 date_form) (λ date.
    decide_by (decide_each cards 74 change_form) (λ changes.
    decide_by (decide_one cards 75 hash_form) (λ id.
    decide_by (decide_one cards 85 user_form) (λ user.
    let m : ticket_types.Ticket = record { date = date.0; changes = changes.0; id = id.0; user = user.0 } in
    inl (m, record { letters = letters; date = date.1; changes = changes.1; id = id.1; user = user.1 }))
    (λ n h. n (h.0.user, h.1.user)))
    (λ n h. n (h.0.id, h.1.id)))
    (λ n h. n (h.0.changes, h.1.changes)))
    (λ n h. n (h.0.date, h.1.date)))
    (λ n h. n h.1.letters)

attachment_value : (cards : List Card) → Decided ((m : attachment_types.Attachment) × IsAttachment cards m)
attachment_value cards =
    decide_by (decide_true (has_letters attachment_letters cards)) (λ letters.
    decide_by (decide_one cards 65 attached_form) (λ attached.
    decide_by (decide_most cards 67 text_form) (λ comment.
    decide_by (decide_one cards 68 date_form) (λ date.
    decide_by (decide_most cards 78 text_form) (λ mime.
    decide_by (decide_most cards 85 user_form) (λ user.
    let m : attachment_types.Attachment = record { file = attached.0.file; target = attached.0.target; source = attached.0.source; comment = comment.0; date = date.0; mime = mime.0; user = user.0 } in
    inl (m, record { letters = letters; attached = attached.1; comment = comment.1; date = date.1; mime = mime.1; user = user.1 }))
    (λ n h. n (h.0.user, h.1.user)))
    (λ n h. n (h.0.mime, h.1.mime)))
    (λ n h. n (h.0.date, h.1.date)))
    (λ n h. n (h.0.comment, h.1.comment)))
    (λ n h. n (record { file = h.0.file; target = h.0.target; source = h.0.source }, h.1.attached)))
    (λ n h. n h.1.letters)

technote_value : (cards : List Card) → Decided ((m : technote_types.Technote) × IsTechnote cards m)
technote_value cards =
    decide_by (decide_true (has_letters technote_letters cards)) (λ letters.
    decide_by (decide_most cards 67 text_form) (λ comment.
    decide_by (decide_one cards 68 date_form) (λ date.
    decide_by (decide_one cards 69 event_form) (λ event.
    decide_by (decide_most cards 78 text_form) (λ mime.
    decide_by (decide_parents cards) (λ parents.
    decide_by (decide_each cards 84 tag_form) (λ tags.
    decide_by (decide_most cards 85 user_form) (λ user.
    decide_by (decide_text_body cards) (λ text.
    let m : technote_types.Technote = record { comment = comment.0; date = date.0; time = event.0.time; id = event.0.id; mime = mime.0; parents = parents.0; tags = tags.0; user = user.0; text = text.0 } in
    decide_by (decide_true (list_all is_own_tag m.tags)) (λ own. inl (m, record { letters = letters; comment = comment.1; date = date.1; event = event.1; mime = mime.1; parents = parents.1; tags = tags.1; user = user.1; text = text.1; own = own }))
    (λ n h.
    let comment_same = at_most_one_is cards 67 text_form h.0.comment comment.0 h.1.comment comment.1 in
    let date_same = one_is cards 68 date_form h.0.date date.0 h.1.date date.1 in
    let event_same = one_is cards 69 event_form (record { time = h.0.time; id = h.0.id }) event.0 h.1.event event.1 in
    let mime_same = at_most_one_is cards 78 text_form h.0.mime mime.0 h.1.mime mime.1 in
    let parents_same = parents_are cards h.0.parents parents.0 h.1.parents parents.1 in
    let tags_same = each_is cards 84 tag_form h.0.tags tags.0 h.1.tags tags.1 in
    let user_same = at_most_one_is cards 85 user_form h.0.user user.0 h.1.user user.1 in
    let text_same = body_is cards h.0.text text.0 h.1.text text.1 in
    let same : h.0 ≡ m = λ i. record { comment = comment_same i; date = date_same i; time = (event_same i).time; id = (event_same i).id; mime = mime_same i; parents = parents_same i; tags = tags_same i; user = user_same i; text = text_same i } in
    n (subst (λ (x : technote_types.Technote). IsTrue (list_all is_own_tag x.tags)) {x = h.0} same h.1.own)))
    (λ n h. n (h.0.text, h.1.text)))
    (λ n h. n (h.0.user, h.1.user)))
    (λ n h. n (h.0.tags, h.1.tags)))
    (λ n h. n (h.0.parents, h.1.parents)))
    (λ n h. n (h.0.mime, h.1.mime)))
    (λ n h. n (record { time = h.0.time; id = h.0.id }, h.1.event)))
    (λ n h. n (h.0.date, h.1.date)))
    (λ n h. n (h.0.comment, h.1.comment)))
    (λ n h. n h.1.letters)

forum_value : (cards : List Card) → Decided ((m : forum_types.Forum) × IsForum cards m)
forum_value cards =
    decide_by (decide_true (has_letters forum_letters cards)) (λ letters.
    decide_by (decide_one cards 68 date_form) (λ date.
    decide_by (decide_most cards 71 hash_form) (λ root.
    decide_by (decide_most cards 72 text_form) (λ title.
    decide_by (decide_most cards 73 hash_form) (λ reply.
    decide_by (decide_most cards 78 text_form) (λ mime.
    decide_by (decide_most cards 80 hash_form) (λ prior.
    decide_by (decide_one cards 85 user_form) (λ user.
    decide_by (decide_text_body cards) (λ text.
    let m : forum_types.Forum = record { date = date.0; root = root.0; title = title.0; reply = reply.0; mime = mime.0; prior = prior.0; user = user.0; text = text.0 } in
    decide_by (decide_true (begins_or_replies m)) (λ place. inl (m, record { letters = letters; date = date.1; root = root.1; title = title.1; reply = reply.1; mime = mime.1; prior = prior.1; user = user.1; text = text.1; place = place }))
    (λ n h.
    let date_same = one_is cards 68 date_form h.0.date date.0 h.1.date date.1 in
    let root_same = at_most_one_is cards 71 hash_form h.0.root root.0 h.1.root root.1 in
    let title_same = at_most_one_is cards 72 text_form h.0.title title.0 h.1.title title.1 in
    let reply_same = at_most_one_is cards 73 hash_form h.0.reply reply.0 h.1.reply reply.1 in
    let mime_same = at_most_one_is cards 78 text_form h.0.mime mime.0 h.1.mime mime.1 in
    let prior_same = at_most_one_is cards 80 hash_form h.0.prior prior.0 h.1.prior prior.1 in
    let user_same = one_is cards 85 user_form h.0.user user.0 h.1.user user.1 in
    let text_same = body_is cards h.0.text text.0 h.1.text text.1 in
    let same : h.0 ≡ m = λ i. record { date = date_same i; root = root_same i; title = title_same i; reply = reply_same i; mime = mime_same i; prior = prior_same i; user = user_same i; text = text_same i } in
    n (subst (λ (x : forum_types.Forum). IsTrue (begins_or_replies x)) {x = h.0} same h.1.place)))
    (λ n h. n (h.0.text, h.1.text)))
    (λ n h. n (h.0.user, h.1.user)))
    (λ n h. n (h.0.prior, h.1.prior)))
    (λ n h. n (h.0.mime, h.1.mime)))
    (λ n h. n (h.0.reply, h.1.reply)))
    (λ n h. n (h.0.title, h.1.title)))
    (λ n h. n (h.0.root, h.1.root)))
    (λ n h. n (h.0.date, h.1.date)))
    (λ n h. n h.1.letters)

-- ---- cards

decide_kind : (cards : List Card) → Decided ((a : Artifact) × AreOfKind cards a)
decide_kind cards = by (manifest_value cards) (cluster_value cards) (control_value cards) (wiki_value cards) (ticket_value cards) (attachment_value cards) (technote_value cards) (forum_value cards)
  where
    by : Decided ((m : manifests.Manifest) × IsManifest cards m) → Decided ((m : cluster_types.Cluster) × IsCluster cards m) → Decided ((m : control_types.Control) × IsControl cards m) → Decided ((m : wiki_types.Wiki) × IsWiki cards m) → Decided ((m : ticket_types.Ticket) × IsTicket cards m) → Decided ((m : attachment_types.Attachment) × IsAttachment cards m) → Decided ((m : technote_types.Technote) × IsTechnote cards m) → Decided ((m : forum_types.Forum) × IsForum cards m) → Decided ((a : Artifact) × AreOfKind cards a)
    by (inl h) d1 d2 d3 d4 d5 d6 d7 = inl (Manifest h.0, h.1)
    by (inr n0) (inl h) d2 d3 d4 d5 d6 d7 = inl (Cluster h.0, h.1)
    by (inr n0) (inr n1) (inl h) d3 d4 d5 d6 d7 = inl (Control h.0, h.1)
    by (inr n0) (inr n1) (inr n2) (inl h) d4 d5 d6 d7 = inl (Wiki h.0, h.1)
    by (inr n0) (inr n1) (inr n2) (inr n3) (inl h) d5 d6 d7 = inl (Ticket h.0, h.1)
    by (inr n0) (inr n1) (inr n2) (inr n3) (inr n4) (inl h) d6 d7 = inl (Attachment h.0, h.1)
    by (inr n0) (inr n1) (inr n2) (inr n3) (inr n4) (inr n5) (inl h) d7 = inl (Technote h.0, h.1)
    by (inr n0) (inr n1) (inr n2) (inr n3) (inr n4) (inr n5) (inr n6) (inl h) = inl (Forum h.0, h.1)
    by (inr n0) (inr n1) (inr n2) (inr n3) (inr n4) (inr n5) (inr n6) (inr n7) = inr (λ h. none h.0 h.1)
      where
        none : (a : Artifact) → AreOfKind cards a → ⊥
        none Plain k = k
        none (Manifest x) k = n0 (x, k)
        none (Cluster x) k = n1 (x, k)
        none (Control x) k = n2 (x, k)
        none (Wiki x) k = n3 (x, k)
        none (Ticket x) k = n4 (x, k)
        none (Attachment x) k = n5 (x, k)
        none (Technote x) k = n6 (x, k)
        none (Forum x) k = n7 (x, k)

-- ---- texts

-- of one of the eight kinds
of_kind : (text : List ℕ) (a : Artifact) → IsOfKind text a → IsKind text a
of_kind text Plain h = absurd h.2
of_kind text (Manifest x) h = h
of_kind text (Cluster x) h = h
of_kind text (Control x) h = h
of_kind text (Wiki x) h = h
of_kind text (Ticket x) h = h
of_kind text (Attachment x) h = h
of_kind text (Technote x) h = h
of_kind text (Forum x) h = h

by_kind : (text : List ℕ) (cards : List Card) → IsCards text cards → Decided ((a : Artifact) × AreOfKind cards a) → (a : Artifact) × IsKind text a
by_kind text cards h (inl k) = (k.0, of_kind text k.0 (cards, h, k.1))
by_kind text cards h (inr n) = (Plain, of_no_kind text cards h (λ a k. n (a, k)))

by_cards : (text : List ℕ) → Decided ((cards : List Card) × IsCards text cards) → (a : Artifact) × IsKind text a
by_cards text (inl c) = by_kind text c.0 c.1 (decide_kind c.0)
by_cards text (inr n) = (Plain, λ a k. n (k.0, k.1))

pub some_artifact : IsSomeArtifact
some_artifact text = by_cards text (decide_cards text)
