-- Where some cards are a value, the value can be written.
use Rattle.std.proofs.Common.{◌≡◌, ℕ, true, not, List, [], ◌∷◌, Option, refl}
use Rattle.std.specs.Prelude.{◌&&◌, ◌==◌, ◌++◌, nat_le, option_to_list, IsTrue}
use Rattle.std.specs.List.{list_all, list_any, AllByRecursion}
use Rattle.std.proofs.lemmas.Bool.{and_from}
use Rattle.fsl_order.proofs.Booleans.{first_holds, second_holds}
use Rattle.fsl_text.specs.Bytes.{is_empty}
use Rattle.fsl_card.specs.declared.types.Card.{Card}
use Rattle.fsl_card.specs.Cards.{IsCard, are_field_arguments, in_order, is_argument}
use Rattle.fsl_grammar.specs.declared.TagCard.{TagCard}
use Rattle.fsl_grammar.specs.Letters.{Letters, cluster_letters, control_letters, has_letters, letter_count, ticket_letters}
use Rattle.fsl_grammar.specs.Forms.{HasAtMostOne, HasEach, HasOne, arguments, ref_form, is_filled, is_tag_written, tag_form, text_form, user_form}
use Rattle.fsl_grammar.proofs.LetterOrder.{all_of_it, kept_in_order, of_it}
use Rattle.fsl_grammar.proofs.ReadValues.{all_true, each_given, filled, fit_arguments, optional_filled, some_given, tag_read, text_filled, user_filled}
use Rattle.fsl_forms.specs.declared.attachment.Attachment.{Attachment}
use Rattle.fsl_forms.specs.declared.cluster.Cluster.{Cluster}
use Rattle.fsl_forms.specs.declared.control.Control.{Control}
use Rattle.fsl_forms.specs.declared.forum.Forum.{Forum}
use Rattle.fsl_forms.specs.declared.technote.Technote.{Technote}
use Rattle.fsl_forms.specs.declared.ticket.Ticket.{Ticket}
use Rattle.fsl_forms.specs.declared.wiki.Wiki.{Wiki}
use Rattle.fsl_forms.specs.Kinds.{IsAttachment, IsCluster, IsControl, IsForum, IsTechnote, IsTicket, IsWiki, Attached, attached_form, change_form}
use Rattle.fsl_forms.specs.WellFormed.{is_attachment_well_formed, is_change_written, is_cluster_well_formed, is_control_well_formed, is_forum_well_formed, is_technote_well_formed, is_ticket_well_formed, is_wiki_well_formed}
use Rattle.fsl_forms.proofs.MemberOrder.{rise_from}
use Rattle.fsl_forms.proofs.FormReadLemmas.{attached_read, change_read}

-- the one letter that a kind has one time or more
some_of : (kind : Letters) (letter : ℕ) (cards : List Card) → kind.some ≡ letter ∷ [] → has_letters kind cards ≡ true → nat_le 1 (letter_count cards letter) ≡ true
some_of kind letter cards one h =
    let front = first_holds _ (list_all (λ card. list_any (λ l. card.letter == l) (kind.once ++ kind.optional ++ kind.repeated ++ kind.some)) cards) h in
    first_holds _ true (rw one at (second_holds (list_all (λ l. letter_count cards l == 1) kind.once && list_all (λ l. nat_le (letter_count cards l) 1) kind.optional) _ front))

-- the texts of cards whose arguments are fit have bytes
module _ (cards : List Card) (each : AllByRecursion IsCard cards) where
  one_text : (text : List ℕ) → HasOne cards 76 text_form text → not (is_empty text) ≡ true
  one_text text h = (each_given (λ args. list_all is_argument args ≡ true) text_form filled text_filled (arguments cards 76) (text ∷ []) (fit_arguments cards 76 each) h).0

  one_user : (text : List ℕ) → HasOne cards 85 user_form text → not (is_empty text) ≡ true
  one_user text h = (each_given (λ args. list_all is_argument args ≡ true) user_form filled user_filled (arguments cards 85) (text ∷ []) (fit_arguments cards 85 each) h).0

  optional_text : (letter : ℕ) (o : Option (List ℕ)) → AllByRecursion (λ args. list_all is_argument args ≡ true) (arguments cards letter) → HasAtMostOne cards letter text_form o → is_filled o ≡ true
  optional_text letter o fit h = optional_filled o (each_given (λ args. list_all is_argument args ≡ true) text_form filled text_filled (arguments cards letter) (option_to_list o) fit h)

  optional_user : (o : Option (List ℕ)) → HasAtMostOne cards 85 user_form o → is_filled o ≡ true
  optional_user o h = optional_filled o (each_given (λ args. list_all is_argument args ≡ true) user_form filled user_filled (arguments cards 85) (option_to_list o) (fit_arguments cards 85 each) h)

  comment : (o : Option (List ℕ)) → HasAtMostOne cards 67 text_form o → is_filled o ≡ true
  comment o h = optional_text 67 o (fit_arguments cards 67 each) h

  mime : (o : Option (List ℕ)) → HasAtMostOne cards 78 text_form o → is_filled o ≡ true
  mime o h = optional_text 78 o (fit_arguments cards 78 each) h

  tags_written : (tags : List TagCard) → HasEach cards 84 tag_form tags → list_all is_tag_written tags ≡ true
  tags_written tags h =
      all_true is_tag_written tags (each_given (λ args. list_all is_argument args ≡ true) tag_form (λ t. is_tag_written t ≡ true) tag_read (arguments cards 84) tags (fit_arguments cards 84 each) h)

  pub control_written : (c : Control) → IsControl cards c → is_control_well_formed c ≡ true
  control_written c h =
      and_from _ _ (and_from _ _ (and_from _ _ (some_given cards 84 tag_form c.tags (some_of control_letters 84 cards refl h.letters) h.tags) (tags_written c.tags h.tags)) h.targets) (one_user c.user h.user)

  pub wiki_written : (w : Wiki) → IsWiki cards w → is_wiki_well_formed w ≡ true
  wiki_written w h = and_from _ _ (and_from _ _ (and_from _ _ (and_from _ _ (comment w.comment h.comment) (one_text w.title h.title)) (mime w.mime h.mime)) h.parents.differ) (one_user w.user h.user)

  pub technote_written : (n : Technote) → IsTechnote cards n → is_technote_well_formed n ≡ true
  technote_written n h =
      and_from _ _ (and_from _ _ (and_from _ _ (and_from _ _ (and_from _ _ (comment n.comment h.comment) (mime n.mime h.mime)) h.parents.differ) (tags_written n.tags h.tags)) h.own) (optional_user n.user h.user)

  pub forum_written : (f : Forum) → IsForum cards f → is_forum_well_formed f ≡ true
  forum_written f h = and_from _ _ (and_from _ _ (and_from _ _ (optional_text 72 f.title (fit_arguments cards 72 each) h.title) (mime f.mime h.mime)) (one_user f.user h.user)) h.place

  pub ticket_written : (t : Ticket) → IsTicket cards t → is_ticket_well_formed t ≡ true
  ticket_written t h =
      let changes = each_given (λ args. are_field_arguments args ≡ true) change_form (λ c. is_change_written c ≡ true) change_read (arguments cards 74) t.changes (fit_arguments cards 74 each) h.changes in
      and_from _ _ (and_from _ _ (some_given cards 74 change_form t.changes (some_of ticket_letters 74 cards refl h.letters) h.changes) (all_true is_change_written t.changes changes)) (one_user t.user h.user)

  pub attachment_written : (a : Attachment) → IsAttachment cards a → is_attachment_well_formed a ≡ true
  attachment_written a h =
      let attached : Attached = record { file = a.file; target = a.target; source = a.source } in
      let named = each_given (λ args. list_all is_argument args ≡ true) attached_form (λ r. (not (is_empty r.file) && not (is_empty r.target)) ≡ true) attached_read (arguments cards 65) (attached ∷ []) (fit_arguments cards 65 each) h.attached in
      and_from _ _ (and_from _ _ (and_from _ _ named.0 (comment a.comment h.comment)) (mime a.mime h.mime)) (optional_user a.user h.user)

  pub cluster_written : (c : Cluster) → IsTrue (in_order cards) → IsCluster cards c → is_cluster_well_formed c ≡ true
  cluster_written c ordered h =
      and_from _ _ (some_given cards 77 ref_form c.members (some_of cluster_letters 77 cards refl h.letters) h.members)
      (rise_from (of_it 77 cards) c.members (all_of_it 77 cards) (kept_in_order 77 cards ordered) h.members)
