-- What an attachment is written as reads back as the value.
use Rattle.std.proofs.Common.{◌≡◌, ℕ, true, not, List, [], ◌∷◌, ◌++◌, Option, Some, None, refl, append_assoc}
use Rattle.std.specs.Prelude.{◌&&◌, option_to_list}
use Rattle.std.specs.List.{list_all, AllByRecursion}
use Rattle.std.proofs.lemmas.List.{append-nil}
use Rattle.std.proofs.lemmas.Bool.{and_from}
use Rattle.fsl_order.proofs.Booleans.{first_holds, second_holds}
use Rattle.fsl_text.specs.Bytes.{is_empty}
use Rattle.fsl_text.specs.Escapes.{escape}
use Rattle.fsl_text.proofs.Unescaping.{unescape-escape}
use Rattle.fsl_name.specs.Ref.{IsRef, ref_text}
use Rattle.fsl_name.specs.declared.reference.Ref.{Ref}
use Rattle.fsl_name.proofs.RefTexts.{ref_again}
use Rattle.fsl_date.specs.Moment.{IsMoment, moment_text}
use Rattle.fsl_card.specs.declared.types.Card.{Card}
use Rattle.fsl_card.specs.Cards.{IsTextOf, is_argument}
use Rattle.fsl_grammar.specs.Letters.{attachment_letters}
use Rattle.fsl_grammar.specs.Forms.{date_form, is_filled, text_form, user_form}
use Rattle.fsl_grammar.specs.Writing.{card, card_if, written_if}
use Rattle.fsl_grammar.proofs.WrittenArguments.{is_argument-date, is_argument-escape, is_argument-ref}
use Rattle.fsl_grammar.proofs.Blocks.{AreBlocks, at_most_one_if, one_block, single_block}
use Rattle.fsl_grammar.proofs.FormsAgain.{date_again}
use Rattle.fsl_grammar.proofs.BlockLemmas.{by_form, letters_are, one_read, text_block, text_is, text_read, user_read}
use Rattle.fsl_forms.specs.declared.attachment.Attachment.{Attachment}
use Rattle.fsl_forms.specs.Kinds.{IsAttachment, attached_form}
use Rattle.fsl_forms.specs.WellFormed.{is_attachment_well_formed}
use Rattle.fsl_forms.specs.Writing.{IsAttachmentText, attached_card, attachment_cards}

-- the cards before the Z card
abbrev blocks : Attachment → List (ℕ × List Card)
blocks a =
    (65, attached_card a ∷ []) ∷ (67, card_if 67 escape a.comment) ∷ (68, card 68 (moment_text a.date ∷ []) ∷ []) ∷ (78, card_if 78 escape a.mime) ∷ (85, card_if 85 escape a.user) ∷ []

regroup : (c n u : List Card) (a d : Card) → a ∷ (c ++ (d ∷ (n ++ (u ++ [])))) ≡ ((a ∷ c) ++ (d ∷ n)) ++ u
regroup c n u a d = simp (append_assoc, append-nil)

attached_again : (file target : List ℕ) (source : Option Ref) → AllByRecursion IsRef (option_to_list source)
    → attached_form (escape file ∷ escape target ∷ written_if ref_text source) ≡ Some (record { file = file; target = target; source = source })
attached_again file target None h = rw (unescape-escape file, unescape-escape target) refl
attached_again file target (Some name) h = rw (ref_again name h.0, unescape-escape file, unescape-escape target) refl

source_argument : (source : Option Ref) → AllByRecursion IsRef (option_to_list source) → list_all is_argument (written_if ref_text source) ≡ true
source_argument None h = refl
source_argument (Some name) h = and_from _ _ (is_argument-ref name h.0) refl

module _ (a : Attachment) (named : AllByRecursion IsRef (option_to_list a.source)) (moment : IsMoment a.date) (w : is_attachment_well_formed a ≡ true) where
  w3 : (not (is_empty a.file) && not (is_empty a.target) && is_filled a.comment && is_filled a.mime) ≡ true
  w3 = first_holds _ (is_filled a.user) w

  w2 : (not (is_empty a.file) && not (is_empty a.target) && is_filled a.comment) ≡ true
  w2 = first_holds _ (is_filled a.mime) w3

  w1 : (not (is_empty a.file) && not (is_empty a.target)) ≡ true
  w1 = first_holds _ (is_filled a.comment) w2

  arguments_fit : list_all is_argument (escape a.file ∷ escape a.target ∷ written_if ref_text a.source) ≡ true
  arguments_fit =
      and_from _ _ (is_argument-escape a.file (first_holds _ (not (is_empty a.target)) w1))
      (and_from _ _ (is_argument-escape a.target (second_holds (not (is_empty a.file)) _ w1)) (source_argument a.source named))

  are_blocks : AreBlocks (blocks a)
  are_blocks = (
    one_block 65 (escape a.file ∷ escape a.target ∷ written_if ref_text a.source) refl arguments_fit,
    (
      text_block 67 a.comment refl (second_holds (not (is_empty a.file) && not (is_empty a.target)) _ w2),
      (
        single_block 68 (moment_text a.date) refl (is_argument-date a.date),
        (
          text_block 78 a.mime refl (second_holds (not (is_empty a.file) && not (is_empty a.target) && is_filled a.comment) _ w3),
          (text_block 85 a.user refl (second_holds (not (is_empty a.file) && not (is_empty a.target) && is_filled a.comment && is_filled a.mime) _ w), tt),
        ),
      ),
    ),
  )

  pub attachment_again : (text : List ℕ) → IsAttachmentText text a → IsTextOf IsAttachment text a
  attachment_again text made =
      let date = moment_text a.date in
      let b = are_blocks in
      let same = regroup (card_if 67 escape a.comment) (card_if 78 escape a.mime) (card_if 85 escape a.user) (attached_card a) (card 68 (date ∷ [])) in
      text_is (blocks a) b IsAttachment a text (attachment_cards a) refl same made (record {
        letters = letters_are (blocks a) b attachment_letters (record {
          once = refl;
          optional = and_from _ _ (at_most_one_if 67 escape a.comment) (and_from _ _ (at_most_one_if 78 escape a.mime) (and_from _ _ (at_most_one_if 85 escape a.user) refl));
          some = refl;
          known = refl;
        });
        attached = by_form (blocks a) b 65 attached_form _ (one_read attached_form (attached_card a).args (record { file = a.file; target = a.target; source = a.source }) (attached_again a.file a.target a.source named));
        comment = by_form (blocks a) b 67 text_form _ (text_read 67 a.comment);
        date = by_form (blocks a) b 68 date_form _ (one_read date_form (date ∷ []) a.date (date_again a.date moment));
        mime = by_form (blocks a) b 78 text_form _ (text_read 78 a.mime);
        user = by_form (blocks a) b 85 user_form _ (user_read 85 a.user);
      })
