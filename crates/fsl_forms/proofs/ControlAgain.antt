-- What a control artifact is written as reads back as the value.
use Rattle.std.proofs.Common.{◌≡◌, ℕ, true, not, List, [], ◌∷◌, map, refl}
use Rattle.std.specs.Prelude.{◌&&◌, option_to_list}
use Rattle.std.specs.List.{list_all, AllByRecursion}
use Rattle.std.proofs.lemmas.Bool.{and_from}
use Rattle.fsl_order.proofs.Booleans.{first_holds, second_holds}
use Rattle.fsl_text.specs.Bytes.{is_empty}
use Rattle.fsl_text.specs.Escapes.{escape}
use Rattle.fsl_name.specs.Ref.{IsRef}
use Rattle.fsl_date.specs.Moment.{IsMoment, moment_text}
use Rattle.fsl_card.specs.declared.types.Card.{Card}
use Rattle.fsl_card.specs.Cards.{IsTextOf}
use Rattle.fsl_grammar.specs.Letters.{control_letters}
use Rattle.fsl_grammar.specs.Forms.{date_form, is_tag_written, tag_form, user_form}
use Rattle.fsl_grammar.specs.Writing.{card, tag_card}
use Rattle.fsl_grammar.proofs.WrittenArguments.{is_argument-date, is_argument-escape}
use Rattle.fsl_grammar.proofs.Blocks.{AreBlocks, single_block}
use Rattle.fsl_grammar.proofs.FormsAgain.{IsTagFit, date_again, read_each, tag_again, tags_block, tags_fit, user_again}
use Rattle.fsl_grammar.proofs.BlockLemmas.{by_form, letters_are, one_read, some_cards, text_is}
use Rattle.fsl_forms.specs.declared.control.Control.{Control}
use Rattle.fsl_forms.specs.Kinds.{IsControl, names_target}
use Rattle.fsl_forms.specs.WellFormed.{is_control_well_formed}
use Rattle.fsl_forms.specs.Writing.{IsControlText, control_cards}

-- the cards before the Z card
abbrev blocks : Control → List (ℕ × List Card)
blocks c = (68, card 68 (moment_text c.date ∷ []) ∷ []) ∷ (84, map tag_card c.tags) ∷ (85, card 85 (escape c.user ∷ []) ∷ []) ∷ []

module _ (c : Control) (named : AllByRecursion (λ t. AllByRecursion IsRef (option_to_list t.target)) c.tags) (moment : IsMoment c.date) (w : is_control_well_formed c ≡ true) where
  front : (not (is_empty c.tags) && list_all is_tag_written c.tags && list_all names_target c.tags) ≡ true
  front = first_holds _ (not (is_empty c.user)) w

  begin : (not (is_empty c.tags) && list_all is_tag_written c.tags) ≡ true
  begin = first_holds _ (list_all names_target c.tags) front

  fit : AllByRecursion IsTagFit c.tags
  fit = tags_fit c.tags named (second_holds (not (is_empty c.tags)) _ begin)

  are_blocks : AreBlocks (blocks c)
  are_blocks =
      (single_block 68 (moment_text c.date) refl (is_argument-date c.date), (tags_block c.tags fit, (single_block 85 (escape c.user) refl (is_argument-escape c.user (second_holds (not (is_empty c.tags) && list_all is_tag_written c.tags && list_all names_target c.tags) _ w)), tt)))

  pub control_again : (text : List ℕ) → IsControlText text c → IsTextOf IsControl text c
  control_again text made =
      let date = moment_text c.date in
      let b = are_blocks in
      text_is (blocks c) b IsControl c text (control_cards c) refl refl made (record {
        letters = letters_are (blocks c) b control_letters (record {
          once = refl;
          optional = refl;
          some = and_from _ _ (some_cards tag_card c.tags (first_holds _ (list_all is_tag_written c.tags) begin)) refl;
          known = refl;
        });
        date = by_form (blocks c) b 68 date_form _ (one_read date_form (date ∷ []) c.date (date_again c.date moment));
        tags = by_form (blocks c) b 84 tag_form _ (read_each tag_card tag_form IsTagFit tag_again c.tags fit);
        user = by_form (blocks c) b 85 user_form _ (one_read user_form (escape c.user ∷ []) c.user (user_again c.user));
        targets = second_holds (not (is_empty c.tags) && list_all is_tag_written c.tags) _ front;
      })
