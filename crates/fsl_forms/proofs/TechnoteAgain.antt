-- What a technote is written as reads back as the value.
use Rattle.std.proofs.Common.{◌≡◌, ℕ, ◌^◌, ◌<◌, true, List, [], ◌∷◌, ◌++◌, length, map, flat_map, Some, refl, ap, ◌∙◌, append_assoc}
use Rattle.std.specs.Prelude.{◌&&◌, option_to_list}
use Rattle.std.specs.List.{list_all, AllByRecursion}
use Rattle.std.proofs.lemmas.Bool.{and_from}
use Rattle.fsl_order.proofs.Booleans.{first_holds, second_holds}
use Rattle.fsl_text.specs.Escapes.{escape}
use Rattle.fsl_name.specs.Name.{IsName, name_text}
use Rattle.fsl_name.specs.Ref.{IsRef, ref_in}
use Rattle.fsl_name.proofs.ReadAgain.{name_again}
use Rattle.fsl_date.specs.Moment.{IsMoment, moment_text}
use Rattle.fsl_date.proofs.MomentTexts.{is_read}
use Rattle.fsl_card.specs.declared.types.Card.{Card}
use Rattle.fsl_card.specs.Cards.{IsTextOf}
use Rattle.fsl_grammar.specs.Letters.{technote_letters}
use Rattle.fsl_grammar.specs.Forms.{date_form, is_filled, is_tag_written, refs_differ, tag_form, text_form, user_form}
use Rattle.fsl_grammar.specs.Writing.{body_card, card, card_if, parents_card, tag_card}
use Rattle.fsl_grammar.proofs.WrittenArguments.{is_argument-date, is_argument-name}
use Rattle.fsl_grammar.proofs.Blocks.{AreBlocks, at_most_one_if, one_block, single_block}
use Rattle.fsl_grammar.proofs.FormsAgain.{IsTagFit, at_most_one_parents, date_again, parents_again, parents_block, read_each, tag_again, tags_block, tags_fit}
use Rattle.fsl_grammar.proofs.BlockLemmas.{body_again, body_block, by_form, letters_are, no_bodies-each, no_bodies-if, no_bodies-parents, of_letter, one_read, text_block, text_is, text_read, user_read}
use Rattle.fsl_forms.specs.declared.technote.Technote.{Technote}
use Rattle.fsl_forms.specs.Kinds.{IsTechnote, event_form, is_own_tag}
use Rattle.fsl_forms.specs.WellFormed.{is_technote_well_formed}
use Rattle.fsl_forms.specs.Writing.{IsTechnoteText, event_card, technote_cards}

-- the cards before the W card, and before the Z card
abbrev front : Technote → List (ℕ × List Card)
front n =
    (67, card_if 67 escape n.comment) ∷ (68, card 68 (moment_text n.date ∷ []) ∷ []) ∷ (69, event_card (moment_text n.time) n.id ∷ []) ∷ (78, card_if 78 escape n.mime)
    ∷ (80, parents_card n.parents) ∷ (84, map tag_card n.tags) ∷ (85, card_if 85 escape n.user) ∷ []

abbrev blocks : Technote → List (ℕ × List Card)
blocks n = front n ++ (87, body_card n.text ∷ []) ∷ []

regroup : (c n p t u w : List Card) → c ++ (n ++ (p ++ (t ++ (u ++ w)))) ≡ ((((c ++ n) ++ p) ++ t) ++ u) ++ w
regroup c n p t u w = simp append_assoc

event_again : (ms : ℕ) (id : List ℕ) → IsName id → IsMoment ms → event_form (moment_text ms ∷ name_text id ∷ []) ≡ Some (record { time = ms; id = id })
event_again ms id named timed = rw (is_read ms timed (moment_text ms) refl, name_again id named) refl

module _ (n : Technote) (id : IsName n.id) (parents : AllByRecursion IsRef n.parents) (targets : AllByRecursion (λ t. AllByRecursion IsRef (option_to_list t.target)) n.tags)
    (moment : IsMoment n.date) (timed : IsMoment n.time) (long : length n.text < 2 ^ 64) (w : is_technote_well_formed n ≡ true) where
  w4 : (is_filled n.comment && is_filled n.mime && refs_differ n.parents && list_all is_tag_written n.tags && list_all is_own_tag n.tags) ≡ true
  w4 = first_holds _ (is_filled n.user) w

  w3 : (is_filled n.comment && is_filled n.mime && refs_differ n.parents && list_all is_tag_written n.tags) ≡ true
  w3 = first_holds _ (list_all is_own_tag n.tags) w4

  w2 : (is_filled n.comment && is_filled n.mime && refs_differ n.parents) ≡ true
  w2 = first_holds _ (list_all is_tag_written n.tags) w3

  w1 : (is_filled n.comment && is_filled n.mime) ≡ true
  w1 = first_holds _ (refs_differ n.parents) w2

  fit : AllByRecursion IsTagFit n.tags
  fit = tags_fit n.tags targets (second_holds (is_filled n.comment && is_filled n.mime && refs_differ n.parents) _ w3)

  are_blocks : AreBlocks (blocks n)
  are_blocks = (
    text_block 67 n.comment refl (first_holds _ (is_filled n.mime) w1),
    (
      single_block 68 (moment_text n.date) refl (is_argument-date n.date),
      (
        one_block 69 (moment_text n.time ∷ name_text n.id ∷ []) refl (and_from _ _ (is_argument-date n.time) (and_from _ _ (is_argument-name n.id id) refl)),
        (
          text_block 78 n.mime refl (second_holds (is_filled n.comment) _ w1),
          (
            parents_block n.parents parents,
            (
              tags_block n.tags fit,
              (
                text_block 85 n.user refl (second_holds (is_filled n.comment && is_filled n.mime && refs_differ n.parents && list_all is_tag_written n.tags && list_all is_own_tag n.tags) _ w),
                (body_block n.text long, tt),
              ),
            ),
          ),
        ),
      ),
    ),
  )

  pub technote_again : (text : List ℕ) → IsTechnoteText text n → IsTextOf IsTechnote text n
  technote_again text made =
      let date = moment_text n.date in
      let time = moment_text n.time in
      let b = are_blocks in
      let same = regroup (card_if 67 escape n.comment) (card 68 (date ∷ []) ∷ event_card time n.id ∷ card_if 78 escape n.mime) (parents_card n.parents) (map tag_card n.tags) (card_if 85 escape n.user) (body_card n.text ∷ []) in
      text_is (blocks n) b IsTechnote n text (technote_cards n) refl same made (record {
        letters = letters_are (blocks n) b technote_letters (record {
          once = refl;
          optional = and_from _ _ (at_most_one_if 67 escape n.comment) (and_from _ _ (at_most_one_if 78 escape n.mime) (and_from _ _ (at_most_one_parents n.parents) (and_from _ _ (at_most_one_if 85 escape n.user) refl)));
          some = refl;
          known = refl;
        });
        comment = by_form (blocks n) b 67 text_form _ (text_read 67 n.comment);
        date = by_form (blocks n) b 68 date_form _ (one_read date_form (date ∷ []) n.date (date_again n.date moment));
        event = by_form (blocks n) b 69 event_form _ (one_read event_form (time ∷ name_text n.id ∷ []) (record { time = n.time; id = n.id }) (event_again n.time n.id id timed));
        mime = by_form (blocks n) b 78 text_form _ (text_read 78 n.mime);
        parents = record {
          names = ap (λ (found : List (List (List ℕ))). map ref_in (flat_map (λ args. args) found)) (of_letter (blocks n) b 80) ∙ parents_again n.parents parents;
          differ = second_holds (is_filled n.comment && is_filled n.mime) _ w2;
        };
        tags = by_form (blocks n) b 84 tag_form _ (read_each tag_card tag_form IsTagFit tag_again n.tags fit);
        user = by_form (blocks n) b 85 user_form _ (user_read 85 n.user);
        text = body_again (front n) n.text (no_bodies-if 67 escape n.comment, (refl, (refl, (no_bodies-if 78 escape n.mime, (no_bodies-parents n.parents, (no_bodies-each tag_card (λ t. refl) n.tags, (no_bodies-if 85 escape n.user, tt)))))));
        own = second_holds (is_filled n.comment && is_filled n.mime && refs_differ n.parents && list_all is_tag_written n.tags) _ w4;
      })
