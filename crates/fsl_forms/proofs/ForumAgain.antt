-- What a forum post is written as reads back as the value.
use Rattle.std.proofs.Common.{◌≡◌, ℕ, ◌^◌, ◌<◌, true, not, List, [], ◌∷◌, ◌++◌, length, refl, append_assoc}
use Rattle.std.specs.Prelude.{◌&&◌, option_to_list}
use Rattle.std.specs.List.{AllByRecursion}
use Rattle.std.proofs.lemmas.Bool.{and_from}
use Rattle.fsl_order.proofs.Booleans.{first_holds, second_holds}
use Rattle.fsl_text.specs.Bytes.{is_empty}
use Rattle.fsl_text.specs.Escapes.{escape}
use Rattle.fsl_name.specs.Name.{IsName, name_text}
use Rattle.fsl_date.specs.Moment.{IsMoment, moment_text}
use Rattle.fsl_card.specs.declared.types.Card.{Card}
use Rattle.fsl_card.specs.Cards.{IsTextOf}
use Rattle.fsl_grammar.specs.Letters.{forum_letters}
use Rattle.fsl_grammar.specs.Forms.{date_form, hash_form, is_filled, text_form, user_form}
use Rattle.fsl_grammar.specs.Writing.{body_card, card, card_if}
use Rattle.fsl_grammar.proofs.WrittenArguments.{is_argument-date, is_argument-escape}
use Rattle.fsl_grammar.proofs.Blocks.{AreBlocks, at_most_one_if, single_block}
use Rattle.fsl_grammar.proofs.FormsAgain.{date_again, user_again}
use Rattle.fsl_grammar.proofs.BlockLemmas.{body_again, body_block, by_form, letters_are, name_block, name_read, no_bodies-if, one_read, text_block, text_is, text_read}
use Rattle.fsl_forms.specs.declared.forum.Forum.{Forum}
use Rattle.fsl_forms.specs.Kinds.{IsForum, begins_or_replies}
use Rattle.fsl_forms.specs.WellFormed.{is_forum_well_formed}
use Rattle.fsl_forms.specs.Writing.{IsForumText, forum_cards}

-- the cards before the W card, and before the Z card
abbrev front : Forum → List (ℕ × List Card)
front f =
    (68, card 68 (moment_text f.date ∷ []) ∷ []) ∷ (71, card_if 71 name_text f.root) ∷ (72, card_if 72 escape f.title) ∷ (73, card_if 73 name_text f.reply)
    ∷ (78, card_if 78 escape f.mime) ∷ (80, card_if 80 name_text f.prior) ∷ (85, card 85 (escape f.user ∷ []) ∷ []) ∷ []

abbrev blocks : Forum → List (ℕ × List Card)
blocks f = front f ++ (87, body_card f.text ∷ []) ∷ []

regroup : (g h i n p t : List Card) (d : Card) → d ∷ (g ++ (h ++ (i ++ (n ++ (p ++ t))))) ≡ (((((d ∷ g) ++ h) ++ i) ++ n) ++ p) ++ t
regroup g h i n p t d = simp append_assoc

module _ (f : Forum) (root : AllByRecursion IsName (option_to_list f.root)) (reply : AllByRecursion IsName (option_to_list f.reply)) (prior : AllByRecursion IsName (option_to_list f.prior))
    (moment : IsMoment f.date) (long : length f.text < 2 ^ 64) (w : is_forum_well_formed f ≡ true) where
  w2 : (is_filled f.title && is_filled f.mime && not (is_empty f.user)) ≡ true
  w2 = first_holds _ (begins_or_replies f) w

  w1 : (is_filled f.title && is_filled f.mime) ≡ true
  w1 = first_holds _ (not (is_empty f.user)) w2

  are_blocks : AreBlocks (blocks f)
  are_blocks = (
    single_block 68 (moment_text f.date) refl (is_argument-date f.date),
    (
      name_block 71 f.root refl root,
      (
        text_block 72 f.title refl (first_holds _ (is_filled f.mime) w1),
        (
          name_block 73 f.reply refl reply,
          (
            text_block 78 f.mime refl (second_holds (is_filled f.title) _ w1),
            (
              name_block 80 f.prior refl prior,
              (
                single_block 85 (escape f.user) refl (is_argument-escape f.user (second_holds (is_filled f.title && is_filled f.mime) _ w2)),
                (body_block f.text long, tt),
              ),
            ),
          ),
        ),
      ),
    ),
  )

  pub forum_again : (text : List ℕ) → IsForumText text f → IsTextOf IsForum text f
  forum_again text made =
      let date = moment_text f.date in
      let b = are_blocks in
      let same = regroup (card_if 71 name_text f.root) (card_if 72 escape f.title) (card_if 73 name_text f.reply) (card_if 78 escape f.mime) (card_if 80 name_text f.prior) (card 85 (escape f.user ∷ []) ∷ body_card f.text ∷ []) (card 68 (date ∷ [])) in
      text_is (blocks f) b IsForum f text (forum_cards f) refl same made (record {
        letters = letters_are (blocks f) b forum_letters (record {
          once = refl;
          optional = and_from _ _ (at_most_one_if 71 name_text f.root) (and_from _ _ (at_most_one_if 72 escape f.title) (and_from _ _ (at_most_one_if 73 name_text f.reply) (and_from _ _ (at_most_one_if 78 escape f.mime) (and_from _ _ (at_most_one_if 80 name_text f.prior) refl))));
          some = refl;
          known = refl;
        });
        date = by_form (blocks f) b 68 date_form _ (one_read date_form (date ∷ []) f.date (date_again f.date moment));
        root = by_form (blocks f) b 71 hash_form _ (name_read 71 f.root root);
        title = by_form (blocks f) b 72 text_form _ (text_read 72 f.title);
        reply = by_form (blocks f) b 73 hash_form _ (name_read 73 f.reply reply);
        mime = by_form (blocks f) b 78 text_form _ (text_read 78 f.mime);
        prior = by_form (blocks f) b 80 hash_form _ (name_read 80 f.prior prior);
        user = by_form (blocks f) b 85 user_form _ (one_read user_form (escape f.user ∷ []) f.user (user_again f.user));
        text = body_again (front f) f.text (refl, (no_bodies-if 71 name_text f.root, (no_bodies-if 72 escape f.title, (no_bodies-if 73 name_text f.reply, (no_bodies-if 78 escape f.mime, (no_bodies-if 80 name_text f.prior, (refl, tt)))))));
        place = second_holds (is_filled f.title && is_filled f.mime && not (is_empty f.user)) _ w;
      })
