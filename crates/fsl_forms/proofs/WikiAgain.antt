-- What a wiki page is written as reads back as the page.
use Rattle.std.proofs.Common.{◌≡◌, ℕ, ◌^◌, ◌<◌, true, not, List, [], ◌∷◌, ◌++◌, length, map, flat_map, refl, ap, ◌∙◌, append_assoc}
use Rattle.std.specs.Prelude.{◌&&◌}
use Rattle.std.specs.List.{AllByRecursion}
use Rattle.std.proofs.lemmas.Bool.{and_from}
use Rattle.fsl_order.proofs.Booleans.{first_holds, second_holds}
use Rattle.fsl_text.specs.Bytes.{is_empty}
use Rattle.fsl_text.specs.Escapes.{escape}
use Rattle.fsl_name.specs.Ref.{IsRef, ref_in}
use Rattle.fsl_date.specs.Moment.{IsMoment, moment_text}
use Rattle.fsl_card.specs.declared.types.Card.{Card}
use Rattle.fsl_card.specs.Cards.{IsTextOf}
use Rattle.fsl_grammar.specs.Letters.{wiki_letters}
use Rattle.fsl_grammar.specs.Forms.{date_form, is_filled, refs_differ, text_form, user_form}
use Rattle.fsl_grammar.specs.Writing.{body_card, card, card_if, parents_card}
use Rattle.fsl_grammar.proofs.WrittenArguments.{is_argument-date, is_argument-escape}
use Rattle.fsl_grammar.proofs.Blocks.{AreBlocks, at_most_one_if, single_block}
use Rattle.fsl_grammar.proofs.FormsAgain.{at_most_one_parents, date_again, parents_again, parents_block, text_again, user_again}
use Rattle.fsl_grammar.proofs.BlockLemmas.{body_again, body_block, by_form, letters_are, no_bodies-if, no_bodies-parents, of_letter, one_read, text_block, text_is, text_read}
use Rattle.fsl_forms.specs.declared.wiki.Wiki.{Wiki}
use Rattle.fsl_forms.specs.Kinds.{IsWiki}
use Rattle.fsl_forms.specs.WellFormed.{is_wiki_well_formed}
use Rattle.fsl_forms.specs.Writing.{IsWikiText, wiki_cards}

-- the cards before the W card, and before the Z card
abbrev front : Wiki → List (ℕ × List Card)
front w =
    (67, card_if 67 escape w.comment) ∷ (68, card 68 (moment_text w.date ∷ []) ∷ []) ∷ (76, card 76 (escape w.title ∷ []) ∷ []) ∷ (78, card_if 78 escape w.mime)
    ∷ (80, parents_card w.parents) ∷ (85, card 85 (escape w.user ∷ []) ∷ []) ∷ []

abbrev blocks : Wiki → List (ℕ × List Card)
blocks w = front w ++ (87, body_card w.text ∷ []) ∷ []

regroup : (c n p t : List Card) (d l : Card) → c ++ (d ∷ (l ∷ (n ++ (p ++ t)))) ≡ ((c ++ (d ∷ l ∷ n)) ++ p) ++ t
regroup c n p t d l = simp append_assoc

module _ (w : Wiki) (named : AllByRecursion IsRef w.parents) (moment : IsMoment w.date) (long : length w.text < 2 ^ 64) (written : is_wiki_well_formed w ≡ true) where
  w3 : (is_filled w.comment && not (is_empty w.title) && is_filled w.mime && refs_differ w.parents) ≡ true
  w3 = first_holds _ (not (is_empty w.user)) written

  w2 : (is_filled w.comment && not (is_empty w.title) && is_filled w.mime) ≡ true
  w2 = first_holds _ (refs_differ w.parents) w3

  w1 : (is_filled w.comment && not (is_empty w.title)) ≡ true
  w1 = first_holds _ (is_filled w.mime) w2

  are_blocks : AreBlocks (blocks w)
  are_blocks = (
    text_block 67 w.comment refl (first_holds _ (not (is_empty w.title)) w1),
    (
      single_block 68 (moment_text w.date) refl (is_argument-date w.date),
      (
        single_block 76 (escape w.title) refl (is_argument-escape w.title (second_holds (is_filled w.comment) _ w1)),
        (
          text_block 78 w.mime refl (second_holds (is_filled w.comment && not (is_empty w.title)) _ w2),
          (
            parents_block w.parents named,
            (
              single_block 85 (escape w.user) refl (is_argument-escape w.user (second_holds (is_filled w.comment && not (is_empty w.title) && is_filled w.mime && refs_differ w.parents) _ written)),
              (body_block w.text long, tt),
            ),
          ),
        ),
      ),
    ),
  )

  pub wiki_again : (text : List ℕ) → IsWikiText text w → IsTextOf IsWiki text w
  wiki_again text made =
      let date = moment_text w.date in
      let b = are_blocks in
      let same = regroup (card_if 67 escape w.comment) (card_if 78 escape w.mime) (parents_card w.parents) (card 85 (escape w.user ∷ []) ∷ body_card w.text ∷ []) (card 68 (date ∷ [])) (card 76 (escape w.title ∷ [])) in
      text_is (blocks w) b IsWiki w text (wiki_cards w) refl same made (record {
        letters = letters_are (blocks w) b wiki_letters (record {
          once = refl;
          optional = and_from _ _ (at_most_one_if 67 escape w.comment) (and_from _ _ (at_most_one_if 78 escape w.mime) (and_from _ _ (at_most_one_parents w.parents) refl));
          some = refl;
          known = refl;
        });
        comment = by_form (blocks w) b 67 text_form _ (text_read 67 w.comment);
        date = by_form (blocks w) b 68 date_form _ (one_read date_form (date ∷ []) w.date (date_again w.date moment));
        title = by_form (blocks w) b 76 text_form _ (one_read text_form (escape w.title ∷ []) w.title (text_again w.title));
        mime = by_form (blocks w) b 78 text_form _ (text_read 78 w.mime);
        parents = record {
          names = ap (λ (found : List (List (List ℕ))). map ref_in (flat_map (λ args. args) found)) (of_letter (blocks w) b 80) ∙ parents_again w.parents named;
          differ = second_holds (is_filled w.comment && not (is_empty w.title) && is_filled w.mime) _ w3;
        };
        user = by_form (blocks w) b 85 user_form _ (one_read user_form (escape w.user ∷ []) w.user (user_again w.user));
        text = body_again (front w) w.text (no_bodies-if 67 escape w.comment, (refl, (refl, (no_bodies-if 78 escape w.mime, (no_bodies-parents w.parents, (refl, tt))))));
      })
