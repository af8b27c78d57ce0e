-- What a manifest is written as reads back as the manifest.
use Rattle.std.proofs.Common.{◌≡◌, ℕ, true, not, List, [], ◌∷◌, ◌++◌, map, flat_map, refl, sym, ap, ◌∙◌, append_assoc}
use Rattle.std.specs.Prelude.{option_to_list}
use Rattle.std.specs.List.{list_all, AllByRecursion}
use Rattle.std.proofs.lemmas.Bool.{and_from}
use Rattle.hex.specs.Hex.{encode_lower}
use Rattle.fsl_order.proofs.Booleans.{first_holds, second_holds}
use Rattle.fsl_text.specs.Bytes.{is_empty}
use Rattle.fsl_text.specs.Escapes.{escape}
use Rattle.fsl_name.specs.Name.{IsName, name_text}
use Rattle.fsl_name.specs.Ref.{IsRef, ref_in}
use Rattle.fsl_date.specs.Moment.{IsMoment, moment_text}
use Rattle.fsl_card.specs.declared.types.Card.{Card}
use Rattle.fsl_grammar.specs.Letters.{manifest_letters}
use Rattle.fsl_grammar.specs.Forms.{checksum_form, date_form, hash_form, is_filled, is_tag_written, refs_differ, tag_form, text_form, user_form}
use Rattle.fsl_grammar.specs.Writing.{card, card_if, parents_card, tag_card}
use Rattle.fsl_grammar.proofs.WrittenArguments.{is_argument-checksum, is_argument-date, is_argument-escape}
use Rattle.fsl_grammar.proofs.Blocks.{AreBlocks, at_most_one_if, block_if, joined, single_block}
use Rattle.fsl_grammar.proofs.BlockLemmas.{all_cards, by_form, letters_are, name_block, name_read, of_letter, of_some, one_read, text_block, text_is, text_read}
use Rattle.fsl_grammar.proofs.NameLists.{each_holds, front_holds, rest_holds}
use Rattle.fsl_grammar.proofs.FormsAgain.{IsTagFit, at_most_one_parents, checksum_again, date_again, parents_again, parents_block, read_each, read_if, tag_again, tags_block, tags_fit, text_again, user_again}
use Rattle.fsl_manifest.specs.declared.Manifest.{Manifest}
use Rattle.fsl_manifest.specs.Manifests.{IsManifest, begins_own, file_form, files_rise, has_hashes, is_file_written, is_well_formed, pick_form}
use Rattle.fsl_manifest.specs.Parts.{IsChecksum}
use Rattle.fsl_manifest.specs.Writing.{IsOfType, IsReadBack, file_card, manifest_cards, pick_card}
use Rattle.fsl_manifest.proofs.FormsAgain.{IsFileFit, IsPickFit, file_again, files_block, files_fit, pick_again, picks_block}

-- what a manifest that can be written owes, field by field
record IsFit (m : Manifest) : Type 0 where
  baseline : AllByRecursion IsName (option_to_list m.baseline)
  comment : not (is_empty m.comment) ≡ true
  files : AllByRecursion IsFileFit m.files
  rise : files_rise m.files ≡ true
  mime : is_filled m.mime ≡ true
  parents : AllByRecursion IsRef m.parents
  primary : begins_own m.parents ≡ true
  differ : refs_differ m.parents ≡ true
  picks : AllByRecursion IsPickFit m.picks
  checksum : AllByRecursion IsChecksum (option_to_list m.checksum)
  tags : AllByRecursion IsTagFit m.tags
  user : not (is_empty m.user) ≡ true
  hashes : has_hashes m ≡ true

-- ---- from the premises

fit_from : (m : Manifest) → IsOfType m → is_well_formed m ≡ true → IsFit m
fit_from m h w =
    let files = flat_map (λ file. option_to_list file.hash) m.files in
    let picks = flat_map (λ pick. pick.target ∷ option_to_list pick.other) m.picks in
    let tags = flat_map (λ t. option_to_list t.target) m.tags in
    let refs = h.1 in
    let n3 = front_holds IsRef (files ++ m.parents ++ picks) tags refs in
    let n2 = front_holds IsRef (files ++ m.parents) picks n3 in
    let w8 = first_holds _ (list_all is_tag_written m.tags) w in
    let w7 = first_holds _ (refs_differ m.parents) w8 in
    let w6 = first_holds _ (begins_own m.parents) w7 in
    let w5 = first_holds _ (has_hashes m) w6 in
    let w4 = first_holds _ (files_rise m.files) w5 in
    let w3 = first_holds _ (list_all is_file_written m.files) w4 in
    let w2 = first_holds _ (is_filled m.mime) w3 in
    record {
      baseline = h.0;
      comment = first_holds _ (not (is_empty m.user)) w2;
      files = files_fit m.files (each_holds IsRef (λ file. option_to_list file.hash) m.files (front_holds IsRef files m.parents n2)) (second_holds _ (list_all is_file_written m.files) w4);
      rise = second_holds _ (files_rise m.files) w5;
      mime = second_holds _ (is_filled m.mime) w3;
      parents = rest_holds IsRef files m.parents n2;
      primary = second_holds _ (begins_own m.parents) w7;
      differ = second_holds _ (refs_differ m.parents) w8;
      picks = each_holds IsRef (λ pick. pick.target ∷ option_to_list pick.other) m.picks (rest_holds IsRef (files ++ m.parents) picks n3);
      checksum = h.2;
      tags = tags_fit m.tags (each_holds IsRef (λ t. option_to_list t.target) m.tags (rest_holds IsRef (files ++ m.parents ++ picks) tags refs)) (second_holds _ (list_all is_tag_written m.tags) w);
      user = second_holds (not (is_empty m.comment)) _ w2;
      hashes = second_holds _ (has_hashes m) w6;
    }

-- ---- blocks

-- the cards before the Z card, by their letters
abbrev blocks : Manifest → List (ℕ × List Card)
blocks m =
    (66, card_if 66 name_text m.baseline) ∷ (67, card 67 (escape m.comment ∷ []) ∷ []) ∷ (68, card 68 (moment_text m.date ∷ []) ∷ []) ∷ (70, map file_card m.files)
    ∷ (78, card_if 78 escape m.mime) ∷ (80, parents_card m.parents) ∷ (81, map pick_card m.picks) ∷ (82, card_if 82 encode_lower m.checksum)
    ∷ (84, map tag_card m.tags) ∷ (85, card 85 (escape m.user ∷ []) ∷ []) ∷ []

regroup : (a c n p q r t u : List Card) → a ++ c ++ n ++ p ++ q ++ r ++ t ++ u ≡ a ++ (c ++ (n ++ (p ++ (q ++ (r ++ (t ++ u))))))
regroup a c n p q r t u = simp append_assoc

joined_is : (m : Manifest) → joined (blocks m) ≡ manifest_cards m
joined_is m =
    sym (regroup (card_if 66 name_text m.baseline) (card 67 (escape m.comment ∷ []) ∷ card 68 (moment_text m.date ∷ []) ∷ map file_card m.files) (card_if 78 escape m.mime) (parents_card m.parents)
    (map pick_card m.picks) (card_if 82 encode_lower m.checksum) (map tag_card m.tags) (card 85 (escape m.user ∷ []) ∷ []))

are_blocks : (m : Manifest) → IsFit m → AreBlocks (blocks m)
are_blocks m h = (
  name_block 66 m.baseline refl h.baseline,
  (
    single_block 67 (escape m.comment) refl (is_argument-escape m.comment h.comment),
    (
      single_block 68 (moment_text m.date) refl (is_argument-date m.date),
      (
        files_block m.files h.files h.rise,
        (
          text_block 78 m.mime refl h.mime,
          (
            parents_block m.parents h.parents,
            (
              picks_block m.picks h.picks,
              (
                block_if 82 encode_lower m.checksum refl (λ bytes e. let c = of_some IsChecksum m.checksum bytes e h.checksum in is_argument-checksum bytes c.0 c.1),
                (
                  tags_block m.tags h.tags,
                  (single_block 85 (escape m.user) refl (is_argument-escape m.user h.user), tt),
                ),
              ),
            ),
          ),
        ),
      ),
    ),
  ),
)

-- ---- all cards

manifest_again : (m : Manifest) → IsMoment m.date → IsFit m → IsManifest (all_cards (blocks m)) m
manifest_again m moment h =
    let b = are_blocks m h in
    record {
      letters = letters_are (blocks m) b manifest_letters (record {
        once = refl;
        optional = and_from _ _ (at_most_one_if 66 name_text m.baseline) (and_from _ _ (at_most_one_if 78 escape m.mime) (and_from _ _ (at_most_one_parents m.parents) (and_from _ _ (at_most_one_if 82 encode_lower m.checksum) refl)));
        some = refl;
        known = refl;
      });
      baseline = by_form (blocks m) b 66 hash_form _ (name_read 66 m.baseline h.baseline);
      comment = by_form (blocks m) b 67 text_form _ (one_read text_form (escape m.comment ∷ []) m.comment (text_again m.comment));
      date = by_form (blocks m) b 68 date_form _ (one_read date_form (moment_text m.date ∷ []) m.date (date_again m.date moment));
      files = by_form (blocks m) b 70 file_form _ (read_each file_card file_form IsFileFit file_again m.files h.files);
      mime = by_form (blocks m) b 78 text_form _ (text_read 78 m.mime);
      parents = record { names = ap (λ (found : List (List (List ℕ))). map ref_in (flat_map (λ args. args) found)) (of_letter (blocks m) b 80) ∙ parents_again m.parents h.parents; differ = h.differ };
      picks = by_form (blocks m) b 81 pick_form _ (read_each pick_card pick_form IsPickFit pick_again m.picks h.picks);
      checksum = by_form (blocks m) b 82 checksum_form _ (read_if 82 encode_lower checksum_form m.checksum (λ bytes e. let c = of_some IsChecksum m.checksum bytes e h.checksum in checksum_again bytes c.0 c.1));
      tags = by_form (blocks m) b 84 tag_form _ (read_each tag_card tag_form IsTagFit tag_again m.tags h.tags);
      user = by_form (blocks m) b 85 user_form _ (one_read user_form (escape m.user ∷ []) m.user (user_again m.user));
      hashes = h.hashes;
      primary = h.primary;
    }

pub is_read_back : IsReadBack
is_read_back m text typed moment written made =
    let h = fit_from m typed written in
    text_is (blocks m) (are_blocks m h) IsManifest m text (manifest_cards m) refl (joined_is m) made (manifest_again m moment h)
