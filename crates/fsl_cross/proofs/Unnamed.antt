-- What an artifact that no other names takes of touches.
use Rattle.std.proofs.Common.{◌≡◌, ◌+◌, ◌*◌, ℕ, suc, true, false, cond, List, [], ◌∷◌, Bool, length, Option, Some, None, map, refl, ap, subst}
use Rattle.std.specs.Prelude.{◌&&◌, filter, filter_map, is_some, is_none, option_map, slice_get}
use Rattle.std.specs.List.{AllByRecursion, cons_option, enumerate_from}
use Rattle.std.specs.Option.{option_map_or}
use Rattle.fsl_name.specs.declared.reference.Ref.{Ref}
use Rattle.fsl_name.specs.declared.reference.Ref.TheVariants.{Own, Foreign}
use Rattle.fsl_grammar.specs.declared.TagCard.{TagCard}
use Rattle.fsl_manifest.specs.declared.Manifest.{Manifest}
use Rattle.fsl_links.specs.declared.Fact as links
use Rattle.fsl_links.specs.Links.{primary}
use Rattle.fsl_tags.specs.declared.Fact as tags
use Rattle.fsl_tags.specs.declared.Assertion.{Assertion}
use Rattle.fsl_files.specs.declared.Fact as files
use Rattle.fsl_files.specs.Touches.{counted}
use Rattle.fsl_cross.specs.declared.Item.{Item}
use Rattle.fsl_cross.specs.Facts.{as_manifest, tag_cards, file_row, assertion, assertion_on, assertions, asserts, files_fact, parent_names, target_of}
use Rattle.fsl_cross.specs.Inside.{tags_fact_over}
use Rattle.fsl_cross.specs.Touches.{are_own, has_own_tags, tags_most, files_most}
use Rattle.fsl_cross.proofs.Quiet.{most-given}

-- ---- the fact of tags

abbrev pub tags_with : List links.Fact → Item → ℕ × List TagCard → tags.Fact
tags_with facts item cards = record { name = item.name; checkin = is_some (as_manifest item.artifact); parent = primary facts item.name; tags = assertions item cards }

length-assertions : (date : ℕ) (source : List ℕ) (k : ℕ) (cards : List TagCard) → length (filter_map (assertion date source) (enumerate_from k cards)) ≡ length (filter asserts cards)
length-assertions date source k [] = refl
length-assertions date source k (c ∷ cards) = by c.target _ (length-assertions date source (k + 1) cards)
  where
    by : (target : Option Ref) (rest : List Assertion) → length rest ≡ length (filter asserts cards)
        → length (cons_option (option_map (assertion_on date source (k, c)) (target_of source target)) rest) ≡ length (cond (is_some (target_of [] target)) (c ∷ filter asserts cards) (filter asserts cards))
    by None rest h = ap suc h
    by (Some (Own name)) rest h = ap suc h
    by (Some (Foreign bytes)) rest h = h

pub tags-most : (facts : List links.Fact) (item : Item) (f : tags.Fact) → tags_fact_over facts item ≡ Some f → tags_most item.artifact ≡ 20 * (1 + length f.tags)
tags-most facts item f is =
    most-given (tags_with facts item) (λ cards. 20 * (1 + length (filter asserts cards.1))) (λ (f : tags.Fact). 20 * (1 + length f.tags)) (λ cards. ap (λ k. 20 * (1 + k)) (length-assertions cards.0 item.name 0 cards.1)) (tag_cards item.artifact) f is

own-assertions : (date : ℕ) (source : List ℕ) (k : ℕ) (cards : List TagCard) → are_own cards ≡ true → AllByRecursion (λ (a : Assertion). a.target ≡ source) (filter_map (assertion date source) (enumerate_from k cards))
own-assertions date source k [] own = tt
own-assertions date source k (c ∷ cards) own =
    let parts = and-true (is_none c.target) (are_own cards) own in
    none-target c.target _ parts.0 (own-assertions date source (k + 1) cards parts.1)
  where
    and-true : (a b : Bool) → (a && b) ≡ true → (a ≡ true) × (b ≡ true)
    and-true true b e = (refl, e)
    and-true false b e = cc

    none-target : (o : Option Ref) (rest : List Assertion) → is_none o ≡ true → AllByRecursion (λ (a : Assertion). a.target ≡ source) rest
        → AllByRecursion (λ (a : Assertion). a.target ≡ source) (cons_option (option_map (assertion_on date source (k, c)) (target_of source o)) rest)
    none-target None rest e more = (refl, more)
    none-target (Some t) rest e more = cc

pub tags-own_targets : (facts : List links.Fact) (item : Item) (f : tags.Fact) → tags_fact_over facts item ≡ Some f → has_own_tags item.artifact ≡ true → AllByRecursion (λ (a : Assertion). a.target ≡ f.name) f.tags
tags-own_targets facts item f is own = by (tag_cards item.artifact) is own
  where
    by : (o : Option (ℕ × List TagCard)) → option_map (tags_with facts item) o ≡ Some f → option_map_or (λ cards. are_own cards.1) o true ≡ true → AllByRecursion (λ (a : Assertion). a.target ≡ f.name) f.tags
    by None e h = cc
    by (Some cards) e h = subst (λ (g : tags.Fact). AllByRecursion (λ (a : Assertion). a.target ≡ g.name) g.tags) (inside e) (own-assertions cards.0 item.name 0 cards.1 h)
      where
        inside : Some (tags_with facts item cards) ≡ Some f → tags_with facts item cards ≡ f
        inside r = cc

-- ---- the fact of files

abbrev pub files_with : Item → Manifest → files.Fact
files_with item m = record { name = item.name; baseline = m.baseline; parent = slice_get (parent_names m) 0; files = map file_row m.files }

pub files-most : (facts : List files.Fact) (item : Item) (f : files.Fact) → files_fact item ≡ Some f → files_most facts item ≡ 10 * (1 + length f.files + counted facts f.parent + counted facts f.baseline)
files-most facts item f is = ap (λ o. option_map_or (λ (g : files.Fact). 10 * (1 + length g.files + counted facts g.parent + counted facts g.baseline)) o 0) is
