-- Cards give the fields of one manifest at most, and none where they lack one.
use Rattle.std.proofs.Common.{◌≡◌, true, List, Result, Ok, Err, sym, ◌∙◌}
use Rattle.std.specs.Prelude.{◌&&◌, IsErrAnd, MatchResult}
use Rattle.fsl_order.proofs.Booleans.{first_holds, second_holds}
use Rattle.fsl_grammar.specs.declared.Unread.{Unread}
use Rattle.fsl_grammar.specs.declared.Unread.TheVariants.{Form}
use Rattle.fsl_grammar.specs.Letters.{has_letters, manifest_letters}
use Rattle.fsl_card.specs.declared.types.Card.{Card}
use Rattle.fsl_grammar.specs.Forms.{hash_form, text_form, date_form, checksum_form, user_form, tag_form}
use Rattle.fsl_grammar.proofs.Determined.{one_is, at_most_one_is, each_is, parents_are}
use Rattle.fsl_manifest.specs.declared.Manifest.{Manifest}
use Rattle.fsl_manifest.specs.Manifests.{IsManifest, begins_own, file_form, has_hashes, pick_form}
use Rattle.fsl_manifest.specs.Parts.{HasFields}

pub fields_of : (cards : List Card) (m : Manifest) → IsManifest cards m → HasFields cards m
fields_of cards m h = record {
  baseline = h.baseline;
  comment = h.comment;
  date = h.date;
  files = h.files;
  mime = h.mime;
  parents = h.parents;
  picks = h.picks;
  checksum = h.checksum;
  tags = h.tags;
  user = h.user;
}

pub fields_are : (cards : List Card) (a b : Manifest) → HasFields cards a → HasFields cards b → a ≡ b
fields_are cards a b h k = λ i. record {
  baseline = at_most_one_is cards 66 hash_form a.baseline b.baseline h.baseline k.baseline i;
  comment = one_is cards 67 text_form a.comment b.comment h.comment k.comment i;
  date = one_is cards 68 date_form a.date b.date h.date k.date i;
  files = each_is cards 70 file_form a.files b.files h.files k.files i;
  mime = at_most_one_is cards 78 text_form a.mime b.mime h.mime k.mime i;
  parents = parents_are cards a.parents b.parents h.parents k.parents i;
  picks = each_is cards 81 pick_form a.picks b.picks h.picks k.picks i;
  checksum = at_most_one_is cards 82 checksum_form a.checksum b.checksum h.checksum k.checksum i;
  tags = each_is cards 84 tag_form a.tags b.tags h.tags k.tags i;
  user = one_is cards 85 user_form a.user b.user h.user k.user i;
}

pub manifest_of : (cards : List Card) (m : Manifest) → has_letters manifest_letters cards ≡ true → HasFields cards m → (has_hashes m && begins_own m.parents) ≡ true → IsManifest cards m
manifest_of cards m letters h whole = record {
  letters = letters;
  baseline = h.baseline;
  comment = h.comment;
  date = h.date;
  files = h.files;
  mime = h.mime;
  parents = h.parents;
  picks = h.picks;
  checksum = h.checksum;
  tags = h.tags;
  user = h.user;
  hashes = first_holds _ (begins_own m.parents) whole;
  primary = second_holds (has_hashes m) _ whole;
}

-- fields have that part, so where it can't be read they can't be either
pub field_unread : (cards : List Card) {Y : Type 0} (Part : Y → Type 0) (part : Manifest → Y) → ((m : Manifest) → HasFields cards m → Part (part m))
    → (result : Result Manifest Unread) (why : Unread) → IsErrAnd result (λ e. e ≡ why) → (why ≡ Form → (y : Y) → Part y → ⊥)
    → MatchResult result (HasFields cards) (λ e. e ≡ Form → (m : Manifest) → HasFields cards m → ⊥)
field_unread cards Part part has (Ok m) why is none = absurd is
field_unread cards Part part has (Err e) why is none = λ form m fields. none (sym is ∙ form) (part m) (has m fields)
