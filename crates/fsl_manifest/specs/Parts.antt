-- The fields of a manifest, without what else makes its cards one.
use Rattle.std.specs.Prelude.{◌≡◌, ℕ, List, length}
use Rattle.fsl_text.specs.Bytes.{AreBytes}
use Rattle.fsl_card.specs.declared.types.Card.{Card}
use Rattle.fsl_grammar.specs.Forms.{HasOne, HasAtMostOne, HasEach, HasParents, hash_form, text_form, date_form, checksum_form, user_form, tag_form}
use Rattle.fsl_manifest.specs.declared.Manifest.{Manifest}
use Rattle.fsl_manifest.specs.Manifests.{file_form, pick_form}

-- the cards give each field
pub record HasFields (cards : List Card) (m : Manifest) : Type 0 where
  pub baseline : HasAtMostOne cards 66 hash_form m.baseline
  pub comment : HasOne cards 67 text_form m.comment
  pub date : HasOne cards 68 date_form m.date
  pub files : HasEach cards 70 file_form m.files
  pub mime : HasAtMostOne cards 78 text_form m.mime
  pub parents : HasParents cards m.parents
  pub picks : HasEach cards 81 pick_form m.picks
  pub checksum : HasAtMostOne cards 82 checksum_form m.checksum
  pub tags : HasEach cards 84 tag_form m.tags
  pub user : HasOne cards 85 user_form m.user

-- a checksum has 16 bytes
abbrev pub IsChecksum : List ℕ → Type 0
IsChecksum bytes = (length bytes ≡ 16) × AreBytes bytes
