-- Fields that are read, or tested, together.
use Rattle.std.specs.Prelude.{◌==◌, ◌&&◌, ◌||◌, ℕ, Bool, true, false, not, is_some, Option, Some, None, List, [], ◌∷◌, IsTrue, if◌then◌else◌}
use Rattle.std.specs.List.{list_all}
use Rattle.fsl_name.specs.Ref.{is_written_before}
use Rattle.fsl_name.specs.declared.reference.Ref.{Ref}
use Rattle.fsl_text.specs.Bytes.{is_empty}
use Rattle.fsl_text.specs.Escapes.{unescape}
use Rattle.fsl_card.specs.declared.types.Card.{Card}
use Rattle.fsl_grammar.specs.declared.TagCard.{TagCard}
use Rattle.fsl_grammar.specs.Forms.{HasAtMostOne, HasEach, given, hash_form, tag_form, text_form}
use Rattle.fsl_forms.specs.declared.attachment.Attached.{Attached}
use Rattle.fsl_forms.specs.declared.forum.Place.{Place}
use Rattle.fsl_forms.specs.Kinds.{is_own_tag, names_target}

-- a reference is written before the first of others, where there is one
abbrev pub is_before_first : Ref → List Ref → Bool
is_before_first r [] = true
is_before_first r (other ∷ others) = is_written_before r other

-- the tags of the T cards, each of which names its target
pub record HasTargetedTags (cards : List Card) (found : List TagCard) : Type 0 where
  pub tags : HasEach cards 84 tag_form found
  pub targets : IsTrue (list_all names_target found)

-- the tags of the T cards, each of which is a `+` on the artifact itself
pub record HasOwnTags (cards : List Card) (found : List TagCard) : Type 0 where
  pub tags : HasEach cards 84 tag_form found
  pub own : IsTrue (list_all is_own_tag found)

-- a field of a ticket, and whether a `+` before it appends
abbrev pub field_in : List ℕ → Option (Bool × List ℕ)
field_in [] = None
field_in (b ∷ rest) = if b == 43 then given (not (is_empty rest)) (true, rest) else Some (false, b ∷ rest)

-- a post has a title and answers nothing, or it has a root and answers a post, and no title
abbrev pub is_place : Bool → Bool → Bool → Bool
is_place has_root has_title has_reply = (has_title && not has_reply) || (not has_title && has_root && has_reply)

-- where the G, H and I cards put a post
pub record HasPlace (cards : List Card) (place : Place) : Type 0 where
  pub root : HasAtMostOne cards 71 hash_form place.root
  pub title : HasAtMostOne cards 72 text_form place.title
  pub reply : HasAtMostOne cards 73 hash_form place.reply
  pub together : IsTrue (is_place (is_some place.root) (is_some place.title) (is_some place.reply))

-- what an A card says of a file, a target and a source that was read
abbrev pub attached_of : List ℕ → List ℕ → Option Ref → Attached
attached_of file target source = record { file = unescape file; target = unescape target; source = source }
