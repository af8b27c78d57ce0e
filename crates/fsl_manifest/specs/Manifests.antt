-- Manifests.
use Rattle.std.specs.Prelude.{ℕ, ◌==◌, ◌&&◌, ◌||◌, Bool, true, false, not, List, [], ◌∷◌, Option, Some, None, option_to_list, is_some, if◌then◌else◌, IsTrue}
use Rattle.std.specs.List.{list_all}
use Rattle.std.specs.Str.{bytes_eq}
use Rattle.fsl_order.specs.Names.{is_before}
use Rattle.fsl_text.specs.Bytes.{is_empty}
use Rattle.fsl_text.specs.Escapes.{unescape}
use Rattle.fsl_text.specs.Paths.{path_ok}
use Rattle.fsl_name.specs.Ref.{ref_in}
use Rattle.fsl_name.specs.declared.reference.Ref.{Ref}
use Rattle.fsl_name.specs.declared.reference.Ref.TheVariants.{Own, Foreign}
use Rattle.fsl_card.specs.declared.types.Card.{Card}
use Rattle.fsl_grammar.specs.Letters.{has_letters, manifest_letters}
use Rattle.fsl_grammar.specs.Forms.{HasOne, HasAtMostOne, HasEach, HasParents, is_filled, is_tag_written, refs_differ, hash_form, text_form, date_form, checksum_form, user_form, tag_form, given, optional, ◌>>=◌}
use Rattle.fsl_manifest.specs.declared.Perm.{Perm}
use Rattle.fsl_manifest.specs.declared.Perm.TheVariants.{Plain, Writable, Exec, Symlink}
use Rattle.fsl_manifest.specs.declared.FileCard.{FileCard}
use Rattle.fsl_manifest.specs.declared.Pick.{Pick}
use Rattle.fsl_manifest.specs.declared.Manifest.{Manifest}

-- a path is a text for which path_ok holds
abbrev pub path_in : List ℕ → Option (List ℕ)
path_in arg = given (path_ok (unescape arg)) (unescape arg)

-- `x`, `l` or `w`
abbrev pub perm_in : List ℕ → Option Perm
perm_in arg =
    if bytes_eq arg (120 ∷ []) then Some Exec
    else if bytes_eq arg (108 ∷ []) then Some Symlink
    else if bytes_eq arg (119 ∷ []) then Some Writable
    else None

abbrev pub perm_or_plain : Option Perm → Perm
perm_or_plain None = Plain
perm_or_plain (Some perm) = perm

abbrev pub file_in : List ℕ → Option (List ℕ) → Option (List ℕ) → Option (List ℕ) → Option FileCard
file_in path hash perm former = do
  p ← path_in path
  h ← optional ref_in hash
  m ← optional perm_in perm
  f ← optional path_in former
  Some (record { path = p; hash = h; perm = perm_or_plain m; former = f })

-- F path ?hash? ?permission? ?old-path?
abbrev pub file_form : List (List ℕ) → Option FileCard
file_form (path ∷ []) = file_in path None None None
file_form (path ∷ hash ∷ []) = file_in path (Some hash) None None
file_form (path ∷ hash ∷ perm ∷ []) = file_in path (Some hash) (Some perm) None
file_form (path ∷ hash ∷ perm ∷ former ∷ []) = file_in path (Some hash) (Some perm) (Some former)
file_form args = None

-- `+` picks and `-` backs out
abbrev pub back_in : ℕ → Option Bool
back_in b = if b == 43 then Some false else if b == 45 then Some true else None

abbrev pub pick_in : List ℕ → Option (List ℕ) → Option Pick
pick_in [] other = None
pick_in (sign ∷ hash) other = do
  back ← back_in sign
  target ← ref_in hash
  o ← optional ref_in other
  Some (record { back = back; target = target; other = o })

-- Q +hash ?hash? or Q -hash ?hash?
abbrev pub pick_form : List (List ℕ) → Option Pick
pick_form (target ∷ []) = pick_in target None
pick_form (target ∷ other ∷ []) = pick_in target (Some other)
pick_form args = None

-- each file has a hash, unless there is a baseline
abbrev pub has_hashes : Manifest → Bool
has_hashes m = is_some m.baseline || list_all (λ file. is_some file.hash) m.files

-- the first parent, where there is one, isn't foreign
abbrev pub begins_own : List Ref → Bool
begins_own [] = true
begins_own (Own name ∷ refs) = true
begins_own (Foreign bytes ∷ refs) = false

-- the cards are this manifest
pub record IsManifest (cards : List Card) (m : Manifest) : Type 0 where
  pub letters : IsTrue (has_letters manifest_letters cards)
  pub baseline : HasAtMostOne cards 66 hash_form m.baseline  -- B
  pub comment : HasOne cards 67 text_form m.comment  -- C
  pub date : HasOne cards 68 date_form m.date  -- D
  pub files : HasEach cards 70 file_form m.files  -- F
  pub mime : HasAtMostOne cards 78 text_form m.mime  -- N
  pub parents : HasParents cards m.parents  -- P
  pub picks : HasEach cards 81 pick_form m.picks  -- Q
  pub checksum : HasAtMostOne cards 82 checksum_form m.checksum  -- R
  pub tags : HasEach cards 84 tag_form m.tags  -- T
  pub user : HasOne cards 85 user_form m.user  -- U
  pub hashes : IsTrue (has_hashes m)
  pub primary : IsTrue (begins_own m.parents)

-- ---- what can be written

-- a permission needs a hash, and a former path needs a permission
abbrev pub is_perm_placed : Perm → Bool → Bool → Bool
is_perm_placed Plain has_hash has_former = not has_former
is_perm_placed perm has_hash has_former = has_hash

abbrev pub is_file_written : FileCard → Bool
is_file_written file =
    path_ok file.path
    && list_all path_ok (option_to_list file.former)
    && is_perm_placed file.perm (is_some file.hash) (is_some file.former)

-- a file stands before the first of others by path, if there is one
abbrev pub is_before_first : FileCard → List FileCard → Bool
is_before_first file [] = true
is_before_first file (other ∷ others) = is_before file.path other.path

-- the files rise by path
abbrev pub files_rise : List FileCard → Bool
files_rise [] = true
files_rise (a ∷ []) = true
files_rise (a ∷ b ∷ files) = is_before a.path b.path && files_rise (b ∷ files)

-- the value has a text
abbrev pub is_well_formed : Manifest → Bool
is_well_formed m =
    not (is_empty m.comment) && not (is_empty m.user) && is_filled m.mime
    && list_all is_file_written m.files && files_rise m.files && has_hashes m
    && begins_own m.parents && refs_differ m.parents
    && list_all is_tag_written m.tags
