-- The text that a manifest is written as.
use Rattle.std.specs.Prelude.{◌≡◌, ◌↔◌, ℕ, List, [], ◌∷◌, ◌++◌, map, Option, codes, if◌then◌else◌}
use Rattle.fsl_text.specs.Escapes.{escape}
use Rattle.fsl_name.specs.Name.{name_text, IsName}
use Rattle.fsl_name.specs.Ref.{IsRef, own_name, own_names, ref_text}
use Rattle.fsl_name.specs.declared.reference.Ref.{Ref}
use Rattle.fsl_date.specs.Moment.{IsMoment, moment_text}
use Rattle.hex.specs.Hex.{encode_lower}
use Rattle.fsl_card.specs.declared.types.Card.{Card}
use Rattle.fsl_manifest.specs.declared.Perm.{Perm}
use Rattle.fsl_manifest.specs.declared.Perm.TheVariants.{Plain, Writable, Exec, Symlink}
use Rattle.fsl_manifest.specs.declared.FileCard.{FileCard}
use Rattle.fsl_manifest.specs.declared.Pick.{Pick}
use Rattle.fsl_manifest.specs.declared.Manifest.{Manifest}
use Rattle.fsl_card.specs.Writing.{sealed_text}
use Rattle.fsl_grammar.specs.Writing.{card, written_if, card_if, parents_card, tag_card}
use Rattle.std.specs.Prelude.{IsTrue, flat_map, option_and_then, option_to_list, length, slice_get}
use Rattle.std.specs.List.{AllByRecursion}
use Rattle.fsl_text.specs.Bytes.{AreBytes}
use Rattle.fsl_card.specs.Cards.{IsTextOf}
use Rattle.fsl_manifest.specs.Manifests.{IsManifest, is_well_formed}

-- a permission, and a former path behind it
abbrev pub perm_arguments : Perm → Option (List ℕ) → List (List ℕ)
perm_arguments Plain former = []
perm_arguments Exec former = codes "x" ∷ written_if escape former
perm_arguments Symlink former = codes "l" ∷ written_if escape former
perm_arguments Writable former = codes "w" ∷ written_if escape former

abbrev pub file_card : FileCard → Card
file_card f = card 70 (escape f.path ∷ written_if ref_text f.hash ++ perm_arguments f.perm f.former)

abbrev pub pick_card : Pick → Card
pick_card p = card 81 (((if p.back then 45 else 43) ∷ ref_text p.target) ∷ written_if ref_text p.other)

-- the cards before the Z card
abbrev pub manifest_cards : Manifest → List Card
manifest_cards m =
    card_if 66 name_text m.baseline ++ card 67 (escape m.comment ∷ []) ∷ card 68 (moment_text m.date ∷ []) ∷ map file_card m.files
    ++ card_if 78 escape m.mime ++ parents_card m.parents ++ map pick_card m.picks ++ card_if 82 encode_lower m.checksum
    ++ map tag_card m.tags ++ card 85 (escape m.user ∷ []) ∷ []

-- the text that a manifest is written as
abbrev pub IsManifestText : List ℕ → Manifest → Type 0
IsManifestText text m = text ≡ sealed_text (manifest_cards m)

-- ---- laws

-- what the types of its fields keep: names are names, references references, and a checksum has 16 bytes
abbrev pub all_refs : Manifest → List Ref
all_refs m =
    flat_map (λ file. option_to_list file.hash) m.files ++ m.parents
    ++ flat_map (λ pick. pick.target ∷ option_to_list pick.other) m.picks ++ flat_map (λ t. option_to_list t.target) m.tags

abbrev pub IsOfType : Manifest → Type 0
IsOfType m =
    AllByRecursion IsName (option_to_list m.baseline) × AllByRecursion IsRef (all_refs m)
    × AllByRecursion (λ c. (length c ≡ 16) × AreBytes c) (option_to_list m.checksum)

-- what is written reads back
abbrev pub IsReadBack : Type 0
IsReadBack = (m : Manifest) (text : List ℕ) → IsOfType m → IsMoment m.date → IsTrue (is_well_formed m) → IsManifestText text m → IsTextOf IsManifest text m

-- a manifest can be written exactly where some text is it
abbrev pub IsWrittenExactly : Type 0
IsWrittenExactly = (m : Manifest) → IsOfType m → IsMoment m.date → IsTrue (is_well_formed m) ↔ ((text : List ℕ) × IsTextOf IsManifest text m)

-- the first own name among the parents of a manifest is its first parent
abbrev pub IsFirstOwn : Type 0
IsFirstOwn = (cards : List Card) (m : Manifest) → IsManifest cards m → slice_get (own_names m.parents) 0 ≡ option_and_then own_name (slice_get m.parents 0)
