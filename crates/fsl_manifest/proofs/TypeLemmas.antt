-- What the type of a manifest keeps, gathered from its fields.
use Rattle.std.proofs.Common.{List, [], ◌∷◌, ◌++◌, flat_map}
use Rattle.std.specs.Prelude.{option_to_list}
use Rattle.std.specs.List.{AllByRecursion}
use Rattle.fsl_name.specs.Name.{IsName}
use Rattle.fsl_name.specs.Ref.{IsRef}
use Rattle.fsl_grammar.specs.declared.TagCard.{TagCard}
use Rattle.fsl_manifest.specs.declared.FileCard.{FileCard}
use Rattle.fsl_manifest.specs.declared.Pick.{Pick}
use Rattle.fsl_manifest.specs.declared.Manifest.{Manifest}
use Rattle.fsl_manifest.specs.Parts.{IsChecksum}
use Rattle.fsl_manifest.specs.Writing.{IsOfType}

module _ {A : Type 0} (P : A → Type 0) where
  both : (a b : List A) → AllByRecursion P a → AllByRecursion P b → AllByRecursion P (a ++ b)
  both [] b h k = k
  both (x ∷ a) b h k = (h.0, both a b h.1 k)

  every : {X : Type 0} (f : X → List A) (xs : List X) → AllByRecursion (λ x. AllByRecursion P (f x)) xs → AllByRecursion P (flat_map f xs)
  every f [] h = tt
  every f (x ∷ xs) h = both (f x) (flat_map f xs) h.0 (every f xs h.1)

pub typed : (m : Manifest) → AllByRecursion IsName (option_to_list m.baseline) → AllByRecursion (λ file. AllByRecursion IsRef (option_to_list file.hash)) m.files
    → AllByRecursion IsRef m.parents → AllByRecursion (λ pick. AllByRecursion IsRef (pick.target ∷ option_to_list pick.other)) m.picks
    → AllByRecursion IsChecksum (option_to_list m.checksum) → AllByRecursion (λ t. AllByRecursion IsRef (option_to_list t.target)) m.tags → IsOfType m
typed m baseline files parents picks checksum tags =
    let f = λ (file : FileCard). option_to_list file.hash in
    let q = λ (pick : Pick). pick.target ∷ option_to_list pick.other in
    let t = λ (tag : TagCard). option_to_list tag.target in (
      baseline,
      both IsRef (flat_map f m.files ++ m.parents ++ flat_map q m.picks) (flat_map t m.tags)
          (both IsRef (flat_map f m.files ++ m.parents) (flat_map q m.picks)
          (both IsRef (flat_map f m.files) m.parents (every IsRef f m.files files) parents)
          (every IsRef q m.picks picks)) (every IsRef t m.tags tags),
      checksum,
    )
