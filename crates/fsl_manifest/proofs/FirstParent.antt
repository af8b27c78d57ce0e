-- The first parent of a manifest is an own name.
use Rattle.std.proofs.Common.{◌≡◌, true, List, [], ◌∷◌, refl}
use Rattle.std.specs.Prelude.{option_and_then, slice_get}
use Rattle.fsl_name.specs.Ref.{own_name, own_names}
use Rattle.fsl_name.specs.declared.reference.Ref.{Ref}
use Rattle.fsl_name.specs.declared.reference.Ref.TheVariants.{Own, Foreign}
use Rattle.fsl_manifest.specs.Manifests.{begins_own}
use Rattle.fsl_manifest.specs.Writing.{IsFirstOwn}

first_of : (refs : List Ref) → begins_own refs ≡ true → slice_get (own_names refs) 0 ≡ option_and_then own_name (slice_get refs 0)
first_of [] h = refl
first_of (Own name ∷ refs) h = refl
first_of (Foreign bytes ∷ refs) h = absurd cc

pub is_first_own : IsFirstOwn
is_first_own cards m is = first_of m.parents is.primary
