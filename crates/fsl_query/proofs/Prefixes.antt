-- What follows from the one name that a prefix found.
use Rattle.std.proofs.Common.{◌≡◌, ℕ, List, Ok, ap, subst}
use Rattle.std.specs.Prelude.{Result}
use Rattle.fsl_blobs.specs.Fold.{Contents}
use Rattle.fsl_blobs.specs.declared.Found.{Found}
use Rattle.fsl_blobs.specs.declared.Found.TheVariants as found_as
use Rattle.fsl_blobs.specs.Held.{matching, found}
use Rattle.fsl_query.specs.declared.Refused.{Refused}
use Rattle.fsl_query.specs.Reports.{by_found, of_prefix, name_found}

-- what follows from the one name is what follows from what was found
one_found : {X : Type 0} (prefix name : List ℕ) (answer : List ℕ → Result X Refused) (f : Found) → by_found {X = List ℕ} prefix (λ name. Ok name) f ≡ Ok name → by_found prefix answer f ≡ answer name
one_found prefix name answer found_as.Nothing h = absurd (cc h)
one_found prefix name answer found_as.Several h = absurd (cc h)
one_found prefix name answer (found_as.One other) h = let e : other ≡ name = cc in ap answer e

-- so for a prefix that was read as these bytes
pub of_one : (c : Contents) (read prefix name : List ℕ) (answer : List ℕ → Result (List ℕ) Refused) → read ≡ prefix → name_found c read ≡ Ok name → of_prefix c prefix answer ≡ answer name
of_one c read prefix name answer same is =
    one_found prefix name answer (found (matching c.held prefix)) (subst (λ p. name_found c p ≡ Ok name) same is)
