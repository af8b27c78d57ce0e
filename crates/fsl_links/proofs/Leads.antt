-- Whether the first parent is there, where the check-in itself is.
use Rattle.std.proofs.Common.{◌≡◌, ℕ, List, [], ◌∷◌, Bool, true, false, cond, ◌||◌, Option, Some, is_some, slice_get, refl, ap, ◌∙◌}
use Rattle.std.specs.Str.{bytes_eq}
use Rattle.fsl_order.specs.Names.{bytes_cmp}
use Rattle.fsl_table.specs.Contents.{value_at}
use Rattle.fsl_table.proofs.Finding.{value-with}
use Rattle.fsl_links.specs.Kept.{leads}

pub leads-is : (facts : List (List ℕ × List (List ℕ))) (name p : List ℕ) (parents : List (List ℕ)) → slice_get parents 0 ≡ Some p → leads facts name parents ≡ (bytes_eq p name || is_some (value_at bytes_cmp p facts))
leads-is facts name p [] h = cc
leads-is facts name p (x ∷ xs) h =
    let same : x ≡ p = cc in
    rw same (ap is_some (value-with name (p ∷ xs) facts p) ∙ some_or (bytes_eq p name) (p ∷ xs) (value_at bytes_cmp p facts))
  where
    some_or : (b : Bool) (v : List (List ℕ)) (r : Option (List (List ℕ))) → is_some (cond b (Some v) r) ≡ (b || is_some r)
    some_or true v r = refl
    some_or false v r = refl
