-- Whether a name stands at the front of a list.
use Rattle.std.proofs.Common.{◌≡◌, ℕ, ◌+◌, ◌<◌, List, [], ◌∷◌, length, take, get_or, ap, ◌∙◌}
use Rattle.std.specs.Prelude.{◌||◌}
use Rattle.std.specs.Str.{bytes_eq}
use Rattle.std.proofs.lemmas.List.{take_more}
use Rattle.std.proofs.lemmas.List.Folds.{list_any-append}
use Rattle.fsl_order.specs.Names.{has}
use Rattle.fsl_order.proofs.Booleans.{or_false}

-- a name more at the front
pub has-take_more : (names : List (List ℕ)) (i : ℕ) (d q : List ℕ) → i < length names → has (take (i + 1) names) q ≡ (has (take i names) q || bytes_eq q (get_or names i d))
has-take_more names i d q lt =
    ap (λ front. has front q) (take_more names i d lt) ∙ list_any-append (bytes_eq q) (take i names) (get_or names i d ∷ [])
    ∙ ap (λ b. has (take i names) q || b) (or_false (bytes_eq q (get_or names i d)))
