-- What a clock was asked for, one stretch after another.
use Rattle.std.proofs.Common.{◌≡◌, ℕ, List, [], ◌∷◌, ◌++◌, Some, None, ap, sym, ◌∙◌, subst, append_assoc}
use Rattle.std.specs.Prelude.{Option, IfSome}
use Rattle.std.proofs.lemmas.List.{append-nil}
use Rattle.fsl_outside.specs.Clocks.{Asks}
use Rattle.fsl_serve.specs.Clocking.{AsksFor}

asks_both : (a b c : Option (List ℕ)) (xs ys : List ℕ) → Asks a b xs → Asks b c ys → Asks a c (xs ++ ys)
asks_both a b None xs ys p q = tt
asks_both a b (Some told) xs ys p q =
    let F : Option (List ℕ) → Type 0 = λ o. IfSome o (λ t. (was : List ℕ) × (a ≡ Some was) × (t ≡ was ++ xs)) in
    let r = subst F q.1 p in
    (r.0, r.1, q.2 ∙ ap (λ w. w ++ ys) r.2 ∙ append_assoc r.0 xs ys)

pub asks_more : (a b c : Option (List ℕ)) (xs ys : List ℕ) → AsksFor a b xs → AsksFor b c ys → AsksFor a c (xs ++ ys)
asks_more a b c [] ys p q = subst (λ (o : Option (List ℕ)). AsksFor o c ys) p q
asks_more a b c (x ∷ xs) [] p q =
    subst (λ (l : List ℕ). AsksFor a c l) (sym (append-nil (x ∷ xs))) (subst (λ (o : Option (List ℕ)). AsksFor a o (x ∷ xs)) (sym q) p)
asks_more a b c (x ∷ xs) (y ∷ ys) p q = asks_both a b c (x ∷ xs) (y ∷ ys) p q
