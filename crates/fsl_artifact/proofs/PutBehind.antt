-- What a loop that puts names at the end has put there.
use Rattle.std.proofs.Common.{◌≡◌, ℕ, ◌+◌, ◌<◌, List, [], ◌∷◌, ◌++◌, length, get_or, take, append_assoc, sym, ap, ◌∙◌}
use Rattle.std.specs.List.{flat_map}
use Rattle.std.proofs.lemmas.Grind.{flat_map-append}
use Rattle.std.proofs.lemmas.List.{append-nil, take_more}

pub put_behind : {X : Type 0} (f : X → List (List ℕ)) (xs : List X) (x : X) (i : ℕ) (start now next : List (List ℕ)) → i < length xs → x ≡ get_or xs i x
    → now ≡ start ++ flat_map f (take i xs) → next ≡ now ++ f x → next ≡ start ++ flat_map f (take (i + 1) xs)
put_behind f xs x i start now next lt is before e =
    let last : flat_map f (get_or xs i x ∷ []) ≡ f x = append-nil (f (get_or xs i x)) ∙ ap f (sym is) in
    let more = ap (flat_map f) (take_more xs i x lt) ∙ flat_map-append f (take i xs) (get_or xs i x ∷ []) ∙ ap (λ l. flat_map f (take i xs) ++ l) last in
    e ∙ ap (λ l. l ++ f x) before ∙ append_assoc start (flat_map f (take i xs)) (f x) ∙ ap (λ l. start ++ l) (sym more)
