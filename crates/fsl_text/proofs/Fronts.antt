-- What was there before bytes were added stays in front of them.
use Rattle.std.proofs.Common.{◌≡◌, ℕ, List, ◌++◌, length, take, drop, refl, sym, ap, ◌∙◌, append_assoc, take-append-drop}
use Rattle.std.proofs.lemmas.List.{take_at}

pub front_stays : (front text more : List ℕ) → take (length front) text ≡ front → take (length front) (text ++ more) ≡ front
front_stays front text more is =
    let split : text ≡ front ++ drop (length front) text = sym (take-append-drop (length front) text) ∙ ap (λ (l : List ℕ). l ++ drop (length front) text) is in
    ap (λ (l : List ℕ). take (length front) (l ++ more)) split
    ∙ ap (λ (l : List ℕ). take (length front) l) (append_assoc front (drop (length front) text) more)
    ∙ take_at front (drop (length front) text ++ more) (length front) refl
