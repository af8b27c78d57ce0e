-- What doesn't look at logins sees the same in a bare message.
use Rattle.std.proofs.Common.{◌≡◌, ℕ, ◌+◌, Bool, not, cond, List, [], ◌∷◌, length, map, position, Option, Some, None, refl, ap, ◌∙◌}
use Rattle.std.specs.Prelude.{nat_lt, filter_map}
use Rattle.std.specs.List.{position_or_len, cons_option}
use Rattle.std.proofs.lemmas.List.{length-map}
use Rattle.fsl_wire.specs.declared.WireCard.{WireCard}
use Rattle.fsl_wire.specs.Drafts.{bare}

first_bare : (p : WireCard → Bool) → ((c : WireCard) → p (bare c) ≡ p c) → (cards : List WireCard) → position_or_len p (map bare cards) ≡ position_or_len p cards
first_bare p same [] = refl
first_bare p same (c ∷ cards) = λ i. cond (not (same c i)) (1 + first_bare p same cards i) 0

-- the first card of a kind
pub position_bare : (p : WireCard → Bool) → ((c : WireCard) → p (bare c) ≡ p c) → (cards : List WireCard) → position p (map bare cards) ≡ position p cards
position_bare p same cards =
    λ i. cond (nat_lt (first_bare p same cards i) (length-map cards bare i)) (Some (first_bare p same cards i)) None

-- what each card is picked for
pub picked_bare : {A : Type 0} (f : WireCard → Option A) → ((c : WireCard) → f (bare c) ≡ f c) → (cards : List WireCard) → filter_map f (map bare cards) ≡ filter_map f cards
picked_bare f same [] = refl
picked_bare f same (c ∷ cards) = λ i. cons_option (same c i) (picked_bare f same cards i)
