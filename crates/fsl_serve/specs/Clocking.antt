-- What sessions asked of a clock.
use Rattle.std.specs.Prelude.{◌≡◌, ℕ, List, [], ◌∷◌, Option, option_to_list}
use Rattle.fsl_outside.specs.Clocks.{Asks}

-- a clock was asked for those moments and for no other; where for none, what it tells is as it was
abbrev pub AsksFor : Option (List ℕ) → Option (List ℕ) → List ℕ → Type 0
AsksFor before after [] = after ≡ before
AsksFor before after (moment ∷ more) = Asks before after (moment ∷ more)

-- P of the one moment that a clock was asked for, or of none
abbrev pub AtMoment : Option (List ℕ) → Option (List ℕ) → (Option ℕ → Type 0) → Type 0
AtMoment before after P = (moment : Option ℕ) × P moment × AsksFor before after (option_to_list moment)
