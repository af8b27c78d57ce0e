-- How readers of cards answer.
use Rattle.std.specs.Prelude.{◌≡◌, Option, Some, None, Result, MatchResult}
use Rattle.fsl_grammar.specs.declared.Unread.{Unread}
use Rattle.fsl_grammar.specs.declared.Unread.TheVariants.{Form}

-- what arguments are that stand for a value, or for none: the value, or that they haven't the form where there is none
abbrev pub IsGiven : {X : Type 0} → Option X → Result X Unread → Type 0
IsGiven value result = MatchResult result (λ x. value ≡ Some x) (λ why. why ≡ Form → value ≡ None)

-- a value of which the relation holds, or that there is no form where it holds of no value
abbrev pub IsRead : {A X : Type 0} → (A → X → Type 0) → A → Result X Unread → Type 0
IsRead {A} {X} R a result = MatchResult result (R a) (λ why. why ≡ Form → (x : X) → R a x → ⊥)
