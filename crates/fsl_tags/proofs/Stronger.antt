-- Which of two assertions of one tag stands, by the two tests.
use Rattle.std.specs.Prelude.{◌≡◌, Bool, true, false, ◌&&◌, Some, if◌then◌else◌}
use Rattle.std.proofs.Common.{sym, ap, ◌∙◌}
use Rattle.fsl_tags.specs.declared.Assertion.{Assertion}
use Rattle.fsl_tags.specs.Tags.{propagates, is_newer}
use Rattle.fsl_tags.specs.Passing.{passes, stronger}

module _ (own above read : Assertion) (passing : Bool) (passing_is : passing ≡ propagates read.prefix) (read_is : read ≡ above) where
  passes_is : (b : Bool) → passing ≡ b → passes above ≡ b
  passes_is b is = sym (passing_is ∙ ap passes read_is) ∙ is

  -- the one from above doesn't pass
  pub own_stays : passing ≡ false → own ≡ stronger own above
  own_stays is = sym (λ i. if passes_is false is i && is_newer above (Some own) then above else own)

  module _ (far near : Assertion) (newer : Bool) (newer_is : newer ≡ is_newer far (Some near)) (far_is : far ≡ above) (near_is : near ≡ own) (passed : passing ≡ true) where
    newer_then : (b : Bool) → newer ≡ b → is_newer above (Some own) ≡ b
    newer_then b is = sym (newer_is ∙ (λ i. is_newer (far_is i) (Some (near_is i)))) ∙ is

    -- it passes and is newer
    pub above_comes : newer ≡ true → above ≡ stronger own above
    above_comes is = sym (λ i. if passes_is true passed i && newer_then true is i then above else own)

    -- it passes and isn't newer
    pub own_is_newer : newer ≡ false → own ≡ stronger own above
    own_is_newer is = sym (λ i. if passes_is true passed i && newer_then false is i then above else own)
