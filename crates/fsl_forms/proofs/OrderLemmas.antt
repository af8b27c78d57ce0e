-- A reference before the first of others.
use Rattle.std.proofs.Common.{◌≡◌, Bool, List, [], ◌∷◌, Option, Some, ap, sym, ◌∙◌}
use Rattle.std.specs.List.{slice_get}
use Rattle.fsl_name.specs.Ref.{is_written_before}
use Rattle.fsl_name.specs.declared.reference.Ref.{Ref}
use Rattle.fsl_forms.specs.Parts.{is_before_first}

pub before_first : (r other : Ref) (others : List Ref) (t : Bool) → slice_get others 0 ≡ Some other → t ≡ is_written_before r other → t ≡ is_before_first r others
before_first r other [] t e h = absurd cc
before_first r other (first ∷ others) t e h = h ∙ ap (is_written_before r) (sym (same e))
  where
    same : ◌≡◌ {A = Option Ref} (Some first) (Some other) → first ≡ other
    same f = cc
