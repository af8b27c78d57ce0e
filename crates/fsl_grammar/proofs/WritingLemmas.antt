-- How cards are spelled, piece by piece.
use Rattle.std.proofs.Common.{◌≡◌, ℕ, List, [], ◌∷◌, ◌++◌, length, flat_map, refl, ap, ◌∙◌}
use Rattle.std.proofs.lemmas.List.{append-nil}
use Rattle.std.proofs.lemmas.List.Folds.{flat_map-map}
use Rattle.fsl_card.specs.Cards.{text_of}
use Rattle.fsl_name.specs.Ref.{ref_text}
use Rattle.fsl_name.specs.declared.reference.Ref.{Ref}
use Rattle.fsl_grammar.specs.Writing.{parents_card}

abbrev pub ref_arguments : List Ref → List ℕ
ref_arguments refs = flat_map (λ r. 32 ∷ ref_text r) refs

-- the P card of some parents
pub parents_text : (refs : List Ref) → (length refs ≡ 0 → ⊥) → text_of (parents_card refs) ≡ 80 ∷ ref_arguments refs ++ 10 ∷ []
parents_text [] some = absurd (some refl)
parents_text (r ∷ refs) some =
    append-nil _ ∙ ap (λ (args : List ℕ). 80 ∷ args ++ 10 ∷ []) (flat_map-map (λ arg. 32 ∷ arg) ref_text (r ∷ refs))
