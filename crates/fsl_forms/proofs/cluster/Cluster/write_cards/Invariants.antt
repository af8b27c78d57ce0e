use Rattle.std.proofs.Common.{◌≡◌, ◌∷◌, [], ◌++◌, map, drop}
use Rattle.fsl_card.specs.Cards.{text_of}
use Rattle.fsl_name.specs.Ref.{ref_text}
use Rattle.fsl_grammar.specs.Writing.{card}
use Rattle.fsl_forms.proofs.cluster.Cluster.write_cards.Given as goal

abbrev pub invariant-loop-member : goal.invariant-loop-member
invariant-loop-member l =
    l.fn.into ++ text_of (map (λ r. card 77 (ref_text r ∷ [])) l.fn.self.members)
    ≡ l.into ++ text_of (map (λ r. card 77 (ref_text r ∷ [])) (drop l.member-index l.member-items))
