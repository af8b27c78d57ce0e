use Rattle.std.proofs.Common.{◌≡◌, ◌++◌, drop}
use Rattle.std.specs.Prelude.{filter_map, option_map, option_to_list}
use Rattle.fsl_grammar.proofs.reading.body.Given as goal

abbrev pub invariant-loop-card : goal.invariant-loop-card
invariant-loop-card l =
    filter_map (λ card. card.body) l.cards
    ≡ option_to_list (option_map (λ t. t.now) l.found) ++ filter_map (λ card. card.body) (drop l.card-index l.cards)
