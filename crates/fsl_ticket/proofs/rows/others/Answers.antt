use Rattle.std.proofs.Common.{◌≡◌, ◌∙◌, ◌++◌, ◌∷◌, ℕ, List, [], Option, Some, None, take, refl, sym, ap}
use Rattle.std.specs.List.{cons_option, filter_map}
use Rattle.std.specs.Option.{option_to_list}
use Rattle.std.proofs.lemmas.List.{take_more}
use Rattle.std.proofs.lemmas.List.Elements.{filter_map-append}
use Rattle.fsl_ticket.specs.Kept.{if_other}
use Rattle.fsl_ticket.proofs.rows.others.Goals as goal

single : (o : Option (List ℕ)) → cons_option o [] ≡ option_to_list o
single None = refl
single (Some id) = refl

pub loop-row-preserved : goal.loop-row-preserved
loop-row-preserved g c =
    let rows = c.args.rows.now in
    let i = c.loop-row.row-index in
    let row = c.row-item.result in
    let give = if_other c.args.configured.now c.args.facts.now.held.entries in
    c.in_ok-append_some.ensures
    ∙ (λ j. c.loop-row.invariant j ++ option_to_list (c.in_ok-other.ensures j))
    ∙ sym (ap (filter_map give) (take_more rows i row c.loop-row-test.true ∙ ap (λ r. take i rows ++ r ∷ []) (sym c.row-item.is))
    ∙ filter_map-append give (take i rows) (row ∷ []) ∙ ap (λ l. filter_map give (take i rows) ++ l) (single (give row)))
