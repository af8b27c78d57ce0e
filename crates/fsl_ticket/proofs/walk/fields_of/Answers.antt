use Rattle.std.proofs.Common.{◌∙◌, sym, ap, map, Some}
use Rattle.std.specs.Option.{option_map}
use Rattle.fsl_order.specs.Names.{bytes_cmp}
use Rattle.fsl_table.specs.Within.{within}
use Rattle.fsl_table.proofs.Walk.{from}
use Rattle.fsl_ticket.specs.Kept.{Laid}
use Rattle.fsl_ticket.specs.Newest.{newest_cmp}
use Rattle.fsl_ticket.specs.Walked.{value_down}
use Rattle.fsl_ticket.proofs.Folding.{until_none}
use Rattle.fsl_ticket.proofs.Walking.{row_down, row_is}
use Rattle.fsl_ticket.proofs.walk.fields_of.Goals as goal

pub returns-in_default : goal.returns-in_default
returns-in_default g c =
    let es = c.args.facts.now.held.entries in
    let ws = within bytes_cmp c.args.id c.args.spots.now.held.entries in
    let r : Laid = record { facts = c.args.facts.now.held; spots = c.args.spots.now.held } in
    ap (λ o. row_down c.args.configured.now es (from newest_cmp (option_map (λ b. (b, tt)) o) ws)) (sym c.in_default.is)
    ∙ ap (row_down c.args.configured.now es) c.next_place.ensures
    ∙ sym (row_is r c.requires c.args.configured.now c.args.id)

pub returns : goal.returns
returns g c =
    let es = c.args.facts.now.held.entries in
    let ws = within bytes_cmp c.args.id c.args.spots.now.held.entries in
    let r : Laid = record { facts = c.args.facts.now.held; spots = c.args.spots.now.held } in
    let first = c.in-Some.first in
    ap Some c.in_ok-found.ensures
    ∙ (λ j. Some (map (λ q. c.in_ok-values.ensures q j) c.args.configured.now))
    ∙ ap (λ ns. Some (map (value_down es ns) c.args.configured.now)) (until_none es (from newest_cmp (Some (first, tt)) ws))
    ∙ ap (λ o. row_down c.args.configured.now es (from newest_cmp (option_map (λ b. (b, tt)) o) ws)) (sym c.in-Some.is)
    ∙ ap (row_down c.args.configured.now es) c.next_place.ensures
    ∙ sym (row_is r c.requires c.args.configured.now c.args.id)
