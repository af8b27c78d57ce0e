use Rattle.std.proofs.Common.{◌∙◌, map, ap}
use Rattle.fsl_table.proofs.Outcomes.{if_ok_map}
use Rattle.fsl_ticket.specs.Kept.{row_of}
use Rattle.fsl_ticket.proofs.rows.rows_touched.Goals as goal

pub returns : goal.returns
returns g c =
    if_ok_map c.rows_at-rows.result
    (λ rows is. record {
      ids = c.in-Ok.ids;
      rising = c.in-Ok.ensures.rising;
      own = c.in-Ok.ensures.ids;
      are = is ∙ ap (map (row_of c.args.configured.now c.args.facts.now.held.entries)) c.items.ensures;
    })
    c.rows_at-rows.ensures
