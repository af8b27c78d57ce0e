use Rattle.std.proofs.Common.{◌∙◌, ◌&&◌, ◌||◌, not, ap}
use Rattle.std.specs.Str.{bytes_eq}
use Rattle.fsl_order.specs.Names.{has}
use Rattle.fsl_table.proofs.Outcomes.{if_ok_map}
use Rattle.fsl_wiki.specs.Kept.{same_row, in_one}
use Rattle.fsl_wiki.proofs.rows.changed_since.Goals as goal

pub returns-clause-names : goal.returns-clause-names
returns-clause-names g c =
    let known = c.args.known.now in
    if_ok_map c.differing-names.result
    (λ list told q. told q
    ∙ (λ i. (bytes_eq q c.args.name && not ((c.is_same.ensures ∙ ap (same_row known.row) c.in_ok-row.ensures) i)) || in_one (has known.leaders.keys q) (c.in_ok-after.ensures q i)))
    c.differing-names.ensures.names
