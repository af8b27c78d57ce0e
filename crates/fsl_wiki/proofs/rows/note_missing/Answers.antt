use Rattle.std.proofs.Common.{◌∙◌, ◌&&◌, ◌||◌, not}
use Rattle.fsl_order.specs.Names.{has}
use Rattle.fsl_table.proofs.Outcomes.{on_ok_map}
use Rattle.fsl_wiki.proofs.rows.note_missing.Goals as goal

pub returns : goal.returns
returns c =
    on_ok_map c.note_others.result
    (λ noted q. noted q ∙ (λ i. (has ((c.items.ensures ∙ c.in_ok-list.ensures.names) i) q && not (has c.args.other.now.keys q)) || has c.args.names.now.keys q))
    c.note_others.ensures.noted
