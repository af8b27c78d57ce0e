use Rattle.std.proofs.Common.{◌||◌, ◌∙◌, ap}
use Rattle.fsl_order.specs.Names.{has}
use Rattle.fsl_order.proofs.Booleans.{or_false}
use Rattle.fsl_table.proofs.Outcomes.{if_ok_map}
use Rattle.fsl_cluster.proofs.rows.all_turned.Goals as goal

pub returns-clause-names : goal.returns-clause-names
returns-clause-names c =
    if_ok_map c.listed-3.result
    (λ list e q.
    ap (λ l. has l q) e ∙ c.in_ok-note_all-2.ensures.noted q
    ∙ (λ i. has ((c.items-2.ensures ∙ c.in_ok-missing.ensures.names) i) q || (c.in_ok-note_all.ensures.noted q ∙ (λ j. has ((c.items.ensures ∙ c.in_ok-unclustered.ensures.names) j) q || has (c.new-names.ensures.empty j) q) ∙ or_false (has c.args.flips.now.unclustered.keys q)) i))
    c.listed-3.ensures.names
