use Rattle.std.proofs.Common.{◌≡◌, map, sym, ap, ◌∙◌, subst}
use Rattle.std.specs.Prelude.{filter_map}
use Rattle.fsl_order.specs.Rows.{by_name, AreDistinct}
use Rattle.fsl_cross.specs.Tables.{timeline_rows}
use Rattle.fsl_cross.specs.Inside.{item_row_over}
use Rattle.fsl_cross.proofs.TableLemmas.{rows-by_name, rows-distinct, rows-by_facts, held-if}
use Rattle.fsl_cross.proofs.timeline.table.Goals as goal

pub from_rows-requires : goal.from_rows-requires
from_rows-requires c =
    let items = c.args.items.now in
    let rows : c.from_vec.result ≡ timeline_rows items
    = c.from_vec.ensures ∙ c.in_ok-rows.ensures
    ∙ (λ i. filter_map (item_row_over (c.requires.tags i) (c.requires.pages i) (c.requires.threads i) (λ q. c.in_ok-targets.ensures.tickets q i) (λ q. c.in_ok-targets.ensures.notes q i)) items) ∙ rows-by_facts items in
    subst (λ l. AreDistinct (map (λ r. r.name) l)) (sym rows) (rows-distinct items c.requires.rising)

pub returns : goal.returns
returns c =
    let items = c.args.items.now in
    let rows : c.from_vec.result ≡ timeline_rows items
    = c.from_vec.ensures ∙ c.in_ok-rows.ensures
    ∙ (λ i. filter_map (item_row_over (c.requires.tags i) (c.requires.pages i) (c.requires.threads i) (λ q. c.in_ok-targets.ensures.tickets q i) (λ q. c.in_ok-targets.ensures.notes q i)) items) ∙ rows-by_facts items in
    held-if c.from_rows.result (by_name (λ r. r.name) c.from_vec.result) (timeline_rows items) (ap (by_name (λ r. r.name)) rows ∙ rows-by_name items c.requires.rising) c.from_rows.ensures.facts
