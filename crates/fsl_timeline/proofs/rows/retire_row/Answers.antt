use Rattle.std.proofs.Common.{◌∙◌, true, sym, subst}
use Rattle.fsl_order.specs.Names.{bytes_cmp}
use Rattle.fsl_order.specs.Rows.{ListsChanged}
use Rattle.fsl_table.specs.Contents.{value_at, without_key}
use Rattle.fsl_timeline.specs.Timeline.{timeline_row}
use Rattle.fsl_timeline.specs.Kept.{rows_of}
use Rattle.fsl_timeline.proofs.Changing.{lists_one, other_without, own_without, there_none}
use Rattle.fsl_timeline.proofs.rows.retire_row.Goals as goal

pub returns-clause-changed : goal.returns-clause-changed
returns-clause-changed g c =
    let es = c.args.maps.now.rows.held.entries in
    let name = c.args.name in
    let sorted = c.requires.kept.ordered in
    let fs = without_key bytes_cmp name es in
    subst (ListsChanged (timeline_row (rows_of es)) (timeline_row (rows_of fs))) (sym c.in_ok-changed.ensures)
    (lists_one es fs name (other_without es name sorted) true (λ e. there_none (value_at bytes_cmp name es) name c.requires.there (e ∙ own_without es name sorted)))
