use Rattle.std.proofs.Common.{◌∙◌, true, ap, sym, subst}
use Rattle.std.specs.Option.{option_map}
use Rattle.fsl_order.specs.Rows.{ListsChanged}
use Rattle.fsl_table.proofs.Outcomes.{always_ok, if_ok_map}
use Rattle.fsl_timeline.specs.Timeline.{timeline_row}
use Rattle.fsl_timeline.specs.Kept.{entry_of, row_of, rows_of, row_at, with_row}
use Rattle.fsl_timeline.proofs.Changing.{lists_one, other_with, own_with, none_some}
use Rattle.fsl_timeline.proofs.rows.put_new.Goals as goal

pub returns-clause-entries : goal.returns-clause-entries
returns-clause-entries g c = always_ok c.one.result c.in_ok-put_row.ensures.entries

pub returns-clause-kept : goal.returns-clause-kept
returns-clause-kept g c = always_ok c.one.result c.in_ok-put_row.ensures.kept

pub returns-clause-changed : goal.returns-clause-changed
returns-clause-changed g c =
    let es = c.args.maps.now.rows.held.entries in
    let row = c.args.row in
    let fs = with_row row es in
    if_ok_map c.one.result
    (λ list is. subst (ListsChanged (timeline_row (rows_of es)) (timeline_row (rows_of fs))) (sym is)
    (lists_one es fs row.name (other_with es row.name (entry_of row)) true
    (λ e. none_some (row_at es row.name) row (ap (option_map (λ e. row_of (row.name, e))) c.requires.absent) (e ∙ own_with es row.name (entry_of row)))))
    c.one.ensures
