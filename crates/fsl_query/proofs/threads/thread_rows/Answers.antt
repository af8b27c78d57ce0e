use Rattle.std.proofs.Common.{[], ◌++◌, sym, ◌∙◌}
use Rattle.std.specs.List.{cons_option}
use Rattle.fsl_query.specs.Listings.{thread_row}
use Rattle.fsl_query.proofs.NoteLemmas.{given_front}
use Rattle.fsl_query.proofs.threads.thread_rows.Goals as goal

pub loop-name-preserved : goal.loop-name-preserved
loop-name-preserved c rows same =
    c.in_ok-append_row.ensures rows (same c.name-item.result)
    ∙ (λ i. c.loop-name.invariant rows same i ++ cons_option (thread_row c.args.table.now.facts rows c.name-item.result) [])
    ∙ sym (given_front (thread_row c.args.table.now.facts rows) c.args.names.now c.loop-name.name-index c.name-item.result c.loop-name-test.true c.name-item.is)
