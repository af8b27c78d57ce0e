use Rattle.std.proofs.Common.{◌++◌, length, ap, ◌∙◌}
use Rattle.std.specs.Prelude.{filter_map, flat_map}
use Rattle.fsl_forum.specs.Threads.{thread}
use Rattle.fsl_timeline.specs.Timeline.{timeline}
use Rattle.fsl_query.specs.Lines.{thread_line}
use Rattle.fsl_query.specs.Listings.{thread_names, thread_row}
use Rattle.fsl_query.proofs.threads.report.Goals as goal

pub returns : goal.returns
returns c =
    let facts = c.args.table.now.facts in
    c.in_ok-append_threads.ensures
    ∙ ap (λ t. t ++ flat_map (λ r. thread_line r (length (thread facts r.name))) c.items-2.result.now) c.empty-text.ensures
    ∙ ap (flat_map (λ r. thread_line r (length (thread facts r.name))))
    (c.items-2.ensures ∙ c.in_ok-threads.ensures ∙ c.in_ok-listed.ensures
    ∙ ap (λ rs. timeline (filter_map (thread_row facts rs) (thread_names facts))) (c.items.ensures ∙ c.in_ok-rows.ensures))
