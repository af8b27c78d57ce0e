use Rattle.std.proofs.Common.{◌∙◌, sym, ap}
use Rattle.fsl_table.proofs.Outcomes.{always_ok}
use Rattle.fsl_forum.specs.Rows.{row_in, place_of}
use Rattle.fsl_forum.proofs.Linked.{of-row}
use Rattle.fsl_forum.proofs.rows.move_one.Goals as goal

pub returns-clause-placed : goal.returns-clause-placed
returns-clause-placed g c =
    let rows = row_in c.args.posts.now.held.entries c.args.ends.now.held.entries in
    always_ok c.append.result
    (λ first of_ is. of-row first c.args.noted.now.name rows c.relink.new.pairs.held.entries c.thread_of.result (c.thread_of.ensures ∙ ap place_of c.row_of-row.ensures) (c.in_ok-relink.ensures.pairs first of_ (is ∙ sym c.thread_of-old.ensures)))
