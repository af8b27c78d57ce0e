use Rattle.std.proofs.Common.{◌∙◌, ◌++◌, ◌∷◌, []}
use Rattle.fsl_forum.specs.Rows.{row_in}
use Rattle.fsl_forum.proofs.Noting.{noted-more}
use Rattle.fsl_forum.proofs.rows.note_rows.Goals as goal

pub loop-name-preserved : goal.loop-name-preserved
loop-name-preserved g c =
    let rows = row_in c.args.posts.now.held.entries c.args.ends.now.held.entries in
    c.in_ok-push.ensures.items
    ∙ (λ i. c.loop-name.invariant i ++ record { name = c.name-item.result; row = c.row_of-row.ensures i } ∷ [])
    ∙ noted-more rows c.args.names.now c.loop-name.name-index c.name-item.result c.loop-name-test.true c.name-item.is
