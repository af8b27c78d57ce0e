use Rattle.std.proofs.Common.{◌∙◌, ap}
use Rattle.fsl_table.specs.Contents.{first_of}
use Rattle.fsl_table.proofs.Taken.{first_taken, after_open}
use Rattle.fsl_table.proofs.table.first_above.Goals as goal

pub returns : goal.returns
returns g c =
    first_taken (λ p. (p.0.now, p.1.now)) c.next.result c.range.result c.next.new.self c.next.ensures.steps
    ∙ ap first_of (c.range.ensures.between tt ∙ after_open g.K.Ord.cmp c.args.key.now c.args.tree.now.entries)
