use Rattle.std.proofs.Common.{◌∷◌}
use Rattle.fsl_name.proofs.RowsBuilt.{put_next}
use Rattle.fsl_name.proofs.rows.Rows.of.Goals as goal

pub loop-row-preserved : goal.loop-row-preserved
loop-row-preserved g c =
    let before = c.loop-row.invariant in
    let row = c.in-Some.row in
    let next = put_next g.F.Named.name c.loop-row.left.items c.pop.new.self.items before.0 c.args.rows c.loop-row.built c.put.new.self row c.requires before.1 c.in-Some.ensures.items before.2 c.in_ok-put.ensures.ok in
    (row ∷ before.0, next.0, next.1)
