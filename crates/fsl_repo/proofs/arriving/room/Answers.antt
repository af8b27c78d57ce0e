use Rattle.std.proofs.Common.{inr, ◌+◌, ap, ◌∙◌, length, arith}
use Rattle.std.specs.FinSet as set
use Rattle.std.specs.FinMap as map_of
use Rattle.fsl_blobs.specs.Fold.{contents, held_bytes}
use Rattle.fsl_cross.specs.Tables.{tables}
use Rattle.fsl_cluster.specs.Clusters as clusters
use Rattle.fsl_repo.proofs.Storing.{room_fits, wants_few}
use Rattle.fsl_repo.proofs.arriving.room.Goals as goal

pub returns-then-missing-le-MOST_NAMES-clause-told : goal.returns-then-missing-le-MOST_NAMES-clause-told
returns-then-missing-le-MOST_NAMES-clause-told c =
    let records = contents c.args.blobs.now.records in
    let facts = (tables c.args.all.now.fields c.args.all.now.items).clusters in
    let missing = c.missing_count-missing.ensures ∙ ap (λ fs. length (clusters.missing fs)) c.cluster-table.ensures.facts in
    inr (room_fits (held_bytes records.held + c.args.size) (map_of.len records.held + 1) (length (clusters.wants facts (set.items records.shunned)))
    (omega (arith, c.if-bytes-le-MOST_HELD_BYTES.true, c.bytes.ensures.bytes, c.from.ensures)) (omega (arith, c.if-count-le-MOST_NAMES.true, c.count-count.ensures.count))
    (omega (arith, c.if-missing-le-MOST_NAMES.true, missing, wants_few facts (set.items records.shunned))))
