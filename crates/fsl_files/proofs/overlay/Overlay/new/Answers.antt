use Rattle.std.proofs.Common.{◌++◌, map}
use Rattle.std.specs.Prelude.{is_some}
use Rattle.fsl_order.specs.Names.{bytes_cmp}
use Rattle.fsl_order.specs.Rows.{in_order}
use Rattle.fsl_name.proofs.Rising.{rising-filter}
use Rattle.fsl_files.specs.declared.FileRow.{FileRow}
use Rattle.fsl_files.proofs.Ordered.{sorted-rises, in_order-rises}
use Rattle.fsl_files.proofs.overlay.Overlay.new.Goals as goal

pub invariant_of-result : goal.invariant_of-result
invariant_of-result c = (sorted-rises (map (λ r. r.path) c.args.base.now) c.requires.base, sorted-rises (map (λ r. r.path) c.args.rows.now) c.requires.rows)

pub returns-clause-rising : goal.returns-clause-rising
returns-clause-rising c =
    rising-filter (λ r. r.path) (λ r. is_some r.hash) (in_order bytes_cmp (λ r. r.path) (c.args.rows.now ++ c.args.base.now)) (in_order-rises (λ (r : FileRow). r.path) (c.args.rows.now ++ c.args.base.now))
