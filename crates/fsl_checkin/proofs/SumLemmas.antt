-- The checksum of a tree whose paths rise is taken in the order in which it stands.
use Rattle.std.proofs.Common.{◌≡◌, List, ap}
use Rattle.std.specs.Prelude.{IsTrue, flat_map}
use Rattle.md5.specs.Md5.{md5}
use Rattle.fsl_order.specs.Names.{bytes_cmp}
use Rattle.fsl_order.specs.Rows.{by_name, rises}
use Rattle.fsl_order.proofs.SortedLemmas.{in_order-sorted}
use Rattle.fsl_files.proofs.Ordered.{sorted-rises}
use Rattle.fsl_checkin.specs.declared.types.TreeItem.{TreeItem}
use Rattle.fsl_checkin.specs.Sums.{sum, summed_file}
use Rattle.fsl_checkin.specs.Trees.{paths}

pub by_path_rising : (items : List TreeItem) → IsTrue (rises (paths items)) → by_name (λ item. item.path) items ≡ items
by_path_rising items h = in_order-sorted bytes_cmp (λ item. item.path) items (sorted-rises (paths items) h)

pub sum_rising : (items : List TreeItem) → IsTrue (rises (paths items)) → sum items ≡ md5 (flat_map summed_file items)
sum_rising items h = ap (λ (l : List TreeItem). md5 (flat_map summed_file l)) (by_path_rising items h)
