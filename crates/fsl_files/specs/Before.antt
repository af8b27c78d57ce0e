-- What stands at a name.
use Rattle.std.specs.Prelude.{ℕ, List, is_some}
use Rattle.fsl_order.specs.Names.{bytes_cmp}
use Rattle.fsl_table.specs.Contents.{value_at}
use Rattle.fsl_files.specs.declared.put.Before.{Before}
use Rattle.fsl_files.specs.Kept.{Lines, baseline_at, parent_at}

-- whether there is a check-in, and to which names it belongs
abbrev pub was_at : Lines → List ℕ → Before
was_at es q = record { is_there = is_some (value_at bytes_cmp q es); baseline = baseline_at es q; parent = parent_at es q }
