use Rattle.std.proofs.Common.{◌∙◌, ap}
use Rattle.std.specs.Prelude.{unwrap_or}
use Rattle.fsl_order.specs.Names.{bytes_cmp}
use Rattle.fsl_table.specs.Contents.{value_at}
use Rattle.fsl_tags.specs.Laid.{row_in}
use Rattle.fsl_tags.proofs.Filling.{full_none, kept_next, sorted_rest}
use Rattle.fsl_tags.proofs.build.keep.Goals as goal

pub loop-entry-init : goal.loop-entry-init
loop-entry-init g c = record {
  full = full_none c.args.rows.now.held.entries c.requires.empty;
  whole = λ x. ap (λ es. unwrap_or (value_at bytes_cmp x c.args.settled.entries) (row_in es x)) c.requires.empty;
  sorted = c.requires.ordered;
}

pub loop-entry-preserved : goal.loop-entry-preserved
loop-entry-preserved g c =
    let left = c.loop-entry.left.entries in
    let rest = c.pop.new.noted.entries in
    record {
      full = c.in_ok-put_row.ensures.full;
      whole = λ x. kept_next left rest c.loop-entry.rows.held.entries c.put_row.new.rows.held.entries c.in-Some.entry c.in-Some.ensures c.loop-entry.invariant.sorted c.in_ok-put_row.ensures.row x ∙ c.loop-entry.invariant.whole x;
      sorted = sorted_rest left rest c.in-Some.entry c.in-Some.ensures c.loop-entry.invariant.sorted;
    }
