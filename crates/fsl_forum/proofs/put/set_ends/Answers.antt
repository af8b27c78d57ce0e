use Rattle.std.proofs.Common.{◌∙◌, cond, take, sym, ap}
use Rattle.std.specs.Str.{bytes_eq}
use Rattle.fsl_order.specs.Names.{bytes_cmp, has}
use Rattle.fsl_table.specs.Contents.{value_at}
use Rattle.fsl_forum.proofs.Noting.{has-next, over}
use Rattle.fsl_forum.proofs.put.set_ends.Goals as goal

pub loop-name-preserved : goal.loop-name-preserved
loop-name-preserved g c = record {
  ordered = c.in_ok-set_end.ensures.ordered;
  ends = λ x.
      c.in_ok-set_end.ensures.ends x ∙ ap (cond (bytes_eq x c.name-item.result) c.args.end.now) (c.loop-name.invariant.ends x)
      ∙ over (bytes_eq x c.name-item.result) (has (take c.loop-name.name-index c.args.names.now) x) c.args.end.now (value_at bytes_cmp x c.args.ends.now.held.entries)
      ∙ ap (λ b. cond b c.args.end.now (value_at bytes_cmp x c.args.ends.now.held.entries)) (sym (has-next c.args.names.now c.loop-name.name-index c.name-item.result c.loop-name-test.true c.name-item.is x));
  was = c.set_end.ensures.was ∙ c.loop-name.invariant.was;
}
