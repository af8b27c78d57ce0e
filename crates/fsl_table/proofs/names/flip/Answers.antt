use Rattle.std.proofs.Common.{true, cond, ap, sym, ◌∙◌}
use Rattle.std.specs.BTreeMap.{is_at}
use Rattle.std.specs.List.{list_any}
use Rattle.fsl_order.specs.Names.{bytes_cmp}
use Rattle.fsl_table.proofs.Noting.{flipped_in, flipped_out, put_again}
use Rattle.fsl_table.proofs.names.flip.Goals as goal

pub returns-then-remove : goal.returns-then-remove
returns-then-remove c = record { flipped = λ q. flipped_out c.args.names.now.keys c.remove.new.self.keys c.args.name q (sym c.remove.ensures.test ∙ c.if-remove.true) (c.remove.ensures.updates.0 q) }

pub returns-in-Ok : goal.returns-in-Ok
returns-in-Ok c = record {
  flipped = λ q.
      flipped_in c.args.names.now.keys c.insert.new.self.keys c.args.name q (sym c.remove.ensures.test ∙ c.if-remove.false)
      (c.in-Ok.ensures.updates.0 q ∙ ap (cond (is_at (bytes_cmp c.args.name) q) true) (c.remove.ensures.updates.0 q)
      ∙ put_again (is_at (bytes_cmp c.args.name) q) (list_any (is_at (bytes_cmp q)) c.args.names.now.keys));
}
