use Rattle.fsl_table.proofs.Putting.{put-from}
use Rattle.fsl_table.proofs.Weaving.{sorted-weave}
use Rattle.fsl_table.proofs.table.Table.put.Goals as goal

pub returns : goal.returns
returns g c =
    let p = put-from {R = g.K.Ord.cmp} c.self.inside.waiting.items c.settle_last.new.waiting.items c.self.inside.tree.entries c.settle_last.new.tree.entries _ _ c.args.self.now c.self.view_is c.settle_last.ensures.entries c.settle_last.ensures.len c.settle_last.ensures.room c.put_entry.ensures.put in
    record {
      before = p.before;
      ok = p.ok;
      spare_of_new = p.spare_of_new;
      spare_of_old = p.spare_of_old;
      back = p.back;
      unchanged = p.unchanged;
      none_spare = p.none_spare;
      absent = p.absent;
      was_ordered = rw (← c.self.view_is) (sorted-weave g.met.K.Ord.total c.self.inside.waiting.items c.self.inside.tree.entries c.self.invariant.ordered);
      cost = cc;
    }
