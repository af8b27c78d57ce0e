use Rattle.std.proofs.Common.{rules, ◌≡◌, length, ap, arith}
use Rattle.std.specs.Prelude.{None}
use Rattle.fsl_uv.specs.Entries.{IsEntry}
use Rattle.fsl_uv.proofs.Puts.{put_kept}
use Rattle.fsl_uv.proofs.store.Store.put.Goals as goal

pub put_in-requires-clause-good : goal.put_in-requires-clause-good
put_in-requires-clause-good g c =
    let size = ap length c.bytes_of-size.ensures in
    record { path = c.requires; moment = c.ms.ensures.moment; size = omega (arith, size, c.if-size-gt-MOST_OF_CONTENT.false) }

pub invariant_of-self : goal.invariant_of-self
invariant_of-self g c =
    let runs : c.self.inside.journal.stopped ≡ None = search rules in
    let size = ap length c.bytes_of-size.ensures in
    let good : IsEntry c.args.entry.now = record { path = c.requires; moment = c.ms.ensures.moment; size = omega (arith, size, c.if-size-gt-MOST_OF_CONTENT.false) } in
    put_kept (record { log = c.self.inside.journal; config = c.self.inside.config; map = c.self.inside.held }) c.args.entry.now c.put_in.new.journal c.put_in.new.held (g.D.Disk.state c.self.inside.disk)
    c.put_in.result c.self.invariant runs good c.put_in.ensures.fit c.put_in.ensures.put
