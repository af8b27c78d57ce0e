use Rattle.std.proofs.Common.{rules, ◌≡◌}
use Rattle.std.specs.Prelude.{None}
use Rattle.fsl_uv.proofs.Applied.{store-rises, apply-kept}
use Rattle.fsl_uv.proofs.store.Store.apply.Goals as goal

pub take_all-requires-clause-rises : goal.take_all-requires-clause-rises
take_all-requires-clause-rises g c =
    store-rises (g.D.Disk.state c.self.inside.disk) (record { log = c.self.inside.journal; config = c.self.inside.config; map = c.self.inside.held }) c.self.invariant

pub invariant_of-self : goal.invariant_of-self
invariant_of-self g c =
    let runs : c.self.inside.journal.stopped ≡ None = search rules in
    apply-kept (g.D.Disk.state c.self.inside.disk) (record { log = c.self.inside.journal; config = c.self.inside.config; map = c.self.inside.held }) c.in-Ok.cards c.take_all.new.journal c.take_all.new.held
    c.take_all.result c.self.invariant runs c.in-Ok.ensures.message.0 c.take_all.ensures.fit c.take_all.ensures.taken
