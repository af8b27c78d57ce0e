use Rattle.fsl_disk.specs.Memory.{InMemory}
use Rattle.fsl_disk.proofs.Recording.{kept_sync}
use Rattle.fsl_disk.proofs.memory.MemoryDiskDisk.sync.Goals as goal

pub returns-in-Ok-clause-call : goal.returns-in-Ok-clause-call
returns-in-Ok-clause-call c =
    let new : InMemory = record { first = c.sync.new.self.first; past = c.sync.new.self.changes; fails = c.self.inside.fails.items; made = c.admit.new.made; faults = c.self.inside.faults } in
    kept_sync c.args.self.now new (cc c.in-Ok.ensures.ok) (cc c.in-Ok.ensures.ok)
