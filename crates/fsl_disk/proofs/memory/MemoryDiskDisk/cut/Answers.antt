use Rattle.std.proofs.Common.{◌≤◌, inl, ap, refl, arith}
use Rattle.fsl_disk.specs.Memory.{InMemory}
use Rattle.fsl_disk.specs.declared.change.Change.TheVariants.{Cut}
use Rattle.fsl_disk.proofs.Recording.{either, kept_cut, shown}
use Rattle.fsl_disk.proofs.memory.MemoryDiskDisk.cut.Goals as goal
use Rattle.fsl_disk.proofs.memory.MemoryDiskDisk.cut.Goals.{then-stops, else-stops}

pub returns-in-Ok-clause-call : goal.returns-in-Ok-clause-call
returns-in-Ok-clause-call c =
    let new : InMemory = record { first = c.cut.new.self.first; past = c.cut.new.self.changes; fails = c.self.inside.fails.items; made = c.admit-stops.new.made; faults = c.self.inside.faults } in
    let part : c.args.len ≤ c.if-stops.left = elim c.if-stops.branch [ then-stops w ↦ omega arith | else-stops w ↦ omega arith ] in
    let is =
    shown c.args.self.now new c.self.inside.history c.cut.new.self (Cut c.args.len c.if-stops.left)
    (ap (λ (m : InMemory). m.first) c.self.view_is) (ap (λ (m : InMemory). m.past) c.self.view_is) refl refl (inl c.in-Ok.ensures.ok) in
    kept_cut c.args.self.now new c.args.len c.if-stops.left part is.0 is.1

pub returns-in_default-clause-call : goal.returns-in_default-clause-call
returns-in_default-clause-call c =
    let new : InMemory = record { first = c.cut.new.self.first; past = c.cut.new.self.changes; fails = c.self.inside.fails.items; made = c.admit-stops.new.made; faults = c.fail.new.faults } in
    let part : c.args.len ≤ c.if-stops.left = elim c.if-stops.branch [ then-stops w ↦ omega arith | else-stops w ↦ omega arith ] in
    let is =
    shown c.args.self.now new c.self.inside.history c.cut.new.self (Cut c.args.len c.if-stops.left)
    (ap (λ (m : InMemory). m.first) c.self.view_is) (ap (λ (m : InMemory). m.past) c.self.view_is) refl refl (either c.cut.result c.cut.ensures.ok c.cut.ensures.err) in
    kept_cut c.args.self.now new c.args.len c.if-stops.left part is.0 is.1
