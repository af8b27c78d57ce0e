use Rattle.std.proofs.Common.{inl, ap, arith, length, length-take, refl, take, ℕ}
use Rattle.fsl_disk.specs.Memory.{InMemory, held}
use Rattle.fsl_disk.specs.declared.change.Change.TheVariants.{Write}
use Rattle.fsl_disk.proofs.Recording.{either, kept_write, shown}
use Rattle.fsl_disk.proofs.memory.MemoryDiskDisk.write_at.Goals as goal

pub returns-in-Ok-clause-call : goal.returns-in-Ok-clause-call
returns-in-Ok-clause-call c =
    let old : InMemory = c.args.self.now in
    let new : InMemory = record { first = c.write.new.self.first; past = c.write.new.self.changes; fails = c.self.inside.fails.items; made = c.admit-stops.new.made; faults = c.self.inside.faults } in
    let piece = take c.if-stops.done c.args.bytes.now in
    let range = length c.args.bytes.now in
    let is =
    shown c.args.self.now new c.self.inside.history c.write.new.self (Write c.args.at (take c.if-stops.done c.args.bytes.now) (length c.args.bytes.now))
    (ap (λ (m : InMemory). m.first) c.self.view_is) (ap (λ (m : InMemory). m.past) c.self.view_is) refl refl (inl c.in-Ok.ensures.ok) in
    kept_write c.args.self.now new c.args.at (length c.args.bytes.now) (take c.if-stops.done c.args.bytes.now) (c.requires (held c.args.self.now) refl) (omega (arith, length-take {A = ℕ})) is.0 is.1

pub returns-in_default-clause-call : goal.returns-in_default-clause-call
returns-in_default-clause-call c =
    let new : InMemory = record { first = c.write.new.self.first; past = c.write.new.self.changes; fails = c.self.inside.fails.items; made = c.admit-stops.new.made; faults = c.fail-in_default.new.faults } in
    let is =
    shown c.args.self.now new c.self.inside.history c.write.new.self (Write c.args.at (take c.if-stops.done c.args.bytes.now) (length c.args.bytes.now))
    (ap (λ (m : InMemory). m.first) c.self.view_is) (ap (λ (m : InMemory). m.past) c.self.view_is) refl refl (either c.write.result c.write.ensures.ok c.write.ensures.err) in
    kept_write c.args.self.now new c.args.at (length c.args.bytes.now) (take c.if-stops.done c.args.bytes.now) (c.requires (held c.args.self.now) refl) (omega (arith, length-take {A = ℕ})) is.0 is.1
