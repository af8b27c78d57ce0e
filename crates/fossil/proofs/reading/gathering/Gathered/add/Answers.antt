use Rattle.std.proofs.Common.{ℕ, ◌+◌, List, length, refl, subst}
use Rattle.fsl_order.specs.Names.{has}
use Rattle.fossil.specs.Taking.{WantsUnnoted}
use Rattle.fossil.proofs.GatherLemmas.{was_added}
use Rattle.fossil.proofs.reading.gathering.Gathered.add.Goals as goal

pub returns : goal.returns
returns c =
    let g = c.args.self.now in
    was_added c.args.name (record { private = c.args.private; bytes = c.args.bytes.now }) g (record { facts = c.note.new.facts; bytes = g.bytes + length c.args.bytes.now; wanted = c.remove.new.self }) c.in_ok-fact.fact c.want_all.new.wanted c.note.result
    c.in_ok-fact.ensures (subst (λ (names : List (List ℕ)). WantsUnnoted (has names) g.facts g.wanted c.want_all.new.wanted) c.items.ensures c.in_ok-want_all.ensures) c.remove.ensures.updates refl c.note.ensures
