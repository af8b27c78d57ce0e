use Rattle.std.proofs.Common.{◌≡◌, take}
use Rattle.fsl_pull.specs.Taking.{TakesSome}
use Rattle.fsl_pull.proofs.taking.take_cards.Given as goal

abbrev pub invariant-loop-card : goal.invariant-loop-card
invariant-loop-card g l = record {
  taken : TakesSome l.initial.repo.seen l.initial.from (take l.card-index l.cards) l.moved l.repo.seen l.from;
  disk : l.repo.disk ≡ l.initial.repo.disk;
}
