use Rattle.std.proofs.Common.{◌+◌, refl, take, drop, ◌∙◌}
use Rattle.fsl_pull.proofs.TakingLemmas.{some_none, card_on, around, stops_there}
use Rattle.fsl_pull.proofs.taking.take_cards.Goals as goal

pub loop-card-init : goal.loop-card-init
loop-card-init g c = record { taken = some_none c.args.repo.now.seen c.args.from; disk = refl }

pub loop-card-preserved : goal.loop-card-preserved
loop-card-preserved g c = record {
  taken = card_on c.args.repo.now.seen c.args.from c.args.cards.now c.loop-card.card-index c.loop-card.moved c.loop-card.repo.seen c.loop-card.from c.card-item.result c.in-Ok.more c.either-moved.result c.take_card.new.repo.seen c.take_card.new.from c.loop-card-test.true c.card-item.is c.either-moved.ensures c.loop-card.invariant.taken c.in-Ok.ensures.taken;
  disk = c.take_card.ensures.disk ∙ c.loop-card.invariant.disk;
}

pub returns-in-Err-clause-taken : goal.returns-in-Err-clause-taken
returns-in-Err-clause-taken g c =
    let all = c.args.cards.now in
    let i = c.loop-card.card-index in
    stops_there c.args.repo.now.seen c.args.from (take i all) c.loop-card.moved c.loop-card.repo.seen c.loop-card.from c.card-item.result (drop (i + 1) all) all c.in-Err.fault c.take_card.new.repo.seen c.take_card.new.from
    (around all i c.card-item.result c.loop-card-test.true c.card-item.is) c.loop-card.invariant.taken c.in-Err.ensures.taken
