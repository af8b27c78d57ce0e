use Rattle.fsl_login.proofs.LoginLemmas.{accepted}
use Rattle.fsl_login.proofs.logins.granted.Goals as goal

pub loop-card-preserved : goal.loop-card-preserved
loop-card-preserved c =
    accepted c.items-users.result.now c.cards-card-items.result.now c.loop-card.card-index c.loop-card.caps c.card-item.result c.loop-card.invariant c.loop-card-test.true c.card-item.is
    c.in_ok-card_caps.field-0 c.both-caps.result c.in_ok-card_caps.ensures c.both-caps.ensures
