use Rattle.std.proofs.Common.{◌<◌, ◌∙◌, length, sym, ap, arith}
use Rattle.fsl_wire.specs.Drafts.{Drafted}
use Rattle.fsl_wire.proofs.DraftLemmas.{settled_next, drafted_length}
use Rattle.fsl_wire.proofs.drafts.Draft.settle.Goals as goal

pub returns-then-place-self-clause-message : goal.returns-then-place-self-clause-message
returns-then-place-self-clause-message c =
    let d = c.self.inside in
    let shown = ap (λ (v : Drafted). v.message) c.self.view_is in
    let many = sym (ap length shown) ∙ drafted_length d.settled d.cards.items d.behind.items d.logins in
    let here = c.if-place-self.true in
    let far = c.requires.within in
    let within : d.settled < length d.cards.items = omega (arith, many, here, far) in
    settled_next d.settled c.args.place d.logins c.from.result d.cards.items d.behind.items c.deref.result.now c.index_mut.result.now c.settle_card-login.new.card c.behind_next-behind.result.now c.settle_card-login.result c.args.self.now.message
    here within c.deref.ensures.value c.behind_next-behind.ensures c.index_mut.ensures.value c.settle_card-login.ensures.card c.settle_card-login.ensures.login c.from.ensures shown
