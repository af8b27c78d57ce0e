use Rattle.std.proofs.Common.{◌∙◌, refl, sym}
use Rattle.fsl_wire.proofs.DraftLemmas.{ok_more, login_added, plain_added, login_each, plain_each}
use Rattle.fsl_wire.proofs.cards.add_made.Goals as goal

pub returns-then-login-clause-cards : goal.returns-then-login-clause-cards
returns-then-login-clause-cards c =
    ok_more c.put-then-login.result
    (λ q. login_added c.args.cards.now.items c.put.new.list.items c.args.behinds.now.items c.put-then-login.new.list.items c.args.card c.args.behind _ c.requires c.in_ok-put.ensures q refl)
    c.put-then-login.ensures

pub returns-then-login-clause-each : goal.returns-then-login-clause-each
returns-then-login-clause-each c =
    ok_more c.put-then-login.result
    (λ q. login_each c.args.cards.now.items c.put.new.list.items c.args.behinds.now.items c.put-then-login.new.list.items c.args.card c.args.behind c.requires (sym c.if-login.true ∙ c.is_login-login.ensures) q c.in_ok-put.ensures)
    c.put-then-login.ensures

pub returns-else-login-clause-cards : goal.returns-else-login-clause-cards
returns-else-login-clause-cards c =
    plain_added c.args.cards.now.items c.put.new.list.items c.args.behinds.now.items c.args.behinds.now.items c.args.card c.args.behind _ c.requires (sym c.is_login-login.ensures ∙ c.if-login.false) c.in_ok-put.ensures refl refl

pub returns-else-login-clause-each : goal.returns-else-login-clause-each
returns-else-login-clause-each c =
    plain_each c.args.cards.now.items c.put.new.list.items c.args.behinds.now.items c.args.card c.requires (sym c.if-login.false ∙ c.is_login-login.ensures) c.in_ok-put.ensures
