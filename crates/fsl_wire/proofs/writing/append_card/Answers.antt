use Rattle.std.proofs.Common.{◌≡◌, ◌++◌, OnOk, sym, subst}
use Rattle.fsl_wire.specs.declared.WireCard.{WireCard}
use Rattle.fsl_wire.specs.Writing.{card_bytes}
use Rattle.fsl_wire.proofs.writing.append_card.Goals as goal

pub returns-in-SendPrivate-clause-ok : goal.returns-in-SendPrivate-clause-ok
returns-in-SendPrivate-clause-ok c =
    subst (λ (card : WireCard). OnOk c.append_send_private.result (c.append_send_private.new.into ≡ c.args.into.now ++ card_bytes card)) (sym c.in-SendPrivate.is)
    c.append_send_private.ensures.ok
