use Rattle.fossil.proofs.commands.checkin.check_over.Goals as goal

pub returns : goal.returns
returns g c = λ parent text tree disk input is opened.
    c.check_in-answer.ensures text (g.C.Clock.told c.args.clock.now, g.C.Clock.told c.put_receipt-receipt.new.clock) tree parent c.put_receipt-receipt.ensures disk input is opened
