use Rattle.fossil.proofs.commands.put.take_files.Goals as goal

pub returns : goal.returns
returns g c = λ message list disk input is opened.
    c.take_with-answer.ensures message (g.C.Clock.told c.args.clock.now, g.C.Clock.told c.put_receipt-receipt.new.clock) list c.put_receipt-receipt.ensures disk input is opened
