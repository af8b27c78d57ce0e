use Rattle.fossil.proofs.commands.unversioned.add_content.Goals as goal

pub returns : goal.returns
returns g c = λ disk input is opened.
    c.store_entry-answer.ensures disk input (g.C.Clock.told c.args.clock.now, g.C.Clock.told c.now.new.self) is (c.now.ensures.moment, c.now.ensures.tells) opened
