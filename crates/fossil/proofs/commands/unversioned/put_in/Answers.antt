use Rattle.fossil.proofs.UvLemmas.{put_told}
use Rattle.fossil.proofs.commands.unversioned.put_in.Goals as goal

pub returns-clause-done : goal.returns-clause-done
returns-clause-done g c =
    put_told c.args.store.now.seen c.put-put.new.self.seen c.args.entry.now c.put-put.result c.put_answer.result c.requires.runs c.put-put.ensures.put c.put_answer.ensures
