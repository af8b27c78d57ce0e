use Rattle.fossil.specs.Acts.{input_of}
use Rattle.fossil.proofs.InputLemmas.{input_read}
use Rattle.fossil.proofs.reading.input.read_input.Goals as goal

pub returns-in-Ok-clause-ok : goal.returns-in-Ok-clause-ok
returns-in-Ok-clause-ok g c =
    input_read (input_of (g.S.Source.state c.args.input.now, g.S.Source.state c.read_whole.new.source)) c.in-Ok.message
    c.in-Ok.ensures.whole c.in-Ok.ensures.end c.in-Ok.ensures.within c.in-Ok.ensures.long c.in-Ok.ensures.same
