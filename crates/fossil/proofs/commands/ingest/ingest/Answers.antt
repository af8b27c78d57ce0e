use Rattle.fossil.specs.Acts.{input_of}
use Rattle.fossil.proofs.AnswerLemmas.{ingest_run}
use Rattle.fossil.proofs.commands.ingest.ingest.Goals as goal

pub returns-clause-ok : goal.returns-clause-ok
returns-clause-ok g c =
    ingest_run (input_of (g.S.Source.state c.args.input.now, g.S.Source.state c.read_input.new.input)) c.in_ok-message.field-0 c.in-Some.message
    c.in_ok-answer_of.field-0 c.in_ok-message.ensures.ok c.in-Some.is c.in_ok-answer_of.ensures
