use Rattle.std.proofs.Common.{Some}
use Rattle.fsl_words.specs.declared.Command.TheVariants as command_of
use Rattle.fossil.specs.Acts.{input_of, clock_of, output_of, file_of}
use Rattle.fossil.proofs.PrintedLemmas.{written}
use Rattle.fossil.proofs.commands.question.answer_question.Goals as goal

pub returns : goal.returns
returns g c = λ input clock.
    written (Some (command_of.Ask c.args.question.now)) (input_of (input, input)) (clock_of (clock, clock)) (file_of (g.D.Disk.state c.args.repo, g.D.Disk.state c.report-answer.new.disk)) c.report-answer.result
    (output_of (g.K.Sink.state c.args.out.now, g.K.Sink.state c.print_due-status.new.out)) c.print_due-status.result (c.report-answer.ensures input clock) c.print_due-status.ensures
