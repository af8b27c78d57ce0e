use Rattle.std.proofs.Common.{position, ap, sym, ◌∙◌}
use Rattle.fossil.specs.Messages.{is_other}
use Rattle.fossil.proofs.MessageLemmas.{other_fault, files_read}
use Rattle.fossil.proofs.reading.message.files_among.Goals as goal

pub returns-in-Some-clause-fault : goal.returns-in-Some-clause-fault
returns-in-Some-clause-fault c =
    other_fault c.args.message.now c.args.cards c.in-Some.place c.line_of.result c.requires (ap (position is_other) (sym c.items.ensures) ∙ sym c.first_other.ensures ∙ c.in-Some.is) c.line_of.ensures

pub returns-in_ok-files_in-in-None-clause-files : goal.returns-in_ok-files_in-in-None-clause-files
returns-in_ok-files_in-in-None-clause-files c =
    files_read c.args.message.now c.args.cards c.in_ok-files_in-in-None.field-0 c.requires (ap (position is_other) (sym c.items.ensures) ∙ sym c.first_other.ensures ∙ c.in-None.is) c.in_ok-files_in-in-None.ensures
