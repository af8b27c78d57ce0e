use Rattle.std.proofs.Common.{sym, ap, ◌∙◌, Ok}
use Rattle.fsl_name.proofs.Reading.{no_other, read-long, read-other, read-digits, read-text}
use Rattle.fsl_name.proofs.Name.read.Goals as goal

pub returns-then-text-ne40-clause-only : goal.returns-then-text-ne40-clause-only
returns-then-text-ne40-clause-only c name h = sym (read-long c.args.text.now c.if-text-ne40.true) ∙ read-text c.args.text.now name h

pub spelled-requires-clause-digits : goal.spelled-requires-clause-digits
spelled-requires-clause-digits c = no_other c.args.text.now (sym c.in-None.ensures)

pub returns-in-Some-clause-value : goal.returns-in-Some-clause-value
returns-in-Some-clause-value c = sym (read-other c.args.text.now c.in-Some.at c.if-text-ne40.false (sym c.in-Some.ensures))

pub returns-in-Some-clause-only : goal.returns-in-Some-clause-only
returns-in-Some-clause-only c name h = returns-in-Some-clause-value c ∙ read-text c.args.text.now name h

pub returns-in-None-clause-value : goal.returns-in-None-clause-value
returns-in-None-clause-value c =
    ap Ok c.spelled.ensures.value ∙ sym (read-digits c.args.text.now c.if-text-ne40.false (no_other c.args.text.now (sym c.in-None.ensures)))

pub returns-in-None-clause-only : goal.returns-in-None-clause-only
returns-in-None-clause-only c name h = returns-in-None-clause-value c ∙ read-text c.args.text.now name h
