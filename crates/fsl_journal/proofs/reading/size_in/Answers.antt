use Rattle.std.proofs.Common.{◌∙◌, ◌∷◌, ap, arith, inr, length, refl}
use Rattle.fsl_journal.proofs.Grouping.{number_alone}
use Rattle.fsl_journal.proofs.Walking.{length-numbered}
use Rattle.fsl_journal.proofs.reading.size_in.Goals as goal

pub overflow_sub-len-2 : goal.overflow_sub-len-2
overflow_sub-len-2 c = omega (arith, c.requires.head, ap length c.in-Some.ensures, ap length c.in-Some-read_number.ensures.0, length-numbered c.in-Some-read_number.size c.in-Some-read_number.field-0-1.now)

pub returns-then-size-len-clause-fault : goal.returns-then-size-len-clause-fault
returns-then-size-len-clause-fault c =
    let number = number_alone c.args.head.now c.in-Some.behind.now c.in-Some-read_number.field-0-1.now c.in-Some-read_number.size c.args.at c.args.len c.requires.head c.in-Some.ensures c.in-Some-read_number.ensures.0 in
    (refl, (c.in-Some.behind.now, c.in-Some.ensures, inr (c.in-Some-read_number.size, number.0, c.in-Some-read_number.ensures.1, omega (arith, number.1, c.if-size-len.true))))

pub returns-clause-some : goal.returns-clause-some
returns-clause-some c =
    let number = number_alone c.args.head.now c.in-Some.behind.now c.in-Some-read_number.field-0-1.now c.in-Some-read_number.size c.args.at c.args.len c.requires.head c.in-Some.ensures c.in-Some-read_number.ensures.0 in
    (c.in-Some.ensures ∙ ap (λ l. 79 ∷ l) number.0, omega (arith, number.1, c.if-size-len.false))
