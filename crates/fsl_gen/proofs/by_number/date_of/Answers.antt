use Rattle.std.proofs.Common.{arith}
use Rattle.std.proofs.lemmas.Int.{ints}
use Rattle.fsl_gen.proofs.Dates.{date_is}
use Rattle.fsl_gen.proofs.by_number.date_of.Goals as goal

pub returns : goal.returns
returns c =
    let h = rw c.unwrap.ensures at c.new.ensures.some in
    omega (arith, ints, date_is c.args.number, h)
