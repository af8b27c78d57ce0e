use Rattle.std.proofs.Common.{List, ℕ, ap}
use Rattle.fsl_record.specs.declared.RecordFault.TheVariants.{NameWrong as NameFault}
use Rattle.fsl_record.proofs.OfName.{other_name, same_name}
use Rattle.fsl_record.proofs.reading.check_name.Goals as goal

pub returns-then-ne-clause-fault : goal.returns-then-ne-clause-fault
returns-then-ne-clause-fault c =
    let of = c.of-found.ensures.value in
    (ap (λ (found : List ℕ). NameFault c.args.kept found) of, other_name c.args.kept c.of-found.result _ c.ne.result c.ne.ensures of c.if-ne.true)

pub returns-clause-right : goal.returns-clause-right
returns-clause-right c = same_name c.args.kept c.of-found.result _ c.ne.result c.ne.ensures c.of-found.ensures.value c.if-ne.false
