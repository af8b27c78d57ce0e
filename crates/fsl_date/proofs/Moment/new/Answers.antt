use Rattle.std.proofs.Common.{rules}
use Rattle.fsl_date.proofs.Moment.new.Goals as goal

pub invariant_of-result : goal.invariant_of-result
invariant_of-result c = search rules

pub returns-clause-inside : goal.returns-clause-inside
returns-clause-inside c = search rules

pub returns-clause-none : goal.returns-clause-none
returns-clause-none c = search rules

pub returns-clause-moment : goal.returns-clause-moment
returns-clause-moment c = search rules
