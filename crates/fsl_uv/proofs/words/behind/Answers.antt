use Rattle.fsl_uv.proofs.WordLemmas.{no-prefix-there, prefix-there}
use Rattle.fsl_uv.proofs.words.behind.Goals as goal

pub returns-in-Some : goal.returns-in-Some
returns-in-Some c = prefix-there c.args.line.now c.args.prefix.now c.in-Some.rest.now c.in-Some.ensures.cases.0 c.in-Some.ensures.cases.1

pub returns-in-None : goal.returns-in-None
returns-in-None c = no-prefix-there c.args.line.now c.args.prefix.now c.in-None.ensures.cases
