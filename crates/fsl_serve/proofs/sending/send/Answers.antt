use Rattle.fsl_serve.proofs.Passing.{none_passed}
use Rattle.fsl_serve.proofs.sending.send.Goals as goal

pub returns-in-Err-clause-passed : goal.returns-in-Err-clause-passed
returns-in-Err-clause-passed g c = none_passed (g.G.Gate.passed c.args.gate.now) c.args.number
