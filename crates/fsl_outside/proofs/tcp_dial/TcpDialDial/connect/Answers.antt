use Rattle.std.proofs.Common.{rules}
use Rattle.fsl_outside.proofs.tcp_dial.TcpDialDial.connect.Goals as goal

pub returns-then-is_some-clause-there : goal.returns-then-is_some-clause-there
returns-then-is_some-clause-there g c = search rules
