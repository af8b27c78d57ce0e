use Rattle.fsl_serve.proofs.Midst.{midst}
use Rattle.fsl_serve.proofs.laws.nothing_is_lost.Goals as goal

pub returns : goal.returns
returns g c = midst g.D.Disk.state g.met.D.Disk.only_now
