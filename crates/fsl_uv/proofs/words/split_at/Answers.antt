use Rattle.std.proofs.Common.{sym}
use Rattle.fsl_uv.proofs.Solid.{no-place}
use Rattle.fsl_uv.proofs.WordLemmas.{halves}
use Rattle.fsl_uv.proofs.words.split_at.Goals as goal

pub returns-in-Some : goal.returns-in-Some
returns-in-Some c = halves c.args.byte c.args.bytes.now c.in-Some.place (sym c.in-Some.ensures)

pub returns-in-None : goal.returns-in-None
returns-in-None c = no-place c.args.byte c.args.bytes.now (sym c.in-None.ensures)
