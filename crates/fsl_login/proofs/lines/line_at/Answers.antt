use Rattle.std.proofs.Common.{sym}
use Rattle.fsl_login.proofs.FileLemmas.{cut_line, cut_last}
use Rattle.fsl_login.proofs.lines.line_at.Goals as goal

pub returns-in-Some : goal.returns-in-Some
returns-in-Some c = cut_line c.args.bytes.now c.args.at c.in-Some.place c.requires (sym c.in-Some.ensures)

pub returns-in-None : goal.returns-in-None
returns-in-None c = cut_last c.args.bytes.now c.args.at c.requires (sym c.in-None.ensures)
