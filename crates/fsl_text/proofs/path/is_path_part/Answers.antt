use Rattle.std.proofs.Common.{rules}
use Rattle.fsl_text.proofs.path.is_path_part.Goals as goal

pub returns-then-ne : goal.returns-then-ne
returns-then-ne c = search rules
