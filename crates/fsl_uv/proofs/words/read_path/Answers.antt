use Rattle.std.proofs.Common.{◌∙◌}
use Rattle.fsl_uv.proofs.WordLemmas.{no-path}
use Rattle.fsl_uv.proofs.words.read_path.Goals as goal

pub returns-else-is : goal.returns-else-is
returns-else-is c = no-path c.args.word.now c.bytes.result.now c.in_ok-is.is' (c.bytes.ensures ∙ c.in_ok-path.ensures) c.in_ok-is.ensures c.if-is.false
