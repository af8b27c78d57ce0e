use Rattle.std.proofs.Common.{rules}
use Rattle.fsl_words.proofs.commands.push_command.Goals as goal

pub returns : goal.returns
returns c = search rules
