use Rattle.std.proofs.Common.{rules}
use Rattle.fsl_words.proofs.commands.bare_command.Goals as goal

pub returns-in-put : goal.returns-in-put
returns-in-put c = search rules
