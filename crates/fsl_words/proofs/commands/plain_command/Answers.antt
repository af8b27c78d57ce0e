use Rattle.std.specs.Prelude.{string_bytes}
use Rattle.fsl_words.proofs.GrammarLemmas.{more_words}
use Rattle.fsl_words.proofs.commands.plain_command.Goals as goal

pub returns-in_default : goal.returns-in_default
returns-in_default c = more_words string_bytes c.args.command.now c.args.words.now c.in_default.len_at_least
