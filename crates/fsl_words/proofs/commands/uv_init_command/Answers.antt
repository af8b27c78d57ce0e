use Rattle.std.proofs.Common.{rules}
use Rattle.std.specs.Prelude.{string_bytes}
use Rattle.fsl_words.proofs.GrammarLemmas.{no_two_codes}
use Rattle.fsl_words.proofs.commands.uv_init_command.Goals as goal

pub returns-in_default : goal.returns-in_default
returns-in_default c = no_two_codes string_bytes c.args.words.now (λ two. search rules)
