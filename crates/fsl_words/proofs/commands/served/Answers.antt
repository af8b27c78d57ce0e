use Rattle.std.specs.Prelude.{string_bytes}
use Rattle.fsl_words.proofs.GrammarLemmas.{no_address}
use Rattle.fsl_words.proofs.commands.served.Goals as goal

pub returns-in_default : goal.returns-in_default
returns-in_default c = no_address string_bytes c.args.words.now c.in_default.len_below
