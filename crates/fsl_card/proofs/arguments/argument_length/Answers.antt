use Rattle.std.specs.Prelude.{not}
use Rattle.fsl_card.specs.Cards.{is_argument_byte}
use Rattle.fsl_card.proofs.ArgumentLemmas.{length_found, length_whole}
use Rattle.fsl_card.proofs.arguments.argument_length.Goals as goal

pub returns-in-Some : goal.returns-in-Some
returns-in-Some c = length_found (λ b. not (is_argument_byte b)) c.args.bytes.now c.in-Some.length c.in-Some.ensures

pub returns-in-None : goal.returns-in-None
returns-in-None c = length_whole (λ b. not (is_argument_byte b)) c.args.bytes.now c.in-None.ensures
