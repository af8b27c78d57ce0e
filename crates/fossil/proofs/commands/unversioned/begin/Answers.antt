use Rattle.std.proofs.Common.{Some, List, ℕ, subst}
use Rattle.fsl_words.specs.declared.Command.TheVariants as command_of
use Rattle.fossil.specs.Acts.{input_of, clock_of, file_of, HasActed}
use Rattle.fossil.proofs.UvLemmas.{begun_acted}
use Rattle.fossil.proofs.commands.unversioned.begin.Goals as goal

pub returns : goal.returns
returns g c = λ input clock.
    let file = file_of (g.D.Disk.state c.args.disk.now, g.D.Disk.state c.init-answer.new.disk) in
    begun_acted c.args.project c.args.server (input_of (input, input)) (clock_of (clock, clock)) file c.init-answer.result
    (subst (λ (fields : List (List ℕ)). HasActed (Some (command_of.Init c.args.project c.args.server fields)) (input_of (input, input)) (clock_of (clock, clock)) file c.init-answer.result) c.new.ensures (c.init-answer.ensures input clock))
