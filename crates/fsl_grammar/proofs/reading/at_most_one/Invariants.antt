use Rattle.std.proofs.Common.{◌≡◌, ◌++◌, map, drop, Some}
use Rattle.std.specs.Prelude.{option_to_list}
use Rattle.fsl_grammar.specs.Forms.{arguments}
use Rattle.fsl_grammar.proofs.reading.at_most_one.Given as goal

abbrev pub invariant-loop-card : goal.invariant-loop-card
invariant-loop-card g l =
    map g.F.Form.form (arguments l.cards l.letter)
    ≡ map Some (option_to_list l.found) ++ map g.F.Form.form (arguments (drop l.card-index l.cards) l.letter)
