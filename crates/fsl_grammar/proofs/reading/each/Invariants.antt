use Rattle.std.proofs.Common.{◌≡◌, ◌++◌, map, drop, Some}
use Rattle.fsl_grammar.specs.Forms.{arguments}
use Rattle.fsl_grammar.proofs.reading.each.Given as goal

abbrev pub invariant-loop-card : goal.invariant-loop-card
invariant-loop-card g l =
    map g.F.Form.form (arguments l.cards l.letter)
    ≡ map Some l.values ++ map g.F.Form.form (arguments (drop l.card-index l.cards) l.letter)
