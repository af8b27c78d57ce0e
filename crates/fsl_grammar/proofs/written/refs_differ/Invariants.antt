use Rattle.std.proofs.Common.{◌≡◌, length}
use Rattle.fsl_grammar.specs.Forms.{refs_differ}
use Rattle.fsl_grammar.proofs.written.refs_differ.Given as goal

abbrev pub invariant-loop-first : goal.invariant-loop-first
invariant-loop-first l = refs_differ l.fn.refs ≡ refs_differ l.rest

abbrev pub decreases-loop-first : goal.decreases-loop-first
decreases-loop-first l = length l.rest
