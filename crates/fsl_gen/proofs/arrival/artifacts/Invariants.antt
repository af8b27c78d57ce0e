use Rattle.std.proofs.Common.{◌≡◌, not}
use Rattle.fsl_gen.specs.Artifacts.{names_before}
use Rattle.fsl_gen.specs.Arrival.{is_odd}
use Rattle.fsl_gen.proofs.Orders.{texts_of}
use Rattle.fsl_gen.proofs.arrival.artifacts.Given as goal

-- the names of the artifacts so far, and the texts of those with an odd and with an even number
abbrev pub invariant-loop-number : goal.invariant-loop-number
invariant-loop-number l = record {
  named : l.names.items ≡ names_before l.number;
  odd : l.texts.items ≡ texts_of is_odd l.number;
  even : l.even.items ≡ texts_of (λ i. not (is_odd i)) l.number;
}
