use Rattle.std.proofs.Common.{◌≡◌, ◌++◌}
use Rattle.fsl_tags.proofs.shared.share.Given as goal

-- with what is left, it is the whole
abbrev pub invariant-loop-assertion : goal.invariant-loop-assertion
invariant-loop-assertion l = l.list ++ l.assertion-iterator.rest.items ≡ l.fn.assertions
