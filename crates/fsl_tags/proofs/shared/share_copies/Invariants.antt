use Rattle.std.proofs.Common.{◌≡◌, take}
use Rattle.fsl_tags.proofs.shared.share_copies.Given as goal

-- those that were passed are copied
abbrev pub invariant-loop-assertion : goal.invariant-loop-assertion
invariant-loop-assertion l = l.list ≡ take l.assertion-index l.assertions
