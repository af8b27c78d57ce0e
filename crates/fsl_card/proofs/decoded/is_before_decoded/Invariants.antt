use Rattle.std.proofs.Common.{◌≡◌, length}
use Rattle.fsl_order.specs.Names.{is_before}
use Rattle.fsl_text.specs.Escapes.{unescape}
use Rattle.fsl_card.proofs.decoded.is_before_decoded.Given as goal

abbrev pub invariant-loop-right : goal.invariant-loop-right
invariant-loop-right l = is_before (unescape l.initial.a) (unescape l.initial.b) ≡ is_before (unescape l.a) (unescape l.b)

abbrev pub decreases-loop-right : goal.decreases-loop-right
decreases-loop-right l = length l.b
