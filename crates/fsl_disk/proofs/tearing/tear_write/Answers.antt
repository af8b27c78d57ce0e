use Rattle.std.proofs.Common.{ℕ, arith, length-take}
use Rattle.fsl_disk.proofs.Stopping.{torn_part, torn_parts}
use Rattle.fsl_disk.proofs.tearing.tear_write.Goals as goal

pub returns-in_ok-put-2 : goal.returns-in_ok-put-2
returns-in_ok-put-2 c =
    torn_parts c.args.at c.args.range c.extent-done.result _ _ _ _ _ (omega arith) (omega (arith, length-take {A = ℕ})) (omega (arith, c.in_ok-filler.ensures.len)) c.in_ok-put.ensures.ok c.in_ok-put-2.ensures.ok

pub returns-else-roll-eq3 : goal.returns-else-roll-eq3
returns-else-roll-eq3 c =
    torn_part c.args.at c.args.range _ _ _ (omega arith) (omega (arith, length-take {A = ℕ})) c.in_ok-put.ensures.ok
