use Rattle.std.proofs.Common.{◌∙◌, false, if◌then◌else◌, ap}
use Rattle.std.specs.Str.{bytes_eq}
use Rattle.fsl_table.proofs.Outcomes.{on_ok_map}
use Rattle.fsl_leaves.proofs.rows.unlink_line.Goals as goal

pub returns-clause-flips : goal.returns-clause-flips
returns-clause-flips g c = on_ok_map c.set_leaf.result (λ set before all. set before (c.in_ok-recount.ensures.flips before all)) c.set_leaf.ensures.flips

pub returns-clause-leaves : goal.returns-clause-leaves
returns-clause-leaves g c =
    rw (← c.items-parents.ensures) (on_ok_map c.set_leaf.result (λ set q. set q ∙ ap (λ b. if bytes_eq q c.args.name then false else b) (c.in_ok-recount.ensures.leaves q)) c.set_leaf.ensures.leaves)
