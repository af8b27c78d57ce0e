use Rattle.std.proofs.Common.{◌∙◌, ap}
use Rattle.fsl_table.proofs.Outcomes.{if_ok_map}
use Rattle.fsl_tags.specs.Tags.{holders}
use Rattle.fsl_tags.specs.Held.{rows_of}
use Rattle.fsl_tags.proofs.Effective.{kept-rises}
use Rattle.fsl_tags.proofs.Holding.{holders-shown}
use Rattle.fsl_tags.proofs.tags.Tags.holders_counted.Goals as goal

pub holders-requires-clause-ordered : goal.holders-requires-clause-ordered
holders-requires-clause-ordered g c = c.self.invariant.right.full.ordered

pub holders-requires-clause-rise : goal.holders-requires-clause-rise
holders-requires-clause-rise g c =
    let now = rows_of c.self.inside.maps in
    kept-rises now c.self.invariant

pub returns : goal.returns
returns g c =
    let now = rows_of c.self.inside.maps in
    if_ok_map c.holders.result (λ names is. is ∙ holders-shown now c.self.invariant c.args.tag.now ∙ ap (λ h. holders h.facts c.args.tag.now) c.self.view_is) c.holders.ensures
