use Rattle.std.proofs.Common.{◌∙◌, ap}
use Rattle.fsl_table.specs.Contents.{with_entry}
use Rattle.fsl_table.proofs.Outcomes.{on_ok_map}
use Rattle.fsl_wiki.specs.Kept.{spot_cmp}
use Rattle.fsl_wiki.proofs.rows.put_spot.Goals as goal

pub returns-clause-entries : goal.returns-clause-entries
returns-clause-entries g c = on_ok_map c.put.result (λ ok. ok ∙ ap (λ s. with_entry spot_cmp s tt c.args.spots.now.held.entries) c.in_ok-spot.ensures) c.put.ensures.ok
