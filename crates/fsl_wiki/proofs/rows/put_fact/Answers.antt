use Rattle.fsl_table.proofs.Outcomes.{on_ok_map}
use Rattle.fsl_wiki.specs.Kept.{Rows, rows_of}
use Rattle.fsl_wiki.proofs.Placing.{kept_with}
use Rattle.fsl_wiki.proofs.rows.put_fact.Goals as goal

pub returns-in-Ok-clause-kept : goal.returns-in-Ok-clause-kept
returns-in-Ok-clause-kept g c =
    let old : Rows = rows_of c.args.maps.now in
    let new : Rows = record { facts = c.put.new.self.held; spots = c.place.new.spots.held; targets = c.place.new.targets.held } in
    on_ok_map c.put.result
    (λ put. kept_with old new c.args.name c.args.entry c.requires.kept c.requires.absent put c.in-Ok.ensures.spots c.in-Ok.ensures.targets)
    c.put.ensures.ok
