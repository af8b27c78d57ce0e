use Rattle.std.proofs.Common.{refl}
use Rattle.fsl_order.specs.Names.{bytes_cmp}
use Rattle.fsl_table.specs.Contents.{value_at}
use Rattle.fsl_table.proofs.Outcomes.{on_ok_map}
use Rattle.fsl_wiki.specs.Kept.{Rows, rows_of}
use Rattle.fsl_wiki.proofs.Placing.{kept_without}
use Rattle.fsl_wiki.proofs.rows.take_out.Goals as goal

pub returns-clause-kept : goal.returns-clause-kept
returns-clause-kept g c =
    let old : Rows = rows_of c.args.maps.now in
    let new : Rows = record { facts = c.remove.new.self.held; spots = c.unplace.new.spots.held; targets = c.unplace.new.targets.held } in
    on_ok_map c.remove.result
    (λ out. kept_without old new c.args.name (value_at bytes_cmp c.args.name old.facts.entries) refl c.requires.kept out c.in_ok-unplace.ensures.spots c.in_ok-unplace.ensures.targets)
    c.remove.ensures.ok
