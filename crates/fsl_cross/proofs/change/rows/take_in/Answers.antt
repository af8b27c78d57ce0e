use Rattle.std.proofs.Common.{◌∷◌, [], false, ◌∙◌}
use Rattle.std.specs.Str.{bytes_eq}
use Rattle.std.proofs.lemmas.Bool.{or_parts}
use Rattle.fsl_table.proofs.Outcomes.{on_ok_map}
use Rattle.fsl_cross.specs.Mixed.{is_other_checkin, all_changed}
use Rattle.fsl_cross.proofs.Pushing.{pushed-before}
use Rattle.fsl_cross.proofs.Retagged.{rows-end}
use Rattle.fsl_cross.proofs.change.rows.take_in.Goals as goal

pub returns-clause-facts : goal.returns-clause-facts
returns-clause-facts g c =
    let items = c.args.items.now in
    let item = c.args.item.now in
    let t = c.requires.trail in
    on_ok_map c.start.result
    (λ facts. facts
    ∙ rows-end items c.requires.new.rising item c.requires.new.there c.effective_by_row.ensures t.first c.args.tags.now c.args.changes.now t.leads t.told t.before c.requires.tags
    (λ y found out none. c.requires.others y (or_parts (bytes_eq y.name item.name) false (pushed-before (is_other_checkin items item.name) (all_changed c.args.changes.now) (item.name ∷ []) y.name out)).0 none)) c.start.ensures.facts
