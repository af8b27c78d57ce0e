use Rattle.std.proofs.Common.{◌≡◌, sym, ◌∙◌}
use Rattle.fsl_timeline.specs.declared.Row.{Row}
use Rattle.fsl_cross.specs.Mixed.{timeline_row}
use Rattle.fsl_cross.specs.Tables.{without}
use Rattle.fsl_cross.proofs.Moved.{item_name}
use Rattle.fsl_cross.proofs.TableLemmas.{row-own}
use Rattle.fsl_cross.proofs.Gifts.{if_some}
use Rattle.fsl_cross.proofs.Added.{some-absent, some-mixed, none-mixed}
use Rattle.fsl_cross.proofs.change.rows.add.Goals as goal

pub put-requires : goal.put-requires
put-requires g c =
    let item = c.args.item.now in
    let items = c.args.items.now in
    let old = without item.name items in
    some-absent item_name (λ (r : Row). r.name) (timeline_row old) (row-own old) items c.requires.new.rising item c.requires.new.there c.args.timeline.now.facts c.requires.facts (timeline_row items item)
    (λ r e. if_some (λ (r : Row). r.name ≡ item.name) (timeline_row items item) r e (row-own items item)) c.in-Some.row (sym c.requires.row ∙ c.in-Some.is)

pub returns-in-Some-clause-facts : goal.returns-in-Some-clause-facts
returns-in-Some-clause-facts g c =
    let item = c.args.item.now in
    let items = c.args.items.now in
    let old = without item.name items in
    some-mixed item_name (λ (r : Row). r.name) (timeline_row old) (row-own old) items c.requires.new.rising item c.requires.new.there c.args.timeline.now.facts (timeline_row items) (row-own items) c.put.result c.put.new.timeline.facts c.in-Some.row
    c.requires.facts (sym c.requires.row ∙ c.in-Some.is) c.put.ensures.facts

pub returns-in-None-clause-facts : goal.returns-in-None-clause-facts
returns-in-None-clause-facts g c =
    let item = c.args.item.now in
    let items = c.args.items.now in
    let old = without item.name items in
    none-mixed item_name (λ (r : Row). r.name) (timeline_row old) (row-own old) items c.requires.new.rising item c.requires.new.there c.args.timeline.now.facts (timeline_row items) (row-own items)
    c.requires.facts (sym c.requires.row ∙ c.in-None.is)
