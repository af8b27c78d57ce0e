use Rattle.std.proofs.Common.{◌∙◌, ◌∷◌, arith, map, refl, ap}
use Rattle.fsl_order.specs.Names.{bytes_cmp, has}
use Rattle.fsl_order.specs.Rows.{by_name}
use Rattle.fsl_table.specs.Contents.{value_at}
use Rattle.fsl_table.proofs.Facts.{absent-entry, facts_with}
use Rattle.fsl_timeline.specs.Kept.{entry_of, row_of, rows_of, with_row}
use Rattle.fsl_timeline.proofs.timeline.Timeline.put.Goals as goal

pub put_either-requires-clause-absent : goal.put_either-requires-clause-absent
put_either-requires-clause-absent g c = λ new.
    ap (λ r. value_at bytes_cmp c.args.fact.name r.rows.entries) c.begin.ensures.held
    ∙ absent-entry row_of (λ r. r.name) (λ e. refl) c.self.inside.maps.rows.held.entries c.args.fact.name (ap (λ h. has (map (λ r. r.name) h.facts) c.args.fact.name) c.self.view_is ∙ c.requires.absent new)

pub returns-in-Ok-clause-facts : goal.returns-in-Ok-clause-facts
returns-in-Ok-clause-facts g c =
    ap (λ r. rows_of r.rows.entries) c.ways.ensures.held ∙ ap rows_of c.in-Ok.ensures.entries ∙ ap (λ r. rows_of (with_row c.args.fact r.rows.entries)) c.begin.ensures.held
    ∙ facts_with row_of (λ r. r.name) (λ e. refl) c.args.fact.name (entry_of c.args.fact) c.self.inside.maps.rows.held.entries c.self.invariant.ordered
    ∙ ap (λ h. by_name (λ r. r.name) (c.args.fact ∷ h.facts)) c.self.view_is

pub returns-in-Err-clause-cost : goal.returns-in-Err-clause-cost
returns-in-Err-clause-cost g c = λ new.
    let cost = c.in-Err.ensures.cost new in
    let back = c.in-Err.ensures.back new in
    omega (arith, c.begin.ensures.back, cost, back, c.turn_back.ensures.cost)
