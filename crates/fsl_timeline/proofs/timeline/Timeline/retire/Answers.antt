use Rattle.std.proofs.Common.{◌∙◌, is_some, map, refl, sym, ap}
use Rattle.fsl_order.specs.Names.{bytes_cmp, has}
use Rattle.fsl_table.specs.Contents.{value_at, without_key}
use Rattle.fsl_table.proofs.Facts.{has-facts, facts_without}
use Rattle.fsl_timeline.specs.Kept.{row_of, rows_of}
use Rattle.fsl_timeline.specs.Timeline.{retired}
use Rattle.fsl_timeline.proofs.timeline.Timeline.retire.Goals as goal

pub retire_row-requires-clause-there : goal.retire_row-requires-clause-there
retire_row-requires-clause-there g c =
    ap (λ r. is_some (value_at bytes_cmp c.args.name r.rows.entries)) c.begin.ensures.held
    ∙ sym (has-facts row_of (λ r. r.name) (λ e. refl) c.self.inside.maps.rows.held.entries c.args.name) ∙ ap (λ h. has (map (λ r. r.name) h.facts) c.args.name) c.self.view_is ∙ c.requires.there

pub returns-in-Ok-clause-facts : goal.returns-in-Ok-clause-facts
returns-in-Ok-clause-facts g c =
    ap (λ r. rows_of r.rows.entries) c.ways.ensures.held ∙ ap rows_of c.in-Ok.ensures.entries ∙ ap (λ r. rows_of (without_key bytes_cmp c.args.name r.rows.entries)) c.begin.ensures.held
    ∙ facts_without row_of (λ r. r.name) (λ e. refl) c.args.name c.self.inside.maps.rows.held.entries c.self.invariant.ordered
    ∙ ap (λ h. retired c.args.name h.facts) c.self.view_is
