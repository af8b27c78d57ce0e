use Rattle.std.proofs.Common.{◌∙◌, ◌∷◌, map, refl, ap}
use Rattle.fsl_order.specs.Names.{bytes_cmp, has}
use Rattle.fsl_order.specs.Rows.{by_name}
use Rattle.fsl_table.specs.Contents.{value_at, with_entry}
use Rattle.fsl_table.proofs.Facts.{absent-entry, facts_with}
use Rattle.fsl_cluster.specs.Kept.{entry_of, fact_of, facts_of}
use Rattle.fsl_cluster.proofs.clusters.Clusters.add.Goals as goal

pub put_new-requires-clause-absent : goal.put_new-requires-clause-absent
put_new-requires-clause-absent g c =
    ap (λ t. value_at bytes_cmp c.args.fact.name t.facts.entries) c.begin.ensures.held
    ∙ absent-entry fact_of (λ f. f.name) (λ e. refl) c.self.inside.maps.facts.held.entries c.args.fact.name (ap (λ h. has (map (λ f. f.name) h.facts) c.args.fact.name) c.self.view_is ∙ c.requires.absent)

pub returns-in-Ok-clause-facts : goal.returns-in-Ok-clause-facts
returns-in-Ok-clause-facts g c =
    ap (λ t. facts_of t.facts.entries) c.ways.ensures.held ∙ ap facts_of c.in-Ok.ensures.entries
    ∙ ap (λ t. facts_of (with_entry bytes_cmp c.args.fact.name (entry_of c.args.fact) t.facts.entries)) c.begin.ensures.held
    ∙ facts_with fact_of (λ f. f.name) (λ e. refl) c.args.fact.name (entry_of c.args.fact) c.self.inside.maps.facts.held.entries c.self.invariant.laid.ordered
    ∙ ap (λ h. by_name (λ f. f.name) (c.args.fact ∷ h.facts)) c.self.view_is
