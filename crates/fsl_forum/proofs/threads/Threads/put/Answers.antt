use Rattle.std.proofs.Common.{◌∙◌, ◌∷◌, refl, ap}
use Rattle.fsl_order.specs.Names.{bytes_cmp}
use Rattle.fsl_order.specs.Rows.{by_name}
use Rattle.fsl_table.specs.Contents.{with_entry}
use Rattle.fsl_table.proofs.Facts.{facts_with}
use Rattle.fsl_forum.specs.Held.{fact_of, facts_of, node_of}
use Rattle.fsl_forum.proofs.threads.Threads.put.Goals as goal

pub returns-in-Ok-clause-facts : goal.returns-in-Ok-clause-facts
returns-in-Ok-clause-facts g c =
    let node = node_of c.args.fact in
    ap (λ r. facts_of r.posts.entries) c.ways.ensures.rows ∙ ap facts_of c.in-Ok.ensures.posts
    ∙ ap (λ r. facts_of (with_entry bytes_cmp c.args.fact.name node r.posts.entries)) c.begin.ensures.rows
    ∙ facts_with fact_of (λ f. f.name) (λ e. refl) c.args.fact.name node c.self.inside.maps.posts.held.entries c.self.invariant.ordered
    ∙ ap (λ h. by_name (λ f. f.name) (c.args.fact ∷ h.facts)) c.self.view_is
