use Rattle.std.proofs.Common.{◌||◌, ◌&&◌, not, ◌∙◌, ap}
use Rattle.std.specs.Str.{bytes_eq}
use Rattle.fsl_order.specs.Names.{bytes_cmp}
use Rattle.fsl_table.specs.Contents.{value_at}
use Rattle.fsl_table.proofs.Outcomes.{four_ok}
use Rattle.fsl_cluster.specs.declared.entry.Entry.{Entry}
use Rattle.fsl_cluster.specs.Kept.{entry_of, is_in, tables_in}
use Rattle.fsl_cluster.proofs.Putting.{kept_over}
use Rattle.fsl_cluster.proofs.Publishing.{Publishes, published}
use Rattle.fsl_cluster.proofs.rows.publish.Goals as goal

pub returns-clause-kept : goal.returns-clause-kept
returns-clause-kept g c =
    let old = tables_in c.args.maps.now in
    let new = tables_in c.enter_fact.new.maps in
    let name = c.args.fact.name in
    let w : Entry = entry_of c.args.fact in
    let p : Publishes (value_at bytes_cmp name old.facts.entries) w = published (value_at bytes_cmp name old.facts.entries) w c.requires.private in
    four_ok c.enter_fact.result
    (λ entries names ordered flips.
    kept_over old new name p.entry w c.requires.kept p.is p.was p.public p.members p.refs entries
    (ap (λ t. t.held.entries) c.enter_fact.ensures.members) (ap (λ t. t.held.entries) c.enter_fact.ensures.refs) (ap (λ t. t.held.entries) c.enter_fact.ensures.missing) ordered
    (λ q. names q ∙ ap (λ b. is_in old.unclustered.entries q || (bytes_eq q name && not b)) c.is_first-named.ensures.named))
    c.enter_fact.ensures.entries c.enter_fact.ensures.names c.enter_fact.ensures.unclustered_ordered c.enter_fact.ensures.flips
