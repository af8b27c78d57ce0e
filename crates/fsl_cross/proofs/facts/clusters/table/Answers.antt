use Rattle.std.proofs.Common.{◌≡◌, map, sym, ap, ◌∙◌, subst}
use Rattle.fsl_order.specs.Rows.{by_name, AreDistinct}
use Rattle.fsl_cross.specs.Tables.{cluster_facts}
use Rattle.fsl_cross.proofs.TableLemmas.{clusters-by_name, clusters-distinct, held-if}
use Rattle.fsl_cross.proofs.facts.clusters.table.Goals as goal

pub from_facts-requires : goal.from_facts-requires
from_facts-requires c = subst (λ l. AreDistinct (map (λ f. f.name) l)) (sym (c.from_vec.ensures ∙ c.in_ok-facts.ensures)) (clusters-distinct c.args.items.now c.requires)

pub returns : goal.returns
returns c =
    let same : by_name (λ f. f.name) c.from_vec.result ≡ cluster_facts c.args.items.now
    = ap (by_name (λ f. f.name)) (c.from_vec.ensures ∙ c.in_ok-facts.ensures) ∙ clusters-by_name c.args.items.now c.requires in
    held-if c.from_facts.result (by_name (λ f. f.name) c.from_vec.result) (cluster_facts c.args.items.now) same c.from_facts.ensures.facts
