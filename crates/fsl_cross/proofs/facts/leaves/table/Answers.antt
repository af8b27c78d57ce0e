use Rattle.std.proofs.Common.{◌≡◌, map, sym, ap, ◌∙◌, subst}
use Rattle.std.specs.Prelude.{filter_map}
use Rattle.fsl_order.specs.Rows.{by_name, AreDistinct}
use Rattle.fsl_cross.specs.Tables.{leaves_facts}
use Rattle.fsl_cross.specs.Inside.{leaves_fact_over}
use Rattle.fsl_cross.proofs.FactLemmas.{leaves-by_name, leaves-distinct}
use Rattle.fsl_cross.proofs.TableLemmas.{held-if}
use Rattle.fsl_cross.proofs.facts.leaves.table.Goals as goal

pub from_facts-requires : goal.from_facts-requires
from_facts-requires c =
    let items = c.args.items.now in
    subst (λ l. AreDistinct (map (λ f. f.name) l)) (sym (c.from_vec.ensures ∙ c.in_ok-facts.ensures ∙ ap (λ facts. filter_map (leaves_fact_over facts) items) c.requires.tags)) (leaves-distinct items c.requires.rising)

pub returns : goal.returns
returns c =
    let items = c.args.items.now in
    let same : by_name (λ f. f.name) c.from_vec.result ≡ leaves_facts items
    = ap (by_name (λ f. f.name)) (c.from_vec.ensures ∙ c.in_ok-facts.ensures ∙ ap (λ facts. filter_map (leaves_fact_over facts) items) c.requires.tags)
    ∙ leaves-by_name items c.requires.rising in
    held-if c.from_facts.result (by_name (λ f. f.name) c.from_vec.result) (leaves_facts items) same c.from_facts.ensures.facts
