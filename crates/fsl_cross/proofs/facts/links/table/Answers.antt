use Rattle.std.proofs.Common.{◌≡◌, map, sym, ap, ◌∙◌, subst}
use Rattle.fsl_order.specs.Rows.{by_name, AreDistinct}
use Rattle.fsl_cross.specs.Checkins.{links_facts}
use Rattle.fsl_cross.proofs.FactLemmas.{links-by_name, links-distinct}
use Rattle.fsl_cross.proofs.TableLemmas.{held-if}
use Rattle.fsl_cross.proofs.facts.links.table.Goals as goal

pub build-requires : goal.build-requires
build-requires c = subst (λ l. AreDistinct (map (λ f. f.name) l)) (sym (c.deref.ensures.value ∙ c.in_ok-of_items.ensures)) (links-distinct c.args.items.now c.requires)

pub returns : goal.returns
returns c =
    let items = c.args.items.now in
    let same : by_name (λ f. f.name) c.deref.result.now ≡ links_facts items
    = ap (by_name (λ f. f.name)) (c.deref.ensures.value ∙ c.in_ok-of_items.ensures) ∙ links-by_name items c.requires in
    held-if c.build.result (by_name (λ f. f.name) c.deref.result.now) (links_facts items) same c.build.ensures.facts
