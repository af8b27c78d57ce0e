use Rattle.std.proofs.Common.{◌≡◌, map, sym, ap, ◌∙◌, subst}
use Rattle.fsl_order.specs.Rows.{by_name, AreDistinct}
use Rattle.fsl_wiki.specs.Pages.{fact_name}
use Rattle.fsl_cross.specs.Tables.{pages_facts}
use Rattle.fsl_cross.proofs.TableLemmas.{pages-by_name, pages-distinct, held-if}
use Rattle.fsl_cross.proofs.facts.pages.table.Goals as goal

pub build-requires : goal.build-requires
build-requires c = subst (λ l. AreDistinct (map fact_name l)) (sym (c.deref.ensures.value ∙ c.in_ok-of_items.ensures)) (pages-distinct c.args.items.now c.requires)

pub returns : goal.returns
returns c =
    let same : by_name fact_name c.deref.result.now ≡ pages_facts c.args.items.now
    = ap (by_name fact_name) (c.deref.ensures.value ∙ c.in_ok-of_items.ensures) ∙ pages-by_name c.args.items.now c.requires in
    held-if c.build.result (by_name fact_name c.deref.result.now) (pages_facts c.args.items.now) same c.build.ensures.facts
