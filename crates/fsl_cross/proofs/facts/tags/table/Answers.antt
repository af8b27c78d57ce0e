use Rattle.std.proofs.Common.{◌≡◌, sym, ap, ◌∙◌, subst}
use Rattle.std.specs.Prelude.{filter_map}
use Rattle.fsl_order.specs.Rows.{by_name}
use Rattle.fsl_tags.specs.Tags.{AreTagFacts}
use Rattle.fsl_cross.specs.Checkins.{tags_facts}
use Rattle.fsl_cross.specs.Inside.{tags_fact_over}
use Rattle.fsl_cross.proofs.FactLemmas.{tags-by_name, tags-fit}
use Rattle.fsl_cross.proofs.TableLemmas.{held-if}
use Rattle.fsl_cross.proofs.facts.tags.table.Goals as goal

pub build-requires : goal.build-requires
build-requires c =
    let items = c.args.items.now in
    subst AreTagFacts (sym (c.deref.ensures.value ∙ c.in_ok-of_items.ensures ∙ ap (λ facts. filter_map (tags_fact_over facts) items) c.requires.links)) (tags-fit items c.requires.rising)

pub returns : goal.returns
returns c =
    let items = c.args.items.now in
    let same : by_name (λ f. f.name) c.deref.result.now ≡ tags_facts items
    = ap (by_name (λ f. f.name)) (c.deref.ensures.value ∙ c.in_ok-of_items.ensures ∙ ap (λ facts. filter_map (tags_fact_over facts) items) c.requires.links)
    ∙ tags-by_name items c.requires.rising in
    held-if c.build.result (by_name (λ f. f.name) c.deref.result.now) (tags_facts items) same c.build.ensures.facts
