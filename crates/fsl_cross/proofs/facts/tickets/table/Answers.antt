use Rattle.std.proofs.Common.{◌≡◌, map, sym, ap, ◌∙◌, subst}
use Rattle.fsl_order.specs.Rows.{by_name, AreDistinct}
use Rattle.fsl_cross.specs.Tables.{ticket_facts}
use Rattle.fsl_cross.proofs.TableLemmas.{tickets-by_name, tickets-distinct, seen-if}
use Rattle.fsl_cross.proofs.facts.tickets.table.Goals as goal

pub build-requires : goal.build-requires
build-requires c = subst (λ l. AreDistinct (map (λ f. f.name) l)) (sym (c.deref.ensures.value ∙ c.in_ok-of_items.ensures)) (tickets-distinct c.args.items.now c.requires)

pub returns : goal.returns
returns c =
    let same : by_name (λ f. f.name) c.deref.result.now ≡ ticket_facts c.args.items.now
    = ap (by_name (λ f. f.name)) (c.deref.ensures.value ∙ c.in_ok-of_items.ensures) ∙ tickets-by_name c.args.items.now c.requires in
    seen-if c.build.result c.args.fields.now (by_name (λ f. f.name) c.deref.result.now) (ticket_facts c.args.items.now) same c.build.ensures.fields c.build.ensures.facts
