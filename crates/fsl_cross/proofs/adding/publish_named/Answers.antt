use Rattle.std.proofs.Common.{rules, ◌≡◌, true, Some, None, map, refl, sym, subst}
use Rattle.fsl_order.specs.Rows.{named}
use Rattle.fsl_table.proofs.Outcomes.{on_ok_map}
use Rattle.fsl_cross.specs.declared.Item.{Item}
use Rattle.fsl_cross.specs.Marks.{private_at}
use Rattle.fsl_cross.specs.Tables.{cluster_facts}
use Rattle.fsl_cross.proofs.Moved.{item_name}
use Rattle.fsl_cross.proofs.Among.{name-found, is-in, said, not-none}
use Rattle.fsl_cross.proofs.Published.{tables-same}
use Rattle.fsl_cross.proofs.adding.publish_named.Goals as goal

pub publish-requires-clause-new : goal.publish-requires-clause-new
publish-requires-clause-new g c =
    let found : named item_name c.args.items.now c.args.name ≡ Some c.in-Some.item.now = search rules in
    is-in c.args.items.now c.args.name c.in-Some.item.now found c.requires.rising

pub publish-requires-clause-public : goal.publish-requires-clause-public
publish-requires-clause-public g c =
    let found : named item_name c.args.items.now c.args.name ≡ Some c.in-Some.item.now = search rules in
    said c.args.items.now c.args.name c.in-Some.item.now found (λ (i : Item). i.private) _ c.requires.public

pub publish-requires-clause-facts : goal.publish-requires-clause-facts
publish-requires-clause-facts g c =
    let found : named item_name c.args.items.now c.args.name ≡ Some c.in-Some.item.now = search rules in
    subst (λ n. c.args.derived.now.contents.clusters.facts ≡ cluster_facts (map (private_at n true) c.args.items.now)) (sym (name-found c.args.items.now c.args.name c.in-Some.item.now found)) c.requires.tables.contents.clusters

pub returns-in-Some-clause-tables : goal.returns-in-Some-clause-tables
returns-in-Some-clause-tables g c = on_ok_map c.publish.result
    (λ facts. tables-same c.args.name true c.args.items.now c.args.derived.now.contents.tickets.fields c.args.derived.now _ c.requires.tables c.requires.rising c.requires.items refl facts) c.publish.ensures.facts

pub returns-in-None-clause-tables : goal.returns-in-None-clause-tables
returns-in-None-clause-tables g c =
    let none : named item_name c.args.items.now c.args.name ≡ None = search rules in
    absurd (not-none (λ (i : Item). i.private) c.args.items.now c.args.name _ none c.requires.public)
