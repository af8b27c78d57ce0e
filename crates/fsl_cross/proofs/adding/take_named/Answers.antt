use Rattle.std.proofs.Common.{rules, ◌≡◌, true, false, Some, None, sym, ap, ◌∙◌, subst, ◌≤◌, ◌+◌, arith}
use Rattle.std.specs.Prelude.{is_some, option_and_then}
use Rattle.fsl_order.specs.Rows.{named}
use Rattle.fsl_cross.specs.Built.{AreTablesOf}
use Rattle.fsl_cross.specs.Tables.{without}
use Rattle.fsl_cross.proofs.Moved.{item_name}
use Rattle.fsl_cross.proofs.Among.{name-found, is-in, is-item}
use Rattle.fsl_cross.specs.Touches.{add_touches}
use Rattle.fsl_cross.proofs.Within.{if-bound, touches-within}
use Rattle.fsl_cross.proofs.adding.take_named.Goals as goal

pub take_in-requires-clause-new : goal.take_in-requires-clause-new
take_in-requires-clause-new g c =
    let found : named item_name c.args.items.now c.args.name ≡ Some c.in-Some.item.now = search rules in
    is-in c.args.items.now c.args.name c.in-Some.item.now found c.requires.rising

pub take_in-requires-clause-is_item : goal.take_in-requires-clause-is_item
take_in-requires-clause-is_item g c =
    let found : named item_name c.args.items.now c.args.name ≡ Some c.in-Some.item.now = search rules in
    is-item c.args.items.now c.args.name c.in-Some.item.now found c.requires.items

pub take_in-requires-clause-tables : goal.take_in-requires-clause-tables
take_in-requires-clause-tables g c =
    let found : named item_name c.args.items.now c.args.name ≡ Some c.in-Some.item.now = search rules in
    subst (λ n. AreTablesOf c.args.derived.now.contents.tickets.fields (without n c.args.items.now) c.args.derived.now) (sym (name-found c.args.items.now c.args.name c.in-Some.item.now found)) c.requires.tables

pub returns-in-None-clause-tables : goal.returns-in-None-clause-tables
returns-in-None-clause-tables g c =
    let none : named item_name c.args.items.now c.args.name ≡ None = search rules in
    let no : false ≡ true = sym (ap is_some none) ∙ c.requires.there in
    cc

pub returns-in-Some-clause-cost : goal.returns-in-Some-clause-cost
returns-in-Some-clause-cost g c =
    let items = c.args.items.now in
    let item = c.in-Some.item.now in
    let found : named item_name items c.args.name ≡ Some item = search rules in
    if-bound (option_and_then (add_touches (without c.args.name items)) (named item_name items c.args.name)) (λ most. c.take_in.new.steps ≤ c.args.steps.now + most)
    (λ most is.
    let within = touches-within items item (is-item items c.args.name item found c.requires.items) most
    (ap (λ n. add_touches (without n items) item) (name-found items c.args.name item found) ∙ ap (option_and_then (add_touches (without c.args.name items))) (sym found) ∙ is) in
    let cost = c.take_in.ensures.cost within.0 in
    let bound = within.1 in
    omega (arith, cost, bound))

pub returns-in-None-clause-cost : goal.returns-in-None-clause-cost
returns-in-None-clause-cost g c = if-bound _ (λ most. c.args.steps.now ≤ c.args.steps.now + most) (λ most is. omega arith)
