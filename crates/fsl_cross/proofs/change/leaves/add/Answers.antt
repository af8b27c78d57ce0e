use Rattle.std.proofs.Common.{◌≡◌, sym, ap, ◌∙◌, ◌+◌, ◌*◌, length, refl}
use Rattle.fsl_leaves.specs.declared.Fact.{Fact}
use Rattle.fsl_cross.specs.Inside.{leaves_fact_over, branch_over}
use Rattle.fsl_cross.specs.Tables.{leaves_fact, without}
use Rattle.fsl_cross.proofs.Moved.{item_name}
use Rattle.fsl_cross.proofs.FactLemmas.{leaves_own}
use Rattle.fsl_cross.proofs.Gifts.{if_some}
use Rattle.fsl_cross.proofs.Added.{some-absent, some-mixed, none-mixed}
use Rattle.fsl_cross.proofs.Quiet.{gives-not, most-given}
use Rattle.fsl_cross.specs.Facts.{as_manifest, parent_names}
use Rattle.fsl_cross.specs.Touches.{parents_most}
use Rattle.std.specs.List.{list_any}
use Rattle.fsl_order.specs.Names.{has}
use Rattle.fsl_cross.proofs.change.leaves.add.Goals as goal

pub put-requires : goal.put-requires
put-requires g c =
    let item = c.args.item.now in
    let items = c.args.items.now in
    let old = without item.name items in
    some-absent item_name (λ (f : Fact). f.name) (leaves_fact old) (leaves_own old) items c.requires.new.rising item c.requires.new.there c.args.leaves.now.facts c.requires.facts (leaves_fact items item)
    (λ f e. if_some (λ (f : Fact). f.name ≡ item.name) (leaves_fact items item) f e (leaves_own items item)) c.in-Some.fact
    (ap (λ ts. leaves_fact_over ts item) (sym c.requires.tags) ∙ sym c.in_ok-fact.ensures ∙ c.in-Some.is)

pub returns-in-Some-clause-facts : goal.returns-in-Some-clause-facts
returns-in-Some-clause-facts g c =
    let item = c.args.item.now in
    let items = c.args.items.now in
    let old = without item.name items in
    some-mixed item_name (λ (f : Fact). f.name) (leaves_fact old) (leaves_own old) items c.requires.new.rising item c.requires.new.there c.args.leaves.now.facts (leaves_fact items) (leaves_own items) c.put.result c.put.new.leaves.facts c.in-Some.fact
    c.requires.facts (ap (λ ts. leaves_fact_over ts item) (sym c.requires.tags) ∙ sym c.in_ok-fact.ensures ∙ c.in-Some.is) c.put.ensures.facts

pub returns-in-None-clause-facts : goal.returns-in-None-clause-facts
returns-in-None-clause-facts g c =
    let item = c.args.item.now in
    let items = c.args.items.now in
    let old = without item.name items in
    none-mixed item_name (λ (f : Fact). f.name) (leaves_fact old) (leaves_own old) items c.requires.new.rising item c.requires.new.there c.args.leaves.now.facts (leaves_fact items) (leaves_own items)
    c.requires.facts (ap (λ ts. leaves_fact_over ts item) (sym c.requires.tags) ∙ sym c.in_ok-fact.ensures ∙ c.in-None.is)

pub returns-in-Some-clause-idle : goal.returns-in-Some-clause-idle
returns-in-Some-clause-idle g c = λ none.
    let item = c.args.item.now in
    absurd (gives-not (λ m. let f : Fact = record { name = item.name; parents = parent_names m; branch = branch_over c.args.tags.now.facts item.name } in f) (as_manifest item.artifact) c.in-Some.fact (sym c.in_ok-fact.ensures ∙ c.in-Some.is) none)

pub returns-in-Some-clause-cost : goal.returns-in-Some-clause-cost
returns-in-Some-clause-cost g c = λ none.
    let item = c.args.item.now in
    let items = c.args.items.now in
    let is = sym c.in_ok-fact.ensures ∙ c.in-Some.is in
    let own : c.in-Some.fact.name ≡ item.name = if_some (λ (f : Fact). f.name ≡ item.name) (leaves_fact items item) c.in-Some.fact (ap (λ ts. leaves_fact_over ts item) (sym c.requires.tags) ∙ is) (leaves_own items item) in
    let most : parents_most item.artifact ≡ 6 * (1 + length c.in-Some.fact.parents)
    = most-given (λ m. let f : Fact = record { name = item.name; parents = parent_names m; branch = branch_over c.args.tags.now.facts item.name } in f) (λ m. 6 * (1 + length (parent_names m))) (λ f. 6 * (1 + length f.parents)) (λ m. refl) (as_manifest item.artifact) c.in-Some.fact is in
    rw most (c.put.ensures.cost (ap (λ q. list_any (λ (f : Fact). has f.parents q) c.args.leaves.now.facts) own ∙ none))
