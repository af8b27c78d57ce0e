use Rattle.std.proofs.Common.{◌≡◌, sym, ◌∙◌, ◌+◌, ◌*◌, length, Some, refl}
use Rattle.fsl_links.specs.declared.Fact.{Fact}
use Rattle.fsl_cross.specs.Facts.{links_fact, as_manifest, parent_names}
use Rattle.fsl_cross.proofs.Moved.{item_name}
use Rattle.fsl_cross.proofs.FactLemmas.{links_own}
use Rattle.fsl_cross.proofs.Gifts.{if_some}
use Rattle.fsl_cross.proofs.Added.{some-absent, some-added, none-added}
use Rattle.fsl_cross.proofs.Quiet.{gives-not, most-given}
use Rattle.fsl_cross.specs.Touches.{parents_most}
use Rattle.fsl_links.specs.Links.{children}
use Rattle.fsl_cross.proofs.change.links.add.Goals as goal

pub put-requires : goal.put-requires
put-requires g c =
    let item = c.args.item.now in
    some-absent item_name (λ (f : Fact). f.name) links_fact links_own c.args.items.now c.requires.new.rising item c.requires.new.there c.args.links.now.facts c.requires.facts (links_fact item)
    (λ f e. if_some (λ (f : Fact). f.name ≡ item.name) (links_fact item) f e (links_own item)) c.in-Some.fact (sym c.in_ok-fact.ensures ∙ c.in-Some.is)

pub returns-in-Some-clause-facts : goal.returns-in-Some-clause-facts
returns-in-Some-clause-facts g c =
    some-added item_name (λ (f : Fact). f.name) links_fact links_own c.args.items.now c.requires.new.rising c.args.item.now c.requires.new.there c.args.links.now.facts c.put.result c.put.new.links.facts c.in-Some.fact
    c.requires.facts (sym c.in_ok-fact.ensures ∙ c.in-Some.is) c.put.ensures.facts

pub returns-in-None-clause-facts : goal.returns-in-None-clause-facts
returns-in-None-clause-facts g c =
    none-added item_name (λ (f : Fact). f.name) links_fact links_own c.args.items.now c.requires.new.rising c.args.item.now c.requires.new.there c.args.links.now.facts c.requires.facts (sym c.in_ok-fact.ensures ∙ c.in-None.is)

pub returns-in-Some-clause-idle : goal.returns-in-Some-clause-idle
returns-in-Some-clause-idle g c = λ none.
    let item = c.args.item.now in
    absurd (gives-not (λ m. let f : Fact = record { name = item.name; parents = parent_names m } in f) (as_manifest item.artifact) c.in-Some.fact (sym c.in_ok-fact.ensures ∙ c.in-Some.is) none)

pub returns-in-Some-clause-cost : goal.returns-in-Some-clause-cost
returns-in-Some-clause-cost g c = λ none.
    let item = c.args.item.now in
    let is : links_fact item ≡ Some c.in-Some.fact = sym c.in_ok-fact.ensures ∙ c.in-Some.is in
    let own : c.in-Some.fact.name ≡ item.name = if_some (λ (f : Fact). f.name ≡ item.name) (links_fact item) c.in-Some.fact is (links_own item) in
    let most : parents_most item.artifact ≡ 6 * (1 + length c.in-Some.fact.parents)
    = most-given (λ m. let f : Fact = record { name = item.name; parents = parent_names m } in f) (λ m. 6 * (1 + length (parent_names m))) (λ f. 6 * (1 + length f.parents)) (λ m. refl) (as_manifest item.artifact) c.in-Some.fact is in
    rw most (c.put.ensures.cost ((λ i. children (c.requires.facts i) (own i)) ∙ none))
