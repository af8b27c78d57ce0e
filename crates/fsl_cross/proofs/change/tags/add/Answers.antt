use Rattle.std.proofs.Common.{◌≡◌, ◌∷◌, sym, ap, ◌∙◌, subst}
use Rattle.fsl_tags.specs.Tags.{IsTagFact}
use Rattle.fsl_tags.specs.declared.Fact.{Fact}
use Rattle.fsl_cross.specs.Inside.{tags_fact_over}
use Rattle.fsl_cross.specs.Checkins.{tags_fact}
use Rattle.fsl_cross.specs.Tables.{without}
use Rattle.fsl_cross.proofs.Moved.{item_name}
use Rattle.fsl_cross.proofs.FactLemmas.{tags_own}
use Rattle.fsl_cross.proofs.Gifts.{if_some}
use Rattle.fsl_cross.proofs.Added.{some-absent, some-mixed, none-mixed}
use Rattle.fsl_cross.proofs.Parents.{tags-fit-added}
use Rattle.fsl_cross.proofs.Quiet.{gives-not}
use Rattle.fsl_cross.proofs.Unnamed.{tags_with, tags-most, tags-own_targets}
use Rattle.fsl_cross.specs.Facts.{tag_cards}
use Rattle.fsl_cross.proofs.Trailing.{none-single}
use Rattle.fsl_cross.proofs.change.tags.add.Goals as goal

pub put-requires-clause-absent : goal.put-requires-clause-absent
put-requires-clause-absent g c =
    let item = c.args.item.now in
    let items = c.args.items.now in
    let old = without item.name items in
    some-absent item_name (λ (f : Fact). f.name) (tags_fact old) (tags_own old) items c.requires.new.rising item c.requires.new.there c.args.tags.now.facts c.requires.facts (tags_fact items item)
    (λ f e. if_some (λ (f : Fact). f.name ≡ item.name) (tags_fact items item) f e (tags_own items item)) c.in-Some.fact
    (ap (λ ts. tags_fact_over ts item) (sym c.requires.links) ∙ sym c.in_ok-fact.ensures ∙ c.in-Some.is)

pub returns-in-Some-clause-facts : goal.returns-in-Some-clause-facts
returns-in-Some-clause-facts g c =
    let item = c.args.item.now in
    let items = c.args.items.now in
    let old = without item.name items in
    some-mixed item_name (λ (f : Fact). f.name) (tags_fact old) (tags_own old) items c.requires.new.rising item c.requires.new.there c.args.tags.now.facts (tags_fact items) (tags_own items) c.put.result c.put.new.tags.facts c.in-Some.fact
    c.requires.facts (ap (λ ts. tags_fact_over ts item) (sym c.requires.links) ∙ sym c.in_ok-fact.ensures ∙ c.in-Some.is) c.put.ensures.facts

pub returns-in-None-clause-facts : goal.returns-in-None-clause-facts
returns-in-None-clause-facts g c =
    let item = c.args.item.now in
    let items = c.args.items.now in
    let old = without item.name items in
    none-mixed item_name (λ (f : Fact). f.name) (tags_fact old) (tags_own old) items c.requires.new.rising item c.requires.new.there c.args.tags.now.facts (tags_fact items) (tags_own items)
    c.requires.facts (ap (λ ts. tags_fact_over ts item) (sym c.requires.links) ∙ sym c.in_ok-fact.ensures ∙ c.in-None.is)

pub put-requires-clause-fit : goal.put-requires-clause-fit
put-requires-clause-fit g c =
    let item = c.args.item.now in
    let items = c.args.items.now in
    subst (λ fs. IsTagFact (c.in-Some.fact ∷ fs) c.in-Some.fact) (sym c.requires.facts)
    (tags-fit-added items c.requires.new.rising item c.requires.new.there c.in-Some.fact (ap (λ ts. tags_fact_over ts item) (sym c.requires.links) ∙ sym c.in_ok-fact.ensures ∙ c.in-Some.is))

pub returns-in-Some-clause-idle : goal.returns-in-Some-clause-idle
returns-in-Some-clause-idle g c = λ none.
    let item = c.args.item.now in
    absurd (gives-not (tags_with c.args.links.now.facts item) (tag_cards item.artifact) c.in-Some.fact (sym c.in_ok-fact.ensures ∙ c.in-Some.is) none)

pub returns-in-None-clause-single : goal.returns-in-None-clause-single
returns-in-None-clause-single g c = none-single c.args.undos.now

pub returns-in-Some-clause-cost : goal.returns-in-Some-clause-cost
returns-in-Some-clause-cost g c = λ own.
    let item = c.args.item.now in
    let is = sym c.in_ok-fact.ensures ∙ c.in-Some.is in
    rw (tags-most c.args.links.now.facts item c.in-Some.fact is) (c.put.ensures.cost (tags-own_targets c.args.links.now.facts item c.in-Some.fact is own))
