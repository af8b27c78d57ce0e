use Rattle.std.proofs.Common.{rules, ◌≡◌, true, false, ◌&&◌, not, sym, ap, ◌∙◌}
use Rattle.std.specs.Str.{bytes_eq}
use Rattle.fsl_table.specs.Pairs.{is_name}
use Rattle.fsl_links.specs.Links.{primary}
use Rattle.std.specs.Prelude.{option_and_then}
use Rattle.fsl_order.specs.Rows.{named}
use Rattle.fsl_cross.specs.Inside.{tags_fact_over}
use Rattle.fsl_cross.specs.Mixed.{tags_mixed, is_child}
use Rattle.fsl_cross.proofs.Moved.{item_name}
use Rattle.fsl_cross.proofs.Going.{goes-stay}
use Rattle.fsl_cross.proofs.Parents.{tags-change-at, tags-fit-at, tags-goes, tags-goes-none}
use Rattle.fsl_cross.proofs.Quiet.{true-not}
use Rattle.fsl_cross.proofs.change.tags.give_parent.Goals as goal

pub change-requires-clause-change : goal.change-requires-clause-change
change-requires-clause-change g c =
    let items = c.args.items.now in
    tags-change-at items c.requires.new.rising c.args.item.now c.requires.new.there c.args.child c.in-Some.fact c.args.tags.now.facts
    (ap (λ ls. option_and_then (tags_fact_over ls) (named item_name items c.args.child)) (sym c.requires.links) ∙ sym c.in_ok-fact.ensures ∙ c.in-Some.is) c.requires.facts

pub change-requires-clause-fit : goal.change-requires-clause-fit
change-requires-clause-fit g c =
    let items = c.args.items.now in
    tags-fit-at items c.requires.new.rising c.args.item.now c.requires.new.there c.args.child c.in-Some.fact c.args.tags.now.facts
    (ap (λ ls. option_and_then (tags_fact_over ls) (named item_name items c.args.child)) (sym c.requires.links) ∙ sym c.in_ok-fact.ensures ∙ c.in-Some.is) c.requires.facts

pub returns-then-not-has_parent-clause-facts : goal.returns-then-not-has_parent-clause-facts
returns-then-not-has_parent-clause-facts g c =
    let items = c.args.items.now in
    let item = c.args.item.now in
    let out : c.has_parent.result ≡ false = search rules in
    let same : c.has_parent.result ≡ is_child items item.name c.args.child = c.has_parent.ensures ∙ (λ i. not (bytes_eq c.args.child (c.name.ensures i)) && is_name (primary (c.requires.links i) c.args.child) (c.name.ensures i)) in
    goes-stay (tags_mixed items item.name) (is_child items item.name) c.args.child c.args.tags.now.facts (sym same ∙ out)

pub returns-in-Some-clause-facts : goal.returns-in-Some-clause-facts
returns-in-Some-clause-facts g c =
    let items = c.args.items.now in
    let item = c.args.item.now in
    let is : c.has_parent.result ≡ true = search rules in
    let same : c.has_parent.result ≡ is_child items item.name c.args.child = c.has_parent.ensures ∙ (λ i. not (bytes_eq c.args.child (c.name.ensures i)) && is_name (primary (c.requires.links i) c.args.child) (c.name.ensures i)) in
    tags-goes items c.requires.new.rising item c.requires.new.there c.change.result c.args.child c.in-Some.fact c.args.tags.now.facts c.change.new.tags.facts
    (ap (λ ls. option_and_then (tags_fact_over ls) (named item_name items c.args.child)) (sym c.requires.links) ∙ sym c.in_ok-fact.ensures ∙ c.in-Some.is) (sym same ∙ is) c.change.ensures.facts

pub returns-in-None-clause-facts : goal.returns-in-None-clause-facts
returns-in-None-clause-facts g c =
    let items = c.args.items.now in
    tags-goes-none items c.requires.new.rising c.args.item.now c.requires.new.there (is_child items c.args.item.now.name) c.args.child c.args.tags.now.facts
    (ap (λ ls. option_and_then (tags_fact_over ls) (named item_name items c.args.child)) (sym c.requires.links) ∙ sym c.in_ok-fact.ensures ∙ c.in-None.is)

pub returns-in-Some-clause-idle : goal.returns-in-Some-clause-idle
returns-in-Some-clause-idle g c = λ out.
    let items = c.args.items.now in
    let item = c.args.item.now in
    let is : c.has_parent.result ≡ true = search rules in
    let same : c.has_parent.result ≡ is_child items item.name c.args.child = c.has_parent.ensures ∙ (λ i. not (bytes_eq c.args.child (c.name.ensures i)) && is_name (primary (c.requires.links i) c.args.child) (c.name.ensures i)) in
    absurd (true-not (is_child items item.name c.args.child) (sym same ∙ is) out)
