use Rattle.std.proofs.Common.{◌≡◌, sym, ◌∙◌, ◌+◌, ◌≤◌, subst, arith}
use Rattle.fsl_wiki.specs.declared.Fact.{Fact}
use Rattle.fsl_wiki.specs.Pages.{fact_name, as_page}
use Rattle.fsl_cross.specs.Facts.{pages_fact}
use Rattle.fsl_cross.proofs.Moved.{item_name}
use Rattle.fsl_cross.proofs.TableLemmas.{pages-own}
use Rattle.fsl_cross.proofs.Gifts.{if_some}
use Rattle.fsl_cross.proofs.Added.{some-absent, some-added, none-added}
use Rattle.fsl_cross.proofs.Trailing.{none-single}
use Rattle.fsl_cross.proofs.Quiet.{some-not, if-some-any}
use Rattle.std.specs.Prelude.{IfSome, option_and_then}
use Rattle.fsl_cross.proofs.change.pages.add.Goals as goal

pub put-requires : goal.put-requires
put-requires g c =
    let item = c.args.item.now in
    some-absent item_name fact_name pages_fact pages-own c.args.items.now c.requires.new.rising item c.requires.new.there c.args.pages.now.facts c.requires.facts (pages_fact item)
    (λ f e. if_some (λ (f : Fact). fact_name f ≡ item.name) (pages_fact item) f e (pages-own item)) c.in-Some.fact (sym c.in_ok-fact.ensures ∙ c.in-Some.is)

pub returns-in-Some-clause-facts : goal.returns-in-Some-clause-facts
returns-in-Some-clause-facts g c =
    some-added item_name fact_name pages_fact pages-own c.args.items.now c.requires.new.rising c.args.item.now c.requires.new.there c.args.pages.now.facts c.put.result c.put.new.pages.facts c.in-Some.fact
    c.requires.facts (sym c.in_ok-fact.ensures ∙ c.in-Some.is) c.put.ensures.facts

pub returns-in-None-clause-facts : goal.returns-in-None-clause-facts
returns-in-None-clause-facts g c =
    none-added item_name fact_name pages_fact pages-own c.args.items.now c.requires.new.rising c.args.item.now c.requires.new.there c.args.pages.now.facts c.requires.facts (sym c.in_ok-fact.ensures ∙ c.in-None.is)

pub returns-in-None-clause-single : goal.returns-in-None-clause-single
returns-in-None-clause-single g c = none-single c.args.undos.now

pub returns-in-Some-clause-idle : goal.returns-in-Some-clause-idle
returns-in-Some-clause-idle g c = λ none. absurd (some-not (pages_fact c.args.item.now) c.in-Some.fact (sym c.in_ok-fact.ensures ∙ c.in-Some.is) none)

pub returns-in-Some-clause-cost : goal.returns-in-Some-clause-cost
returns-in-Some-clause-cost g c = subst (λ o. IfSome (option_and_then as_page o) (λ _. c.put.new.steps ≤ c.args.steps.now + 4)) (sym (sym c.in_ok-fact.ensures ∙ c.in-Some.is)) c.put.ensures.cost

pub returns-in-None-clause-cost : goal.returns-in-None-clause-cost
returns-in-None-clause-cost g c = subst (λ o. IfSome (option_and_then as_page o) (λ _. c.args.steps.now ≤ c.args.steps.now + 4)) (sym (sym c.in_ok-fact.ensures ∙ c.in-None.is)) tt

pub returns-in_err-fact-clause-cost : goal.returns-in_err-fact-clause-cost
returns-in_err-fact-clause-cost g c = if-some-any (option_and_then as_page (pages_fact c.args.item.now)) (omega arith)
