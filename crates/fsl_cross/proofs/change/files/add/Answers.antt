use Rattle.std.proofs.Common.{◌≡◌, sym, ◌∙◌, Some, ap}
use Rattle.fsl_files.specs.declared.Fact.{Fact}
use Rattle.fsl_cross.specs.Facts.{files_fact, as_manifest}
use Rattle.fsl_cross.proofs.Moved.{item_name}
use Rattle.fsl_cross.proofs.TableLemmas.{files-own}
use Rattle.fsl_cross.proofs.Gifts.{if_some}
use Rattle.fsl_cross.proofs.Added.{some-absent, some-added, none-added}
use Rattle.fsl_files.specs.Conditions.{IsFilesFact}
use Rattle.fsl_cross.proofs.FileLemmas.{fit_of}
use Rattle.fsl_cross.proofs.Quiet.{gives-not}
use Rattle.fsl_cross.proofs.Unnamed.{files_with, files-most}
use Rattle.fsl_files.specs.Touches.{is_followed}
use Rattle.fsl_cross.proofs.change.files.add.Goals as goal

pub put-requires-clause-absent : goal.put-requires-clause-absent
put-requires-clause-absent g c =
    let item = c.args.item.now in
    some-absent item_name (λ (f : Fact). f.name) files_fact files-own c.args.items.now c.requires.new.rising item c.requires.new.there c.args.files.now.facts c.requires.facts (files_fact item)
    (λ f e. if_some (λ (f : Fact). f.name ≡ item.name) (files_fact item) f e (files-own item)) c.in-Some.fact (sym c.in_ok-fact.ensures ∙ c.in-Some.is)

pub returns-in-Some-clause-facts : goal.returns-in-Some-clause-facts
returns-in-Some-clause-facts g c =
    some-added item_name (λ (f : Fact). f.name) files_fact files-own c.args.items.now c.requires.new.rising c.args.item.now c.requires.new.there c.args.files.now.facts c.put.result c.put.new.files.facts c.in-Some.fact
    c.requires.facts (sym c.in_ok-fact.ensures ∙ c.in-Some.is) c.put.ensures.facts

pub returns-in-None-clause-facts : goal.returns-in-None-clause-facts
returns-in-None-clause-facts g c =
    none-added item_name (λ (f : Fact). f.name) files_fact files-own c.args.items.now c.requires.new.rising c.args.item.now c.requires.new.there c.args.files.now.facts c.requires.facts (sym c.in_ok-fact.ensures ∙ c.in-None.is)

pub put-requires-clause-fit : goal.put-requires-clause-fit
put-requires-clause-fit g c =
    let item = c.args.item.now in
    if_some IsFilesFact (files_fact item) c.in-Some.fact (sym c.in_ok-fact.ensures ∙ c.in-Some.is) (fit_of item.name c.requires.kind.0 item.private item.artifact c.requires.kind.1)

pub returns-in-Some-clause-idle : goal.returns-in-Some-clause-idle
returns-in-Some-clause-idle g c = λ none.
    let item = c.args.item.now in
    absurd (gives-not (files_with item) (as_manifest item.artifact) c.in-Some.fact (sym c.in_ok-fact.ensures ∙ c.in-Some.is) none)

pub returns-in-Some-clause-cost : goal.returns-in-Some-clause-cost
returns-in-Some-clause-cost g c = λ none.
    let item = c.args.item.now in
    let is : files_fact item ≡ Some c.in-Some.fact = sym c.in_ok-fact.ensures ∙ c.in-Some.is in
    let own : c.in-Some.fact.name ≡ item.name = if_some (λ (f : Fact). f.name ≡ item.name) (files_fact item) c.in-Some.fact is (files-own item) in
    rw (files-most c.args.files.now.facts item c.in-Some.fact is) (c.put.ensures.cost (ap (is_followed c.args.files.now.facts) own ∙ none))
