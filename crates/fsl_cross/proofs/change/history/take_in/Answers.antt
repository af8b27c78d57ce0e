use Rattle.std.proofs.Common.{sym, subst, arith}
use Rattle.fsl_table.proofs.Outcomes.{always_ok}
use Rattle.fsl_table.proofs.Trails.{as_before-self}
use Rattle.fsl_cross.specs.Trails.{Leads, LinksTold, TagsTold}
use Rattle.fsl_cross.proofs.Within.{links-step, late-step, tags-step, retagged-step, leaves-step}
use Rattle.fsl_cross.proofs.change.history.take_in.Goals as goal

pub take_in-requires-clause-trail : goal.take_in-requires-clause-trail
take_in-requires-clause-trail g c =
    let first = c.args.history.now.links in
    record {
      first = first;
      before = c.requires.history.links;
      leads = c.add.ensures.led first (subst (λ us. Leads first us first) (sym c.requires.no_links) (as_before-self first));
      told = c.in_ok-add.ensures.told (subst LinksTold (sym c.requires.no_links) tt);
    }

pub take_in-requires-2-clause-trail : goal.take_in-requires-2-clause-trail
take_in-requires-2-clause-trail g c =
    let first = c.args.history.now.tags in
    record {
      first = first;
      before = c.requires.history.tags;
      leads = c.take_in.ensures.led first (subst (λ us. Leads first us first) (sym c.requires.no_tags) (as_before-self first));
      told = c.in_ok-take_in.ensures.told (subst TagsTold (sym c.requires.no_tags) tt);
    }

pub returns-clause-trail : goal.returns-clause-trail
returns-clause-trail g c =
    let first = c.args.history.now.tags in
    always_ok c.take_in-2.result (record {
      first = first;
      before = c.requires.history.tags;
      leads = c.take_in.ensures.led first (subst (λ us. Leads first us first) (sym c.requires.no_tags) (as_before-self first));
      told = c.in_ok-take_in.ensures.told (subst TagsTold (sym c.requires.no_tags) tt);
    })

pub returns-in_err-add-clause-cost : goal.returns-in_err-add-clause-cost
returns-in_err-add-clause-cost g c = λ calm.
    let items = c.args.items.now in
    let item = c.args.item.now in
    let rise = c.requires.new.rising in
    let there = c.requires.new.there in
    let a = c.args.steps.now in
    let one = links-step items rise item there calm c.args.history.now.links.facts c.requires.history.links a c.add.new.steps c.args.undos.now.links c.add.new.undos c.add.ensures.idle c.add.ensures.cost in
    omega (arith, one)

pub returns-in_err-take_in-clause-cost : goal.returns-in_err-take_in-clause-cost
returns-in_err-take_in-clause-cost g c = λ calm.
    let items = c.args.items.now in
    let item = c.args.item.now in
    let rise = c.requires.new.rising in
    let there = c.requires.new.there in
    let a = c.args.steps.now in
    let one = links-step items rise item there calm c.args.history.now.links.facts c.requires.history.links a c.add.new.steps c.args.undos.now.links c.add.new.undos c.add.ensures.idle c.add.ensures.cost in
    let late = late-step items rise item there calm a c.add.new.steps c.args.undos.now.links c.add.new.undos c.requires.no_links c.add.ensures.idle in
    let two = tags-step items rise item there calm c.add.new.steps c.take_in.new.steps c.args.undos.now.tags c.take_in.new.undos (λ bare. c.take_in.ensures.idle bare late) (λ own. c.take_in.ensures.cost own late) in
    omega (arith, one, two)

pub returns-clause-cost : goal.returns-clause-cost
returns-clause-cost g c = λ calm.
    let items = c.args.items.now in
    let item = c.args.item.now in
    let rise = c.requires.new.rising in
    let there = c.requires.new.there in
    let a = c.args.steps.now in
    let one = links-step items rise item there calm c.args.history.now.links.facts c.requires.history.links a c.add.new.steps c.args.undos.now.links c.add.new.undos c.add.ensures.idle c.add.ensures.cost in
    let late = late-step items rise item there calm a c.add.new.steps c.args.undos.now.links c.add.new.undos c.requires.no_links c.add.ensures.idle in
    let two = tags-step items rise item there calm c.add.new.steps c.take_in.new.steps c.args.undos.now.tags c.take_in.new.undos (λ bare. c.take_in.ensures.idle bare late) (λ own. c.take_in.ensures.cost own late) in
    let first = c.args.history.now.tags in
    let retagged = retagged-step items rise item there calm c.others_stay.ensures c.add.new.steps c.take_in.new.steps c.args.undos.now.tags c.take_in.new.undos c.requires.no_tags (λ bare. c.take_in.ensures.idle bare late) (c.in_ok-take_in.ensures.single late c.requires.no_tags)
    first c.take_in.new.tags (c.take_in.ensures.led first (subst (λ us. Leads first us first) (sym c.requires.no_tags) (as_before-self first))) (c.in_ok-take_in.ensures.told (subst TagsTold (sym c.requires.no_tags) tt)) c.requires.history.tags c.in_ok-take_in.ensures.facts in
    let three = leaves-step items rise item there calm c.args.history.now.leaves.facts c.requires.history.leaves c.take_in.new.steps c.take_in-2.new.steps (λ none. c.take_in-2.ensures.idle none retagged) (λ none. c.take_in-2.ensures.cost (none, retagged)) in
    omega (arith, one, two, three)

pub returns-clause-calm : goal.returns-clause-calm
returns-clause-calm g c =
    always_ok c.take_in-2.result (λ calm.
    let items = c.args.items.now in
    let item = c.args.item.now in
    let rise = c.requires.new.rising in
    let there = c.requires.new.there in
    let a = c.args.steps.now in
    let late = late-step items rise item there calm a c.add.new.steps c.args.undos.now.links c.add.new.undos c.requires.no_links c.add.ensures.idle in
    let first = c.args.history.now.tags in
    let retagged = retagged-step items rise item there calm c.others_stay.ensures c.add.new.steps c.take_in.new.steps c.args.undos.now.tags c.take_in.new.undos c.requires.no_tags (λ bare. c.take_in.ensures.idle bare late) (c.in_ok-take_in.ensures.single late c.requires.no_tags)
    first c.take_in.new.tags (c.take_in.ensures.led first (subst (λ us. Leads first us first) (sym c.requires.no_tags) (as_before-self first))) (c.in_ok-take_in.ensures.told (subst TagsTold (sym c.requires.no_tags) tt)) c.requires.history.tags c.in_ok-take_in.ensures.facts in
    retagged)
