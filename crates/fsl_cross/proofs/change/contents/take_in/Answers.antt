use Rattle.std.proofs.Common.{sym, subst, arith}
use Rattle.fsl_table.proofs.Outcomes.{always_ok, both_ok, on_ok_map}
use Rattle.fsl_table.proofs.Trails.{as_before-self}
use Rattle.fsl_cross.specs.Trails.{Leads, PagesTold, ThreadsTold}
use Rattle.fsl_cross.proofs.Within.{files-step, pages-step, no-others}
use Rattle.fsl_cross.specs.Tables.{without}
use Rattle.fsl_cross.proofs.change.contents.take_in.Goals as goal

pub returns-clause-contents : goal.returns-clause-contents
returns-clause-contents g c = on_ok_map c.add-5.result
    (λ threads. record {
      files = c.in_ok-add-2.ensures.facts;
      pages = c.in_ok-add-3.ensures.facts;
      configured = c.in_ok-add-4.ensures.fields;
      tickets = c.in_ok-add-4.ensures.facts;
      threads = threads;
      clusters = c.in_ok-add.ensures.facts;
    }) c.add-5.ensures.facts

pub returns-clause-pages : goal.returns-clause-pages
returns-clause-pages g c =
    let first = c.args.contents.now.pages in
    always_ok c.add-5.result (record {
      first = first;
      before = c.requires.contents.pages;
      leads = c.add-3.ensures.led first (subst (λ us. Leads first us first) (sym c.requires.no_pages) (as_before-self first));
      told = c.in_ok-add-3.ensures.told (subst PagesTold (sym c.requires.no_pages) tt);
      single = c.in_ok-add-3.ensures.single c.requires.no_pages;
    })

pub returns-clause-threads : goal.returns-clause-threads
returns-clause-threads g c =
    let first = c.args.contents.now.threads in
    both_ok c.add-5.result
    (λ told single. record {
      first = first;
      before = c.requires.contents.threads;
      leads = c.add-5.ensures.led first (subst (λ us. Leads first us first) (sym c.requires.no_threads) (as_before-self first));
      told = told (subst ThreadsTold (sym c.requires.no_threads) tt);
      single = single c.requires.no_threads;
    }) c.add-5.ensures.told c.add-5.ensures.single

pub returns-in_err-add-clause-cost : goal.returns-in_err-add-clause-cost
returns-in_err-add-clause-cost g c = λ calm.
    let one = c.add.ensures.cost in
    omega (arith, one)

pub returns-in_err-add-2-clause-cost : goal.returns-in_err-add-2-clause-cost
returns-in_err-add-2-clause-cost g c = λ calm.
    let items = c.args.items.now in
    let item = c.args.item.now in
    let rise = c.requires.new.rising in
    let there = c.requires.new.there in
    let one = c.add.ensures.cost in
    let two = files-step items rise item there calm c.args.contents.now.files.facts c.requires.contents.files c.add.new.steps c.add-2.new.steps c.add-2.ensures.idle c.add-2.ensures.cost in
    omega (arith, one, two)

pub returns-in_err-add-3-clause-cost : goal.returns-in_err-add-3-clause-cost
returns-in_err-add-3-clause-cost g c = λ calm.
    let items = c.args.items.now in
    let item = c.args.item.now in
    let rise = c.requires.new.rising in
    let there = c.requires.new.there in
    let one = c.add.ensures.cost in
    let two = files-step items rise item there calm c.args.contents.now.files.facts c.requires.contents.files c.add.new.steps c.add-2.new.steps c.add-2.ensures.idle c.add-2.ensures.cost in
    let three = pages-step (without item.name items) item.name item.artifact calm c.add-2.new.steps c.add-3.new.steps c.add-3.ensures.idle c.add-3.ensures.cost in
    omega (arith, one, two, three)

pub returns-in_err-add-4-clause-cost : goal.returns-in_err-add-4-clause-cost
returns-in_err-add-4-clause-cost g c = λ calm.
    let items = c.args.items.now in
    let item = c.args.item.now in
    let rise = c.requires.new.rising in
    let there = c.requires.new.there in
    let one = c.add.ensures.cost in
    let two = files-step items rise item there calm c.args.contents.now.files.facts c.requires.contents.files c.add.new.steps c.add-2.new.steps c.add-2.ensures.idle c.add-2.ensures.cost in
    let three = pages-step (without item.name items) item.name item.artifact calm c.add-2.new.steps c.add-3.new.steps c.add-3.ensures.idle c.add-3.ensures.cost in
    let others = no-others (without item.name items) item.name item.artifact calm in
    let four = c.add-4.ensures.idle others.0 in
    omega (arith, one, two, three, four)

pub returns-clause-cost : goal.returns-clause-cost
returns-clause-cost g c = λ calm.
    let items = c.args.items.now in
    let item = c.args.item.now in
    let rise = c.requires.new.rising in
    let there = c.requires.new.there in
    let one = c.add.ensures.cost in
    let two = files-step items rise item there calm c.args.contents.now.files.facts c.requires.contents.files c.add.new.steps c.add-2.new.steps c.add-2.ensures.idle c.add-2.ensures.cost in
    let three = pages-step (without item.name items) item.name item.artifact calm c.add-2.new.steps c.add-3.new.steps c.add-3.ensures.idle c.add-3.ensures.cost in
    let others = no-others (without item.name items) item.name item.artifact calm in
    let four = c.add-4.ensures.idle others.0 in
    let five = c.add-5.ensures.idle others.1 in
    omega (arith, one, two, three, four, five)
