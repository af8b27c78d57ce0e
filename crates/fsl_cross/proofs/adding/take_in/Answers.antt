use Rattle.fsl_table.proofs.Outcomes.{on_ok_map}
use Rattle.std.proofs.Common.{arith}
use Rattle.fsl_cross.proofs.Within.{no-others}
use Rattle.fsl_cross.specs.Tables.{without}
use Rattle.fsl_cross.proofs.adding.take_in.Goals as goal

pub returns-clause-tables : goal.returns-clause-tables
returns-clause-tables g c = on_ok_map c.take_in-4.result
    (λ timeline. record {
      rising = c.requires.new.rising;
      kinds = c.requires.items;
      history = c.in_ok-take_in.ensures.history;
      contents = c.in_ok-take_in-2.ensures.contents;
      timeline = timeline;
      attached = c.in_ok-take_in-3.ensures.attached;
    }) c.take_in-4.ensures.facts

pub returns-in_err-take_in-clause-cost : goal.returns-in_err-take_in-clause-cost
returns-in_err-take_in-clause-cost g c = λ calm.
    let others = no-others (without c.args.item.now.name c.args.items.now) c.args.item.now.name c.args.item.now.artifact calm in
    let zero = c.own_kind-before.ensures.idle others.2 in
    let one = c.take_in.ensures.cost calm in
    omega (arith, zero, one)

pub returns-in_err-take_in-2-clause-cost : goal.returns-in_err-take_in-2-clause-cost
returns-in_err-take_in-2-clause-cost g c = λ calm.
    let others = no-others (without c.args.item.now.name c.args.items.now) c.args.item.now.name c.args.item.now.artifact calm in
    let zero = c.own_kind-before.ensures.idle others.2 in
    let one = c.take_in.ensures.cost calm in
    let two = c.take_in-2.ensures.cost calm in
    omega (arith, zero, one, two)

pub returns-in_err-take_in-3-clause-cost : goal.returns-in_err-take_in-3-clause-cost
returns-in_err-take_in-3-clause-cost g c = λ calm.
    let others = no-others (without c.args.item.now.name c.args.items.now) c.args.item.now.name c.args.item.now.artifact calm in
    let zero = c.own_kind-before.ensures.idle others.2 in
    let one = c.take_in.ensures.cost calm in
    let two = c.take_in-2.ensures.cost calm in
    let three = c.take_in-3.ensures.cost in
    omega (arith, zero, one, two, three)

pub returns-clause-cost : goal.returns-clause-cost
returns-clause-cost g c = λ calm.
    let others = no-others (without c.args.item.now.name c.args.items.now) c.args.item.now.name c.args.item.now.artifact calm in
    let zero = c.own_kind-before.ensures.idle others.2 in
    let one = c.take_in.ensures.cost calm in
    let two = c.take_in-2.ensures.cost calm in
    let three = c.take_in-3.ensures.cost in
    let four = c.take_in-4.ensures.cost calm (c.in_ok-take_in.ensures.calm calm) in
    omega (arith, zero, one, two, three, four)
