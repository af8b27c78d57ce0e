use Rattle.std.proofs.Common.{◌++◌, List, ℕ, ap, arith}
use Rattle.fsl_tags.specs.Changed.{changed_of}
use Rattle.fsl_tags.proofs.Ends.{no_success}
use Rattle.fsl_tags.proofs.ChangedNames.{list_on, list_end, one_less}
use Rattle.fsl_tags.proofs.changed.list_changed.Goals as goal

pub loop-name-init : goal.loop-name-init
loop-name-init g c = record {
  whole = ap (λ (l : List (List ℕ)). l ++ changed_of c.args.noted.now.entries c.args.rows.now.held.entries) c.requires;
  cost = omega arith;
}

pub loop-name-preserved : goal.loop-name-preserved
loop-name-preserved g c =
    let l = c.loop-name in record {
      whole =
          list_on c.args.rows.now.held.entries l.list (changed_of c.args.noted.now.entries c.args.rows.now.held.entries) l.noted.entries l.invariant.whole _ c.pop.new.noted.entries c.append_changed.new.list
          c.in-Some.ensures c.in_ok-append_changed.ensures.list;
      cost =
          (let size = one_less l.noted.entries c.pop.new.noted.entries _ c.in-Some.ensures in
          let so_far = l.invariant.cost in
          let cost = c.append_changed.ensures.cost in omega (arith, size, so_far, cost));
    }

pub returns-in_err-append_changed : goal.returns-in_err-append_changed
returns-in_err-append_changed g c = record {
  cost =
      (let size = one_less c.loop-name.noted.entries c.pop.new.noted.entries _ c.in-Some.ensures in
      let so_far = c.loop-name.invariant.cost in
      let cost = c.append_changed.ensures.cost in omega (arith, size, so_far, cost));
  list = no_success c.from_residual.result _ c.from_residual.ensures.1 _;
}

pub returns : goal.returns
returns g c = record {
  cost = (let so_far = c.loop-name.invariant.cost in omega (arith, so_far));
  list = list_end c.args.rows.now.held.entries c.loop-name.list (changed_of c.args.noted.now.entries c.args.rows.now.held.entries) c.loop-name.noted.entries c.loop-name.invariant.whole c.in_default.ensures.0;
}
