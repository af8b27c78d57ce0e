use Rattle.std.proofs.Common.{◌≡◌, refl, ◌++◌, ◌∷◌, [], ◌∙◌, ap, sym, subst, arith, is_some}
use Rattle.std.specs.Prelude.{MatchOption}
use Rattle.fsl_table.specs.Undo.{Undoes}
use Rattle.fsl_table.specs.declared.step.Step.TheVariants.{Put, Remove}
use Rattle.fsl_table.proofs.Steps.{logged_one, logged_same, put_undoes}
use Rattle.fsl_table.proofs.log.insert.Goals as goal

pub returns-then-is_err : goal.returns-then-is_err
returns-then-is_err g c =
    let items : c.reserve.new.self.items ≡ c.args.log.now = c.reserve.ensures.items ∙ c.log.view_is in
    record {
      there = tt;
      logged = logged_same c.reserve.new.self.items c.args.log.now items;
      ok = tt;
      err = refl;
      kept = items;
      undoes = λ before u. subst (λ l. Undoes g.K.Ord.cmp l c.args.table.now before) (sym items) u;
      cost = omega arith;
    }

pub returns-in-Ok : goal.returns-in-Ok
returns-in-Ok g c =
    let items : c.reserve.new.self.items ≡ c.args.log.now = c.reserve.ensures.items ∙ c.log.view_is in
    let pushed : c.push_reserved.new.self.items ≡ c.args.log.now ++ c.step_before.result ∷ [] = c.push_reserved.ensures.items ∙ ap (λ l. l ++ c.step_before.result ∷ []) items in
    record {
      there = c.is_some-there.ensures ∙ ap is_some c.in-Ok.ensures.before;
      logged = logged_one c.reserve.new.self.items c.args.log.now c.push_reserved.new.self.items c.step_before.result items c.push_reserved.ensures.items;
      ok = c.in-Ok.ensures.ok;
      err = tt;
      kept = tt;
      undoes = λ before u.
          subst (λ l. Undoes g.K.Ord.cmp l c.put.new.self before) (sym pushed)
          (put_undoes g.met.K.Ord.total g.met.K.Key.exact c.args.key c.args.value c.in-Ok.before c.step_before.result c.args.log.now c.args.table.now c.put.new.self before
          (subst (λ k. MatchOption c.in-Ok.before (c.step_before.result ≡ Remove k) (λ w. c.step_before.result ≡ Put k w)) c.requires c.step_before.ensures)
          c.put.ensures.was_ordered c.in-Ok.ensures.before c.in-Ok.ensures.ok c.in-Ok.ensures.spare_of_new c.in-Ok.ensures.spare_of_old u);
      cost = omega (arith, c.put.ensures.cost);
    }

pub returns-in-Err : goal.returns-in-Err
returns-in-Err g c =
    let items : c.reserve.new.self.items ≡ c.args.log.now = c.reserve.ensures.items ∙ c.log.view_is in
    record {
      there = tt;
      logged = logged_same c.reserve.new.self.items c.args.log.now items;
      ok = tt;
      err = c.in-Err.ensures.unchanged;
      kept = items;
      undoes = λ before u.
          subst (λ t. Undoes g.K.Ord.cmp c.reserve.new.self.items t before) (sym c.in-Err.ensures.unchanged)
          (subst (λ l. Undoes g.K.Ord.cmp l c.args.table.now before) (sym items) u);
      cost = omega (arith, c.put.ensures.cost);
    }
