use Rattle.std.proofs.Common.{◌≡◌, ◌++◌, ◌∷◌, [], refl, sym, ap, subst, ◌∙◌, arith, Some, is_some}
use Rattle.fsl_table.specs.Contents.{value_at}
use Rattle.fsl_table.specs.Undo.{Undoes}
use Rattle.fsl_table.specs.declared.step.Step.TheVariants.{Put}
use Rattle.fsl_table.proofs.Steps.{logged_one, logged_same, taken_put, taken_allowed, undoes-push}
use Rattle.fsl_table.proofs.log.take.Goals as goal

pub returns-then-is_err : goal.returns-then-is_err
returns-then-is_err g c =
    let items : c.reserve.new.self.items ≡ c.args.log.now = c.reserve.ensures.items ∙ c.log.view_is in
    record {
      there = tt;
      logged = logged_same c.reserve.new.self.items c.args.log.now items;
      ok = tt;
      err = refl;
      kept = items;
      undoes = λ before u. subst (λ l. Undoes g.K.Ord.cmp l c.args.table.now before) (sym items) u;
      cost = omega arith;
    }

pub returns-in-Some : goal.returns-in-Some
returns-in-Some g c =
    let items : c.reserve.new.self.items ≡ c.args.log.now = c.reserve.ensures.items ∙ c.log.view_is in
    let some : value_at g.K.Ord.cmp c.args.key c.args.table.now.entries ≡ Some c.in-Some.before = sym c.in-Some.ensures.value in
    let pushed : c.push_reserved.new.self.items ≡ c.args.log.now ++ Put c.args.key c.in-Some.before ∷ [] = c.push_reserved.ensures.items ∙ ap (λ l. l ++ Put c.args.key c.in-Some.before ∷ []) items in
    let good = taken_put g.met.K.Ord.total g.met.K.Key.exact c.args.key c.in-Some.before c.args.table.now c.remove.new.self c.remove.ensures.was_ordered some c.remove.ensures.entries c.in-Some.ensures.spare in
    record {
      there = ap is_some c.in-Some.ensures.value;
      logged = logged_one c.reserve.new.self.items c.args.log.now c.push_reserved.new.self.items (Put c.args.key c.in-Some.before) items c.push_reserved.ensures.items;
      ok = c.remove.ensures.entries;
      err = tt;
      kept = tt;
      undoes = λ before u.
          subst (λ l. Undoes g.K.Ord.cmp l c.remove.new.self before) (sym pushed)
          (undoes-push g.K.Ord.cmp c.args.log.now (Put c.args.key c.in-Some.before) c.args.table.now c.remove.new.self before
          (taken_allowed {R = g.K.Ord.cmp} g.met.K.Ord.total g.met.K.Key.exact c.args.key c.in-Some.before c.args.table.now c.remove.new.self c.in-Some.ensures.spare) good u);
      cost = omega (arith, c.remove.ensures.cost);
    }

pub returns-in-None : goal.returns-in-None
returns-in-None g c =
    let items : c.reserve.new.self.items ≡ c.args.log.now = c.reserve.ensures.items ∙ c.log.view_is in
    record {
      there = ap is_some c.in-None.ensures.value;
      logged = logged_same c.reserve.new.self.items c.args.log.now items;
      ok = c.remove.ensures.entries;
      err = tt;
      kept = tt;
      undoes = λ before u.
          subst (λ t. Undoes g.K.Ord.cmp c.reserve.new.self.items t before) (sym c.in-None.ensures.unchanged)
          (subst (λ l. Undoes g.K.Ord.cmp l c.args.table.now before) (sym items) u);
      cost = omega (arith, c.remove.ensures.cost);
    }
