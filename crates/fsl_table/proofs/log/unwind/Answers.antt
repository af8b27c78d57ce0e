use Rattle.std.proofs.lemmas.List.{length-append}
use Rattle.std.proofs.Common.{◌≡◌, ◌+◌, length, arith, ◌∷◌, [], ◌++◌, sym, ap, subst, ◌∙◌}
use Rattle.fsl_table.specs.Undo.{CanUndo, IsAsGood, undone, stepped}
use Rattle.fsl_table.proofs.Steps.{allowed_last, can_undo-pop, can_undo-good, undone-push, undone-good, good_chain}
use Rattle.fsl_table.proofs.log.unwind.Goals as goal

pub step_back-requires : goal.step_back-requires
step_back-requires g c =
    let cut : c.loop-step.log ≡ c.pop.new.self ++ c.in-Some.step ∷ [] = c.in-Some.ensures in
    allowed_last g.K.Ord.cmp c.pop.new.self c.in-Some.step c.loop-step.table (subst (λ l. CanUndo g.K.Ord.cmp l c.loop-step.table) cut c.loop-step.invariant.can)

pub loop-step-preserved : goal.loop-step-preserved
loop-step-preserved g c =
    let cut : c.loop-step.log ≡ c.pop.new.self ++ c.in-Some.step ∷ [] = c.in-Some.ensures in
    let can : CanUndo g.K.Ord.cmp (c.pop.new.self ++ c.in-Some.step ∷ []) c.loop-step.table = subst (λ l. CanUndo g.K.Ord.cmp l c.loop-step.table) cut c.loop-step.invariant.can in
    let n : length c.loop-step.log ≡ length (c.pop.new.self ++ c.in-Some.step ∷ []) = ap length cut in
    let m : length (c.pop.new.self ++ c.in-Some.step ∷ []) ≡ length c.pop.new.self + 1 = length-append c.pop.new.self (c.in-Some.step ∷ []) in
    record {
      cost = omega (arith, n, m, c.step_back.ensures.cost, c.loop-step.invariant.cost);
      can = can_undo-good g.K.Ord.cmp c.pop.new.self (stepped g.K.Ord.cmp c.in-Some.step c.loop-step.table) c.step_back.new.table c.step_back.ensures.good (can_undo-pop g.K.Ord.cmp c.pop.new.self c.in-Some.step c.loop-step.table can);
      leads = good_chain (undone g.K.Ord.cmp c.args.log.now c.args.table.now) (undone g.K.Ord.cmp c.loop-step.log c.loop-step.table) (undone g.K.Ord.cmp c.pop.new.self c.step_back.new.table) c.loop-step.invariant.leads
          (subst (λ x. IsAsGood x (undone g.K.Ord.cmp c.pop.new.self c.step_back.new.table)) (sym (ap (λ l. undone g.K.Ord.cmp l c.loop-step.table) cut ∙ undone-push g.K.Ord.cmp c.pop.new.self c.in-Some.step c.loop-step.table))
          (undone-good g.K.Ord.cmp c.pop.new.self (stepped g.K.Ord.cmp c.in-Some.step c.loop-step.table) c.step_back.new.table c.step_back.ensures.good));
    }
