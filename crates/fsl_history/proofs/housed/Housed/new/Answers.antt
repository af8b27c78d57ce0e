use Rattle.std.proofs.Common.{arith, sym, ap, subst, refl, ◌∙◌, ◌++◌, ◌∷◌, ◌-◌, [], Some, map, length, get_or, take}
use Rattle.std.specs.Prelude.{IsSome}
use Rattle.atomic_table.specs.Table.{opening}
use Rattle.fsl_history.specs.Rule.{Ruled, keeper}
use Rattle.fsl_history.proofs.Keeper.{begins}
use Rattle.fsl_history.proofs.Lists.{some_or}
use Rattle.fsl_history.proofs.housed.Housed.new.Goals as goal

pub new-requires-2 : goal.new-requires-2
new-requires-2 g c =
    let slots = c.push_reserved.ensures.items ∙ ap (λ l. l ++ Some c.args.machine ∷ []) c.in-Ok.ensures.items in
    let key = c.and-key.ensures ∙ ap (λ l. l ++ (c.args.machine, c.stored-began.result) ∷ []) c.new.ensures in
    let may = g.M.Machine.may_step in
    let count = g.M.Machine.stored_count in
    subst (λ xs. Ruled may count c.and-key.result.items (opening (0 ∷ 0 ∷ []) xs (keeper 0 []))) (sym slots)
    (begins may count c.and-key.result.items c.args.machine (ap (λ l. map (λ b. b.0) l) key) (ap (λ l. map (λ b. b.1) l) key ∙ ap (λ k. k ∷ []) c.stored-began.ensures))

pub invariant_of-result : goal.invariant_of-result
invariant_of-result g c =
    let slots = c.push_reserved.ensures.items ∙ ap (λ l. l ++ Some c.args.machine ∷ []) c.in-Ok.ensures.items in
    let key = c.and-key.ensures ∙ ap (λ l. l ++ (c.args.machine, c.stored-began.result) ∷ []) c.new.ensures in
    let ok = c.in-Ok-new.ensures.ok in
    record {
      sized = (ok.0, ok.1 ∙ ap (λ l. length l) slots);
      tied = ok.2;
      counted = ap (λ k. map (λ b. b.1) k.items) ok.5 ∙ ap (λ l. map (λ b. b.1) l) key;
      fresh = (ok.3, ok.4);
    }

pub destroy_empty-requires : goal.destroy_empty-requires
destroy_empty-requires g c =
    let old = c.in-Err.ensures.err ∙ c.push_reserved.ensures.items ∙ ap (λ l. l ++ Some c.args.machine ∷ []) c.in-Ok.ensures.items in
    let one = c.in-Err.field-0.slots.ok.0 ∙ ap (λ l. length l) old in
    let left = c.pop-machine.ensures.rest ∙ ap (λ n. take (n - 1) c.in-Err.field-0.slots.items) one in
    c.pop-machine.new.self.ok.0 ∙ ap (λ l. length l) left

pub unwrap-requires : goal.unwrap-requires
unwrap-requires g c =
    let old = c.in-Err.ensures.err ∙ c.push_reserved.ensures.items ∙ ap (λ l. l ++ Some c.args.machine ∷ []) c.in-Ok.ensures.items in
    let one = c.in-Err.field-0.slots.ok.0 ∙ ap (λ l. length l) old in
    let popped = c.pop-machine.ensures.value (Some c.args.machine) (omega (arith, one)) ∙ ap (λ n. Some (get_or c.in-Err.field-0.slots.items (n - 1) (Some c.args.machine))) one ∙ ap (λ l. Some (get_or l 0 (Some c.args.machine))) old in
    subst (λ o. IsSome o) (sym popped) refl

pub unwrap-requires-in-Err : goal.unwrap-requires-in-Err
unwrap-requires-in-Err g c =
    let old = c.in-Err.ensures.err ∙ c.push_reserved.ensures.items ∙ ap (λ l. l ++ Some c.args.machine ∷ []) c.in-Ok.ensures.items in
    let one = c.in-Err.field-0.slots.ok.0 ∙ ap (λ l. length l) old in
    let popped = c.pop-machine.ensures.value (Some c.args.machine) (omega (arith, one)) ∙ ap (λ n. Some (get_or c.in-Err.field-0.slots.items (n - 1) (Some c.args.machine))) one ∙ ap (λ l. Some (get_or l 0 (Some c.args.machine))) old in
    let u = c.unwrap.ensures in
    subst (λ o. IsSome o) (ap (λ o. some_or o c.unwrap.result) (sym popped ∙ u)) refl

pub returns-in-Ok-new-clause-born : goal.returns-in-Ok-new-clause-born
returns-in-Ok-new-clause-born g c =
    let key = c.and-key.ensures ∙ ap (λ l. l ++ (c.args.machine, c.stored-began.result) ∷ []) c.new.ensures in
    ap (λ k. map (λ b. b.0) k.items) c.in-Ok-new.ensures.ok.5 ∙ ap (λ l. map (λ b. b.0) l) key

pub returns-in-Err-clause-refused : goal.returns-in-Err-clause-refused
returns-in-Err-clause-refused g c =
    let old = c.in-Err.ensures.err ∙ c.push_reserved.ensures.items ∙ ap (λ l. l ++ Some c.args.machine ∷ []) c.in-Ok.ensures.items in
    let one = c.in-Err.field-0.slots.ok.0 ∙ ap (λ l. length l) old in
    let popped = c.pop-machine.ensures.value (Some c.args.machine) (omega (arith, one)) ∙ ap (λ n. Some (get_or c.in-Err.field-0.slots.items (n - 1) (Some c.args.machine))) one ∙ ap (λ l. Some (get_or l 0 (Some c.args.machine))) old in
    let first = ap (λ o. some_or o c.unwrap.result) (sym popped ∙ c.unwrap.ensures) in
    sym (ap (λ o. some_or o c.args.machine) (first ∙ c.unwrap-in-Err.ensures))
