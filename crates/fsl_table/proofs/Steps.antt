-- Steps back, from a state that is as good as another, and one more at the end of a log.
use Rattle.std.specs.Prelude.{Option, MatchOption, IfNone, IfSome}
use Rattle.std.proofs.lemmas.List.{length-append}
use Rattle.std.proofs.Common.{length, ◌≡◌, ◌+◌, ◌-◌, ◌<◌, ◌≤◌, true, false, cond, List, [], ◌∷◌, ◌++◌, refl, sym, ap, subst, ◌∙◌, arith, if◌then◌else◌}
use Rattle.std.specs.declared.option.Option.TheVariants.{Some, None}
use Rattle.std.specs.declared.cmp.Ordering.{Ordering}
use Rattle.std.specs.declared.cmp.Ordering.TheVariants.{Equal}
use Rattle.std.specs.Ordering.{is_eq}
use Rattle.std.specs.Option.{is_some}
use Rattle.std.specs.Cmp.{IsTotalOrder, tied_itself}
use Rattle.std.specs.List.Sorted.{IsStrictlySortedBy}
use Rattle.std.specs.Map.{lookup, keys_of}
use Rattle.std.specs.BTreeMap.{is_at, insert_entry}
use Rattle.fsl_table.specs.Contents.{Contents, value_at, with_entry, without_key}
use Rattle.fsl_table.proofs.Entries.{lookup-insert_entry, insert_entry-again, insert_entry-kept, insert_entry-restores, remove_entry-undoes}
use Rattle.fsl_table.specs.declared.step.Step.{Step}
use Rattle.fsl_table.specs.declared.step.Step.TheVariants.{Put, Remove}
use Rattle.fsl_table.specs.Undo.{IsAsGood, stepped, IsAllowed, undone, CanUndo, Undoes}

pub good_itself : {K X : Type 0} (c : Contents K X) → IsAsGood c c
good_itself c = record { entries = refl; spare = omega arith }

pub good_chain : {K X : Type 0} (c d e : Contents K X) → IsAsGood c d → IsAsGood d e → IsAsGood c e
good_chain c d e p q = record { entries = q.entries ∙ p.entries; spare = omega (arith, p.spare, q.spare) }

module _ {K X : Type 0} (R : K → K → Ordering) where
  stepped-good : (s : Step K X) (c d : Contents K X) → IsAsGood c d → IsAsGood (stepped R s c) (stepped R s d)
  stepped-good (Put k v) c d h = record {
    entries = ap (with_entry R k v) h.entries;
    spare = rw h.entries (omega (arith, h.spare));
  }
  stepped-good (Remove k) c d h = record {
    entries = ap (without_key R k) h.entries;
    spare = rw h.entries (omega (arith, h.spare));
  }

  allowed-good : (s : Step K X) (c d : Contents K X) → IsAsGood c d → IsAllowed R s c → IsAllowed R s d
  allowed-good (Put k v) c d h a = λ none. let some : 0 < c.spare = a (ap (value_at R k) (sym h.entries) ∙ none) in omega (arith, some, h.spare)
  allowed-good (Remove k) c d h a = tt

  pub undone-good : (ss : List (Step K X)) (c d : Contents K X) → IsAsGood c d → IsAsGood (undone R ss c) (undone R ss d)
  undone-good [] c d h = h
  undone-good (s ∷ ss) c d h = stepped-good s (undone R ss c) (undone R ss d) (undone-good ss c d h)

  pub can_undo-good : (ss : List (Step K X)) (c d : Contents K X) → IsAsGood c d → CanUndo R ss c → CanUndo R ss d
  can_undo-good [] c d h can = tt
  can_undo-good (s ∷ ss) c d h can = (can_undo-good ss c d h can.0, allowed-good s (undone R ss c) (undone R ss d) (undone-good ss c d h) can.1)

  pub undone-push : (ss : List (Step K X)) (s : Step K X) (c : Contents K X) → undone R (ss ++ s ∷ []) c ≡ undone R ss (stepped R s c)
  undone-push [] s c = refl
  undone-push (t ∷ ss) s c = ap (stepped R t) (undone-push ss s c)

  pub can_undo-push : (ss : List (Step K X)) (s : Step K X) (c : Contents K X) → IsAllowed R s c → CanUndo R ss (stepped R s c) → CanUndo R (ss ++ s ∷ []) c
  can_undo-push [] s c a can = (tt, a)
  can_undo-push (t ∷ ss) s c a can = (can_undo-push ss s c a can.0, subst (IsAllowed R t) (sym (undone-push ss s c)) can.1)

  pub allowed_last : (ss : List (Step K X)) (s : Step K X) (c : Contents K X) → CanUndo R (ss ++ s ∷ []) c → IsAllowed R s c
  allowed_last [] s c can = can.1
  allowed_last (t ∷ ss) s c can = allowed_last ss s c can.0

  pub can_undo-pop : (ss : List (Step K X)) (s : Step K X) (c : Contents K X) → CanUndo R (ss ++ s ∷ []) c → CanUndo R ss (stepped R s c)
  can_undo-pop [] s c can = tt
  can_undo-pop (t ∷ ss) s c can = (can_undo-pop ss s c can.0, subst (IsAllowed R t) (undone-push ss s c) can.1)

  -- a change with its step at the end of the log, and none
  pub undoes-push : (log : List (Step K X)) (s : Step K X) (old new before : Contents K X) → IsAllowed R s new → IsAsGood old (stepped R s new) → Undoes R log old before → Undoes R (log ++ s ∷ []) new before
  undoes-push log s old new before a good u = record {
    possible = can_undo-push log s new a (can_undo-good log old (stepped R s new) good u.possible);
    back = good_chain before (undone R log old) (undone R (log ++ s ∷ []) new) u.back
        (subst (IsAsGood (undone R log old)) (sym (undone-push log s new)) (undone-good log old (stepped R s new) good));
  }

  pub undoes-good : (log : List (Step K X)) (old new before : Contents K X) → IsAsGood old new → Undoes R log old before → Undoes R log new before
  undoes-good log old new before good u = record {
    possible = can_undo-good log old new good u.possible;
    back = good_chain before (undone R log old) (undone R log new) u.back (undone-good log old new good);
  }

module _ {K X : Type 0} {R : K → K → Ordering} (o : IsTotalOrder R) (exact : (x y : K) → R x y ≡ Equal → x ≡ y) where
  at_itself : (k : K) (v : X) (es : List (K × X)) → value_at R k (insert_entry R es k v) ≡ Some v
  at_itself k v es = lookup-insert_entry o k k v es ∙ ap (λ r. cond (is_eq r) (Some v) (lookup (is_at (R k)) es)) (tied_itself o k)

  -- a new key is taken out again
  pub new_taken : (k : K) (v : X) (old new : Contents K X) → value_at R k old.entries ≡ None → new.entries ≡ with_entry R k v old.entries → old.spare ≤ new.spare + 1 → IsAsGood old (stepped R (Remove k) new)
  new_taken k v old new none e spare = record {
    entries = ap (without_key R k) e ∙ remove_entry-undoes o k k v old.entries (tied_itself o k) none;
    spare = rw (e, at_itself k v old.entries) spare;
  }

  -- a value that was there is put again
  pub old_put : (k : K) (v w : X) (old new : Contents K X) → IsStrictlySortedBy R (keys_of old.entries) → value_at R k old.entries ≡ Some w → new.entries ≡ with_entry R k v old.entries → new.spare ≡ old.spare → IsAsGood old (stepped R (Put k w) new)
  old_put k v w old new sorted some e spare = record {
    entries = ap (with_entry R k w) e ∙ insert_entry-again o k k w v old.entries (tied_itself o k) ∙ insert_entry-kept o k w old.entries sorted some;
    spare = rw (e, at_itself k v old.entries) (omega (arith, spare));
  }

  pub old_allowed : (k : K) (v w : X) (old new : Contents K X) → new.entries ≡ with_entry R k v old.entries → IsAllowed R (Put k w) new
  old_allowed k v w old new e = λ none. let h : Some v ≡ None = sym (at_itself k v old.entries) ∙ ap (value_at R k) (sym e) ∙ none in cc

  -- what was taken out is put back
  pub taken_put : (k : K) (w : X) (old new : Contents K X) → IsStrictlySortedBy R (keys_of old.entries) → value_at R k old.entries ≡ Some w → new.entries ≡ without_key R k old.entries → new.spare ≡ old.spare + 1 → IsAsGood old (stepped R (Put k w) new)
  taken_put k w old new sorted some e spare = record {
    entries = ap (with_entry R k w) e ∙ insert_entry-restores o exact k w old.entries sorted some;
    spare = elim (is_some (value_at R k new.entries)) as (λ b. old.spare ≤ new.spare - (if b then 0 else 1)) [ true ↦ omega (arith, spare) | false ↦ omega (arith, spare) ];
  }

  pub taken_allowed : (k : K) (w : X) (old new : Contents K X) → new.spare ≡ old.spare + 1 → IsAllowed R (Put k w) new
  taken_allowed k w old new spare = λ none. omega (arith, spare)

pub logged_same : {S : Type 0} (log old : List S) → log ≡ old → length log ≤ length old + 1
logged_same log old kept = let n : length log ≡ length old = ap length kept in omega (arith, n)

-- a log with one step more
pub logged_one : {S : Type 0} (log old new : List S) (s : S) → log ≡ old → new ≡ log ++ s ∷ [] → length new ≤ length old + 1
logged_one log old new s kept pushed = let n : length new ≡ length old + 1 = ap length (pushed ∙ ap (λ l. l ++ s ∷ []) kept) ∙ length-append old (s ∷ []) in omega (arith, n)

-- the log of what was put leads back, whatever was there before
pub put_undoes : {K X : Type 0} {R : K → K → Ordering} → IsTotalOrder R → ((x y : K) → R x y ≡ Equal → x ≡ y) → (k : K) (v : X) (there : Option X) (s : Step K X) (log : List (Step K X)) (old new before : Contents K X)
    → MatchOption there (s ≡ Remove k) (λ w. s ≡ Put k w) → IsStrictlySortedBy R (keys_of old.entries) → there ≡ value_at R k old.entries → new.entries ≡ with_entry R k v old.entries
    → IfNone there (old.spare ≤ new.spare + 1) → IfSome there (λ _. new.spare ≡ old.spare) → Undoes R log old before → Undoes R (log ++ s ∷ []) new before
put_undoes {R = R} o exact k v None s log old new before is sorted was e more same u =
    subst (λ s. Undoes R (log ++ s ∷ []) new before) (sym is) (undoes-push R log (Remove k) old new before tt (new_taken o exact k v old new (sym was) e more) u)
put_undoes {R = R} o exact k v (Some w) s log old new before is sorted was e more same u =
    subst (λ s. Undoes R (log ++ s ∷ []) new before) (sym is) (undoes-push R log (Put k w) old new before (old_allowed o exact k v w old new e) (old_put o exact k v w old new sorted (sym was) e same) u)

pub undoes-none : {K X : Type 0} (R : K → K → Ordering) (log : List (Step K X)) (c : Contents K X) → log ≡ [] → Undoes R log c c
undoes-none R log c e = subst (λ l. Undoes R l c c) (sym e) (record { possible = tt; back = good_itself c })
