-- A log leads back from each state that is as good as the one that it led back from.
use Rattle.std.proofs.Common.{◌≡◌, ◌≤◌, List}
use Rattle.std.specs.declared.cmp.Ordering.{Ordering}
use Rattle.fsl_table.specs.Contents.{Contents}
use Rattle.fsl_table.specs.declared.step.Step.{Step}
use Rattle.fsl_table.specs.Undo.{IsAsGood, CanUndo, undone, Undoes}
use Rattle.fsl_table.proofs.Steps.{undone-good, can_undo-good, good_chain}

pub record LeadsBack {K X : Type 0} (R : K → K → Ordering) (log : List (Step K X)) (before now : Contents K X) : Type 0 where
  pub can : CanUndo R log now
  pub good : IsAsGood before (undone R log now)

pub leads_back : {K X : Type 0} (R : K → K → Ordering) (log : List (Step K X)) (before after now : Contents K X) → now.entries ≡ after.entries → after.spare ≤ now.spare → Undoes R log after before → LeadsBack R log before now
leads_back R log before after now entries spare u =
    let good : IsAsGood after now = record { entries = entries; spare = spare } in
    record {
      can = can_undo-good R log after now good u.possible;
      good = good_chain before (undone R log after) (undone R log now) u.back (undone-good R log after now good);
    }
