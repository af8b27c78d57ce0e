-- What a put makes of a table.
use Rattle.std.specs.Prelude.{◌≡◌, ◌+◌, ◌-◌, ◌≤◌, ℕ, List, length, Option, Some, None, Result, IfOk, IfErr, OnOk, OnErr, IfSome, IfNone}
use Rattle.std.specs.declared.cmp.Ordering.{Ordering}
use Rattle.fsl_table.specs.Contents.{Contents, value_at, with_entry}
use Rattle.fsl_table.specs.Weave.{weave}

-- what contracts see of a tree, and of what waits beside it with so much room
abbrev pub seen : {K X : Type 0} → (K → K → Ordering) → ℕ → List (K × X) → List (K × X) → Contents K X
seen cmp room waiting tree = record { entries = weave cmp waiting tree; spare = room - (length tree + length waiting) }

-- a pair was put, or came back for want of memory
pub record IsPut {K X : Type 0} (cmp : K → K → Ordering) (key : K) (value : X) (old new : Contents K X) (result : Result (Option X) (K × X)) : Type 0 where
  pub before : IfOk result (λ before. before ≡ value_at cmp key old.entries)
  pub ok : OnOk result (new.entries ≡ with_entry cmp key value old.entries)
  pub spare_of_new : IfOk result (λ before. IfNone before (old.spare ≤ new.spare + 1))
  pub spare_of_old : IfOk result (λ before. IfSome before (λ _. new.spare ≡ old.spare))
  pub back : IfErr result (λ pair. pair ≡ (key, value))
  pub unchanged : OnErr result (new ≡ old)
  pub none_spare : OnErr result (old.spare ≡ 0)
  pub absent : OnErr result (value_at cmp key old.entries ≡ None)
