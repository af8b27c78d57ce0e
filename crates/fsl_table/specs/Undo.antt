-- What a log of steps puts back, and when it can be done without memory.
use Rattle.std.specs.Prelude.{◌≡◌, ◌+◌, ◌-◌, ◌<◌, ◌≤◌, List, [], ◌∷◌, if◌then◌else◌, is_some}
use Rattle.std.specs.declared.option.Option.TheVariants.{None}
use Rattle.std.specs.declared.cmp.Ordering.{Ordering}
use Rattle.fsl_table.specs.Contents.{Contents, value_at, with_entry, without_key}
use Rattle.fsl_table.specs.declared.step.Step.{Step}
use Rattle.fsl_table.specs.declared.step.Step.TheVariants.{Put, Remove}

-- d has the entries of c, and no less to spare
pub record IsAsGood {K X : Type 0} (c d : Contents K X) : Type 0 where
  pub entries : d.entries ≡ c.entries
  pub spare : c.spare ≤ d.spare

module _ {K X : Type 0} (cmp : K → K → Ordering) where
  -- what one step leaves, with the least that is spare then
  abbrev pub stepped : Step K X → Contents K X → Contents K X
  stepped (Put k v) c = record { entries = with_entry cmp k v c.entries; spare = c.spare - (if is_some (value_at cmp k c.entries) then 0 else 1) }
  stepped (Remove k) c = record { entries = without_key cmp k c.entries; spare = c.spare + (if is_some (value_at cmp k c.entries) then 1 else 0) }

  -- the step finds its memory
  abbrev pub IsAllowed : Step K X → Contents K X → Type 0
  IsAllowed (Put k v) c = value_at cmp k c.entries ≡ None → 0 < c.spare
  IsAllowed (Remove k) c = Unit {0}

  -- what is left when the steps are done, the last one first
  abbrev pub undone : List (Step K X) → Contents K X → Contents K X
  undone [] c = c
  undone (s ∷ ss) c = stepped s (undone ss c)

  -- each of them finds its memory
  abbrev pub CanUndo : List (Step K X) → Contents K X → Type 0
  CanUndo [] c = Unit {0}
  CanUndo (s ∷ ss) c = CanUndo ss c × IsAllowed s (undone ss c)

  -- the log takes the table back to what it was before
  pub record Undoes (log : List (Step K X)) (now before : Contents K X) : Type 0 where
    pub possible : CanUndo log now
    pub back : IsAsGood before (undone log now)
