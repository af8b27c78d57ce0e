-- What belongs to a first part, among keys of a first part and of what may belong to it.
use Rattle.std.specs.Prelude.{List, [], ◌∷◌, Bool, false, if◌then◌else◌, Option, Some, None}
use Rattle.std.specs.Option.{option_cmp}
use Rattle.std.specs.Ordering.{is_eq, ordering_then}
use Rattle.std.specs.declared.cmp.Ordering.{Ordering}
use Rattle.fsl_table.specs.Contents.{entries_after}
use Rattle.fsl_table.specs.declared.within.Within.{Within}

-- keys by the first part and then the second, where none is least
abbrev pub within_cmp : {A B : Type 0} → (A → A → Ordering) → (B → B → Ordering) → Within A B → Within A B → Ordering
within_cmp RA RB x y = ordering_then (RA x.first y.first) (option_cmp RB x.second y.second)

-- the second part of a key that has this first part
abbrev pub second_in : {A B : Type 0} → (A → A → Ordering) → A → Within A B × Unit {0} → Option B
second_in RA a e = if is_eq (RA a e.0.first) then e.0.second else None

-- what may be there before a list
abbrev pub put_key : {B : Type 0} → Option B → List (B × Unit {0}) → List (B × Unit {0})
put_key None bs = bs
put_key (Some b) bs = (b, tt) ∷ bs

-- what belongs to a first part, in order
abbrev pub within : {A B : Type 0} → (A → A → Ordering) → A → List (Within A B × Unit {0}) → List (B × Unit {0})
within RA a [] = []
within RA a (e ∷ es) = put_key (second_in RA a e) (within RA a es)

-- those above what may be there
abbrev pub above : {B : Type 0} → (B → B → Ordering) → Option B → List (B × Unit {0}) → List (B × Unit {0})
above RB None bs = bs
above RB (Some b) bs = entries_after RB b bs

-- whether the second part is there, and compares alike with this
abbrev pub is_second : {B : Type 0} → (B → B → Ordering) → Option B → B → Bool
is_second RB None b = false
is_second RB (Some c) b = is_eq (RB c b)
