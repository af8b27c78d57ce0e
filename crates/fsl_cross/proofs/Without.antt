-- The set without the artifact of one name.
use Rattle.std.proofs.Common.{◌≡◌, ℕ, Bool, true, false, cond, not, List, [], ◌∷◌, ◌++◌, map, All, sym, ap, ◌∙◌, Result, Ok, Err, IfOk}
use Rattle.std.proofs.lemmas.List.{append_assoc}
use Rattle.std.proofs.lemmas.List.Elements.{All-filter}
use Rattle.std.specs.List.Sorted.{IsStrictlySortedBy}
use Rattle.std.specs.Str.{bytes_eq}
use Rattle.fsl_order.specs.Names.{bytes_cmp}
use Rattle.fsl_order.specs.Rows.{by_name, AreDistinct}
use Rattle.fsl_order.proofs.SortedLemmas.{in_order-sorted}
use Rattle.fsl_name.proofs.Rising.{rising-filter}
use Rattle.fsl_cross.specs.declared.Item.{Item}
use Rattle.fsl_cross.specs.Tables.{IsItem, without}
use Rattle.fsl_cross.proofs.Mapped.{distinct-rising}
use Rattle.fsl_cross.proofs.Moved.{item_name}

-- the next item is put behind the others, unless it has the name
pub without-next : (q : List ℕ) (before new left rest all : List Item) (x : Item) (out : Bool) → out ≡ bytes_eq x.name q → new ≡ before ++ cond out [] (x ∷ []) → left ≡ x ∷ rest
    → before ++ without q left ≡ without q all → new ++ without q rest ≡ without q all
without-next q before new left rest all x out is put cut so =
    ap (λ l. l ++ without q rest) (put ∙ ap (λ b. before ++ cond b [] (x ∷ [])) is) ∙ step (bytes_eq x.name q) ∙ ap (λ l. before ++ without q l) (sym cut) ∙ so
  where
    step : (b : Bool) → (before ++ cond b [] (x ∷ [])) ++ without q rest ≡ before ++ cond (not b) (x ∷ without q rest) (without q rest)
    step true = append_assoc before [] (without q rest)
    step false = append_assoc before (x ∷ []) (without q rest)

pub rising-without : (q : List ℕ) (items : List Item) → IsStrictlySortedBy bytes_cmp (map item_name items) → IsStrictlySortedBy bytes_cmp (map item_name (without q items))
rising-without q items h = rising-filter item_name (λ item. not (bytes_eq item.name q)) items h

pub distinct-without : (q : List ℕ) (items : List Item) → IsStrictlySortedBy bytes_cmp (map item_name items) → AreDistinct (map item_name (without q items))
distinct-without q items h = distinct-rising (map item_name (without q items)) (rising-without q items h)

pub by_name-without : (q : List ℕ) (items : List Item) → IsStrictlySortedBy bytes_cmp (map item_name items) → by_name item_name (without q items) ≡ without q items
by_name-without q items h = in_order-sorted bytes_cmp item_name (without q items) (rising-without q items h)

pub kinds-without : (q : List ℕ) (items : List Item) → All IsItem items → All IsItem (without q items)
kinds-without q items h = All-filter (λ item. not (bytes_eq item.name q)) IsItem items h

-- an answer is this, where it is that and both are the same
pub if_ok-as : {X E : Type 0} (r : Result X E) (a b : X) → a ≡ b → IfOk r (λ x. x ≡ a) → IfOk r (λ x. x ≡ b)
if_ok-as (Ok x) a b same h = h ∙ same
if_ok-as (Err e) a b same h = tt
