-- The check-ins that have a name as their first parent are among its children.
use Rattle.std.proofs.Common.{◌≡◌, ℕ, List, [], ◌∷◌, Bool, true, false, ◌||◌, ◌&&◌, Option, Some, None, slice_get, option_and_then, Result, Ok, Err, refl, sym, ap, subst, ◌∙◌}
use Rattle.std.specs.Result.{IfOk}
use Rattle.std.specs.Cmp.Lexicographic.{nat_list_eq_equiv}
use Rattle.fsl_order.specs.Names.{bytes_cmp, has}
use Rattle.fsl_table.specs.declared.key.Pair.{Pair}
use Rattle.fsl_table.specs.Contents.{value_at}
use Rattle.fsl_table.specs.Pairs.{seconds, is_name}
use Rattle.fsl_links.specs.Kept.{waits, lists, ArePairs}
use Rattle.fsl_table.proofs.Seconds.{has_seconds}

first_listed : (r : Option (List (List ℕ))) (p : List ℕ) → is_name (option_and_then (λ ps. slice_get ps 0) r) p ≡ true → lists r p ≡ true
first_listed None p h = cc
first_listed (Some []) p h = cc
first_listed (Some (x ∷ xs)) p h = ap (λ b. b || has xs p) (nat_list_eq_equiv.symm p x ∙ h)

pub waiting_second : (facts : List (List ℕ × List (List ℕ))) (children : List (Pair × Unit {0})) (p q : List ℕ) → ArePairs facts children → waits facts p q ≡ true → has (seconds p children) q ≡ true
waiting_second facts children p q pairs h =
    has_seconds p q children ∙ pairs (record { first = p; second = Some q }) ∙ first_listed (value_at bytes_cmp q facts) p h

-- a child that waits is noted
pub note_one : (w e r h t : Bool) → (e ≡ true → w ≡ true) → ((w && (e || r)) || h) ≡ t → ((w && r) || (e || h)) ≡ t
note_one true true r h t f p = or-true r h ∙ p
  where
    or-true : (r h : Bool) → (r || true) ≡ true
    or-true true h = refl
    or-true false h = refl
note_one true false r h t f p = p
note_one false true r h t f p = let no : false ≡ true = f refl in cc
note_one false false r h t f p = p

-- one that doesn't is passed
pub skip : (w e r h t : Bool) → (e ≡ true → w ≡ false) → ((w && (e || r)) || h) ≡ t → ((w && r) || h) ≡ t
skip true true r h t f p = let no : true ≡ false = f refl in cc
skip true false r h t f p = p
skip false e r h t f p = p

pub done_noting : (w k h n : Bool) → (w ≡ true → k ≡ true) → ((w && false) || n) ≡ ((w && k) || h) → n ≡ (w || h)
done_noting true true h n f p = p
done_noting true false h n f p = let no : false ≡ true = f refl in cc
done_noting false k h n f p = p

pub led : (l e p : Bool) → l ≡ true → (e || p) ≡ ((l && e) || p)
led true e p h = refl
led false e p h = cc

pub not_led : (l e p : Bool) → l ≡ false → p ≡ ((l && e) || p)
not_led false e p h = refl
not_led true e p h = cc

pub if_ok : {X E : Type 0} (P : X → Type 0) (r : Result X E) (v : X) → IfOk r (λ x. x ≡ v) → P v → IfOk r P
if_ok P (Ok x) v h p = subst P (sym h) p
if_ok P (Err e) v h p = tt
