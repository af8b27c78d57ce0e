-- The pairs of one fact more, and of one less.
use Rattle.std.specs.Result.{IfOk}
use Rattle.std.proofs.Common.{Result, Ok, Err, subst, ◌≡◌, ℕ, List, Bool, true, false, cond, not, ◌||◌, ◌&&◌, if◌then◌else◌, Option, Some, None, is_some, option_and_then, refl, sym, ap, ◌∙◌}
use Rattle.std.specs.Str.{bytes_eq}
use Rattle.std.specs.Cmp.Lexicographic.{bytes_decides}
use Rattle.std.specs.List.Sorted.{IsStrictlySortedBy}
use Rattle.std.specs.Map.{keys_of}
use Rattle.fsl_order.specs.Names.{bytes_cmp}
use Rattle.fsl_order.proofs.Booleans.{or_false}
use Rattle.fsl_table.specs.Pairs.{is_name}
use Rattle.fsl_table.specs.Contents.{value_at, with_entry, without_key}
use Rattle.fsl_table.proofs.Finding.{value-with, value-without}
use Rattle.fsl_leaves.specs.declared.line.Line.{Line}
use Rattle.fsl_leaves.specs.Keys.{Kin, kin_cmp, is_kin}
use Rattle.fsl_leaves.specs.Kept.{Lines, lists, continues_in, differs, ArePairs}

pub pairs_with : (facts : Lines) (children : List (Kin × Unit {0})) (name : List ℕ) (l : Line) → ArePairs facts children → value_at bytes_cmp name facts ≡ None
    → (k : Kin) → (is_some (value_at kin_cmp k children) || is_kin name l.parents l.branch k) ≡ continues_in (option_and_then (λ c. value_at bytes_cmp c (with_entry bytes_cmp name l facts)) k.second) k.first.parent k.first.branch
pairs_with facts children name l pairs none k =
    ap (λ b. b || is_kin name l.parents l.branch k) (pairs k) ∙ by k.second
  where
    by : (s : Option (List ℕ)) → (continues_in (option_and_then (λ c. value_at bytes_cmp c facts) s) k.first.parent k.first.branch || (is_name s name && continues_in (Some l) k.first.parent k.first.branch)) ≡ continues_in (option_and_then (λ c. value_at bytes_cmp c (with_entry bytes_cmp name l facts)) s) k.first.parent k.first.branch
    by None = refl
    by (Some c) =
        elim (bytes_eq c name) as (λ b. bytes_eq c name ≡ b → (continues_in (value_at bytes_cmp c facts) k.first.parent k.first.branch || (b && continues_in (Some l) k.first.parent k.first.branch)) ≡ continues_in (cond b (Some l) (value_at bytes_cmp c facts)) k.first.parent k.first.branch) [
          | true ↦ λ h. ap (λ r. continues_in r k.first.parent k.first.branch || continues_in (Some l) k.first.parent k.first.branch) (ap (λ q. value_at bytes_cmp q facts) ((bytes_decides c name).0 h) ∙ none)
          | false ↦ λ h. or_false (continues_in (value_at bytes_cmp c facts) k.first.parent k.first.branch)
        ] refl
        ∙ ap (λ r. continues_in r k.first.parent k.first.branch) (sym (value-with name l facts c))

not-and : (b : Bool) → (not b && b) ≡ false
not-and true = refl
not-and false = refl

pub pairs_without : (facts : Lines) (children : List (Kin × Unit {0})) (name : List ℕ) → IsStrictlySortedBy bytes_cmp (keys_of facts) → ArePairs facts children
    → (k : Kin) → (not (is_name k.second name && continues_in (value_at bytes_cmp name facts) k.first.parent k.first.branch) && is_some (value_at kin_cmp k children)) ≡ continues_in (option_and_then (λ c. value_at bytes_cmp c (without_key bytes_cmp name facts)) k.second) k.first.parent k.first.branch
pairs_without facts children name sorted pairs k =
    ap (λ b. not (is_name k.second name && continues_in (value_at bytes_cmp name facts) k.first.parent k.first.branch) && b) (pairs k) ∙ by k.second
  where
    by : (s : Option (List ℕ)) → (not (is_name s name && continues_in (value_at bytes_cmp name facts) k.first.parent k.first.branch) && continues_in (option_and_then (λ c. value_at bytes_cmp c facts) s) k.first.parent k.first.branch) ≡ continues_in (option_and_then (λ c. value_at bytes_cmp c (without_key bytes_cmp name facts)) s) k.first.parent k.first.branch
    by None = refl
    by (Some c) =
        elim (bytes_eq c name) as (λ b. bytes_eq c name ≡ b → (not (b && continues_in (value_at bytes_cmp name facts) k.first.parent k.first.branch) && continues_in (value_at bytes_cmp c facts) k.first.parent k.first.branch) ≡ continues_in (cond b None (value_at bytes_cmp c facts)) k.first.parent k.first.branch) [
          | true ↦ λ h. ap (λ n. not (continues_in (value_at bytes_cmp name facts) k.first.parent k.first.branch) && continues_in (value_at bytes_cmp n facts) k.first.parent k.first.branch) ((bytes_decides c name).0 h) ∙ not-and (continues_in (value_at bytes_cmp name facts) k.first.parent k.first.branch)
          | false ↦ λ h. refl
        ] refl
        ∙ ap (λ r. continues_in r k.first.parent k.first.branch) (sym (value-without name facts sorted c))

-- ---- one leaf more or less

-- it is already so
pub set_already : (t w : Bool) (name q : List ℕ) (r : List ℕ → Bool) → t ≡ r name → differs t w ≡ false → r q ≡ (if bytes_eq q name then w else r q)
set_already t w name q r is same =
    elim (bytes_eq q name) as (λ b. bytes_eq q name ≡ b → r q ≡ (if b then w else r q)) [
      | true ↦ λ h. ap r ((bytes_decides q name).0 h) ∙ sym is ∙ equal t w same
      | false ↦ λ h. refl
    ] refl
  where
    equal : (t w : Bool) → differs t w ≡ false → t ≡ w
    equal true true h = refl
    equal true false h = h
    equal false true h = sym h
    equal false false h = refl

-- it is the other, and is noted
pub set_flips : (t w : Bool) (name : List ℕ) (before old new : List ℕ → Bool) (kept after : List ℕ → Bool) → t ≡ old name → differs t w ≡ true
    → ((q : List ℕ) → after q ≡ (if bytes_eq q name then not (kept q) else kept q)) → ((q : List ℕ) → new q ≡ (if bytes_eq q name then w else old q))
    → ((q : List ℕ) → kept q ≡ differs (before q) (old q)) → (q : List ℕ) → after q ≡ differs (before q) (new q)
set_flips t w name before old new kept after is other flip write all q =
    flip q
    ∙ elim (bytes_eq q name) as (λ b. bytes_eq q name ≡ b → (if b then not (kept q) else kept q) ≡ differs (before q) (if b then w else old q)) [
      | true ↦ λ h. ap not (all q ∙ ap (differs (before q)) (ap old ((bytes_decides q name).0 h) ∙ sym is)) ∙ turned (before q) t w other
      | false ↦ λ h. all q
    ] refl
    ∙ ap (differs (before q)) (sym (write q))
  where
    turned : (a t w : Bool) → differs t w ≡ true → not (differs a t) ≡ differs a w
    turned true true true h = sym h
    turned true true false h = refl
    turned true false true h = refl
    turned true false false h = h
    turned false true true h = h
    turned false true false h = refl
    turned false false true h = refl
    turned false false false h = sym h

-- ---- what a put and a removal say of one name, and the steps of the loops

pub put_is : (b w : Bool) (r : Option (Unit {0})) → w ≡ true → is_some (cond b (Some tt) r) ≡ (if b then w else is_some r)
put_is true w r h = sym h
put_is false w r h = refl

pub out_is : (b w : Bool) (r : Option (Unit {0})) → w ≡ false → is_some (cond b None r) ≡ (if b then w else is_some r)
out_is true w r h = sym h
out_is false w r h = refl

and-true : (b : Bool) → b ≡ (b && true)
and-true true = refl
and-true false = refl

and-false : (b : Bool) → false ≡ (b && false)
and-false true = refl
and-false false = refl

pub end_not : (s i r : Bool) → (s ≡ true → i ≡ false) → r ≡ (r && not (s && i))
end_not true i r h = and-true r ∙ ap (λ x. r && not x) (sym (h refl))
end_not false i r h = and-true r

pub end_one : (s i r : Bool) → (s ≡ true → i ≡ true) → (if s then false else r) ≡ (r && not (s && i))
end_one true i r h = and-false r ∙ ap (λ x. r && not x) (sym (h refl))
end_one false i r h = and-true r

pub end-step : (s e r i w : Bool) → (s && not ((e || r) && i)) ≡ w → ((s && not (e && i)) && not (r && i)) ≡ w
end-step false e r i w p = p
end-step true false r i w p = p
end-step true true r true w p = p
end-step true true true false w p = p
end-step true true false false w p = p

pub count-step : (e r k j s w : Bool) → (e ≡ true → j ≡ k) → (if (e || r) then k else s) ≡ w → (if r then k else (if e then j else s)) ≡ w
count-step true true k j s w f p = p
count-step true false k j s w f p = f refl ∙ p
count-step false r k j s w f p = p

pub no_lists : (a r : Bool) (o : Option Line) (q : List ℕ) → o ≡ None → r ≡ (not (a && lists o q) && r)
no_lists a r None q h = ap (λ x. not x && r) (and-false a)
no_lists a r (Some l) q h = cc

pub same_differs : (b : Bool) → false ≡ differs b b
same_differs true = refl
same_differs false = refl

pub if_ok : {X E : Type 0} (P : X → Type 0) (r : Result X E) (v : X) → IfOk r (λ x. x ≡ v) → P v → IfOk r P
if_ok P (Ok x) v h p = subst P (sym h) p
if_ok P (Err e) v h p = tt
