-- The pairs of one fact more, and of one less.
use Rattle.std.proofs.Common.{◌≡◌, ℕ, List, Bool, true, false, cond, not, ◌||◌, ◌&&◌, Option, Some, None, is_some, option_and_then, refl, sym, ap, ◌∙◌}
use Rattle.std.specs.Str.{bytes_eq}
use Rattle.std.specs.Cmp.Lexicographic.{bytes_decides}
use Rattle.std.specs.List.Sorted.{IsStrictlySortedBy}
use Rattle.std.specs.Map.{keys_of}
use Rattle.fsl_order.specs.Names.{bytes_cmp, has}
use Rattle.fsl_order.proofs.Booleans.{or_false}
use Rattle.fsl_table.specs.declared.key.Pair.{Pair}
use Rattle.fsl_table.specs.Exact.{pair_cmp}
use Rattle.fsl_table.specs.Pairs.{is_name}
use Rattle.fsl_table.specs.Contents.{value_at, with_entry, without_key}
use Rattle.fsl_table.proofs.Finding.{value-with, value-without}
use Rattle.fsl_links.specs.Kept.{lists, ArePairs}

pub pairs_with : (facts : List (List ℕ × List (List ℕ))) (children : List (Pair × Unit {0})) (name : List ℕ) (ps : List (List ℕ)) → ArePairs facts children → value_at bytes_cmp name facts ≡ None
    → (k : Pair) → (is_some (value_at pair_cmp k children) || (is_name k.second name && has ps k.first)) ≡ lists (option_and_then (λ c. value_at bytes_cmp c (with_entry bytes_cmp name ps facts)) k.second) k.first
pairs_with facts children name ps pairs none k =
    ap (λ b. b || (is_name k.second name && has ps k.first)) (pairs k) ∙ by k.second
  where
    by : (s : Option (List ℕ)) → (lists (option_and_then (λ c. value_at bytes_cmp c facts) s) k.first || (is_name s name && has ps k.first)) ≡ lists (option_and_then (λ c. value_at bytes_cmp c (with_entry bytes_cmp name ps facts)) s) k.first
    by None = refl
    by (Some c) =
        elim (bytes_eq c name) as (λ b. bytes_eq c name ≡ b → (lists (value_at bytes_cmp c facts) k.first || (b && has ps k.first)) ≡ lists (cond b (Some ps) (value_at bytes_cmp c facts)) k.first) [
          | true ↦ λ h. ap (λ r. lists r k.first || has ps k.first) (ap (λ q. value_at bytes_cmp q facts) ((bytes_decides c name).0 h) ∙ none)
          | false ↦ λ h. or_false (lists (value_at bytes_cmp c facts) k.first)
        ] refl
        ∙ ap (λ r. lists r k.first) (sym (value-with name ps facts c))

not-and : (b : Bool) → (not b && b) ≡ false
not-and true = refl
not-and false = refl

pub pairs_without : (facts : List (List ℕ × List (List ℕ))) (children : List (Pair × Unit {0})) (name : List ℕ) → IsStrictlySortedBy bytes_cmp (keys_of facts) → ArePairs facts children
    → (k : Pair) → (not (is_name k.second name && lists (value_at bytes_cmp name facts) k.first) && is_some (value_at pair_cmp k children)) ≡ lists (option_and_then (λ c. value_at bytes_cmp c (without_key bytes_cmp name facts)) k.second) k.first
pairs_without facts children name sorted pairs k =
    ap (λ b. not (is_name k.second name && lists (value_at bytes_cmp name facts) k.first) && b) (pairs k) ∙ by k.second
  where
    by : (s : Option (List ℕ)) → (not (is_name s name && lists (value_at bytes_cmp name facts) k.first) && lists (option_and_then (λ c. value_at bytes_cmp c facts) s) k.first) ≡ lists (option_and_then (λ c. value_at bytes_cmp c (without_key bytes_cmp name facts)) s) k.first
    by None = refl
    by (Some c) =
        elim (bytes_eq c name) as (λ b. bytes_eq c name ≡ b → (not (b && lists (value_at bytes_cmp name facts) k.first) && lists (value_at bytes_cmp c facts) k.first) ≡ lists (cond b None (value_at bytes_cmp c facts)) k.first) [
          | true ↦ λ h. ap (λ n. not (lists (value_at bytes_cmp name facts) k.first) && lists (value_at bytes_cmp n facts) k.first) ((bytes_decides c name).0 h) ∙ not-and (lists (value_at bytes_cmp name facts) k.first)
          | false ↦ λ h. refl
        ] refl
        ∙ ap (λ r. lists r k.first) (sym (value-without name facts sorted c))

-- what is put where it was taken out is put over it
pub there_is : (r : Option (List (List ℕ))) → is_some r ≡ true → (r ≡ None) → ⊥
there_is None h e = cc
there_is (Some v) h e = cc
