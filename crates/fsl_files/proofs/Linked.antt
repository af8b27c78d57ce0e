-- Pairs of a name and the one to which it belongs, where one name comes to belong to another.
use Rattle.std.proofs.Common.{◌≡◌, ℕ, List, Bool, true, false, ◌&&◌, ◌||◌, not, cond, Option, Some, None, is_some, option_and_then, refl, sym, ap, ◌∙◌, subst}
use Rattle.std.specs.Str.{bytes_eq}
use Rattle.std.specs.List.Sorted.{IsStrictlySortedBy}
use Rattle.std.specs.Map.{keys_of}
use Rattle.std.specs.Cmp.Lexicographic.{bytes_decides}
use Rattle.fsl_order.specs.Names.{bytes_cmp, has}
use Rattle.fsl_table.specs.declared.key.Pair.{Pair}
use Rattle.fsl_table.specs.Contents.{value_at, with_entry}
use Rattle.fsl_table.specs.Exact.{pair_cmp}
use Rattle.fsl_table.specs.Pairs.{is_name, seconds}
use Rattle.fsl_table.proofs.Finding.{value-with}
use Rattle.fsl_table.proofs.Seconds.{has_seconds}
use Rattle.fsl_files.specs.declared.entry.Entry.{Entry}
use Rattle.fsl_files.specs.Kept.{Lines, Pairs, AreOf}

-- the names that belong to a name
pub has-of : (first : List ℕ → Option (List ℕ)) (ps : Pairs) (p q : List ℕ) → AreOf first ps → has (seconds p ps) q ≡ is_name (first q) p
has-of first ps p q of_ = has_seconds p q ps ∙ of_.pairs (record { first = p; second = Some q })

-- the same names belong to the same ones
pub of-alike : (first other : List ℕ → Option (List ℕ)) (ps : Pairs) → ((x : List ℕ) → first x ≡ other x) → AreOf first ps → AreOf other ps
of-alike first other ps same of_ = subst (λ f. AreOf f ps) (λ i x. same x i) of_

-- the pairs after the old one was taken out and the new one put
pub relinked : (first : List ℕ → Option (List ℕ)) (name : List ℕ) (was up : Option (List ℕ)) (old mid new : Pairs) → AreOf first old → first name ≡ was → IsStrictlySortedBy pair_cmp (keys_of new)
    → ((k : Pair) → is_some (value_at pair_cmp k mid) ≡ (not (is_name k.second name && is_name was k.first) && is_some (value_at pair_cmp k old)))
    → ((k : Pair) → is_some (value_at pair_cmp k new) ≡ ((is_name k.second name && is_name up k.first) || is_some (value_at pair_cmp k mid)))
    → AreOf (λ x. cond (bytes_eq x name) up (first x)) new
relinked first name was up old mid new of_ is ordered gone come = record {
  ordered = ordered;
  pairs = λ k. come k ∙ ap (λ b. (is_name k.second name && is_name up k.first) || b) (gone k ∙ ap (λ b. not (is_name k.second name && is_name was k.first) && b) (of_.pairs k)) ∙ by k k.second;
}
  where
    own : (u o : Bool) → (u || (not o && o)) ≡ u
    own true o = refl
    own false true = refl
    own false false = refl

    by : (k : Pair) (s : Option (List ℕ)) → ((is_name s name && is_name up k.first) || (not (is_name s name && is_name was k.first) && is_name (option_and_then first s) k.first))
        ≡ is_name (option_and_then (λ x. cond (bytes_eq x name) up (first x)) s) k.first
    by k None = refl
    by k (Some c) =
        elim (bytes_eq c name) as (λ b. bytes_eq c name ≡ b → ((b && is_name up k.first) || (not (b && is_name was k.first) && is_name (first c) k.first)) ≡ is_name (cond b up (first c)) k.first) [
          | true ↦ λ h. ap (λ o. is_name up k.first || (not (is_name was k.first) && is_name o k.first)) (ap first ((bytes_decides c name).0 h) ∙ is) ∙ own (is_name up k.first) (is_name was k.first)
          | false ↦ λ _. refl
        ] refl

-- where a check-in is put, its name belongs to what it names
pub of-with : (f : Entry → Option (List ℕ)) (es : Lines) (name : List ℕ) (e : Entry) (ps : Pairs) → AreOf (λ x. cond (bytes_eq x name) (f e) (option_and_then f (value_at bytes_cmp x es))) ps
    → AreOf (λ x. option_and_then f (value_at bytes_cmp x (with_entry bytes_cmp name e es))) ps
of-with f es name e ps =
    of-alike (λ x. cond (bytes_eq x name) (f e) (option_and_then f (value_at bytes_cmp x es))) (λ x. option_and_then f (value_at bytes_cmp x (with_entry bytes_cmp name e es))) ps
    (λ x. by (bytes_eq x name) (value_at bytes_cmp x es) ∙ ap (option_and_then f) (sym (value-with name e es x)))
  where
    by : (b : Bool) (o : Option Entry) → cond b (f e) (option_and_then f o) ≡ option_and_then f (cond b (Some e) o)
    by true o = refl
    by false o = refl
