-- Pairs with one more or one less.
use Rattle.std.specs.Prelude.{◌≡◌, ℕ, List, Bool, true, false, ◌&&◌, ◌||◌, not, cond, Option, Some, None, is_some}
use Rattle.std.proofs.Common.{refl, sym, ap, ◌∙◌}
use Rattle.std.specs.Str.{bytes_eq}
use Rattle.std.specs.Map.{keys_of}
use Rattle.std.specs.Option.{option_cmp}
use Rattle.std.specs.Ordering.{is_eq, ordering_then}
use Rattle.std.specs.List.Sorted.{IsStrictlySortedBy}
use Rattle.std.specs.declared.cmp.Ordering.{Ordering}
use Rattle.std.specs.declared.cmp.Ordering.TheVariants.{Less, Equal, Greater}
use Rattle.std.specs.Cmp.Lexicographic.{texts_ties, nat_list_eq_equiv}
use Rattle.fsl_order.specs.Names.{bytes_cmp}
use Rattle.fsl_table.specs.Exact.{pair_cmp, exact_pair}
use Rattle.fsl_table.specs.declared.key.Pair.{Pair}
use Rattle.fsl_table.specs.Contents.{value_at, with_entry, without_key}
use Rattle.fsl_table.proofs.Entries.{lookup-insert_entry}
use Rattle.fsl_table.proofs.PairOrder.{pair_cmp-IsTotalOrder}
use Rattle.fsl_table.specs.Pairs.{is_name}
use Rattle.fsl_table.proofs.Finding.{lookup-without}

-- the pairs tie where both names do
pair_eq : (x : Pair) (p c : List ℕ) → is_eq (pair_cmp x (record { first = p; second = Some c })) ≡ (is_name x.second c && bytes_eq x.first p)
pair_eq x p c =
    parts (bytes_cmp x.first p) x.second ∙ ap (λ b. is_name x.second c && b) (sym (texts_ties x.first p))
  where
    and-false : (b : Bool) → false ≡ (b && false)
    and-false true = refl
    and-false false = refl

    and-true : (b : Bool) → b ≡ (b && true)
    and-true true = refl
    and-true false = refl

    parts : (r : Ordering) (s : Option (List ℕ)) → is_eq (ordering_then r (option_cmp bytes_cmp s (Some c))) ≡ (is_name s c && is_eq r)
    parts Less s = and-false (is_name s c)
    parts Greater s = and-false (is_name s c)
    parts Equal None = refl
    parts Equal (Some d) = sym (texts_ties d c) ∙ and-true (bytes_eq d c)

pub pair-with : (p c : List ℕ) (es : List (Pair × Unit {0})) (k : Pair) → is_some (value_at pair_cmp k (with_entry pair_cmp (record { first = p; second = Some c }) tt es)) ≡ ((is_name k.second c && bytes_eq k.first p) || is_some (value_at pair_cmp k es))
pair-with p c es k =
    let key : Pair = record { first = p; second = Some c } in
    ap is_some (lookup-insert_entry pair_cmp-IsTotalOrder k key tt es) ∙ some_or (is_eq (pair_cmp k key)) (value_at pair_cmp k es) ∙ ap (λ b. b || is_some (value_at pair_cmp k es)) (pair_eq k p c)
  where
    some_or : (b : Bool) (r : Option (Unit {0})) → is_some (cond b (Some tt) r) ≡ (b || is_some r)
    some_or true r = refl
    some_or false r = refl

pub pair-without : (p c : List ℕ) (es : List (Pair × Unit {0})) → IsStrictlySortedBy pair_cmp (keys_of es) → (k : Pair)
    → is_some (value_at pair_cmp k (without_key pair_cmp (record { first = p; second = Some c }) es)) ≡ (not (is_name k.second c && bytes_eq k.first p) && is_some (value_at pair_cmp k es))
pair-without p c es sorted k =
    let key : Pair = record { first = p; second = Some c } in
    ap is_some (lookup-without pair_cmp-IsTotalOrder exact_pair key es sorted k) ∙ none_or (is_eq (pair_cmp k key)) (value_at pair_cmp k es) ∙ ap (λ b. not b && is_some (value_at pair_cmp k es)) (pair_eq k p c)
  where
    none_or : (b : Bool) (r : Option (Unit {0})) → is_some (cond b None r) ≡ (not b && is_some r)
    none_or true r = refl
    none_or false r = refl

-- the parent and its test, either way about
pub name-back : (p q : List ℕ) → bytes_eq p q ≡ is_name (Some q) p
name-back p q = nat_list_eq_equiv.symm p q

-- one step of linking
pub link-step : (d e s r w : Bool) → (s || (d && (e || r))) ≡ w → (((d && e) || s) || (d && r)) ≡ w
link-step true true s r w p = or-true s ∙ p
  where
    or-true : (s : Bool) → true ≡ (s || true)
    or-true true = refl
    or-true false = refl
link-step true false s r w p = p
link-step false e s r w p = p

-- one step of unlinking
pub unlink-step : (d e r s w : Bool) → (not (d && (e || r)) && s) ≡ w → (not (d && r) && (not (d && e) && s)) ≡ w
unlink-step true true r s w p = none (not r) ∙ p
  where
    none : (b : Bool) → (b && false) ≡ false
    none true = refl
    none false = refl
unlink-step true false r s w p = p
unlink-step false e r s w p = p
