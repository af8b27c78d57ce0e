-- The keys of children: their order, with one more or one less, and whether anything belongs to a name and a branch.
use Rattle.std.proofs.Common.{◌≡◌, ℕ, List, [], ◌∷◌, Bool, true, false, cond, not, ◌||◌, ◌&&◌, Option, Some, None, is_some, refl, sym, ap, ◌∙◌}
use mathlib.Core.Bool.{true≢false}
use Rattle.std.specs.Str.{bytes_eq}
use Rattle.std.specs.Map.{keys_of}
use Rattle.std.specs.Ordering.{is_eq, ordering_then}
use Rattle.std.specs.declared.cmp.Ordering.{Ordering}
use Rattle.std.specs.declared.cmp.Ordering.TheVariants.{Less, Equal, Greater}
use Rattle.std.specs.Cmp.{IsTotalOrder, then_total, on_total}
use Rattle.std.specs.Cmp.Lexicographic.{texts_ties, nat_list_eq_equiv}
use Rattle.std.specs.List.Sorted.{IsStrictlySortedBy}
use Rattle.std.proofs.lemmas.Map.Lookups.{exact_bytes}
use Rattle.fsl_order.specs.Names.{bytes_cmp}
use Rattle.fsl_order.proofs.Orders.{bytes_cmp-IsTotalOrder}
use Rattle.fsl_table.specs.Contents.{value_at, with_entry, without_key, first_of}
use Rattle.fsl_table.specs.ExactWithin.{exact_within}
use Rattle.fsl_table.specs.Pairs.{is_name}
use Rattle.fsl_table.specs.Within.{within, is_second}
use Rattle.fsl_table.proofs.Belonging.{within-IsTotalOrder, value-within, key_eq}
use Rattle.fsl_table.proofs.Entries.{lookup-insert_entry}
use Rattle.fsl_table.proofs.Finding.{lookup-without}
use Rattle.fsl_table.proofs.Finds.{Finds}
use Rattle.fsl_leaves.specs.declared.kin.Twig.{Twig}
use Rattle.fsl_leaves.specs.Keys.{Kin, twig_cmp, exact_twig, kin_cmp, is_kin, walked}

twig_cmp-IsTotalOrder : IsTotalOrder twig_cmp
twig_cmp-IsTotalOrder = then_total (on_total (λ t. t.parent) bytes_cmp-IsTotalOrder) (on_total (λ t. t.branch) bytes_cmp-IsTotalOrder)

pub kin_cmp-IsTotalOrder : IsTotalOrder kin_cmp
kin_cmp-IsTotalOrder = within-IsTotalOrder twig_cmp bytes_cmp twig_cmp-IsTotalOrder bytes_cmp-IsTotalOrder

pub kin_cmp-exact : (x y : Kin) → kin_cmp x y ≡ Equal → x ≡ y
kin_cmp-exact = exact_within twig_cmp bytes_cmp exact_twig exact_bytes

-- the key of a child of a parent, in a branch
abbrev pub kin : List ℕ → List ℕ → List ℕ → Kin
kin p b c = record { first = record { parent = p; branch = b }; second = Some c }

twig_eq : (t : Twig) (p b : List ℕ) → is_eq (twig_cmp t (record { parent = p; branch = b })) ≡ (bytes_eq t.parent p && bytes_eq t.branch b)
twig_eq t p b =
    parts (bytes_cmp t.parent p) (bytes_cmp t.branch b) ∙ (λ i. sym (texts_ties t.parent p) i && sym (texts_ties t.branch b) i)
  where
    parts : (r s : Ordering) → is_eq (ordering_then r s) ≡ (is_eq r && is_eq s)
    parts Less s = refl
    parts Equal s = refl
    parts Greater s = refl

second_eq : (s : Option (List ℕ)) (c : List ℕ) → is_second bytes_cmp s c ≡ is_name s c
second_eq None c = refl
second_eq (Some d) c = sym (texts_ties d c)

turn : (d e f s : Bool) → (((e && f) && d) || s) ≡ ((d && ((e || false) && f)) || s)
turn true true true s = refl
turn true true false s = refl
turn true false f s = refl
turn false true true s = refl
turn false true false s = refl
turn false false f s = refl

turn_not : (d e f s : Bool) → (not ((e && f) && d) && s) ≡ (not (d && ((e || false) && f)) && s)
turn_not true true true s = refl
turn_not true true false s = refl
turn_not true false f s = refl
turn_not false true true s = refl
turn_not false true false s = refl
turn_not false false f s = refl

kin_eq : (k : Kin) (p b c : List ℕ) → is_eq (kin_cmp k (kin p b c)) ≡ ((bytes_eq k.first.parent p && bytes_eq b k.first.branch) && is_name k.second c)
kin_eq k p b c =
    key_eq twig_cmp bytes_cmp k (record { parent = p; branch = b }) c
    ∙ (λ i. twig_eq k.first p b i && second_eq k.second c i)
    ∙ ap (λ x. (bytes_eq k.first.parent p && x) && is_name k.second c) (nat_list_eq_equiv.symm k.first.branch b)

pub kin-with : (p b c : List ℕ) (es : List (Kin × Unit {0})) (k : Kin) → is_some (value_at kin_cmp k (with_entry kin_cmp (kin p b c) tt es)) ≡ (is_kin c (p ∷ []) b k || is_some (value_at kin_cmp k es))
kin-with p b c es k =
    ap is_some (lookup-insert_entry kin_cmp-IsTotalOrder k (kin p b c) tt es) ∙ some_or (is_eq (kin_cmp k (kin p b c))) (value_at kin_cmp k es)
    ∙ ap (λ x. x || is_some (value_at kin_cmp k es)) (kin_eq k p b c)
    ∙ turn (is_name k.second c) (bytes_eq k.first.parent p) (bytes_eq b k.first.branch) (is_some (value_at kin_cmp k es))
  where
    some_or : (b : Bool) (r : Option (Unit {0})) → is_some (cond b (Some tt) r) ≡ (b || is_some r)
    some_or true r = refl
    some_or false r = refl

pub kin-without : (p b c : List ℕ) (es : List (Kin × Unit {0})) → IsStrictlySortedBy kin_cmp (keys_of es) → (k : Kin)
    → is_some (value_at kin_cmp k (without_key kin_cmp (kin p b c) es)) ≡ (not (is_kin c (p ∷ []) b k) && is_some (value_at kin_cmp k es))
kin-without p b c es sorted k =
    ap is_some (lookup-without kin_cmp-IsTotalOrder kin_cmp-exact (kin p b c) es sorted k) ∙ none_or (is_eq (kin_cmp k (kin p b c))) (value_at kin_cmp k es)
    ∙ ap (λ x. not x && is_some (value_at kin_cmp k es)) (kin_eq k p b c)
    ∙ turn_not (is_name k.second c) (bytes_eq k.first.parent p) (bytes_eq b k.first.branch) (is_some (value_at kin_cmp k es))
  where
    none_or : (b : Bool) (r : Option (Unit {0})) → is_some (cond b None r) ≡ (not b && is_some r)
    none_or true r = refl
    none_or false r = refl

-- one step of linking
pub link-step : (d e f s r w : Bool) → (s || (d && ((e || r) && f))) ≡ w → (((d && ((e || false) && f)) || s) || (d && (r && f))) ≡ w
link-step true true true s r w p = or-true s ∙ p
  where
    or-true : (s : Bool) → true ≡ (s || true)
    or-true true = refl
    or-true false = refl
link-step true true false true r w p = p
link-step true true false false true w p = p
link-step true true false false false w p = p
link-step true false f s r w p = p
link-step false e f s r w p = p

-- one step of unlinking
pub unlink-step : (d e f r s w : Bool) → (not (d && ((e || r) && f)) && s) ≡ w → (not (d && (r && f)) && (not (d && ((e || false) && f)) && s)) ≡ w
unlink-step true true true r s w p = none (not (r && true)) ∙ p
  where
    none : (b : Bool) → (b && false) ≡ false
    none true = refl
    none false = refl
unlink-step true true false true s w p = p
unlink-step true true false false s w p = p
unlink-step true false f r s w p = p
unlink-step false e f r s w p = p

-- the first of what belongs to a name and a branch is some child, and any is no less
first_found : (ws : List (List ℕ × Unit {0})) → is_some (first_of ws) ≡ true → (c : List ℕ) × (is_some (value_at bytes_cmp c ws) ≡ true)
first_found [] h = absurd (true≢false (sym h))
first_found (e ∷ ws) h = (e.0, ap (λ s. is_some (cond s (Some e.1) (value_at bytes_cmp e.0 ws))) (sym (texts_ties e.0 e.0) ∙ nat_list_eq_equiv.refl e.0))

first_there : (ws : List (List ℕ × Unit {0})) (c : List ℕ) → is_some (value_at bytes_cmp c ws) ≡ true → is_some (first_of ws) ≡ true
first_there [] c h = absurd (true≢false (sym h))
first_there (e ∷ ws) c h = refl

pub finds_walked : (cs : List (Kin × Unit {0})) (q b : List ℕ) → Finds (walked cs q b) (λ c. is_some (value_at kin_cmp (kin q b c) cs))
finds_walked cs q b =
    let t : Twig = record { parent = q; branch = b } in
    let ws = within twig_cmp t cs in
    let at : (c : List ℕ) → is_some (value_at bytes_cmp c ws) ≡ is_some (value_at kin_cmp (kin q b c) cs) = λ c. ap is_some (value-within twig_cmp bytes_cmp t c cs) in
    record {
      found = λ h. let f = first_found ws h in (f.0, sym (at f.0) ∙ f.1);
      there = λ c h. first_there ws c (at c ∙ h);
    }
