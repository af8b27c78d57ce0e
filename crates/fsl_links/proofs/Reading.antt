-- The row of a name, read off the entries.
use Rattle.std.proofs.Common.{◌≡◌, ℕ, List, [], ◌∷◌, Bool, true, false, cond, ◌||◌, Option, Some, None, is_some, option_and_then, option_map, slice_get, map, filter, refl, sym, ap, ◌∙◌}
use Rattle.std.specs.Str.{bytes_eq}
use Rattle.std.specs.List.Sorted.{IsStrictlySortedBy}
use Rattle.std.specs.Map.{keys_of}
use Rattle.std.specs.Cmp.Lexicographic.{texts_ties, bytes_decides, nat_list_eq_equiv}
use Rattle.fsl_order.specs.Names.{bytes_cmp, has}
use Rattle.fsl_order.proofs.Orders.{bytes_cmp-IsTotalOrder}
use Rattle.fsl_order.proofs.AscendingLemmas.{has-ascending, ascending-same}
use Rattle.fsl_table.specs.Contents.{value_at}
use Rattle.fsl_table.proofs.Entries.{none_above}
use Rattle.fsl_links.specs.declared.Fact.{Fact}
use Rattle.fsl_links.specs.Links.{checkin, primary, children}
use Rattle.fsl_order.proofs.SortedLemmas.{ascending-from}
use Rattle.fsl_table.proofs.Seconds.{seconds_sorted, has_seconds}
use Rattle.fsl_table.specs.Pairs.{seconds}
use Rattle.fsl_links.specs.Kept.{fact_of, facts_of, lists, leader, Rows, IsKept}

abbrev pub Es : Type 0
Es = List (List ℕ × List (List ℕ))

abbrev fact : List ℕ → List (List ℕ) → Fact
fact k ps = record { name = k; parents = ps }

checkin-is : (es : Es) (q : List ℕ) → checkin (facts_of es) q ≡ option_map (fact q) (value_at bytes_cmp q es)
checkin-is [] q = refl
checkin-is (e ∷ es) q =
    ap (cond (bytes_eq e.0 q) (Some (fact_of e))) (checkin-is es q)
    ∙ elim (bytes_eq e.0 q) as (λ b. bytes_eq e.0 q ≡ b → cond b (Some (fact_of e)) (option_map (fact q) (value_at bytes_cmp q es)) ≡ option_map (fact q) (cond b (Some e.1) (value_at bytes_cmp q es))) [
      | true ↦ λ h. ap (λ n. Some (fact n e.1)) ((bytes_decides e.0 q).0 h)
      | false ↦ λ h. refl
    ] refl
    ∙ ap (λ b. option_map (fact q) (cond b (Some e.1) (value_at bytes_cmp q es))) (nat_list_eq_equiv.symm e.0 q ∙ texts_ties q e.0)

abbrev pub first_of_parents : Option (List (List ℕ)) → Option (List ℕ)
first_of_parents r = option_and_then (λ ps. slice_get ps 0) r

pub primary-is : (es : Es) (q : List ℕ) → primary (facts_of es) q ≡ leader es (first_of_parents (value_at bytes_cmp q es))
primary-is es q =
    ap (λ r. option_map (λ p. p.name) (option_and_then (checkin (facts_of es)) (option_and_then (λ f. slice_get f.parents 0) r))) (checkin-is es q)
    ∙ outer (value_at bytes_cmp q es)
  where
    named : (p : List ℕ) (r : Option (List (List ℕ))) → option_map (λ f. f.name) (option_map (fact p) r) ≡ option_map (λ _. p) r
    named p None = refl
    named p (Some v) = refl

    inner : (s : Option (List ℕ)) → option_map (λ p. p.name) (option_and_then (checkin (facts_of es)) s) ≡ leader es s
    inner None = refl
    inner (Some p) = ap (option_map (λ f. f.name)) (checkin-is es p) ∙ named p (value_at bytes_cmp p es)

    outer : (r : Option (List (List ℕ))) → option_map (λ p. p.name) (option_and_then (checkin (facts_of es)) (option_and_then (λ f. slice_get f.parents 0) (option_map (fact q) r))) ≡ leader es (first_of_parents r)
    outer None = refl
    outer (Some ps) = inner (slice_get ps 0)

abbrev named_children : Es → List ℕ → List (List ℕ)
named_children es q = map (λ f. f.name) (filter (λ f. has f.parents q) (facts_of es))

has-named : (es : Es) (q c : List ℕ) → IsStrictlySortedBy bytes_cmp (keys_of es) → has (named_children es q) c ≡ lists (value_at bytes_cmp c es) q
unfolding IsStrictlySortedBy
has-named [] q c h = refl
has-named (e ∷ es) q c h =
    elim (bytes_eq c e.0) as (λ b. bytes_eq c e.0 ≡ b → has (named_children (e ∷ es) q) c ≡ lists (cond b (Some e.1) (value_at bytes_cmp c es)) q) [
      | true ↦ λ t.
          let none : value_at bytes_cmp c es ≡ None = ap (λ n. value_at bytes_cmp n es) ((bytes_decides c e.0).0 t) ∙ none_above bytes_cmp-IsTotalOrder e.0 es h.0 in
          let rest : has (named_children es q) c ≡ false = has-named es q c h.1 ∙ ap (λ r. lists r q) none in
          elim (has e.1 q) as (λ b. has (map (λ f. f.name) (cond b (fact_of e ∷ filter (λ f. has f.parents q) (facts_of es)) (filter (λ f. has f.parents q) (facts_of es)))) c ≡ b) [
            | true ↦ ap (λ b. b || has (named_children es q) c) t
            | false ↦ rest
          ]
      | false ↦ λ t.
          elim (has e.1 q) as (λ b. has (map (λ f. f.name) (cond b (fact_of e ∷ filter (λ f. has f.parents q) (facts_of es)) (filter (λ f. has f.parents q) (facts_of es)))) c ≡ lists (value_at bytes_cmp c es) q) [
            | true ↦ ap (λ b. b || has (named_children es q) c) t ∙ has-named es q c h.1
            | false ↦ has-named es q c h.1
          ]
    ] refl
    ∙ ap (λ b. lists (cond b (Some e.1) (value_at bytes_cmp c es)) q) (texts_ties c e.0)

pub has-children : (es : Es) (q c : List ℕ) → IsStrictlySortedBy bytes_cmp (keys_of es) → has (children (facts_of es) q) c ≡ lists (value_at bytes_cmp c es) q
has-children es q c h = has-ascending (named_children es q) c ∙ has-named es q c h

pub children-same : (es fs : Es) (q : List ℕ) → IsStrictlySortedBy bytes_cmp (keys_of es) → IsStrictlySortedBy bytes_cmp (keys_of fs)
    → ((c : List ℕ) → lists (value_at bytes_cmp c es) q ≡ lists (value_at bytes_cmp c fs) q) → children (facts_of es) q ≡ children (facts_of fs) q
children-same es fs q h k same = ascending-same (named_children es q) (named_children fs q) (λ c. has-named es q c h ∙ same c ∙ sym (has-named fs q c k))

-- the children in the pairs are those of the facts
pub seconds-children : (r : Rows) (q : List ℕ) → IsKept r → seconds q r.children.entries ≡ children (facts_of r.facts.entries) q
seconds-children r q k =
    ascending-from (named_children r.facts.entries q) (seconds q r.children.entries) (seconds_sorted q r.children.entries k.pairs_ordered)
    (λ c. has_seconds q c r.children.entries ∙ k.pairs (record { first = q; second = Some c }) ∙ sym (has-named r.facts.entries q c k.ordered))

pub leader-there : (es : Es) (p : List ℕ) (b : Bool) → is_some (value_at bytes_cmp p es) ≡ b → leader es (Some p) ≡ cond b (Some p) None
leader-there es p b h = by (value_at bytes_cmp p es) b h
  where
    by : (r : Option (List (List ℕ))) (b : Bool) → is_some r ≡ b → option_map (λ _. p) r ≡ cond b (Some p) None
    by None true h = cc
    by None false h = refl
    by (Some v) true h = refl
    by (Some v) false h = cc
