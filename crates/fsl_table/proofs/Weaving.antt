-- A tree's entries with those that wait beside it: what each change of either does to the whole.
use Rattle.std.proofs.Common.{◌≡◌, ℕ, zero, suc, ◌+◌, ◌-◌, ◌<◌, ◌≤◌, Bool, true, false, cond, List, [], ◌∷◌, ◌++◌, length, get_or, drop, drop-cons, refl, sym, ap, subst, ◌∙◌, arith}
use mathlib.Core.Bool.{true≢false}
use Rattle.std.specs.declared.option.Option.{Option}
use Rattle.std.specs.declared.option.Option.TheVariants.{Some, None}
use Rattle.std.specs.declared.cmp.Ordering.{Ordering}
use Rattle.std.specs.declared.cmp.Ordering.TheVariants.{Equal}
use Rattle.std.specs.Ordering.{is_eq, is_lt}
use Rattle.std.specs.Cmp.{IsTotalOrder, tied_back, Equal-is}
use Rattle.std.specs.List.{filter, slice_get}
use Rattle.std.specs.List.Sorted.{IsStrictlySortedBy}
use Rattle.std.specs.Map.{lookup, remove_entry, set_value, keys_of}
use Rattle.std.specs.BTreeMap.{is_at, insert_entry}
use Rattle.fsl_table.specs.Weave.{weave, IsApart, lower, place}
use Rattle.fsl_table.proofs.Places.{place_some, place_none}
use Rattle.fsl_table.proofs.Entries.{first-insert_entry, next-insert_entry, back, apart_test, lookup-insert_entry, sorted-insert_entry, lookup-none-remove_entry, insert_entry-swap, insert_entry-again, remove_entry-insert_entry, remove_entry-undoes, length-insert_entry}

none_first : {X : Type 0} (b : Bool) (x : X) (r : Option X) → cond b (Some x) r ≡ None → (b ≡ false) × (r ≡ None)
none_first true x r h = cc
none_first false x r h = (refl, h)

-- the first that is there
abbrev pub first_some : {X : Type 0} → Option X → Option X → Option X
first_some None r = r
first_some (Some x) r = Some x

first_cond : {X : Type 0} (b : Bool) (x : X) (l r : Option X) → cond b (Some x) (first_some l r) ≡ first_some (cond b (Some x) l) r
first_cond true x l r = refl
first_cond false x l r = refl

module _ {K : Type 0} {R : K → K → Ordering} (o : IsTotalOrder R) where
  untied : (k j : K) → is_eq (R k j) ≡ false → R j k ≡ Equal → ⊥
  untied k j h e = true≢false (sym (ap is_eq (back o j k Equal e)) ∙ h)

  untied' : (k j : K) → is_eq (R k j) ≡ false → R k j ≡ Equal → ⊥
  untied' k j h e = true≢false (sym (ap is_eq e) ∙ h)

  module _ {X : Type 0} where
    pub sorted-weave : (es tree : List (K × X)) → IsStrictlySortedBy R (keys_of tree) → IsStrictlySortedBy R (keys_of (weave R es tree))
    sorted-weave [] tree s = s
    sorted-weave (e ∷ es) tree s = sorted-insert_entry o e.0 e.1 (weave R es tree) (sorted-weave es tree s)

    pub lookup-weave : (q : K) (es tree : List (K × X)) → lookup (is_at (R q)) (weave R es tree) ≡ first_some (lookup (is_at (R q)) es) (lookup (is_at (R q)) tree)
    lookup-weave q [] tree = refl
    lookup-weave q (e ∷ es) tree =
        lookup-insert_entry o q e.0 e.1 (weave R es tree)
        ∙ ap (λ r. cond (is_eq (R q e.0)) (Some e.1) r) (lookup-weave q es tree)
        ∙ first_cond (is_eq (R q e.0)) e.1 (lookup (is_at (R q)) es) (lookup (is_at (R q)) tree)

    -- ---- a change of the tree at a key that does not wait
    pub weave-insert_entry : (k : K) (v : X) (es tree : List (K × X)) → lookup (is_at (R k)) es ≡ None → weave R es (insert_entry R tree k v) ≡ insert_entry R (weave R es tree) k v
    weave-insert_entry k v [] tree none = refl
    weave-insert_entry k v (e ∷ es) tree none =
        let n = none_first (is_eq (R k e.0)) e.1 (lookup (is_at (R k)) es) none in
        ap (λ l. insert_entry R l e.0 e.1) (weave-insert_entry k v es tree n.1)
        ∙ insert_entry-swap o e.0 k e.1 v (weave R es tree) (untied' k e.0 n.0)

    pub weave-remove_entry : (k : K) (es tree : List (K × X)) → IsStrictlySortedBy R (keys_of tree) → lookup (is_at (R k)) es ≡ None → weave R es (remove_entry (is_at (R k)) tree) ≡ remove_entry (is_at (R k)) (weave R es tree)
    weave-remove_entry k [] tree s none = refl
    weave-remove_entry k (e ∷ es) tree s none =
        let n = none_first (is_eq (R k e.0)) e.1 (lookup (is_at (R k)) es) none in
        ap (λ l. insert_entry R l e.0 e.1) (weave-remove_entry k es tree s n.1)
        ∙ sym (remove_entry-insert_entry o k e.0 e.1 (weave R es tree) (untied k e.0 n.0) (sorted-weave es tree s))

    -- ---- a change of what waits
    pub weave-set_value : (k : K) (w : X) (es tree : List (K × X)) (v : X) → lookup (is_at (R k)) es ≡ Some v → weave R (set_value (is_at (R k)) es w) tree ≡ insert_entry R (weave R es tree) k w
    weave-set_value k w [] tree v some = cc
    weave-set_value k w (e ∷ es) tree v some =
        elim (is_eq (R k e.0)) as (λ b. is_eq (R k e.0) ≡ b → cond b (Some e.1) (lookup (is_at (R k)) es) ≡ Some v
        → weave R (cond b ((e.0, w) ∷ es) (e ∷ set_value (is_at (R k)) es w)) tree ≡ insert_entry R (insert_entry R (weave R es tree) e.0 e.1) k w) [
          | true ↦ λ h _. sym (insert_entry-again o k e.0 w e.1 (weave R es tree) (tied_back o k e.0 ((Equal-is (R k e.0)).0 h)))
          | false ↦ λ h some. ap (λ l. insert_entry R l e.0 e.1) (weave-set_value k w es tree v some) ∙ insert_entry-swap o e.0 k e.1 w (weave R es tree) (untied' k e.0 h)
        ] refl some

    pub weave-remove_waiting : (k : K) (es tree : List (K × X)) (v : X) → IsStrictlySortedBy R (keys_of tree) → IsApart R es tree → lookup (is_at (R k)) es ≡ Some v
        → weave R (remove_entry (is_at (R k)) es) tree ≡ remove_entry (is_at (R k)) (weave R es tree)
    weave-remove_waiting k [] tree v s apart some = cc
    weave-remove_waiting k (e ∷ es) tree v s apart some =
        elim (is_eq (R k e.0)) as (λ b. is_eq (R k e.0) ≡ b → cond b (Some e.1) (lookup (is_at (R k)) es) ≡ Some v
        → weave R (cond b es (e ∷ remove_entry (is_at (R k)) es)) tree ≡ remove_entry (is_at (R k)) (insert_entry R (weave R es tree) e.0 e.1)) [
          | true ↦ λ h _. sym (remove_entry-undoes o k e.0 e.1 (weave R es tree) (tied_back o k e.0 ((Equal-is (R k e.0)).0 h)) apart.0)
          | false ↦ λ h some. ap (λ l. insert_entry R l e.0 e.1) (weave-remove_waiting k es tree v s apart.1 some) ∙ sym (remove_entry-insert_entry o k e.0 e.1 (weave R es tree) (untied k e.0 h) (sorted-weave es tree s))
        ] refl some

    -- ---- what waits stays apart
    pub apart-insert_entry : (k : K) (v : X) (es tree : List (K × X)) → lookup (is_at (R k)) es ≡ None → IsApart R es tree → IsApart R es (insert_entry R tree k v)
    apart-insert_entry k v [] tree none apart = tt
    apart-insert_entry k v (e ∷ es) tree none apart =
        let n = none_first (is_eq (R k e.0)) e.1 (lookup (is_at (R k)) es) none in (
          ap (lookup (is_at (R e.0))) (weave-insert_entry k v es tree n.1)
              ∙ lookup-insert_entry o e.0 k v (weave R es tree)
              ∙ ap (λ b. cond b (Some v) (lookup (is_at (R e.0)) (weave R es tree))) (apart_test o e.0 k (untied' k e.0 n.0))
              ∙ apart.0,
          apart-insert_entry k v es tree n.1 apart.1,
        )

    pub apart-remove_entry : (k : K) (es tree : List (K × X)) → IsStrictlySortedBy R (keys_of tree) → lookup (is_at (R k)) es ≡ None → IsApart R es tree → IsApart R es (remove_entry (is_at (R k)) tree)
    apart-remove_entry k [] tree s none apart = tt
    apart-remove_entry k (e ∷ es) tree s none apart =
        let n = none_first (is_eq (R k e.0)) e.1 (lookup (is_at (R k)) es) none in (
          ap (lookup (is_at (R e.0))) (weave-remove_entry k es tree s n.1) ∙ lookup-none-remove_entry o e.0 (is_at (R k)) (weave R es tree) apart.0,
          apart-remove_entry k es tree s n.1 apart.1,
        )

    pub apart-set_value : (k : K) (w : X) (es tree : List (K × X)) (v : X) → lookup (is_at (R k)) es ≡ Some v → IsApart R es tree → IsApart R (set_value (is_at (R k)) es w) tree
    apart-set_value k w [] tree v some apart = tt
    apart-set_value k w (e ∷ es) tree v some apart =
        elim (is_eq (R k e.0)) as (λ b. is_eq (R k e.0) ≡ b → cond b (Some e.1) (lookup (is_at (R k)) es) ≡ Some v → IsApart R (cond b ((e.0, w) ∷ es) (e ∷ set_value (is_at (R k)) es w)) tree) [
          | true ↦ λ _ _. apart
          | false ↦ λ h some. (
            ap (lookup (is_at (R e.0))) (weave-set_value k w es tree v some)
                ∙ lookup-insert_entry o e.0 k w (weave R es tree)
                ∙ ap (λ b. cond b (Some w) (lookup (is_at (R e.0)) (weave R es tree))) (apart_test o e.0 k (untied' k e.0 h))
                ∙ apart.0,
            apart-set_value k w es tree v some apart.1,
          )
        ] refl some

    pub apart-remove_waiting : (k : K) (es tree : List (K × X)) (v : X) → IsStrictlySortedBy R (keys_of tree) → lookup (is_at (R k)) es ≡ Some v → IsApart R es tree → IsApart R (remove_entry (is_at (R k)) es) tree
    apart-remove_waiting k [] tree v s some apart = tt
    apart-remove_waiting k (e ∷ es) tree v s some apart =
        elim (is_eq (R k e.0)) as (λ b. is_eq (R k e.0) ≡ b → cond b (Some e.1) (lookup (is_at (R k)) es) ≡ Some v → IsApart R (cond b es (e ∷ remove_entry (is_at (R k)) es)) tree) [
          | true ↦ λ _ _. apart.1
          | false ↦ λ h some. (
            ap (lookup (is_at (R e.0))) (weave-remove_waiting k es tree v s apart.1 some) ∙ lookup-none-remove_entry o e.0 (is_at (R k)) (weave R es tree) apart.0,
            apart-remove_waiting k es tree v s some apart.1,
          )
        ] refl some

    pub length-weave : (es tree : List (K × X)) → IsApart R es tree → length (weave R es tree) ≡ length tree + length es
    length-weave [] tree apart = omega arith
    length-weave (e ∷ es) tree apart =
        let h = length-insert_entry o e.0 e.1 (weave R es tree) apart.0 in
        let ih = length-weave es tree apart.1 in
        omega (arith, h, ih)

    -- ---- a look-up, by the place among what waits
    pub lookup-waiting : (q : K) (es tree : List (K × X)) (i : ℕ) (d : K × X) → place (is_at (R q)) es ≡ Some i → lookup (is_at (R q)) (weave R es tree) ≡ Some (get_or es i d).1
    lookup-waiting q es tree i d p = lookup-weave q es tree ∙ ap (λ l. first_some l (lookup (is_at (R q)) tree)) ((place_some (is_at (R q)) es i p).value d)

    pub lookup-tree : (q : K) (es tree : List (K × X)) → place (is_at (R q)) es ≡ None → lookup (is_at (R q)) (weave R es tree) ≡ lookup (is_at (R q)) tree
    lookup-tree q es tree p = lookup-weave q es tree ∙ ap (λ l. first_some l (lookup (is_at (R q)) tree)) (place_none (is_at (R q)) es p)

    -- ---- the first entry, and the first above a key, with one more of what waits
    pub first-weave : (es tree : List (K × X)) (i : ℕ) (e : K × X) → i < length es → e ≡ get_or es i e → IsApart R (drop i es) tree
        → slice_get (weave R (drop i es) tree) 0 ≡ lower R e (slice_get (weave R (drop (suc i) es) tree) 0)
    first-weave es tree i e h is apart =
        let cut : drop i es ≡ e ∷ drop (suc i) es = drop-cons es i e h ∙ ap (λ x. x ∷ drop (suc i) es) (sym is) in
        let a : IsApart R (e ∷ drop (suc i) es) tree = subst (λ l. IsApart R l tree) cut apart in
        ap (λ l. slice_get (weave R l tree) 0) cut ∙ first-insert_entry o e.0 e.1 (weave R (drop (suc i) es) tree) a.0

    pub next-weave : (q : K) (es tree : List (K × X)) (i : ℕ) (e : K × X) → i < length es → e ≡ get_or es i e → IsApart R (drop i es) tree
        → slice_get (filter (λ f. is_lt (R q f.0)) (weave R (drop i es) tree)) 0
        ≡ cond (is_lt (R q e.0)) (lower R e (slice_get (filter (λ f. is_lt (R q f.0)) (weave R (drop (suc i) es) tree)) 0)) (slice_get (filter (λ f. is_lt (R q f.0)) (weave R (drop (suc i) es) tree)) 0)
    next-weave q es tree i e h is apart =
        let cut : drop i es ≡ e ∷ drop (suc i) es = drop-cons es i e h ∙ ap (λ x. x ∷ drop (suc i) es) (sym is) in
        let a : IsApart R (e ∷ drop (suc i) es) tree = subst (λ l. IsApart R l tree) cut apart in
        ap (λ l. slice_get (filter (λ f. is_lt (R q f.0)) (weave R l tree)) 0) cut ∙ next-insert_entry o q e.0 e.1 (weave R (drop (suc i) es) tree) a.0

    pub apart-drop : (es tree : List (K × X)) (i : ℕ) → IsApart R es tree → IsApart R (drop i es) tree
    apart-drop es tree zero apart = apart
    apart-drop [] tree (suc i) apart = apart
    apart-drop (e ∷ es) tree (suc i) apart = apart-drop es tree i apart.1

    -- ---- one step of the search from the end of what waits
    pub first-step : (es tree : List (K × X)) (at : ℕ) (e : K × X) (best : Option (K × X)) → 0 < at → at ≤ length es → e ≡ get_or es (at - 1) e → IsApart R es tree
        → best ≡ slice_get (weave R (drop at es) tree) 0 → lower R e best ≡ slice_get (weave R (drop (at - 1) es) tree) 0
    first-step es tree at e best some within is apart h =
        let n : suc (at - 1) ≡ at = omega arith in
        let l : at - 1 < length es = omega arith in
        ap (lower R e) (h ∙ ap (λ n. slice_get (weave R (drop n es) tree) 0) (sym n)) ∙ sym (first-weave es tree (at - 1) e l is (apart-drop es tree (at - 1) apart))

    pub next-step : (q : K) (es tree : List (K × X)) (at : ℕ) (e : K × X) (best : Option (K × X)) (b : Bool) → is_lt (R q e.0) ≡ b → 0 < at → at ≤ length es → e ≡ get_or es (at - 1) e → IsApart R es tree
        → best ≡ slice_get (filter (λ f. is_lt (R q f.0)) (weave R (drop at es) tree)) 0
        → cond b (lower R e best) best ≡ slice_get (filter (λ f. is_lt (R q f.0)) (weave R (drop (at - 1) es) tree)) 0
    next-step q es tree at e best b t some within is apart h =
        let n : suc (at - 1) ≡ at = omega arith in
        let l : at - 1 < length es = omega arith in
        let r : best ≡ slice_get (filter (λ f. is_lt (R q f.0)) (weave R (drop (suc (at - 1)) es) tree)) 0 = h ∙ ap (λ n. slice_get (filter (λ f. is_lt (R q f.0)) (weave R (drop n es) tree)) 0) (sym n) in
        ap (λ b. cond b (lower R e best) best) (sym t) ∙ ap (λ r. cond (is_lt (R q e.0)) (lower R e r) r) r ∙ sym (next-weave q es tree (at - 1) e l is (apart-drop es tree (at - 1) apart))

    -- ---- the last of what waits goes into the tree
    pub weave-last : (es : List (K × X)) (e : K × X) (tree : List (K × X)) → weave R (es ++ e ∷ []) tree ≡ weave R es (insert_entry R tree e.0 e.1)
    weave-last [] e tree = refl
    weave-last (f ∷ es) e tree = ap (λ l. insert_entry R l f.0 f.1) (weave-last es e tree)

    pub absent-last : (es : List (K × X)) (e : K × X) (tree : List (K × X)) → IsApart R (es ++ e ∷ []) tree → lookup (is_at (R e.0)) tree ≡ None
    absent-last [] e tree apart = apart.0
    absent-last (f ∷ es) e tree apart = absent-last es e tree apart.1

    pub apart-last : (es : List (K × X)) (e : K × X) (tree : List (K × X)) → IsApart R (es ++ e ∷ []) tree → IsApart R es (insert_entry R tree e.0 e.1)
    apart-last [] e tree apart = tt
    apart-last (f ∷ es) e tree apart = (ap (lookup (is_at (R f.0))) (sym (weave-last es e tree)) ∙ apart.0, apart-last es e tree apart.1)
