-- What items give, after one item more or with another gift at one name. All by look-ups: a list by name is told by what is found in it.
use Rattle.std.proofs.Common.{◌≡◌, ℕ, true, false, cond, List, [], ◌∷◌, Option, Some, None, map, refl, sym, ap, ◌∙◌, subst}
use Rattle.std.specs.Prelude.{◌||◌, filter, not, filter_map, option_and_then, IfSome, Bool, is_some}
use Rattle.std.specs.List.{cons_option}
use Rattle.std.specs.List.Sorted.{IsStrictlySortedBy}
use Rattle.std.specs.Ordering.{eq_by_cmp}
use Rattle.std.specs.Map.{lookup}
use Rattle.std.specs.Str.{bytes_eq}
use Rattle.std.specs.Cmp.Lexicographic.{texts_ties, nat_list_eq_equiv, bytes_decides}
use Rattle.std.specs.FinMap.Entries.{same_entries}
use Rattle.fsl_order.specs.Names.{bytes_cmp, has}
use Rattle.fsl_order.specs.Rows.{keyed, by_name, named}
use Rattle.fsl_order.proofs.Orders.{bytes_cmp-IsTotalOrder, bytes_cmp-IsAntisymmetric}
use Rattle.fsl_order.proofs.RowLemmas.{pairs, find-keyed, is_sorted-keyed, is_some-named}
use Rattle.fsl_order.proofs.NamedLemmas.{named-by_name}
use Rattle.fsl_files.proofs.Ordered.{in_order-rises}
use Rattle.fsl_name.proofs.Rising.{rising-filter}
use Rattle.fsl_cross.specs.Mixed.{mixed}
use Rattle.fsl_cross.proofs.Mapped.{by_name-rising, rising-given, named-given, named-has}

-- a list by name with another gift at a name: put, replaced, or taken out
abbrev pub set_at : {F : Type 0} → (F → List ℕ) → List ℕ → Option F → List F → List F
set_at fact_name q None fs = filter (λ f. not (bytes_eq (fact_name f) q)) fs
set_at fact_name q (Some f) fs = by_name fact_name (f ∷ fs)

named-pairs : {X : Type 0} (name : X → List ℕ) (xs : List X) (q : List ℕ) → named name xs q ≡ lookup (eq_by_cmp bytes_cmp q) (pairs name xs)
named-pairs name [] q = refl
named-pairs name (x ∷ xs) q = λ i. cond ((nat_list_eq_equiv.symm (name x) q ∙ texts_ties q (name x)) i) (Some x) (named-pairs name xs q i)

-- two lists in which the same is found are the same by name
pub by_name-found : {X : Type 0} (name : X → List ℕ) (xs ys : List X) → ((q : List ℕ) → named name xs q ≡ named name ys q) → by_name name xs ≡ by_name name ys
by_name-found name xs ys same =
    ap (map (λ e. e.1)) (same_entries bytes_cmp bytes_cmp-IsTotalOrder bytes_cmp-IsAntisymmetric (keyed bytes_cmp name xs) (keyed bytes_cmp name ys)
    (is_sorted-keyed bytes_cmp-IsTotalOrder name xs) (is_sorted-keyed bytes_cmp-IsTotalOrder name ys)
    (λ q. find-keyed bytes_cmp-IsTotalOrder name q xs ∙ sym (named-pairs name xs q) ∙ same q ∙ named-pairs name ys q ∙ sym (find-keyed bytes_cmp-IsTotalOrder name q ys)))

-- .. and are the same, where both rise
pub rising-found : {X : Type 0} (name : X → List ℕ) (xs ys : List X) → IsStrictlySortedBy bytes_cmp (map name xs) → IsStrictlySortedBy bytes_cmp (map name ys) → ((q : List ℕ) → named name xs q ≡ named name ys q) → xs ≡ ys
rising-found name xs ys h k same = sym (by_name-rising name xs h) ∙ by_name-found name xs ys same ∙ by_name-rising name ys k

-- what is found where a name was taken out
pub named-out : {X : Type 0} (name : X → List ℕ) (p q : List ℕ) (xs : List X) → named name (filter (λ x. not (bytes_eq (name x) p)) xs) q ≡ cond (bytes_eq p q) None (named name xs q)
named-out {X} name p q [] = let none : Option X = None in elim (bytes_eq p q) as (λ b. none ≡ cond b none none) [ true ↦ refl | false ↦ refl ]
named-out name p q (x ∷ xs) =
    elim (bytes_eq (name x) p) as (λ b. bytes_eq (name x) p ≡ b → named name (cond (not b) (x ∷ filter (λ x. not (bytes_eq (name x) p)) xs) (filter (λ x. not (bytes_eq (name x) p)) xs)) q ≡ cond (bytes_eq p q) None (cond (bytes_eq (name x) q) (Some x) (named name xs q))) [
      | true ↦ λ t. named-out name p q xs ∙ gone (bytes_eq (name x) q) (bytes_eq p q) (ap (λ n. bytes_eq n q) ((bytes_decides (name x) p).0 t))
      | false ↦ λ t. elim (bytes_eq p q) as (λ b. bytes_eq p q ≡ b → cond (bytes_eq (name x) q) (Some x) (named name (filter (λ x. not (bytes_eq (name x) p)) xs) q) ≡ cond b None (cond (bytes_eq (name x) q) (Some x) (named name xs q))) [
        | true ↦ λ e. let other : bytes_eq (name x) q ≡ false = subst (λ n. bytes_eq (name x) n ≡ false) ((bytes_decides p q).0 e) t in
            ap (λ b. cond b (Some x) (named name (filter (λ x. not (bytes_eq (name x) p)) xs) q)) other ∙ named-out name p q xs ∙ ap (λ b. cond b None (named name xs q)) e
        | false ↦ λ e. ap (λ o. cond (bytes_eq (name x) q) (Some x) o) (named-out name p q xs ∙ ap (λ b. cond b None (named name xs q)) e)
      ] refl
    ] refl
  where
    gone : (a b : Bool) → a ≡ b → cond b None (named name xs q) ≡ cond b None (cond a (Some x) (named name xs q))
    gone true true e = refl
    gone false false e = refl
    gone true false e = cc
    gone false true e = cc

module _ {X F : Type 0} (name : X → List ℕ) (fact_name : F → List ℕ) (give : X → Option F) (own : (x : X) → IfSome (give x) (λ f. fact_name f ≡ name x)) where
  abbrev Rise : List X → Type 0
  Rise xs = IsStrictlySortedBy bytes_cmp (map name xs)

  -- .. elsewhere all as it was
  pub given-same : (new : X → Option F) → ((x : X) → IfSome (new x) (λ f. fact_name f ≡ name x)) → (xs : List X) → Rise xs → ((y : X) → named name xs (name y) ≡ Some y → new y ≡ give y) → filter_map new xs ≡ filter_map give xs
  given-same new fits xs h same =
      rising-found fact_name (filter_map new xs) (filter_map give xs) (rising-given name fact_name new fits xs h) (rising-given name fact_name give own xs h)
      (λ q. named-given name fact_name new fits xs h q ∙ found q (named name xs q) refl ∙ sym (named-given name fact_name give own xs h q))
    where
      found : (q : List ℕ) (o : Option X) → named name xs q ≡ o → option_and_then new o ≡ option_and_then give o
      found q None e = refl
      found q (Some y) e = same y (subst (λ n. named name xs n ≡ Some y) (sym (named-has name xs q y e)) e)

  -- one item more
  pub given-with : (x : X) (xs : List X) → Rise xs → has (map name xs) (name x) ≡ false → filter_map give (by_name name (x ∷ xs)) ≡ by_name fact_name (cons_option (give x) (filter_map give xs))
  given-with x xs h absent =
      rising-found fact_name (filter_map give (by_name name (x ∷ xs))) (by_name fact_name (cons_option (give x) (filter_map give xs)))
      (rising-given name fact_name give own (by_name name (x ∷ xs)) rises) (in_order-rises fact_name (cons_option (give x) (filter_map give xs)))
      (λ q. named-given name fact_name give own (by_name name (x ∷ xs)) rises q ∙ ap (option_and_then give) (named-by_name name (x ∷ xs) q)
      ∙ found q (give x) refl (own x) ∙ sym (named-by_name fact_name (cons_option (give x) (filter_map give xs)) q))
    where
      rises : Rise (by_name name (x ∷ xs))
      rises = in_order-rises name (x ∷ xs)

      none : (o : Option X) → is_some o ≡ false → o ≡ None
      none None e = refl
      none (Some y) e = cc

      found : (q : List ℕ) (o : Option F) → give x ≡ o → IfSome o (λ f. fact_name f ≡ name x) → option_and_then give (cond (bytes_eq (name x) q) (Some x) (named name xs q)) ≡ named fact_name (cons_option o (filter_map give xs)) q
      found q None e own2 =
          elim (bytes_eq (name x) q) as (λ b. bytes_eq (name x) q ≡ b → option_and_then give (cond b (Some x) (named name xs q)) ≡ named fact_name (filter_map give xs) q) [
            | true ↦ λ t. e ∙ sym (named-given name fact_name give own xs h q ∙ ap (option_and_then give) (none (named name xs q) (is_some-named name xs q ∙ ap (has (map name xs)) (sym ((bytes_decides (name x) q).0 t)) ∙ absent)))
            | false ↦ λ t. sym (named-given name fact_name give own xs h q)
          ] refl
      found q (Some f) e own2 =
          elim (bytes_eq (name x) q) as (λ b. bytes_eq (name x) q ≡ b → option_and_then give (cond b (Some x) (named name xs q)) ≡ cond (bytes_eq (fact_name f) q) (Some f) (named fact_name (filter_map give xs) q)) [
            | true ↦ λ t. e ∙ sym (ap (λ b. cond b (Some f) (named fact_name (filter_map give xs) q)) (ap (λ n. bytes_eq n q) own2 ∙ t))
            | false ↦ λ t. sym (named-given name fact_name give own xs h q) ∙ sym (ap (λ b. cond b (Some f) (named fact_name (filter_map give xs) q)) (ap (λ n. bytes_eq n q) own2 ∙ t))
          ] refl

  -- another gift at one name
  pub given-at : (new : X → Option F) → ((x : X) → IfSome (new x) (λ f. fact_name f ≡ name x)) → (xs : List X) → Rise xs → (x : X) → named name xs (name x) ≡ Some x
      → ((y : X) → bytes_eq (name y) (name x) ≡ false → new y ≡ give y) → filter_map new xs ≡ set_at fact_name (name x) (new x) (filter_map give xs)
  given-at new fits xs h x at same = by (new x) refl (fits x)
    where
      -- what new and give find, where they differ at x alone
      found : (q : List ℕ) → option_and_then new (named name xs q) ≡ cond (bytes_eq (name x) q) (new x) (option_and_then give (named name xs q))
      found q =
          elim (bytes_eq (name x) q) as (λ b. bytes_eq (name x) q ≡ b → option_and_then new (named name xs q) ≡ cond b (new x) (option_and_then give (named name xs q))) [
            | true ↦ λ t. ap (option_and_then new) (ap (named name xs) (sym ((bytes_decides (name x) q).0 t)) ∙ at)
            | false ↦ λ t. other q t (named name xs q) refl
          ] refl
        where
          other : (q : List ℕ) → bytes_eq (name x) q ≡ false → (o : Option X) → named name xs q ≡ o → option_and_then new o ≡ option_and_then give o
          other q t None e = refl
          other q t (Some y) e = same y (ap (λ n. bytes_eq n (name x)) (named-has name xs q y e) ∙ nat_list_eq_equiv.symm q (name x) ∙ t)

      by : (o : Option F) → new x ≡ o → IfSome o (λ f. fact_name f ≡ name x) → filter_map new xs ≡ set_at fact_name (name x) o (filter_map give xs)
      by None e own2 =
          rising-found fact_name (filter_map new xs) (filter (λ f. not (bytes_eq (fact_name f) (name x))) (filter_map give xs))
          (rising-given name fact_name new fits xs h) (rising-filter fact_name (λ f. not (bytes_eq (fact_name f) (name x))) (filter_map give xs) (rising-given name fact_name give own xs h))
          (λ q. named-given name fact_name new fits xs h q ∙ found q ∙ ap (λ o. cond (bytes_eq (name x) q) o (option_and_then give (named name xs q))) e
          ∙ ap (λ o. cond (bytes_eq (name x) q) None o) (sym (named-given name fact_name give own xs h q)) ∙ sym (named-out fact_name (name x) q (filter_map give xs)))
      by (Some f) e own2 =
          rising-found fact_name (filter_map new xs) (by_name fact_name (f ∷ filter_map give xs))
          (rising-given name fact_name new fits xs h) (in_order-rises fact_name (f ∷ filter_map give xs))
          (λ q. named-given name fact_name new fits xs h q ∙ found q ∙ ap (λ o. cond (bytes_eq (name x) q) o (option_and_then give (named name xs q))) e
          ∙ ap (λ o. cond (bytes_eq (name x) q) (Some f) o) (sym (named-given name fact_name give own xs h q))
          ∙ ap (λ n. cond (bytes_eq n q) (Some f) (named fact_name (filter_map give xs) q)) (sym own2) ∙ sym (named-by_name fact_name (f ∷ filter_map give xs) q))

module _ {X F : Type 0} (name : X → List ℕ) (fact_name : F → List ℕ) (old new : X → Option F) (own : (x : X) → IfSome (old x) (λ f. fact_name f ≡ name x)) (fits : (x : X) → IfSome (new x) (λ f. fact_name f ≡ name x)) where
  pub mixed-own : (done : List (List ℕ)) (x : X) → IfSome (mixed name old new done x) (λ f. fact_name f ≡ name x)
  mixed-own done x = elim (has done (name x)) as (λ b. IfSome (cond b (new x) (old x)) (λ f. fact_name f ≡ name x)) [ true ↦ fits x | false ↦ own x ]

  pub mixed-at : (done : List (List ℕ)) (x : X) → mixed name old new (name x ∷ done) x ≡ new x
  mixed-at done x = ap (λ b. cond (b || has done (name x)) (new x) (old x)) ((bytes_decides (name x) (name x)).1 refl)

  pub mixed-other : (done : List (List ℕ)) (x y : X) → bytes_eq (name y) (name x) ≡ false → mixed name old new (name x ∷ done) y ≡ mixed name old new done y
  mixed-other done x y e = ap (λ b. cond (b || has done (name y)) (new y) (old y)) e

  -- the first call, for the item that is put in
  pub mixed-first : (x : X) (xs : List X) → IsStrictlySortedBy bytes_cmp (map name xs) → has (map name xs) (name x) ≡ false
      → filter_map (mixed name old new (name x ∷ [])) (by_name name (x ∷ xs)) ≡ by_name fact_name (cons_option (new x) (filter_map old xs))
  mixed-first x xs h absent =
      given-with name fact_name (mixed name old new (name x ∷ [])) (mixed-own (name x ∷ [])) x xs h absent
      ∙ (λ i. by_name fact_name (cons_option (mixed-at [] x i) (given-same name fact_name old own (mixed name old new (name x ∷ [])) (mixed-own (name x ∷ [])) xs h (λ y e. mixed-other [] x y (apart y e (bytes_eq (name y) (name x)) refl)) i)))
    where
      apart : (y : X) → named name xs (name y) ≡ Some y → (b : Bool) → bytes_eq (name y) (name x) ≡ b → bytes_eq (name y) (name x) ≡ false
      apart y e false t = t
      apart y e true t =
          let there : true ≡ false = sym (ap is_some e) ∙ is_some-named name xs (name y) ∙ ap (has (map name xs)) ((bytes_decides (name y) (name x)).0 t) ∙ absent in cc

  -- a call more, at the name of an item
  pub mixed-next : (xs : List X) → IsStrictlySortedBy bytes_cmp (map name xs) → (done : List (List ℕ)) (x : X) → named name xs (name x) ≡ Some x
      → filter_map (mixed name old new (name x ∷ done)) xs ≡ set_at fact_name (name x) (new x) (filter_map (mixed name old new done) xs)
  mixed-next xs h done x at =
      given-at name fact_name (mixed name old new done) (mixed-own done) (mixed name old new (name x ∷ done)) (mixed-own (name x ∷ done)) xs h x at (mixed-other done x)
      ∙ ap (λ o. set_at fact_name (name x) o (filter_map (mixed name old new done) xs)) (mixed-at done x)

  -- at an item that gives the same in both ways
  pub mixed-same : (xs : List X) → IsStrictlySortedBy bytes_cmp (map name xs) → (done : List (List ℕ)) (x : X) → named name xs (name x) ≡ Some x → new x ≡ old x
      → filter_map (mixed name old new (name x ∷ done)) xs ≡ filter_map (mixed name old new done) xs
  mixed-same xs h done x at same =
      given-same name fact_name (mixed name old new done) (mixed-own done) (mixed name old new (name x ∷ done)) (mixed-own (name x ∷ done)) xs h
      (λ y e. elim (bytes_eq (name y) (name x)) as (λ b. bytes_eq (name y) (name x) ≡ b → mixed name old new (name x ∷ done) y ≡ mixed name old new done y) [
        | true ↦ λ t. let is : y ≡ x = inside (sym e ∙ ap (named name xs) ((bytes_decides (name y) (name x)).0 t) ∙ at) in
            subst (λ z. mixed name old new (name x ∷ done) z ≡ mixed name old new done z) (sym is) (mixed-at done x ∙ elim (has done (name x)) as (λ b. new x ≡ cond b (new x) (old x)) [ true ↦ refl | false ↦ same ])
        | false ↦ λ t. mixed-other done x y t
      ] refl)
    where
      inside : {x y : X} → Some x ≡ Some y → x ≡ y
      inside e = cc

  -- at the end of the loop
  pub mixed-end : (xs : List X) → IsStrictlySortedBy bytes_cmp (map name xs) → (done : List (List ℕ)) → ((y : X) → named name xs (name y) ≡ Some y → has done (name y) ≡ false → new y ≡ old y)
      → filter_map (mixed name old new done) xs ≡ filter_map new xs
  mixed-end xs h done same =
      given-same name fact_name new fits (mixed name old new done) (mixed-own done) xs h
      (λ y e. elim (has done (name y)) as (λ b. has done (name y) ≡ b → cond b (new y) (old y) ≡ new y) [ true ↦ λ _. refl | false ↦ λ d. sym (same y e d) ] refl)
