-- The rows that are to be follow from one another, and the children among the pairs are those that have the parent.
use mathlib.Core.Bool.{true≢false}
use Rattle.std.specs.Prelude.{◌⊎◌, ◌≡◌, ℕ, ◌+◌, ◌≤◌, List, [], ◌∷◌, ◌++◌, length, Bool, true, false, ◌||◌, cond, Option, Some, None, is_some, option_and_then}
use Rattle.std.proofs.Common.{refl, sym, ap, ◌∙◌, subst, arith, inl, inr, ⊎_elim}
use Rattle.std.specs.Str.{bytes_eq}
use Rattle.std.specs.List.{AllByRecursion}
use Rattle.std.specs.Map.{keys_of}
use Rattle.std.specs.List.Sorted.{IsStrictlySortedBy}
use Rattle.std.specs.Ordering.{is_eq}
use Rattle.std.specs.Cmp.Lexicographic.{texts_ties, bytes_decides}
use Rattle.fsl_order.specs.Names.{bytes_cmp, has}
use Rattle.fsl_table.specs.declared.key.Pair.{Pair}
use Rattle.fsl_table.specs.Contents.{value_at}
use Rattle.fsl_tags.specs.declared.Assertion.{Assertion}
use Rattle.fsl_tags.specs.declared.node.Node.{Node}
use Rattle.fsl_tags.specs.Joined.{joined}
use Rattle.fsl_tags.specs.Climbed.{row_up}
use Rattle.fsl_tags.specs.Same.{same_rows}
use Rattle.fsl_tags.specs.Spread.{holds_some, wrong, IsSpread, IsSpreading}
use Rattle.fsl_table.specs.Pairs.{seconds}
use Rattle.fsl_table.specs.Pairs.{is_name}
use Rattle.fsl_tags.specs.Laid.{Rises, row_in, parent_in, settled, AreLaid}
use Rattle.fsl_table.proofs.Seconds.{has_seconds}
use Rattle.fsl_tags.proofs.Climbs.{climbed-rises, climbed-law, put_row, spreading-next, less-next}

pub has-keys : {X : Type 0} (q : List ℕ) (es : List (List ℕ × X)) → has (keys_of es) q ≡ is_some (value_at bytes_cmp q es)
has-keys q [] = refl
has-keys q (e ∷ es) = (λ i. texts_ties q e.0 i || has-keys q es i) ∙ either (is_eq (bytes_cmp q e.0)) e.1 (value_at bytes_cmp q es)
  where
    either : {X : Type 0} (b : Bool) (v : X) (r : Option X) → (b || is_some r) ≡ is_some (cond b (Some v) r)
    either true v r = refl
    either false v r = refl

-- what has a parent is there
pub has-parent : (facts : List (List ℕ × Node)) (v w : List ℕ) → parent_in facts v ≡ Some w → has (keys_of facts) v ≡ true
has-parent facts v w h = has-keys v facts ∙ there (value_at bytes_cmp v facts) h
  where
    there : (o : Option Node) → option_and_then (λ n. n.parent) o ≡ Some w → is_some o ≡ true
    there None e = cc
    there (Some n) e = refl

pub as-many : (facts : List (List ℕ × Node)) → length (keys_of facts) ≤ length facts
as-many [] = omega arith
as-many (e ∷ facts) = let h = as-many facts in omega (arith, h)

module _ (facts : List (List ℕ × Node)) (own : List (List ℕ × List Assertion)) (rise : (x : List ℕ) → Rises (row_in own x)) where
  pub settled-law : (x : List ℕ) → settled facts own x ≡ joined (row_up (settled facts own) (parent_in facts x)) (row_in own x)
  settled-law x = climbed-law (parent_in facts) (row_in own) rise (length facts) (keys_of facts) (has-parent facts) (as-many facts) x

  pub settled-rises : (x : List ℕ) → Rises (settled facts own x)
  settled-rises x = climbed-rises (parent_in facts) (row_in own) rise (length facts) x

-- ---- the children

name_some : (o : Option (List ℕ)) (p : List ℕ) → is_name o p ≡ true → o ≡ Some p
name_some None p h = cc
name_some (Some q) p h = ap (λ (x : List ℕ). Some x) ((bytes_decides q p).0 h)

some_name : (o : Option (List ℕ)) (p : List ℕ) → o ≡ Some p → is_name o p ≡ true
some_name o p e = ap (λ o. is_name o p) e ∙ (bytes_decides p p).1 refl

module _ (facts : List (List ℕ × Node)) (children : List (Pair × Unit {0})) (own : List (List ℕ × List Assertion)) (laid : AreLaid facts children own) where
  pub kid-parent : (p c : List ℕ) → has (seconds p children) c ≡ true → parent_in facts c ≡ Some p
  kid-parent p c h = name_some (parent_in facts c) p (sym (laid.pairs (record { first = p; second = Some c })) ∙ sym (has_seconds p c children) ∙ h)

  pub parent-kid : (p c : List ℕ) → parent_in facts c ≡ Some p → has (seconds p children) c ≡ true
  parent-kid p c h = has_seconds p c children ∙ laid.pairs (record { first = p; second = Some c }) ∙ some_name (parent_in facts c) p h

  pub kids-parents : (p : List ℕ) → AllByRecursion (λ c. parent_in facts c ≡ Some p) (seconds p children)
  kids-parents p = each (seconds p children) (λ c h. kid-parent p c h)
    where
      each : (cs : List (List ℕ)) → ((c : List ℕ) → has cs c ≡ true → parent_in facts c ≡ Some p) → AllByRecursion (λ c. parent_in facts c ≡ Some p) cs
      each [] all = tt
      each (c ∷ cs) all = (all c (ap (λ b. b || has cs c) ((bytes_decides c c).1 refl)), each cs (λ d h. all d (ap (λ b. bytes_eq d c || b) h ∙ or-true (bytes_eq d c))))
        where
          or-true : (b : Bool) → (b || true) ≡ true
          or-true true = refl
          or-true false = refl

-- ---- one child more

module _ (par : List ℕ → Option (List ℕ)) (own right : List ℕ → List Assertion) (root : List ℕ) (law : (x : List ℕ) → right x ≡ joined (row_up right (par x)) (own x))
    (at c : List ℕ) (up : par c ≡ Some at) (left waiting then_waiting : List (List ℕ)) (start rows then : List ℕ → List Assertion) (above : List Assertion) (is : above ≡ right at)
    (row : (x : List ℕ) → then x ≡ cond (bytes_eq x c) (joined above (own c)) (rows x))
    (more : then_waiting ≡ waiting ++ cond (same_rows (rows c) (joined above (own c))) [] (c ∷ []))
    (s : IsSpreading par own right root at (c ∷ left) waiting start rows) where
  above_here : above ≡ rows at
  above_here = is ∙ sym s.here

  then_is : put_row c (joined (rows at) (own c)) rows ≡ then
  then_is = λ i x. ((λ j. cond (bytes_eq x c) (joined (sym above_here j) (own c)) (rows x)) ∙ sym (row x)) i

  waiting_is : waiting ++ cond (same_rows (rows c) (joined (rows at) (own c))) [] (c ∷ []) ≡ then_waiting
  waiting_is = (λ i. waiting ++ cond (same_rows (rows c) (joined (sym above_here i) (own c))) [] (c ∷ [])) ∙ sym more

  pub follows : IsSpreading par own right root at left then_waiting start then
  follows = subst (λ w. IsSpreading par own right root at left w start then) waiting_is (subst (λ r. IsSpreading par own right root at left (waiting ++ cond (same_rows (rows c) (joined (rows at) (own c))) [] (c ∷ [])) start r) then_is (spreading-next par own right root law at c up left waiting start rows s))

  pub follows-less : (names : List (List ℕ)) → has names c ≡ true → length then_waiting + wrong right then names ≤ length waiting + wrong right rows names
  follows-less names there =
      subst (λ w. length w + wrong right then names ≤ length waiting + wrong right rows names) waiting_is
      (subst (λ r. length (waiting ++ cond (same_rows (rows c) (joined (rows at) (own c))) [] (c ∷ [])) + wrong right r names ≤ length waiting + wrong right rows names) then_is
      (less-next par own right root law at c up left waiting start rows s names there))

-- ---- the beginning, and one name after another

module _ (par : List ℕ → Option (List ℕ)) (own right : List ℕ → List Assertion) (root : List ℕ) where
  pub spread-begins : (waiting : List (List ℕ)) (rows : List ℕ → List Assertion) → waiting ≡ root ∷ [] → rows root ≡ right root
      → ((x : List ℕ) → bytes_eq x root ≡ false → (rows x ≡ joined (row_up rows (par x)) (own x)) ⊎ (par x ≡ Some root)) → IsSpread par own right root waiting rows rows
  spread-begins waiting rows is here even = subst (λ w. IsSpread par own right root w rows rows) (sym is) (record {
    each = λ x. inl refl;
    ready = λ x h. let same : x ≡ root = (bytes_decides x root).0 (sym (or-false (bytes_eq x root)) ∙ h) in ap rows same ∙ here ∙ sym (ap right same);
    even = λ x other. ⊎_elim {C = (rows x ≡ joined (row_up rows (par x)) (own x)) ⊎ (holds_some (root ∷ []) (par x) ≡ true)}
        (λ (e : rows x ≡ joined (row_up rows (par x)) (own x)). inl e)
        (λ (e : par x ≡ Some root). inr (ap (holds_some (root ∷ [])) e ∙ ap (λ b. b || false) ((bytes_decides root root).1 refl)))
        (even x other);
  })
    where
      or-false : (b : Bool) → (b || false) ≡ b
      or-false true = refl
      or-false false = refl

  pub spread-again : (waiting : List (List ℕ)) (start rows : List ℕ → List Assertion) → IsSpread par own right root waiting start rows → IsSpread par own right root waiting rows rows
  spread-again waiting start rows s = record { each = λ x. inl refl; ready = s.ready; even = s.even }

  pub spread-chain : (waiting old : List (List ℕ)) (start mid rows : List ℕ → List Assertion) → IsSpread par own right root old start mid → IsSpread par own right root waiting mid rows → IsSpread par own right root waiting start rows
  spread-chain waiting old start mid rows s t = record {
    each = λ x. ⊎_elim {C = (rows x ≡ start x) ⊎ (rows x ≡ right x)}
        (λ (e : rows x ≡ mid x). ⊎_elim {C = (rows x ≡ start x) ⊎ (rows x ≡ right x)} (λ (f : mid x ≡ start x). inl (e ∙ f)) (λ (f : mid x ≡ right x). inr (e ∙ f)) (s.each x))
        (λ (e : rows x ≡ right x). inr e)
        (t.each x);
    ready = t.ready;
    even = t.even;
  }

pub length-last : (xs ys : List (List ℕ)) (y : List ℕ) → xs ≡ ys ++ y ∷ [] → length xs ≡ length ys + 1
length-last xs ys y e = ap length e ∙ last ys
  where
    last : (xs : List (List ℕ)) → length (xs ++ y ∷ []) ≡ length xs + 1
    last [] = refl
    last (x ∷ xs) = let h = last xs in omega (arith, h)

-- where a name has another row, each other name follows from its parent's as before, or has this name as parent
module _ (par : List ℕ → Option (List ℕ)) (own rows then : List ℕ → List Assertion) (root : List ℕ) (row : List Assertion) (is : (x : List ℕ) → then x ≡ cond (bytes_eq x root) row (rows x)) where
  pub even-then : (x : List ℕ) → bytes_eq x root ≡ false → rows x ≡ joined (row_up rows (par x)) (own x) → (then x ≡ joined (row_up then (par x)) (own x)) ⊎ (par x ≡ Some root)
  even-then x other e =
      elim (par x) as (λ o. rows x ≡ joined (row_up rows o) (own x) → (then x ≡ joined (row_up then o) (own x)) ⊎ (o ≡ Some root)) [
        | None ↦ λ q. inl (same x other ∙ q)
        | Some p ↦ λ q. elim (bytes_eq p root) as (λ b. bytes_eq p root ≡ b → (then x ≡ joined (then p) (own x)) ⊎ (Some p ≡ Some root)) [
          | true ↦ λ h. inr (ap (λ (y : List ℕ). Some y) ((bytes_decides p root).0 h))
          | false ↦ λ h. inl (same x other ∙ q ∙ ap (λ r. joined r (own x)) (sym (same p h)))
        ] refl
      ] e
    where
      same : (x : List ℕ) → bytes_eq x root ≡ false → then x ≡ rows x
      same x h = is x ∙ ap (λ b. cond b row (rows x)) h

-- nothing waits: each but the root follows from its parent's
pub even-end : (par : List ℕ → Option (List ℕ)) (own right : List ℕ → List Assertion) (root : List ℕ) (start rows : List ℕ → List Assertion) → IsSpread par own right root [] start rows
    → (x : List ℕ) → bytes_eq x root ≡ false → rows x ≡ joined (row_up rows (par x)) (own x)
even-end par own right root start rows s x other =
    ⊎_elim {C = rows x ≡ joined (row_up rows (par x)) (own x)} (λ (e : rows x ≡ joined (row_up rows (par x)) (own x)). e) (λ (e : holds_some [] (par x) ≡ true). absurd (nothing (par x) e)) (s.even x other)
  where
    nothing : (o : Option (List ℕ)) → holds_some [] o ≡ true → ⊥
    nothing None h = true≢false (sym h)
    nothing (Some p) h = true≢false (sym h)

-- what is as it was when the root was placed is as it was before or right
pub placed : (rows mid then right : List ℕ → List Assertion) (root : List ℕ) (row : List Assertion) → row ≡ right root → ((x : List ℕ) → mid x ≡ cond (bytes_eq x root) row (rows x))
    → (x : List ℕ) → (then x ≡ mid x) ⊎ (then x ≡ right x) → (then x ≡ rows x) ⊎ (then x ≡ right x)
placed rows mid then right root row is put x each =
    ⊎_elim {C = (then x ≡ rows x) ⊎ (then x ≡ right x)}
    (λ (e : then x ≡ mid x). elim (bytes_eq x root) as (λ b. bytes_eq x root ≡ b → (then x ≡ rows x) ⊎ (then x ≡ right x)) [
      | true ↦ λ h. inr (e ∙ put x ∙ ap (λ b. cond b row (rows x)) h ∙ is ∙ sym (ap right ((bytes_decides x root).0 h)))
      | false ↦ λ h. inl (e ∙ put x ∙ ap (λ b. cond b row (rows x)) h)
    ] refl)
    (λ (e : then x ≡ right x). inr e)
    each

-- the root has the row that was put
pub put_here : (rows mid : List ℕ → List Assertion) (root : List ℕ) (row : List Assertion) → ((x : List ℕ) → mid x ≡ cond (bytes_eq x root) row (rows x)) → mid root ≡ row
put_here rows mid root row put = put root ∙ ap (λ b. cond b row (rows root)) ((bytes_decides root root).1 refl)

pub right_end : (mid then right : List Assertion) → mid ≡ right → (then ≡ mid) ⊎ (then ≡ right) → then ≡ right
right_end mid then right is (inl same) = same ∙ is
right_end mid then right is (inr done) = done

-- where a name's pairs are by the facts, its children are at most itself, if it had none before
pub only_self : (facts then : List (List ℕ × Node)) (old new : List (Pair × Unit {0})) (own : List (List ℕ × List Assertion)) (name : List ℕ) → AreLaid facts old own → AreLaid then new own
    → ((x : List ℕ) → bytes_eq x name ≡ false → parent_in facts x ≡ parent_in then x) → seconds name old ≡ [] → AllByRecursion (λ c. bytes_eq c name ≡ true) (seconds name new)
only_self facts then old new own name was laid same none = each (seconds name new) (kids-parents then new own laid name)
  where
    each : (cs : List (List ℕ)) → AllByRecursion (λ c. parent_in then c ≡ Some name) cs → AllByRecursion (λ c. bytes_eq c name ≡ true) cs
    each [] all = tt
    each (c ∷ cs) all = (
      elim (bytes_eq c name) as (λ b. bytes_eq c name ≡ b → b ≡ true) [
        | true ↦ λ _. refl
        | false ↦ λ h. absurd (true≢false (sym (parent-kid facts old own was name c (same c h ∙ all.0)) ∙ ap (λ ks. has ks c) none))
      ] refl,
      each cs all.1,
    )

pub one_self : (name : List ℕ) (cs : List (List ℕ)) → IsStrictlySortedBy bytes_cmp cs → AllByRecursion (λ c. bytes_eq c name ≡ true) cs → length cs ≤ 1
unfolding IsStrictlySortedBy
one_self name [] up all = omega arith
one_self name (c ∷ []) up all = omega arith
one_self name (c ∷ d ∷ cs) up all =
    absurd (true≢false (sym ((bytes_decides name name).1 refl) ∙ texts_ties name name ∙ ap is_eq ((λ i. bytes_cmp (sym ((bytes_decides c name).0 all.0) i) (sym ((bytes_decides d name).0 all.1.0) i)) ∙ up.0.0)))
