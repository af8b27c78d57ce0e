-- Sums over the views, and the calls of one pass in a longer history.
use Rattle.std.proofs.Common.{◌≡◌, ◌≢◌, ◌⊎◌, inl, inr, ℕ, zero, suc, ◌+◌, ◌<◌, ◌==◌, List, [], ◌∷◌, ◌++◌, map, length, length-append, set, get_or, Option as Maybe, Some, None, IfSome, Bool, true, false, refl, sym, ap, ◌∙◌, subst, ⊎_elim, arith, eq-eqb, ne_eqb, if◌then◌else◌, append_assoc}
use mathlib.Core.List.{IsPrefix}
use mathlib.Core.Option.{some, some-ne-none, some-injective}
use lib.ListN.{get_elem?}
use Rattle.atomic_table.proofs.Lists.{at_set}
use Rattle.fsl_turn.specs.Told.{Runs}
use Rattle.fsl_history.specs.declared.view.Tale.{Tale}
use Rattle.fsl_history.specs.declared.view.View.{View}
use Rattle.fsl_history.specs.Entries.{Entry, calls_in, calls_by, call_of, IsHistory, IsClosed}
use Rattle.fsl_history.specs.Entries.{shares_in, newcomer, newcomers}
use Rattle.fsl_history.specs.Rule.{total}

module _ {M E A : Type 0} where
  -- the total after a change of one view
  pub total_set : (f : View M E A → ℕ) (vs : List (View M E A)) (i : ℕ) (v w : View M E A) → get_elem? vs i ≡ some v → total f (set vs i w) + f v ≡ total f vs + f w
  total_set f [] i v w e = absurd (some-ne-none v (sym e))
  total_set f (x ∷ xs) zero v w e = let same : f x ≡ f v = ap f (some-injective x v e) in omega (arith, same)
  total_set f (x ∷ xs) (suc i) v w e = let rest = total_set f xs i v w e in omega (arith, rest)

  pub total_snoc : (f : View M E A → ℕ) (vs : List (View M E A)) (w : View M E A) → total f (vs ++ w ∷ []) ≡ total f vs + f w
  total_snoc f [] w = omega arith
  total_snoc f (x ∷ xs) w = let rest = total_snoc f xs w in omega (arith, rest)

  -- where no view weighs by f, none weighs by g
  pub total_none : (f g : View M E A → ℕ) → ((v : View M E A) → f v ≡ 0 → g v ≡ 0) → (vs : List (View M E A)) → total f vs ≡ 0 → total g vs ≡ 0
  total_none f g each [] e = refl
  total_none f g each (x ∷ xs) e = let here = each x (omega (arith, e)) in let rest = total_none f g each xs (omega (arith, e)) in omega (arith, here, rest)

  -- a fact of each view, after a change of one
  pub views_set : (P : ℕ → View M E A → Type 0) (vs : List (View M E A)) (id : ℕ) (w : View M E A) → P id w → ((j : ℕ) (v : View M E A) → j ≢ id → get_elem? vs j ≡ some v → P j v)
      → (j : ℕ) (v : View M E A) → get_elem? (set vs id w) j ≡ some v → P j v
  views_set P vs id w mine others j v e =
      ⊎_elim
      (λ (x : (j ≡ id) × (w ≡ v)). subst (λ (y : ℕ × View M E A). P y.0 y.1) (λ i. (sym x.0 i, x.1 i)) mine)
      (λ (x : (j ≢ id) × (get_elem? vs j ≡ some v)). others j v x.0 x.1)
      (at_set vs id j w v e)

module _ {E A : Type 0} where
  either_way : (b : Bool) (c : E × A) (xs ys zs : List (E × A)) → xs ≡ ys ++ zs → (if b then c ∷ xs else xs) ≡ (if b then c ∷ ys else ys) ++ zs
  either_way true c xs ys zs e = λ i. c ∷ e i
  either_way false c xs ys zs e = e

  pub calls_by-append : (n : ℕ) (xs ys : List (Entry E A)) → calls_by n (xs ++ ys) ≡ calls_by n xs ++ calls_by n ys
  calls_by-append n [] ys = refl
  calls_by-append n (x ∷ xs) ys = either_way (n == x.0) (call_of x) (calls_by n (xs ++ ys)) (calls_by n xs) (calls_by n ys) (calls_by-append n xs ys)

  no_calls : (xs : List (E × A)) → length xs ≡ 0 → xs ≡ []
  no_calls [] e = refl
  no_calls (x ∷ xs) e = absurd (omega (arith, e))

  -- behind a beginning that has all calls of a pass there is none
  pub none_behind : (n : ℕ) (xs zs log : List (Entry E A)) (mine : List (E × A)) → xs ++ zs ≡ log → calls_by n xs ≡ mine → calls_by n log ≡ mine → calls_by n zs ≡ []
  none_behind n xs zs log mine all own told =
      let both : calls_by n xs ++ calls_by n zs ≡ mine = sym (calls_by-append n xs zs) ∙ ap (λ (l : List (Entry E A)). calls_by n l) all ∙ told in
      let whole : length (calls_by n xs ++ calls_by n zs) ≡ length mine = ap (λ (l : List (E × A)). length l) both in
      let front : length (calls_by n xs) ≡ length mine = ap (λ (l : List (E × A)). length l) own in
      no_calls (calls_by n zs) (omega (arith, whole, front, length-append (calls_by n xs) (calls_by n zs)))

  -- one entry more: of this pass, or of another
  pub calls_by-own : (n : ℕ) (e : E) (a : A) → calls_by n ((n, e, a) ∷ []) ≡ (e, a) ∷ []
  calls_by-own n e a = let one : List (E × A) = (e, a) ∷ [] in subst (λ (b : Bool). (if b then one else []) ≡ one) (sym (eq-eqb n n refl)) refl

  pub calls_by-other : (n m : ℕ) (e : E) (a : A) → n ≢ m → calls_by n ((m, e, a) ∷ []) ≡ []
  calls_by-other n m e a apart = let one : List (E × A) = (e, a) ∷ [] in let none_here : List (E × A) = [] in subst (λ (b : Bool). (if b then one else none_here) ≡ none_here) (sym (ne_eqb n m apart)) refl

  pub prefix_on : (xs log ys : List (Entry E A)) → IsPrefix xs log → IsPrefix xs (log ++ ys)
  prefix_on xs log ys p = (p.0 ++ ys, sym (append_assoc xs p.0 ys) ∙ ap (λ (l : List (Entry E A)). l ++ ys) p.1)

  pub calls_in-append : (xs ys : List (Entry E A)) → calls_in (xs ++ ys) ≡ calls_in xs ++ calls_in ys
  calls_in-append [] ys = refl
  calls_in-append (x ∷ xs) ys = λ i. call_of x ∷ calls_in-append xs ys i

module _ {M E A : Type 0} (may : M → E → A → M → Type 0) where
  -- one call more
  runs_snoc : (a b c : M) (cs : List (E × A)) (e : E) (r : A) → Runs may a cs b → may b e r c → Runs may a (cs ++ (e, r) ∷ []) c
  runs_snoc a b c [] e r p q = (c, subst (λ (x : M). may x e r c) p q, refl)
  runs_snoc a b c (x ∷ xs) e r p q = (p.0, p.1, runs_snoc p.0 b c xs e r p.2 q)

  pub history_snoc : (first state last : M) (log : List (Entry E A)) (n : ℕ) (e : E) (r : A) → IsHistory may first log state → may state e r last → IsHistory may first (log ++ (n, e, r) ∷ []) last
  history_snoc first state last log n e r p q = subst (λ (cs : List (E × A)). Runs may first cs last) (sym (calls_in-append log ((n, e, r) ∷ []))) (runs_snoc first state last (calls_in log) e r p q)

module _ {X : Type 0} where
  -- what stands in a list with one more: what stood there, or the new one at the end
  pub at_end : (l : List X) (a b : X) (j : ℕ) → get_elem? (l ++ a ∷ []) j ≡ some b → (get_elem? l j ≡ some b) ⊎ ((j ≡ length l) × (a ≡ b))
  at_end [] a b zero e = inr (refl, some-injective a b e)
  at_end [] a b (suc j) e = absurd (some-ne-none b (sym e))
  at_end (x ∷ xs) a b zero e = inl e
  at_end (x ∷ xs) a b (suc j) e = ⊎_elim (λ (t : get_elem? xs j ≡ some b). inl t) (λ (t : (j ≡ length xs) × (a ≡ b)). inr (let i = t.0 in omega (arith, i), t.1)) (at_end xs a b j e)

  pub at_front : (l m : List X) (a : X) → get_elem? l 0 ≡ some a → get_elem? (l ++ m) 0 ≡ some a
  at_front [] m a e = absurd (some-ne-none a (sym e))
  at_front (x ∷ xs) m a e = e

  pub at_inside : (l : List X) (i : ℕ) (a : X) → get_elem? l i ≡ some a → i < length l
  at_inside [] i a e = absurd (some-ne-none a (sym e))
  at_inside (x ∷ xs) zero a e = omega arith
  at_inside (x ∷ xs) (suc i) a e = let rest = at_inside xs i a e in omega (arith, rest)

pub shares_in-snoc : {E A : Type 0} (ts : List (Tale E A)) (t : Tale E A) → shares_in (ts ++ t ∷ []) ≡ shares_in ts + t.share
shares_in-snoc [] t = omega arith
shares_in-snoc (x ∷ xs) t = let rest = shares_in-snoc xs t in omega (arith, rest)

pub unset : (l : List Bool) (k : ℕ) → k < 1 → get_or (set l 0 false) k false ≡ false
unset [] zero e = refl
unset (x ∷ xs) zero e = refl
unset [] (suc k) e = absurd (omega (arith, e))
unset (x ∷ xs) (suc k) e = absurd (omega (arith, e))

abbrev pub some_or : {X : Type 0} → Maybe X → X → X
some_or None d = d
some_or (Some x) d = x

pub newcomers-next : {E A : Type 0} (n : ℕ) → newcomers {E = E} {A = A} n ++ newcomer n ∷ [] ≡ newcomers (n + 1)
newcomers-next {E} {A} n = ap (λ (k : ℕ). newcomers {E = E} {A = A} k) (let e : suc n ≡ n + 1 = omega arith in e)

pub heads : {X : Type 0} (xs : List X) (a b : X) → xs ≡ a ∷ [] → xs ≡ b ∷ [] → a ≡ b
heads {X} xs a b p q = let e : a ∷ [] ≡ b ∷ [] = sym p ∙ q in ap (λ (l : List X). get_or l 0 a) e

pub if_some : {X : Type 0} (o : Maybe X) (P : X → Type 0) → ((x : X) → o ≡ Some x → P x) → IfSome o P
if_some None P each = tt
if_some (Some x) P each = each x refl

-- where there is no pass, there is no entry
no_entry : {E A : Type 0} (log : List (Entry E A)) → ((n : ℕ) → calls_by n log ≡ []) → log ≡ []
no_entry [] none_of = refl
no_entry {E} {A} (x ∷ xs) none_of =
    let here : (if x.0 == x.0 then call_of x ∷ calls_by x.0 xs else calls_by x.0 xs) ≡ [] = none_of x.0 in
    let now : call_of x ∷ calls_by x.0 xs ≡ [] = subst (λ (b : Bool). (if b then call_of x ∷ calls_by x.0 xs else calls_by x.0 xs) ≡ []) (eq-eqb x.0 x.0 refl) here in
    let long : length (call_of x ∷ calls_by x.0 xs) ≡ 0 = ap (λ (l : List (E × A)). length l) now in
    absurd (omega (arith, long))

-- and the machine is as it came
pub untouched : {M E A : Type 0} (may : M → E → A → M → Type 0) (count : M → ℕ) (births : List (M × ℕ)) (m first : M) → IsClosed {M = M} {E = E} {A = A} may count births [] m → map (λ b. b.0) births ≡ first ∷ [] → first ≡ m
untouched {M} {E} {A} may count births m first closed born =
    let f = closed.finished in
    let none_left : f.log ≡ [] = no_entry f.log (λ n. f.numbers n (omega arith)) in
    let stays : m ≡ closed.first = subst (λ (l : List (Entry E A)). IsHistory may closed.first l m) none_left f.history in
    heads (map (λ b. b.0) births) first closed.first born closed.born ∙ sym stays

pub if_on : {X : Type 0} (o : Maybe X) (P Q : X → Type 0) → ((x : X) → P x → Q x) → IfSome o P → IfSome o Q
if_on None P Q on p = tt
if_on (Some x) P Q on p = on x p

-- who comes behind a history is later
pub runs_later : {M E A : Type 0} (may : M → E → A → M → Type 0) (later : M → M → Type 0) → ((a : M) → later a a) → ((a b c : M) → later a b → later b c → later a c)
    → ((a : M) (e : E) (r : A) (b : M) → may a e r b → later a b) → (a : M) (cs : List (E × A)) (b : M) → Runs may a cs b → later a b
runs_later {M} may later self through one a [] b run = subst (λ (x : M). later a x) (sym run) (self a)
runs_later may later self through one a (c ∷ cs) b run = through a run.0 b (one a c.0 c.1 run.0 run.1) (runs_later may later self through one run.0 cs b run.2)

pub still_born : {M E A : Type 0} (may : M → E → A → M → Type 0) (count : M → ℕ) (births : List (M × ℕ)) (m : M) → IsClosed {M = M} {E = E} {A = A} may count births [] m → map (λ b. b.0) births ≡ m ∷ []
still_born {M} may count births m closed = closed.born ∙ ap (λ (x : M). x ∷ []) (untouched may count births m closed.first closed closed.born)
