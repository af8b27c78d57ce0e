-- A post's chain has the end of its next post's chain, circles included.
use Rattle.std.specs.Prelude.{◌≡◌, IsFalse, cond, ℕ, zero, suc, ◌+◌, ◌-◌, ◌<◌, ◌≤◌, List, ◌∷◌, length, true, false, if◌then◌else◌, Option, Some, None, is_none, is_some, map, filter_map, slice_get, option_and_then}
use Rattle.std.proofs.Common.{refl, sym, ap, ◌∙◌, arith, add-one, add-zero}
use Rattle.std.specs.List.{range_with_len, cons_option}
use Rattle.std.specs.Option.{option_or, option_map_or}
use Rattle.std.proofs.Math.ListN.{length-map}
use Rattle.fsl_order.specs.Names.{has}
use Rattle.fsl_order.specs.Rows.{steps_on}
use Rattle.std.specs.Str.{bytes_eq}
use Rattle.std.specs.Cmp.Lexicographic.{bytes_decides}
use Rattle.fsl_order.proofs.Walks.{steps_on-first, steps_on-alike, some_before, passed_at_most}
use Rattle.fsl_order.proofs.RowLemmas.{is_some-named}
use Rattle.fsl_forum.specs.declared.Fact.{Fact}
use Rattle.fsl_forum.specs.Threads.{post, next, next_of, last, end_at, end, EndByNext, WholeStays}

-- ---- the first that a function gives on a range

module _ {X : Type 0} where
  abbrev first : (ℕ → Option X) → ℕ → ℕ → Option X
  first f a n = slice_get (filter_map f (range_with_len a n)) 0

  first-suc : (f : ℕ → Option X) (a n : ℕ) → first f a (suc n) ≡ option_or (f a) (first f (a + 1) n)
  first-suc f a n = elim (f a) as (λ o. slice_get (cons_option o (filter_map f (range_with_len (a + 1) n))) 0 ≡ option_or o (first f (a + 1) n)) [ None ↦ refl | Some v ↦ refl ]

  first-shift : (f g : ℕ → Option X) → ((k : ℕ) → f (k + 1) ≡ g k) → (a n : ℕ) → first f (a + 1) n ≡ first g a n
  first-shift f g is a zero = refl
  first-shift f g is a (suc n) =
      first-suc f (a + 1) n ∙ (λ i. option_or (is a i) (first-shift f g is (a + 1) n i)) ∙ sym (first-suc g a n)

  or-none : (o : Option X) → option_or o None ≡ o
  or-none None = refl
  or-none (Some v) = refl

  or-assoc : (o p q : Option X) → option_or o (option_or p q) ≡ option_or (option_or o p) q
  or-assoc None p q = refl
  or-assoc (Some v) p q = refl

  first-more : (f : ℕ → Option X) (a n : ℕ) → first f a (suc n) ≡ option_or (first f a n) (f (a + n))
  first-more f a zero = first-suc f a zero ∙ or-none (f a) ∙ ap f (sym (add-zero a))
  first-more f a (suc n) =
      first-suc f a (suc n) ∙ ap (option_or (f a)) (first-more f (a + 1) n)
      ∙ or-assoc (f a) (first f (a + 1) n) (f (a + 1 + n))
      ∙ (λ i. option_or (sym (first-suc f a n) i) (f (one_later a n i)))
    where
      one_later : (a n : ℕ) → a + 1 + n ≡ a + suc n
      one_later a n = omega arith

  none-both : (o p : Option X) → option_or o p ≡ None → (o ≡ None) × (p ≡ None)
  none-both None p e = (refl, e)
  none-both (Some v) p e = cc

  none-each : (f : ℕ → Option X) (a n : ℕ) → first f a n ≡ None → (k : ℕ) → k < n → f (a + k) ≡ None
  none-each f a zero e k h = absurd (omega (arith, h))
  none-each f a (suc n) e zero h = ap f (add-zero a) ∙ (none-both (f a) _ (sym (first-suc f a n) ∙ e)).0
  none-each f a (suc n) e (suc k) h =
      ap f (one_later a k) ∙ none-each f (a + 1) n (none-both (f a) _ (sym (first-suc f a n) ∙ e)).1 k (omega (arith, h))
    where
      one_later : (a k : ℕ) → a + suc k ≡ a + 1 + k
      one_later a k = omega arith

  all-none : (f : ℕ → Option X) → ((k : ℕ) → f k ≡ None) → (a n : ℕ) → first f a n ≡ None
  all-none f h a zero = refl
  all-none f h a (suc n) = first-suc f a n ∙ (λ i. option_or (h a i) (all-none f h (a + 1) n i))

-- ---- chains

module _ (facts : List Fact) where
  next_of-is : (x : List ℕ) (f : Fact) → post facts x ≡ Some f → next_of facts x ≡ next f
  next_of-is x f p = ap (option_and_then next) p

  last-is : (x : List ℕ) (f : Fact) (q : Option (List ℕ)) → post facts x ≡ Some f → next f ≡ q → last facts x ≡ (if is_none q then Some f.name else None)
  last-is x f q p e = ap (option_and_then (λ f. if is_none (next f) then Some f.name else None)) p ∙ ap (λ q. if is_none q then Some f.name else None) e

  -- a name with a next post, or that is an end, is a post
  post-there : {B : Type 0} (g : Fact → Option B) (x : List ℕ) (z : B) → option_and_then g (post facts x) ≡ Some z → has (map (λ f. f.name) facts) x ≡ true
  post-there g x z e =
      elim (post facts x) as (λ o. post facts x ≡ o → option_and_then g o ≡ Some z → has (map (λ f. f.name) facts) x ≡ true) [
        | None ↦ λ p q. cc
        | Some f ↦ λ p q. sym (is_some-named (λ f. f.name) facts x) ∙ ap is_some p
      ] refl e

  module _ (y e : List ℕ) (before : (k : ℕ) → k < length facts → end_at facts y k ≡ None) (here : end_at facts y (length facts) ≡ Some e) where
    -- the end stands there
    stands : (z : List ℕ) × (steps_on (next_of facts) y (length facts) ≡ Some z) × (last facts z ≡ Some e)
    stands =
        elim (steps_on (next_of facts) y (length facts)) as (λ o. steps_on (next_of facts) y (length facts) ≡ o → option_and_then (last facts) o ≡ Some e → (z : List ℕ) × (steps_on (next_of facts) y (length facts) ≡ Some z) × (last facts z ≡ Some e)) [
          | None ↦ λ p q. cc
          | Some z ↦ λ p q. (z, p, q)
        ] refl here

    -- each name up to there is a post
    passes : (gap i : ℕ) → i + gap ≡ length facts → (z : List ℕ) × (steps_on (next_of facts) y i ≡ Some z) × (has (map (λ f. f.name) facts) z ≡ true)
    passes zero i h = (stands.0, ap (steps_on (next_of facts) y) (sym (add-zero i) ∙ h) ∙ stands.1, post-there _ stands.0 e stands.2)
    passes (suc gap) i h =
        let later = passes gap (suc i) (one_later i gap ∙ h) in
        let b = some_before (next_of facts) y i later.0 later.1 in
        (b.0, b.1, post-there next b.0 later.0 b.2)
      where
        one_later : (i gap : ℕ) → suc i + gap ≡ i + suc gap
        one_later i gap = omega arith

    apart : (i j : ℕ) → i < j → j ≤ length facts → steps_on (next_of facts) y i ≡ steps_on (next_of facts) y j → ⊥
    apart i j ij jl same =
        let gap = length facts - j in
        let total : j + gap ≡ length facts = omega (arith, jl) in
        let again : end_at facts y (i + gap) ≡ end_at facts y (length facts) = ap (option_and_then (last facts)) (steps_on-alike (next_of facts) y i j gap same ∙ ap (steps_on (next_of facts) y) total) in
        let none = before (i + gap) (omega (arith, ij, jl, total)) in
        no_end (sym none ∙ again ∙ here)
      where
        no_end : None ≡ Some e → ⊥
        no_end h = cc

    too_many : ⊥
    too_many =
        let most = passed_at_most (next_of facts) (map (λ f. f.name) facts) y (length facts) (λ i h. passes (length facts - i) i (omega (arith, h))) apart in
        omega (arith, most, length-map facts (λ f. f.name))

  -- where a chain doesn't end sooner, it doesn't end at as many steps as there are posts
  not_there : (y : List ℕ) → ((k : ℕ) → k < length facts → end_at facts y k ≡ None) → end_at facts y (length facts) ≡ None
  not_there y before =
      elim (end_at facts y (length facts)) as (λ o. end_at facts y (length facts) ≡ o → o ≡ None) [ None ↦ λ _. refl | Some e ↦ λ here. absurd (too_many y e before here) ] refl

  -- one place more changes nothing
  enough : (y : List ℕ) → first (end_at facts y) 0 (length facts) ≡ end facts y
  enough y =
      elim (first (end_at facts y) 0 (length facts)) as (λ o. first (end_at facts y) 0 (length facts) ≡ o → o ≡ option_or o (end_at facts y (0 + length facts))) [
        | Some e ↦ λ _. refl
        | None ↦ λ none. sym (ap (end_at facts y) (zero_plus (length facts)) ∙ not_there y (λ k h. ap (end_at facts y) (sym (zero_plus k)) ∙ none-each (end_at facts y) 0 (length facts) none k h))
      ] refl
      ∙ sym (first-more (end_at facts y) 0 (length facts)) ∙ ap (first (end_at facts y) 0) (sym (add-one (length facts)))
    where
      zero_plus : (n : ℕ) → 0 + n ≡ n
      zero_plus n = omega arith

  unfolded : (x : List ℕ) → end facts x ≡ option_or (last facts x) (first (end_at facts x) (0 + 1) (length facts))
  unfolded x = ap (first (end_at facts x) 0) (add-one (length facts)) ∙ first-suc (end_at facts x) 0 (length facts)

  -- steps from a name whose next is y are those from y, one later
  pub later : (x y : List ℕ) → next_of facts x ≡ Some y → (k : ℕ) → end_at facts x (k + 1) ≡ end_at facts y k
  later x y e k =
      ap (end_at facts x) (add-one k) ∙ ap (option_and_then (last facts)) (steps_on-first (next_of facts) x k ∙ ap (option_and_then (λ y. steps_on (next_of facts) y k)) e)

  no_post : (x : List ℕ) → post facts x ≡ None → (k : ℕ) → end_at facts x k ≡ None
  no_post x p zero = ap (option_and_then (λ f. if is_none (next f) then Some f.name else None)) p
  no_post x p (suc k) =
      ap (option_and_then (last facts)) (steps_on-first (next_of facts) x k ∙ ap (option_and_then (λ y. steps_on (next_of facts) y k)) (ap (option_and_then next) p))

pub end_by_next : EndByNext
end_by_next facts x =
    elim (post facts x) as (λ o. post facts x ≡ o → end facts x ≡ option_and_then (λ f. option_map_or (end facts) (next f) (Some f.name)) o) [
      | None ↦ λ p. all-none (end_at facts x) (no_post facts x p) 0 (length facts + 1)
      | Some f ↦ λ p. elim (next f) as (λ q. next f ≡ q → end facts x ≡ option_map_or (end facts) q (Some f.name)) [
        | None ↦ λ e. unfolded facts x ∙ ap (λ o. option_or o (first (end_at facts x) (0 + 1) (length facts))) (last-is facts x f None p e)
        | Some y ↦ λ e. unfolded facts x ∙ ap (λ o. option_or o (first (end_at facts x) (0 + 1) (length facts))) (last-is facts x f (Some y) p e)
            ∙ first-shift (end_at facts x) (end_at facts y) (later facts x y (next_of-is facts x f p ∙ e)) 0 (length facts) ∙ enough facts y
      ] refl
    ] refl

-- ---- one post more

module _ {X : Type 0} where
  -- what a function gives first on a range it gives at a place of it
  pub first-at : (f : ℕ → Option X) (a n : ℕ) (v : X) → first f a n ≡ Some v → (k : ℕ) × (f k ≡ Some v)
  first-at f a zero v e = cc
  first-at f a (suc n) v e =
      elim (f a) as (λ o. f a ≡ o → option_or o (first f (a + 1) n) ≡ Some v → (k : ℕ) × (f k ≡ Some v)) [
        | None ↦ λ _ r. first-at f (a + 1) n v r
        | Some w ↦ λ fa r. (a, fa ∙ r)
      ] refl (sym (first-suc f a n) ∙ e)

-- a chain that ends n steps on ends there among all posts that have these
module _ (facts others : List Fact) (kept : (x : List ℕ) (f : Fact) → post facts x ≡ Some f → post others x ≡ Some f) where
  pub stays-at : (n : ℕ) (x e : List ℕ) → end_at facts x n ≡ Some e → end others x ≡ Some e
  stays-at zero x e at =
      elim (post facts x) as (λ o. post facts x ≡ o → option_and_then (λ f. if is_none (next f) then Some f.name else None) o ≡ Some e → end others x ≡ Some e) [
        | None ↦ λ _ r. cc
        | Some f ↦ λ p r. end_by_next others x ∙ ap (option_and_then (λ f. option_map_or (end others) (next f) (Some f.name))) (kept x f p)
            ∙ elim (next f) as (λ q. (if is_none q then Some f.name else None) ≡ Some e → option_map_or (end others) q (Some f.name) ≡ Some e) [ None ↦ λ r. r | Some y ↦ λ r. cc ] r
      ] refl at
  stays-at (suc n) x e at =
      elim (post facts x) as (λ o. post facts x ≡ o → option_and_then (last facts) (option_and_then (λ y. steps_on (next_of facts) y n) (option_and_then next o)) ≡ Some e → end others x ≡ Some e) [
        | None ↦ λ _ r. cc
        | Some f ↦ λ p r. end_by_next others x ∙ ap (option_and_then (λ f. option_map_or (end others) (next f) (Some f.name))) (kept x f p)
            ∙ elim (next f) as (λ q. option_and_then (last facts) (option_and_then (λ y. steps_on (next_of facts) y n) q) ≡ Some e → option_map_or (end others) q (Some f.name) ≡ Some e) [ None ↦ λ r. cc | Some y ↦ λ r. stays-at n y e r ] r
      ] refl (sym (ap (option_and_then (last facts)) (steps_on-first (next_of facts) x n)) ∙ at)

  pub stays : (x e : List ℕ) → end facts x ≡ Some e → end others x ≡ Some e
  stays x e whole = let at = first-at (end_at facts x) 0 (length facts + 1) e whole in stays-at at.0 x e at.1

-- the ends are by the posts alone
pub end-alike : (facts others : List Fact) → ((x : List ℕ) → post facts x ≡ post others x) → (x : List ℕ) → end facts x ≡ end others x
end-alike facts others same x =
    elim (end facts x) as (λ o. end facts x ≡ o → o ≡ end others x) [
      | Some e ↦ λ h. sym (stays facts others (λ x f p. sym (same x) ∙ p) x e h)
      | None ↦ λ h. elim (end others x) as (λ o. end others x ≡ o → None ≡ o) [
        | None ↦ λ _. refl
        | Some e ↦ λ g. sym h ∙ stays others facts (λ x f p. same x ∙ p) x e g
      ] refl
    ] refl

-- a post that was there is the same beside one more
pub post-same : (facts : List Fact) (more : Fact) → IsFalse (has (map (λ f. f.name) facts) more.name) → (x : List ℕ) (f : Fact) → post facts x ≡ Some f → post (more ∷ facts) x ≡ Some f
post-same facts more is_new x f p =
    elim (bytes_eq more.name x) as (λ b. bytes_eq more.name x ≡ b → cond b (Some more) (post facts x) ≡ Some f) [
      | false ↦ λ _. p
      | true ↦ λ e. absurd (taken (ap (has (map (λ f. f.name) facts)) ((bytes_decides more.name x).0 e)))
    ] refl
  where
    taken : has (map (λ f. f.name) facts) more.name ≡ has (map (λ f. f.name) facts) x → ⊥
    taken e = no (sym is_new ∙ e ∙ sym (is_some-named (λ f. f.name) facts x) ∙ ap is_some p)
      where
        no : false ≡ true → ⊥
        no e = cc

pub whole_stays : WholeStays
whole_stays facts more x e is_new whole = stays facts (more ∷ facts) (post-same facts more is_new) x e whole
