-- What one post does to the ends of chains: those that lead to it have its end, and no other chain changes.
use mathlib.Core.Bool.{true≢false}
use Rattle.std.specs.Prelude.{◌≡◌, ◌⊎◌, ℕ, zero, suc, ◌+◌, List, [], ◌∷◌, Bool, true, false, ◌||◌, if◌then◌else◌, length, Option, Some, None, is_none, option_and_then}
use Rattle.std.proofs.Common.{refl, sym, ap, ◌∙◌, inl, inr, ⊎_elim, add-one}
use Rattle.std.specs.Option.{option_map_or}
use Rattle.std.specs.Str.{bytes_eq}
use Rattle.std.specs.Cmp.Lexicographic.{bytes_decides, nat_list_eq_equiv}
use Rattle.fsl_order.specs.Names.{bytes_cmp, has}
use Rattle.fsl_order.specs.Rows.{steps_on}
use Rattle.fsl_order.proofs.Walks.{steps_on-first}
use Rattle.fsl_table.specs.declared.key.Pair.{Pair}
use Rattle.fsl_table.specs.Contents.{value_at}
use Rattle.fsl_table.specs.Pairs.{is_name, seconds}
use Rattle.fsl_table.proofs.Seconds.{has_seconds}
use Rattle.fsl_forum.specs.declared.Fact.{Fact}
use Rattle.fsl_forum.specs.Threads.{post, next, next_of, last, end_at, end}
use Rattle.fsl_forum.specs.Held.{AreOf}
use Rattle.fsl_forum.specs.Reached.{IsReached, stands, end_above, AreAffected, IsStep}
use Rattle.fsl_forum.proofs.ChainLaw.{end_by_next, first-at, stays-at, later}
use Rattle.fsl_forum.proofs.Climbs.{next_ends, steps_end, circle_ends}

-- ---- two lists of posts that differ at one name

module _ (facts others : List Fact) (r : List ℕ) (same : (x : List ℕ) → bytes_eq x r ≡ false → post others x ≡ post facts x) where
  abbrev Leading : List ℕ → Type 0
  Leading x = (n : ℕ) × (steps_on (next_of others) x n ≡ Some r)

  next-same : (x : List ℕ) → bytes_eq x r ≡ false → next_of others x ≡ next_of facts x
  next-same x h = ap (option_and_then next) (same x h)

  leads-on : (x y : List ℕ) → next_of others x ≡ Some y → Leading y → Leading x
  leads-on x y e l = (suc l.0, steps_on-first (next_of others) x l.0 ∙ ap (option_and_then (λ z. steps_on (next_of others) z l.0)) e ∙ l.1)

  -- a chain that ends has that end in the other, or leads to the name
  parts : (k : ℕ) (x e : List ℕ) → end_at others x k ≡ Some e → (end facts x ≡ Some e) ⊎ Leading x
  parts zero x e at =
      elim (bytes_eq x r) as (λ b. bytes_eq x r ≡ b → (end facts x ≡ Some e) ⊎ Leading x) [
        | true ↦ λ h. inr (0, ap (λ (y : List ℕ). Some y) ((bytes_decides x r).0 h))
        | false ↦ λ h. inl (stays-at facts facts (λ x f p. p) 0 x e (ap (option_and_then (λ f. if is_none (next f) then Some f.name else None)) (sym (same x h)) ∙ at))
      ] refl
  parts (suc k) x e at =
      elim (bytes_eq x r) as (λ b. bytes_eq x r ≡ b → (end facts x ≡ Some e) ⊎ Leading x) [
        | true ↦ λ h. inr (0, ap (λ (y : List ℕ). Some y) ((bytes_decides x r).0 h))
        | false ↦ λ h. on h (λ y. parts k y e) (next_of others x) refl
      ] refl
    where
      gone : next_of others x ≡ None → ⊥
      gone q = no (sym at ∙ ap (option_and_then (last others)) (steps_on-first (next_of others) x k ∙ ap (option_and_then (λ y. steps_on (next_of others) y k)) q))
        where
          no : Some e ≡ None → ⊥
          no e = cc

      on : bytes_eq x r ≡ false → ((y : List ℕ) → end_at others y k ≡ Some e → (end facts y ≡ Some e) ⊎ Leading y) → (o : Option (List ℕ)) → next_of others x ≡ o → (end facts x ≡ Some e) ⊎ Leading x
      on h rest None q = absurd (gone q)
      on h rest (Some y) q =
          ⊎_elim {C = (end facts x ≡ Some e) ⊎ Leading x}
          (λ (f : end facts y ≡ Some e). inl (next_ends facts x y (sym (next-same x h) ∙ q) ∙ f))
          (λ (l : Leading y). inr (leads-on x y q l))
          (rest y (sym (later others x y q k) ∙ ap (end_at others x) (add-one k) ∙ at))

  pub part : (x e : List ℕ) → end others x ≡ Some e → (end facts x ≡ Some e) ⊎ Leading x
  part x e whole = let at = first-at (end_at others x) 0 (length others + 1) e whole in parts at.0 x e at.1

-- where neither leads to the name, the ends are the same
pub ends-same : (facts others : List Fact) (r : List ℕ) → ((x : List ℕ) → bytes_eq x r ≡ false → post others x ≡ post facts x) → (x : List ℕ)
    → ((n : ℕ) → (e : List ℕ) → steps_on (next_of others) x n ≡ Some r → end others x ≡ Some e → ⊥) → ((n : ℕ) → (e : List ℕ) → steps_on (next_of facts) x n ≡ Some r → end facts x ≡ Some e → ⊥)
    → end others x ≡ end facts x
ends-same facts others r same x no_others no_facts =
    elim (end others x) as (λ o. end others x ≡ o → o ≡ end facts x) [
      | Some e ↦ λ h. ⊎_elim {C = Some e ≡ end facts x} (λ (f : end facts x ≡ Some e). sym f) (λ (l : (n : ℕ) × (steps_on (next_of others) x n ≡ Some r)). absurd (no_others l.0 e l.1 h)) (part facts others r same x e h)
      | None ↦ λ h. elim (end facts x) as (λ o. end facts x ≡ o → None ≡ o) [
        | None ↦ λ _. refl
        | Some e ↦ λ g. ⊎_elim {C = None ≡ Some e} (λ (f : end others x ≡ Some e). sym h ∙ f) (λ (l : (n : ℕ) × (steps_on (next_of facts) x n ≡ Some r)). absurd (no_facts l.0 e l.1 g)) (part others facts r (λ x h. sym (same x h)) x e g)
      ] refl
    ] refl

name_some : (o : Option (List ℕ)) (p : List ℕ) → is_name o p ≡ true → o ≡ Some p
name_some None p h = cc
name_some (Some q) p h = ap (λ (x : List ℕ). Some x) ((bytes_decides q p).0 h)

some_name : (o : Option (List ℕ)) (p : List ℕ) → o ≡ Some p → is_name o p ≡ true
some_name o p e = ap (λ o. is_name o p) e ∙ nat_list_eq_equiv.refl p

-- the followers among pairs are those that have the next post
pub follower-next : (first : List ℕ → Option (List ℕ)) (pairs : List (Pair × Unit {0})) → AreOf first pairs → (x y : List ℕ) → has (seconds y pairs) x ≡ true → first x ≡ Some y
follower-next first pairs of_ x y h = name_some (first x) y (sym (of_.pairs (record { first = y; second = Some x })) ∙ sym (has_seconds y x pairs) ∙ h)

pub next-follower : (first : List ℕ → Option (List ℕ)) (pairs : List (Pair × Unit {0})) → AreOf first pairs → (x y : List ℕ) → first x ≡ Some y → has (seconds y pairs) x ≡ true
next-follower first pairs of_ x y h = has_seconds y x pairs ∙ of_.pairs (record { first = y; second = Some x }) ∙ some_name (first x) y h

-- ---- a post of a name, in the place of what was there

module _ (facts : List Fact) (pairs : List (Pair × Unit {0})) (ends : List (List ℕ × List ℕ)) (name : List ℕ) (up : Option (List ℕ)) (names : List (List ℕ))
    (of_ : AreOf (next_of facts) pairs) (right : (x : List ℕ) → value_at bytes_cmp x ends ≡ end facts x)
    (f : Fact) (now : List Fact) (is : f.name ≡ name) (goes : next f ≡ up) (with_it : (x : List ℕ) → post now x ≡ (if bytes_eq x name then Some f else post facts x)) where
  same : (x : List ℕ) → bytes_eq x name ≡ false → post now x ≡ post facts x
  same x h = with_it x ∙ ap (λ b. if b then Some f else post facts x) h

  here : post now name ≡ Some f
  here = with_it name ∙ ap (λ b. if b then Some f else post facts name) (nat_list_eq_equiv.refl name)

  goes-on : next_of now name ≡ up
  goes-on = ap (option_and_then next) here ∙ goes

  end-here : end now name ≡ option_map_or (end now) up (Some name)
  end-here = end_by_next now name ∙ ap (option_and_then (λ f. option_map_or (end now) (next f) (Some f.name))) here ∙ (λ i. option_map_or (end now) (goes i) (Some (is i)))

  -- the name and all that lead to it
  module _ (all : IsReached pairs name names) where
    led : (x : List ℕ) → has names x ≡ true → (n : ℕ) × (steps_on (next_of now) x n ≡ Some name)
    led x h = all.led (next_of now) (λ x y other k. ap (option_and_then next) (same x other) ∙ follower-next (next_of facts) pairs of_ x y k) x h

    end-led : (x : List ℕ) → has names x ≡ true → end now x ≡ end now name
    end-led x h = let l = led x h in steps_end now l.0 x name l.1

    -- what leads to the name is among the names
    back : (go : List ℕ → Option (List ℕ)) → ((x : List ℕ) → bytes_eq x name ≡ false → go x ≡ next_of facts x) → (n : ℕ) (x : List ℕ) → steps_on go x n ≡ Some name → has names x ≡ true
    back go alike zero x e = let is : x ≡ name = cc in ap (has names) is ∙ all.own
    back go alike (suc n) x e =
        elim (bytes_eq x name) as (λ b. bytes_eq x name ≡ b → has names x ≡ true) [
          | true ↦ λ h. ap (has names) ((bytes_decides x name).0 h) ∙ all.own
          | false ↦ λ h. elim (go x) as (λ o. go x ≡ o → option_and_then (λ y. steps_on go y n) o ≡ Some name → has names x ≡ true) [
            | None ↦ λ _ r. cc
            | Some y ↦ λ q r. all.closed x y (next-follower (next_of facts) pairs of_ x y (sym (alike x h) ∙ q)) (back go alike n y r)
          ] refl (sym (steps_on-first go x n) ∙ e)
        ] refl

    end-else : (x : List ℕ) → has names x ≡ false → end now x ≡ end facts x
    end-else x h =
        ends-same facts now name same x
        (λ n e s _. true≢false (sym (back (next_of now) (λ x o. ap (option_and_then next) (same x o)) n x s) ∙ h))
        (λ n e s _. true≢false (sym (back (next_of facts) (λ x o. refl) n x s) ∙ h))

    reached-end : end now name ≡ stands names up (end_above ends name up)
    reached-end = end-here ∙ by up goes-on
      where
        by : (o : Option (List ℕ)) → next_of now name ≡ o → option_map_or (end now) o (Some name) ≡ stands names o (end_above ends name o)
        by None q = refl
        by (Some y) q =
            elim (has names y) as (λ b. has names y ≡ b → end now y ≡ (if b then None else value_at bytes_cmp y ends)) [
              | true ↦ λ h.
                  let l = led y h in
                  steps_end now l.0 y name l.1 ∙ circle_ends now name (l.0, steps_on-first (next_of now) name l.0 ∙ ap (option_and_then (λ z. steps_on (next_of now) z l.0)) q ∙ l.1)
              | false ↦ λ h. end-else y h ∙ sym (right y)
            ] refl

    reached-all : (x : List ℕ) → end now x ≡ (if has names x then stands names up (end_above ends name up) else end facts x)
    reached-all x =
        elim (has names x) as (λ b. has names x ≡ b → end now x ≡ (if b then stands names up (end_above ends name up) else end facts x)) [
          | true ↦ λ h. end-led x h ∙ reached-end
          | false ↦ λ h. end-else x h
        ] refl

  -- it neither had nor gets an end
  module _ (only : names ≡ name ∷ []) (near : end_above ends name up ≡ None) (was : value_at bytes_cmp name ends ≡ None) where
    some-none : {e : List ℕ} → Some e ≡ None → ⊥
    some-none q = cc

    broken-here : end now name ≡ None
    broken-here = end-here ∙ by up goes-on near
      where
        by : (o : Option (List ℕ)) → next_of now name ≡ o → end_above ends name o ≡ None → option_map_or (end now) o (Some name) ≡ None
        by None q n = cc
        by (Some y) q n =
            elim (end now y) as (λ o. end now y ≡ o → o ≡ None) [
              | None ↦ λ _. refl
              | Some e ↦ λ h. absurd (⊎_elim {C = ⊥}
                  (λ (g : end facts y ≡ Some e). some-none (sym g ∙ sym (right y) ∙ n))
                  (λ (l : (n : ℕ) × (steps_on (next_of now) y n ≡ Some name)).
                  some-none (sym h ∙ sym (next_ends now name y q) ∙ circle_ends now name (l.0, steps_on-first (next_of now) name l.0 ∙ ap (option_and_then (λ z. steps_on (next_of now) z l.0)) q ∙ l.1)))
                  (part facts now name same y e h))
            ] refl

    broken-all : (x : List ℕ) → end now x ≡ end facts x
    broken-all x =
        ends-same facts now name same x
        (λ n e s h. some-none (sym h ∙ steps_end now n x name s ∙ broken-here))
        (λ n e s h. some-none (sym h ∙ steps_end facts n x name s ∙ sym (right name) ∙ was))

    none-stands : (o : Option (List ℕ)) → stands names o None ≡ None
    none-stands None = refl
    none-stands (Some y) = let none : Option (List ℕ) = None in elim (has names y) as (λ b. (if b then None else none) ≡ none) [ true ↦ refl | false ↦ refl ]

    alone-all : (x : List ℕ) → end now x ≡ (if has names x then stands names up (end_above ends name up) else end facts x)
    alone-all x =
        elim (has names x) as (λ b. has names x ≡ b → end now x ≡ (if b then stands names up (end_above ends name up) else end facts x)) [
          | true ↦ λ h.
              let one : x ≡ name = (bytes_decides x name).0 (sym (or-false (bytes_eq x name)) ∙ sym (ap (λ l. has l x) only) ∙ h) in
              ap (end now) one ∙ broken-here ∙ sym (ap (stands names up) near ∙ none-stands up)
          | false ↦ λ h. broken-all x
        ] refl
      where
        or-false : (b : Bool) → (b || false) ≡ b
        or-false true = refl
        or-false false = refl

pub stepped : (facts : List Fact) (pairs : List (Pair × Unit {0})) (ends : List (List ℕ × List ℕ)) (name : List ℕ) (up : Option (List ℕ)) (names : List (List ℕ))
    → AreAffected pairs ends name (end_above ends name up) names → AreOf (next_of facts) pairs → ((x : List ℕ) → value_at bytes_cmp x ends ≡ end facts x)
    → IsStep facts name up names (stands names up (end_above ends name up))
stepped facts pairs ends name up names affected of_ right = record {
  own = ⊎_elim {C = has names name ≡ true}
      (λ (all : IsReached pairs name names). all.own)
      (λ (one : (names ≡ name ∷ []) × (end_above ends name up ≡ None) × (value_at bytes_cmp name ends ≡ None)). ap (λ l. has l name) one.0 ∙ ap (λ b. b || false) (nat_list_eq_equiv.refl name))
      affected;
  ends = λ f now is goes with_it x. ⊎_elim {C = end now x ≡ (if has names x then stands names up (end_above ends name up) else end facts x)}
      (λ (all : IsReached pairs name names). reached-all facts pairs ends name up names of_ right f now is goes with_it all x)
      (λ (one : (names ≡ name ∷ []) × (end_above ends name up ≡ None) × (value_at bytes_cmp name ends ≡ None)). alone-all facts pairs ends name up names of_ right f now is goes with_it one.0 one.1 one.2 x)
      affected;
}
