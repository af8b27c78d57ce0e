-- The place of a key among entries in no order, and what stands there.
use Rattle.std.proofs.Common.{◌≡◌, ℕ, suc, ◌+◌, ◌<◌, Bool, true, false, cond, List, [], ◌∷◌, length, get_or, set, drop, refl, sym, ap, subst, ◌∙◌, arith, add-one, drop-cons}
use Rattle.std.specs.declared.option.Option.{Option}
use Rattle.std.specs.declared.option.Option.TheVariants.{Some, None}
use Rattle.std.specs.Option.{option_map}
use Rattle.std.specs.List.{remove}
use Rattle.std.specs.Map.{lookup, remove_entry, set_value}
use Rattle.fsl_table.specs.Weave.{place}

later : (i : ℕ) (r : Option ℕ) → option_map (λ j. j + i) (option_map (λ j. suc j) r) ≡ option_map (λ j. j + (i + 1)) r
later i None = refl
later i (Some j) = let e : suc j + i ≡ j + (i + 1) = omega arith in ap (λ n. Some n) e

-- the entry e stands at i, and the value and the changes are by it
pub record Stands {K X : Type 0} (test : K → Bool) (es : List (K × X)) (i : ℕ) : Type 0 where
  pub within : i < length es
  pub value : (d : K × X) → lookup test es ≡ Some (get_or es i d).1
  pub written : (d : K × X) (w : X) → set es i ((get_or es i d).0, w) ≡ set_value test es w
  pub removed : remove es i ≡ remove_entry test es

module _ {K X : Type 0} (test : K → Bool) where
  pub place_here : (s : List (K × X)) (i : ℕ) (x : K × X) → i < length s → x ≡ get_or s i x → test x.0 ≡ true
      → place test s ≡ option_map (λ j. j + i) (place test (drop i s)) → Some i ≡ place test s
  place_here s i x h is hit inv =
      let z : 0 + i ≡ i = omega arith in
      sym (inv
      ∙ ap (λ l. option_map (λ j. j + i) (place test l)) (drop-cons s i x h ∙ ap (λ y. y ∷ drop (suc i) s) (sym is))
      ∙ ap (λ b. option_map (λ j. j + i) (cond b (Some 0) (option_map (λ j. suc j) (place test (drop (suc i) s))))) hit
      ∙ ap (λ n. Some n) z)

  pub place_later : (s : List (K × X)) (i : ℕ) (x : K × X) → i < length s → x ≡ get_or s i x → test x.0 ≡ false
      → place test s ≡ option_map (λ j. j + i) (place test (drop i s)) → place test s ≡ option_map (λ j. j + (i + 1)) (place test (drop (i + 1) s))
  place_later s i x h is miss inv =
      inv
      ∙ ap (λ l. option_map (λ j. j + i) (place test l)) (drop-cons s i x h ∙ ap (λ y. y ∷ drop (suc i) s) (sym is))
      ∙ ap (λ b. option_map (λ j. j + i) (cond b (Some 0) (option_map (λ j. suc j) (place test (drop (suc i) s))))) miss
      ∙ later i (place test (drop (suc i) s))
      ∙ ap (λ n. option_map (λ j. j + (i + 1)) (place test (drop n s))) (sym (add-one i))

  pub place_none : (es : List (K × X)) → place test es ≡ None → lookup test es ≡ None
  place_none [] h = refl
  place_none (e ∷ es) h = elim (test e.0) as (λ b. cond b (Some 0) (option_map (λ j. suc j) (place test es)) ≡ None → cond b (Some e.1) (lookup test es) ≡ None) [
    | true ↦ λ h. cc
    | false ↦ λ h. elim (place test es) as (λ p. place test es ≡ p → option_map (λ j. suc j) p ≡ None → lookup test es ≡ None) [
      | None ↦ λ p _. place_none es p
      | Some j ↦ λ _ h. cc
    ] refl h
  ] h

  pub place_some : (es : List (K × X)) (i : ℕ) → place test es ≡ Some i → Stands test es i
  place_some [] i h = absurd (cc)
  place_some (e ∷ es) i h = elim (test e.0) as (λ b. test e.0 ≡ b → cond b (Some 0) (option_map (λ j. suc j) (place test es)) ≡ Some i → Stands test (e ∷ es) i) [
    | true ↦ λ t h.
        let z : 0 ≡ i = cc in
        subst (Stands test (e ∷ es)) z (record {
          within = omega arith;
          value = λ d. ap (λ b. cond b (Some e.1) (lookup test es)) t;
          written = λ d w. sym (ap (λ b. cond b ((e.0, w) ∷ es) (e ∷ set_value test es w)) t);
          removed = sym (ap (λ b. cond b es (e ∷ remove_entry test es)) t);
        })
    | false ↦ λ t h. elim (place test es) as (λ p. place test es ≡ p → option_map (λ j. suc j) p ≡ Some i → Stands test (e ∷ es) i) [
      | None ↦ λ _ h. absurd (cc)
      | Some j ↦ λ p h.
          let z : suc j ≡ i = cc in
          let r : Stands test es j = place_some es j p in
          subst (Stands test (e ∷ es)) z (record {
            within = omega (arith, r.within);
            value = λ d. ap (λ b. cond b (Some e.1) (lookup test es)) t ∙ r.value d;
            written = λ d w. ap (λ l. e ∷ l) (r.written d w) ∙ sym (ap (λ b. cond b ((e.0, w) ∷ es) (e ∷ set_value test es w)) t);
            removed = ap (λ l. e ∷ l) r.removed ∙ sym (ap (λ b. cond b es (e ∷ remove_entry test es)) t);
          })
    ] refl h
  ] refl h
