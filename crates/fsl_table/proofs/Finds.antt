-- Whether a name passes a test: found where it is so, and so where it is found.
use Rattle.std.proofs.Common.{◌≡◌, ℕ, List, [], ◌∷◌, Bool, true, false, ◌||◌, ◌&&◌, refl, sym, ap, ◌∙◌}
use mathlib.Core.Bool.{true≢false}
use Rattle.std.specs.List.{list_any}
use Rattle.std.specs.Str.{bytes_eq}
use Rattle.std.specs.Cmp.Lexicographic.{bytes_decides, nat_list_eq_equiv}
use Rattle.std.proofs.lemmas.Bool.{or_right}
use Rattle.fsl_order.specs.Names.{has}

pub record Finds (b : Bool) (p : List ℕ → Bool) : Type 0 where
  pub found : b ≡ true → (c : List ℕ) × (p c ≡ true)
  pub there : (c : List ℕ) → p c ≡ true → b ≡ true

pub same_finds : (a b : Bool) (p r : List ℕ → Bool) → Finds a p → Finds b r → ((c : List ℕ) → p c ≡ r c) → a ≡ b
same_finds true true p r x y h = refl
same_finds false false p r x y h = refl
same_finds true false p r x y h = let f = x.found refl in sym (y.there f.0 (sym (h f.0) ∙ f.1))
same_finds false true p r x y h = let f = y.found refl in x.there f.0 (h f.0 ∙ f.1)

any_found : (p : List ℕ → Bool) (xs : List (List ℕ)) → list_any p xs ≡ true → (c : List ℕ) × ((has xs c && p c) ≡ true)
any_found p [] h = absurd (true≢false (sym h))
any_found p (x ∷ xs) h = by (λ k. any_found p xs k) (p x) refl h
  where
    more : (a b r : Bool) → (b && r) ≡ true → ((a || b) && r) ≡ true
    more true true r h = h
    more true false r h = absurd (true≢false (sym h))
    more false b r h = h

    by : (list_any p xs ≡ true → (c : List ℕ) × ((has xs c && p c) ≡ true)) → (b : Bool) → p x ≡ b → (b || list_any p xs) ≡ true → (c : List ℕ) × ((has (x ∷ xs) c && p c) ≡ true)
    by rest true e h = (x, (λ i. (nat_list_eq_equiv.refl x i || has xs x) && e i))
    by rest false e h = let f = rest h in (f.0, more (bytes_eq f.0 x) (has xs f.0) (p f.0) f.1)

any_there : (p : List ℕ → Bool) (xs : List (List ℕ)) (c : List ℕ) → (has xs c && p c) ≡ true → list_any p xs ≡ true
any_there p [] c h = absurd (true≢false (sym h))
any_there p (x ∷ xs) c h = by (λ k. any_there p xs c k) (bytes_eq c x) refl h
  where
    by : ((has xs c && p c) ≡ true → list_any p xs ≡ true) → (b : Bool) → bytes_eq c x ≡ b → ((b || has xs c) && p c) ≡ true → (p x || list_any p xs) ≡ true
    by rest true e h = ap (λ b. b || list_any p xs) (ap p (sym ((bytes_decides c x).0 e)) ∙ h)
    by rest false e h = or_right (p x) (list_any p xs) (rest h)

pub finds_any : (p : List ℕ → Bool) (xs : List (List ℕ)) → Finds (list_any p xs) (λ c. has xs c && p c)
finds_any p xs = record { found = any_found p xs; there = any_there p xs }
