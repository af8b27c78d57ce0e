-- A set whose items rise by name, and the same set without one of them.
use Rattle.std.proofs.Common.{◌≡◌, ℕ, true, false, cond, List, [], ◌∷◌, Option, Some, None, map, refl, sym, ap, ◌∙◌}
use Rattle.std.specs.Prelude.{filter, not, filter_map, option_and_then, IfSome, is_some, OnOk, Result, Ok, Err}
use Rattle.std.specs.List.{cons_option}
use Rattle.std.specs.List.Sorted.{IsStrictlySortedBy}
use Rattle.std.specs.Str.{bytes_eq}
use Rattle.std.specs.Cmp.Lexicographic.{bytes_decides}
use Rattle.fsl_order.specs.Names.{bytes_cmp, has}
use Rattle.fsl_order.specs.Rows.{by_name, named}
use Rattle.fsl_order.proofs.RowLemmas.{is_some-named}
use Rattle.fsl_order.proofs.NamedLemmas.{named-by_name}
use Rattle.fsl_files.proofs.Ordered.{in_order-rises}
use Rattle.fsl_name.proofs.Rising.{rising-filter}
use Rattle.fsl_cross.specs.Mixed.{mixed}
use Rattle.fsl_cross.proofs.Mapped.{named-given, by_name-given}
use Rattle.fsl_cross.proofs.Sets.{rising-found, named-out, given-with, mixed-first}

none : {X : Type 0} (o : Option X) → is_some o ≡ false → o ≡ None
none None e = refl
none (Some x) e = cc

module _ {X : Type 0} (name : X → List ℕ) where
  -- the others
  abbrev pub out : List ℕ → List X → List X
  out q xs = filter (λ x. not (bytes_eq (name x) q)) xs

  pub rising-out : (q : List ℕ) (xs : List X) → IsStrictlySortedBy bytes_cmp (map name xs) → IsStrictlySortedBy bytes_cmp (map name (out q xs))
  rising-out q xs h = rising-filter name (λ x. not (bytes_eq (name x) q)) xs h

  pub out-absent : (q : List ℕ) (xs : List X) → has (map name (out q xs)) q ≡ false
  out-absent q xs = sym (is_some-named name (out q xs) q) ∙ ap is_some (named-out name q q xs ∙ ap (λ b. cond b None (named name xs q)) ((bytes_decides q q).1 refl))

  -- the item put back among the others
  pub out-back : (xs : List X) → IsStrictlySortedBy bytes_cmp (map name xs) → (x : X) → named name xs (name x) ≡ Some x → by_name name (x ∷ out (name x) xs) ≡ xs
  out-back xs h x at =
      rising-found name (by_name name (x ∷ out (name x) xs)) xs (in_order-rises name (x ∷ out (name x) xs)) h
      (λ q. named-by_name name (x ∷ out (name x) xs) q ∙ ap (λ o. cond (bytes_eq (name x) q) (Some x) o) (named-out name (name x) q xs) ∙ same q)
    where
      same : (q : List ℕ) → cond (bytes_eq (name x) q) (Some x) (cond (bytes_eq (name x) q) None (named name xs q)) ≡ named name xs q
      same q =
          elim (bytes_eq (name x) q) as (λ b. bytes_eq (name x) q ≡ b → cond b (Some x) (cond b None (named name xs q)) ≡ named name xs q) [
            | true ↦ λ t. sym at ∙ ap (named name xs) ((bytes_decides (name x) q).0 t)
            | false ↦ λ t. refl
          ] refl

  -- a new item, put among others and taken out again
  pub back-out : (xs : List X) → IsStrictlySortedBy bytes_cmp (map name xs) → (x : X) → has (map name xs) (name x) ≡ false → out (name x) (by_name name (x ∷ xs)) ≡ xs
  back-out xs h x absent =
      rising-found name (out (name x) (by_name name (x ∷ xs))) xs (rising-out (name x) (by_name name (x ∷ xs)) (in_order-rises name (x ∷ xs))) h
      (λ q. named-out name (name x) q (by_name name (x ∷ xs)) ∙ ap (cond (bytes_eq (name x) q) None) (named-by_name name (x ∷ xs) q) ∙ same q)
    where
      same : (q : List ℕ) → cond (bytes_eq (name x) q) None (cond (bytes_eq (name x) q) (Some x) (named name xs q)) ≡ named name xs q
      same q =
          elim (bytes_eq (name x) q) as (λ b. bytes_eq (name x) q ≡ b → cond b None (cond b (Some x) (named name xs q)) ≡ named name xs q) [
            | true ↦ λ t. sym (none (named name xs q) (is_some-named name xs q ∙ ap (has (map name xs)) (sym ((bytes_decides (name x) q).0 t)) ∙ absent))
            | false ↦ λ t. refl
          ] refl

  -- it is found there
  pub back-found : (xs : List X) (x : X) → named name (by_name name (x ∷ xs)) (name x) ≡ Some x
  back-found xs x = named-by_name name (x ∷ xs) (name x) ∙ ap (λ b. cond b (Some x) (named name xs (name x))) ((bytes_decides (name x) (name x)).1 refl)

module _ {X F : Type 0} (name : X → List ℕ) (fact_name : F → List ℕ) where
  -- the others give nothing of its name
  pub given-absent : (give : X → Option F) → ((x : X) → IfSome (give x) (λ f. fact_name f ≡ name x)) → (xs : List X) → IsStrictlySortedBy bytes_cmp (map name xs) → (q : List ℕ)
      → has (map fact_name (filter_map give (out name q xs))) q ≡ false
  given-absent give own xs h q =
      sym (is_some-named fact_name (filter_map give (out name q xs)) q)
      ∙ ap is_some (named-given name fact_name give own (out name q xs) (rising-out name q xs h) q ∙ ap (option_and_then give) (named-out name q q xs ∙ ap (λ b. cond b None (named name xs q)) ((bytes_decides q q).1 refl)))

  -- what the set gives, from what the others give
  pub given-added : (give : X → Option F) → ((x : X) → IfSome (give x) (λ f. fact_name f ≡ name x)) → (xs : List X) → IsStrictlySortedBy bytes_cmp (map name xs) → (x : X) → named name xs (name x) ≡ Some x
      → filter_map give xs ≡ by_name fact_name (cons_option (give x) (filter_map give (out name (name x) xs)))
  given-added give own xs h x at =
      ap (filter_map give) (sym (out-back name xs h x at))
      ∙ given-with name fact_name give own x (out name (name x) xs) (rising-out name (name x) xs h) (out-absent name (name x) xs)

  -- .. where the item gives by the whole set and the others by what they were
  pub mixed-added : (old new : X → Option F) → ((x : X) → IfSome (old x) (λ f. fact_name f ≡ name x)) → ((x : X) → IfSome (new x) (λ f. fact_name f ≡ name x))
      → (xs : List X) → IsStrictlySortedBy bytes_cmp (map name xs) → (x : X) → named name xs (name x) ≡ Some x
      → filter_map (mixed name old new (name x ∷ [])) xs ≡ by_name fact_name (cons_option (new x) (filter_map old (out name (name x) xs)))
  mixed-added old new own fits xs h x at =
      ap (filter_map (mixed name old new (name x ∷ []))) (sym (out-back name xs h x at))
      ∙ mixed-first name fact_name old new own fits x (out name (name x) xs) (rising-out name (name x) xs h) (out-absent name (name x) xs)

module _ {X F : Type 0} (name : X → List ℕ) (fact_name : F → List ℕ) (give : X → Option F) (own : (x : X) → IfSome (give x) (λ f. fact_name f ≡ name x)) (xs : List X) (h : IsStrictlySortedBy bytes_cmp (map name xs))
    (x : X) (at : named name xs (name x) ≡ Some x) (before : List F) where
  -- the gift of the new item isn't there before
  pub some-absent : before ≡ filter_map give (out name (name x) xs) → (gift : Option F) → ((f : F) → gift ≡ Some f → fact_name f ≡ name x) → (f : F) → gift ≡ Some f → has (map fact_name before) (fact_name f) ≡ false
  some-absent is gift named f e =
      ap (λ fs. has (map fact_name fs) (fact_name f)) is ∙ ap (has (map fact_name (filter_map give (out name (name x) xs)))) (named f e) ∙ given-absent name fact_name give own xs h (name x)

  -- the gift is put, where there is one
  pub some-added : {Y E : Type 0} (r : Result Y E) (after : List F) (f : F) → before ≡ filter_map give (out name (name x) xs) → give x ≡ Some f → OnOk r (after ≡ by_name fact_name (f ∷ before)) → OnOk r (after ≡ filter_map give xs)
  some-added (Ok y) after f is gives put =
      put ∙ ap (λ fs. by_name fact_name (f ∷ fs)) is ∙ sym (given-added name fact_name give own xs h x at ∙ ap (λ o. by_name fact_name (cons_option o (filter_map give (out name (name x) xs)))) gives)
  some-added (Err e) after f is gives put = tt

  pub none-added : before ≡ filter_map give (out name (name x) xs) → give x ≡ None → before ≡ filter_map give xs
  none-added is gives =
      is ∙ sym (given-added name fact_name give own xs h x at ∙ ap (λ o. by_name fact_name (cons_option o (filter_map give (out name (name x) xs)))) gives
      ∙ by_name-given name fact_name give own (out name (name x) xs) (rising-out name (name x) xs h))

  module _ (new : X → Option F) (fits : (x : X) → IfSome (new x) (λ f. fact_name f ≡ name x)) where
    pub some-mixed : {Y E : Type 0} (r : Result Y E) (after : List F) (f : F) → before ≡ filter_map give (out name (name x) xs) → new x ≡ Some f → OnOk r (after ≡ by_name fact_name (f ∷ before))
        → OnOk r (after ≡ filter_map (mixed name give new (name x ∷ [])) xs)
    some-mixed (Ok y) after f is gives put =
        put ∙ ap (λ fs. by_name fact_name (f ∷ fs)) is ∙ sym (mixed-added name fact_name give new own fits xs h x at ∙ ap (λ o. by_name fact_name (cons_option o (filter_map give (out name (name x) xs)))) gives)
    some-mixed (Err e) after f is gives put = tt

    pub none-mixed : before ≡ filter_map give (out name (name x) xs) → new x ≡ None → before ≡ filter_map (mixed name give new (name x ∷ [])) xs
    none-mixed is gives =
        is ∙ sym (mixed-added name fact_name give new own fits xs h x at ∙ ap (λ o. by_name fact_name (cons_option o (filter_map give (out name (name x) xs)))) gives
        ∙ by_name-given name fact_name give own (out name (name x) xs) (rising-out name (name x) xs h))
