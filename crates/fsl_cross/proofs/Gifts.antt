-- A mixture of what items give by a set and by the same set without one of them.
use Rattle.std.proofs.Common.{◌≡◌, ℕ, true, false, cond, List, ◌∷◌, Option, Some, None, map, refl, sym, ap, ◌∙◌, subst}
use Rattle.std.specs.Prelude.{◌||◌, IfSome, is_some, option_map, option_and_then, filter_map}
use Rattle.std.specs.Str.{bytes_eq}
use Rattle.std.specs.Cmp.Lexicographic.{bytes_decides}
use Rattle.std.specs.List.Sorted.{IsStrictlySortedBy}
use Rattle.fsl_order.specs.Names.{bytes_cmp, has}
use Rattle.fsl_order.specs.Rows.{by_name, named}
use Rattle.fsl_order.proofs.RowLemmas.{is_some-named}
use Rattle.fsl_cross.specs.Mixed.{mixed}
use Rattle.fsl_cross.proofs.Mapped.{named-given, named-has}
use Rattle.fsl_cross.proofs.Sets.{set_at, given-same, mixed-own, mixed-next}

-- what is given of something that is there
pub behind : {X F : Type 0} (give : X → Option F) (o : Option X) (f : F) → option_and_then give o ≡ Some f → (x : X) × (o ≡ Some x) × (give x ≡ Some f)
behind give None f e = cc
behind give (Some x) f e = (x, refl, e)

pub none_map : {X Y : Type 0} (f : X → Y) (o : Option X) → option_map f o ≡ None → o ≡ None
none_map f None e = refl
none_map f (Some x) e = cc

-- .. of an item of a list, which has the name that it is looked up by
pub gift-behind : {X F : Type 0} (name : X → List ℕ) (give : X → Option F) (xs : List X) (q : List ℕ) (f : F) → option_and_then give (named name xs q) ≡ Some f → (x : X) × (named name xs (name x) ≡ Some x) × (give x ≡ Some f) × (name x ≡ q)
gift-behind name give xs q f e =
    let x = behind give (named name xs q) f e in
    let is : name x.0 ≡ q = named-has name xs q x.0 x.1 in
    (x.0, ap (named name xs) is ∙ x.1, x.2, is)

pub if_some : {X : Type 0} (P : X → Type 0) (o : Option X) (x : X) → o ≡ Some x → IfSome o P → P x
if_some P o x e h = subst (λ o. IfSome o P) e h

module _ {X F : Type 0} (name : X → List ℕ) (fact_name : F → List ℕ) (old new : X → Option F) (own : (x : X) → IfSome (old x) (λ f. fact_name f ≡ name x)) (fits : (x : X) → IfSome (new x) (λ f. fact_name f ≡ name x)) where
  -- another gift at the name of an item
  pub gift-next : (xs : List X) → IsStrictlySortedBy bytes_cmp (map name xs) → (done : List (List ℕ)) (x : X) (f : F) → named name xs (name x) ≡ Some x → new x ≡ Some f
      → filter_map (mixed name old new (name x ∷ done)) xs ≡ by_name fact_name (f ∷ filter_map (mixed name old new done) xs)
  gift-next xs h done x f found is = mixed-next name fact_name old new own fits xs h done x found ∙ ap (λ o. set_at fact_name (name x) o (filter_map (mixed name old new done) xs)) is

  -- an item that gives something in both ways has its gift in each mixture
  pub gift-there : (xs : List X) → IsStrictlySortedBy bytes_cmp (map name xs) → (done : List (List ℕ)) (x : X) → named name xs (name x) ≡ Some x → is_some (old x) ≡ true → is_some (new x) ≡ true
      → has (map fact_name (filter_map (mixed name old new done) xs)) (name x) ≡ true
  gift-there xs h done x found was is =
      sym (is_some-named fact_name (filter_map (mixed name old new done) xs) (name x))
      ∙ ap is_some (named-given name fact_name (mixed name old new done) (mixed-own name fact_name old new own fits done) xs h (name x) ∙ ap (option_and_then (mixed name old new done)) found)
      ∙ elim (has done (name x)) as (λ b. is_some (cond b (new x) (old x)) ≡ true) [ true ↦ is | false ↦ was ]

  -- a name at which nothing is given
  pub gift-none : (xs : List X) → IsStrictlySortedBy bytes_cmp (map name xs) → ((x : X) → new x ≡ None → old x ≡ None) → (done : List (List ℕ)) (q : List ℕ) → option_and_then new (named name xs q) ≡ None
      → filter_map (mixed name old new (q ∷ done)) xs ≡ filter_map (mixed name old new done) xs
  gift-none xs h both done q none =
      given-same name fact_name (mixed name old new done) (mixed-own name fact_name old new own fits done) (mixed name old new (q ∷ done)) (mixed-own name fact_name old new own fits (q ∷ done)) xs h
      (λ y found. elim (bytes_eq (name y) q) as (λ b. bytes_eq (name y) q ≡ b → cond (b || has done (name y)) (new y) (old y) ≡ cond (has done (name y)) (new y) (old y)) [
        | true ↦ λ t.
            let nothing : new y ≡ None = sym (ap (option_and_then new) (sym (ap (named name xs) ((bytes_decides (name y) q).0 t)) ∙ found)) ∙ none in
            nothing ∙ elim (has done (name y)) as (λ b. None ≡ cond b (new y) (old y)) [ true ↦ sym nothing | false ↦ sym (both y nothing) ]
        | false ↦ λ t. refl
      ] refl)
