-- A name more, or less, in a set of names, and the names that are turned over by it.
use Rattle.std.proofs.Common.{◌≡◌, ℕ, List, Bool, true, false, cond, not, ◌||◌, ◌&&◌, if◌then◌else◌, Option, Some, None, is_some, refl, sym, ap, ◌∙◌}
use Rattle.std.specs.Str.{bytes_eq}
use Rattle.std.specs.List.Sorted.{IsStrictlySortedBy}
use Rattle.std.specs.Map.{keys_of}
use Rattle.std.specs.Cmp.Lexicographic.{bytes_decides}
use Rattle.fsl_order.specs.Names.{bytes_cmp}
use Rattle.fsl_table.specs.Contents.{value_at, with_entry, without_key}
use Rattle.fsl_table.proofs.Finding.{value-with, value-without}
use Rattle.fsl_cluster.specs.Kept.{is_in, differs}

abbrev Names : Type 0
Names = List (List ℕ × Unit {0})

pub in_with : (name : List ℕ) (ns : Names) (q : List ℕ) → is_in (with_entry bytes_cmp name tt ns) q ≡ (bytes_eq q name || is_in ns q)
in_with name ns q = ap is_some (value-with name tt ns q) ∙ by (bytes_eq q name)
  where
    by : (b : Bool) → is_some (cond b (Some tt) (value_at bytes_cmp q ns)) ≡ (b || is_in ns q)
    by true = refl
    by false = refl

pub in_without : (name : List ℕ) (ns : Names) → IsStrictlySortedBy bytes_cmp (keys_of ns) → (q : List ℕ) → is_in (without_key bytes_cmp name ns) q ≡ (is_in ns q && not (bytes_eq q name))
in_without name ns sorted q = ap is_some (value-without name ns sorted q) ∙ by (bytes_eq q name) (value_at bytes_cmp q ns)
  where
    by : (b : Bool) (r : Option (Unit {0})) → is_some (cond b None r) ≡ (is_some r && not b)
    by true None = refl
    by true (Some u) = refl
    by false None = refl
    by false (Some u) = refl

-- ---- what a put and a removal say of one name

module _ (name : List ℕ) (old : List ℕ → Bool) where
  pub put_same : old name ≡ true → (q : List ℕ) → (bytes_eq q name || old q) ≡ old q
  put_same h q =
      elim (bytes_eq q name) as (λ b. bytes_eq q name ≡ b → (b || old q) ≡ old q) [
        | true ↦ λ e. sym (ap old ((bytes_decides q name).0 e) ∙ h)
        | false ↦ λ e. refl
      ] refl

  pub put_turns : old name ≡ false → (q : List ℕ) → (bytes_eq q name || old q) ≡ (if bytes_eq q name then not (old q) else old q)
  put_turns h q =
      elim (bytes_eq q name) as (λ b. bytes_eq q name ≡ b → (b || old q) ≡ (if b then not (old q) else old q)) [
        | true ↦ λ e. ap not (sym (ap old ((bytes_decides q name).0 e) ∙ h))
        | false ↦ λ e. refl
      ] refl

  pub take_same : old name ≡ false → (q : List ℕ) → (old q && not (bytes_eq q name)) ≡ old q
  take_same h q =
      elim (bytes_eq q name) as (λ b. bytes_eq q name ≡ b → (old q && not b) ≡ old q) [
        | true ↦ λ e. let no : old q ≡ false = ap old ((bytes_decides q name).0 e) ∙ h in ap (λ b. b && false) no ∙ sym no
        | false ↦ λ e. and-true (old q)
      ] refl
    where
      and-true : (b : Bool) → (b && true) ≡ b
      and-true true = refl
      and-true false = refl

  pub take_turns : old name ≡ true → (q : List ℕ) → (old q && not (bytes_eq q name)) ≡ (if bytes_eq q name then not (old q) else old q)
  take_turns h q =
      elim (bytes_eq q name) as (λ b. bytes_eq q name ≡ b → (old q && not b) ≡ (if b then not (old q) else old q)) [
        | true ↦ λ e. let yes : old q ≡ true = ap old ((bytes_decides q name).0 e) ∙ h in ap (λ b. b && false) yes ∙ ap not (sym yes)
        | false ↦ λ e. and-true (old q)
      ] refl
    where
      and-true : (b : Bool) → (b && true) ≡ b
      and-true true = refl
      and-true false = refl

-- ---- what is turned over

not_differs : (b o : Bool) → not (differs b o) ≡ differs b (not o)
not_differs true true = refl
not_differs true false = refl
not_differs false true = refl
not_differs false false = refl

pub turns : (p kept after old new before : Bool) → after ≡ (if p then not kept else kept) → new ≡ (if p then not old else old) → kept ≡ differs before old → after ≡ differs before new
turns true kept after old new before h i e = h ∙ ap not e ∙ not_differs before old ∙ ap (differs before) (sym i)
turns false kept after old new before h i e = h ∙ e ∙ ap (differs before) (sym i)

pub same_differs : (b : Bool) → false ≡ differs b b
same_differs true = refl
same_differs false = refl

-- ---- the steps of the loops

pub out-step : (o e r w : Bool) → (o && not (e || r)) ≡ w → ((o && not e) && not r) ≡ w
out-step true true r w p = p
out-step true false r w p = p
out-step false e r w p = p

pub in-step : (o e r j t w : Bool) → (e ≡ true → j ≡ t) → (o || ((e || r) && t)) ≡ w → ((o || (e && j)) || (r && t)) ≡ w
in-step true e r j t w f p = p
in-step false true r j t w f p = joined r j t (f refl) ∙ p
  where
    joined : (r j t : Bool) → j ≡ t → (j || (r && t)) ≡ t
    joined r true t h = h
    joined true false t h = refl
    joined false false t h = h
in-step false false r j t w f p = p

pub unless-step : (o e r j k w : Bool) → (e ≡ true → j ≡ k) → (o && not ((e || r) && not k)) ≡ w → ((o && not (e && not j)) && not (r && not k)) ≡ w
unless-step false e r j k w f p = p
unless-step true true true true true w f p = p
unless-step true true false true true w f p = p
unless-step true true r false false w f p = p
unless-step true true r true false w f p = let no : true ≡ false = f refl in cc
unless-step true true r false true w f p = let no : false ≡ true = f refl in cc
unless-step true false r j k w f p = p

pub wanted_in : (e o w : Bool) → w ≡ true → (e || o) ≡ (o || (e && w))
wanted_in true true w h = refl
wanted_in true false w h = sym h
wanted_in false true w h = refl
wanted_in false false w h = refl
