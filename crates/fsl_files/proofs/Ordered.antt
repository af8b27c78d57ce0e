-- Names that rise are strictly sorted, and items in order rise.
use Rattle.std.proofs.Common.{◌≡◌, ℕ, List, [], ◌∷◌, map, refl, sym, ap, subst, ◌∙◌}
use Rattle.std.specs.Prelude.{IsTrue, ⊤}
use Rattle.std.specs.declared.cmp.Ordering.TheVariants.{Less, Equal, Greater}
use Rattle.std.specs.List.{AllByRecursion}
use Rattle.std.specs.List.Sorted.{IsStrictlySortedBy}
use Rattle.std.specs.Ordering.{ordering_reverse}
use Rattle.std.specs.FinMap.{put}
use Rattle.std.specs.FinMap.Entries.{by_order}
use Rattle.std.proofs.lemmas.Bool.{and_parts}
use Rattle.fsl_order.specs.Names.{bytes_cmp, is_before}
use Rattle.fsl_order.specs.Rows.{rises, keyed, in_order}
use Rattle.fsl_order.proofs.Orders.{bytes_cmp-IsTotalOrder, bytes_cmp-IsAntisymmetric, less_from}
use Rattle.fsl_files.proofs.Merging.{After-later, AfterKeys, After-put}

-- ---- names that rise

pub sorted-rises : (names : List (List ℕ)) → IsTrue (rises names) → IsStrictlySortedBy bytes_cmp names
unfolding IsStrictlySortedBy
sorted-rises [] h = tt
sorted-rises (a ∷ []) h = (tt, tt)
sorted-rises (a ∷ b ∷ names) h =
    let rest = sorted-rises (b ∷ names) (and_parts (is_before a b) (rises (b ∷ names)) h).1 in
    let less = less_from (bytes_cmp a b) (and_parts (is_before a b) (rises (b ∷ names)) h).0 in
    ((less, After-later (λ (n : List ℕ). n) a b names less rest.0), rest)

-- ---- items in order

module _ {X : Type 0} (name : X → List ℕ) where
  -- each item stands beside its name, and the names rise
  abbrev Kept : List (List ℕ × X) → Type 0
  Kept [] = ⊤
  Kept (e ∷ es) = (e.0 ≡ name e.1) × AfterKeys name e.0 es × Kept es

  Kept-put : (x : X) (es : List (List ℕ × X)) → Kept es → Kept (put bytes_cmp (name x) x es)
  Kept-put x [] kept = (refl, tt, tt)
  Kept-put x (e ∷ es) kept =
      elim (bytes_cmp (name x) e.0) as (λ r. bytes_cmp (name x) e.0 ≡ r → Kept (by_order r ((name x, x) ∷ e ∷ es) ((e.0, x) ∷ es) (e ∷ put bytes_cmp (name x) x es))) [
        | Less ↦ λ h. (refl, (h, After-later (λ (e : List ℕ × X). e.0) (name x) e.0 es h kept.1), kept)
        | Equal ↦ λ h. (sym (bytes_cmp-IsAntisymmetric (name x) e.0 h), kept.1, kept.2)
        | Greater ↦ λ h. (kept.0, After-put name e.0 (name x) x es (bytes_cmp-IsTotalOrder.antisymm e.0 (name x) ∙ ap ordering_reverse h) kept.1, Kept-put x es kept.2)
      ] refl

  Kept-keyed : (xs : List X) → Kept (keyed bytes_cmp name xs)
  Kept-keyed [] = tt
  Kept-keyed (x ∷ xs) = Kept-put x (keyed bytes_cmp name xs) (Kept-keyed xs)

  all_names : (k : List ℕ) (es : List (List ℕ × X)) → AfterKeys name k es → Kept es → AllByRecursion (λ q. bytes_cmp k q ≡ Less) (map name (map (λ e. e.1) es))
  all_names k [] a kept = tt
  all_names k (e ∷ es) a kept = (sym (ap (bytes_cmp k) kept.0) ∙ a.0, all_names k es a.1 kept.2)

  kept-rises : (es : List (List ℕ × X)) → Kept es → IsStrictlySortedBy bytes_cmp (map name (map (λ e. e.1) es))
  unfolding IsStrictlySortedBy
  kept-rises [] kept = tt
  kept-rises (e ∷ es) kept = (subst (λ k. AllByRecursion (λ q. bytes_cmp k q ≡ Less) (map name (map (λ e. e.1) es))) kept.0 (all_names e.0 es kept.1 kept.2), kept-rises es kept.2)

  -- the names of items in order rise
  pub in_order-rises : (xs : List X) → IsStrictlySortedBy bytes_cmp (map name (in_order bytes_cmp name xs))
  in_order-rises xs = kept-rises (keyed bytes_cmp name xs) (Kept-keyed xs)
