-- The names that a walk has passed, as far as its sum goes.
use Rattle.std.proofs.Common.{◌≡◌, ℕ, ◌+◌, ◌<◌, ◌≤◌, ◌^◌, Bool, true, false, List, [], ◌∷◌, ◌++◌, map, refl, sym, ap, ◌∙◌, subst, append_assoc, arith}
use Rattle.std.proofs.lemmas.Bool.Decides.{nat_tests}
use Rattle.std.specs.Prelude.{nat_le, if◌then◌else◌}
use Rattle.std.proofs.lemmas.List.{append-nil}
use Rattle.fsl_blobs.specs.declared.Placed.{Placed}
use Rattle.fsl_blobs.specs.Fold.{walked}
use Rattle.fsl_blobs.specs.Listing.{pair_of}

abbrev Pairs : Type 0
Pairs = List (ℕ × List ℕ)

-- the names passed, and those behind them by the sum so far
abbrev pub Passed : ℕ → ℕ → (List ℕ → ℕ) → Pairs → Pairs → ℕ → Type 0
Passed most each size passed names sum = (rest : Pairs) → walked most each size 0 (passed ++ rest) ≡ names ++ walked most each size sum rest

module _ (most each : ℕ) (size : List ℕ → ℕ) where
  pub none_passed : Passed most each size [] [] 0
  none_passed rest = refl

  module _ (passed names : Pairs) (sum : ℕ) (so_far : Passed most each size passed names sum) (p : ℕ × List ℕ) where
    pub one_passed : nat_le most sum ≡ false → Passed most each size (passed ++ p ∷ []) (names ++ p ∷ []) (sum + (size p.1 + each))
    one_passed below rest =
        ap (walked most each size 0) (append_assoc passed (p ∷ []) rest) ∙ so_far (p ∷ rest)
        ∙ ap (λ (b : Bool). names ++ p ∷ (if b then [] else walked most each size (sum + (size p.1 + each)) rest)) below
        ∙ sym (append_assoc names (p ∷ []) (walked most each size (sum + (size p.1 + each)) rest))

    pub last_passed : nat_le most sum ≡ true → (rest : Pairs) → walked most each size 0 (passed ++ p ∷ rest) ≡ names ++ p ∷ []
    last_passed reached rest = so_far (p ∷ rest) ∙ ap (λ (b : Bool). names ++ p ∷ (if b then [] else walked most each size (sum + (size p.1 + each)) rest)) reached

  pub all_passed : (passed names : Pairs) (sum : ℕ) → Passed most each size passed names sum → walked most each size 0 passed ≡ names
  all_passed passed names sum so_far = ap (walked most each size 0) (sym (append-nil passed)) ∙ so_far [] ∙ append-nil names

-- what holds of a walk: that, and that its sum is small
pub record IsWalked (most each : ℕ) (size : List ℕ → ℕ) (behind : Pairs) (names : List Placed) (sum : ℕ) : Type 0 where
  pub passed : Passed most each size behind (map pair_of names) sum
  pub small : sum ≤ 2 ^ 66

map_last : (names : List Placed) (x : Placed) → map pair_of (names ++ x ∷ []) ≡ map pair_of names ++ pair_of x ∷ []
map_last [] x = refl
map_last (n ∷ names) x = ap (λ (ps : Pairs). pair_of n ∷ ps) (map_last names x)

module _ (most each : ℕ) (size : List ℕ → ℕ) (late passed left rest : Pairs) (names new : List Placed) (sum : ℕ) (x : Placed) (walk : IsWalked most each size passed names sum) where
  pub walk_stops : late ≡ passed ++ left → left ≡ pair_of x ∷ rest → most ≤ sum → new ≡ names ++ x ∷ [] → map pair_of new ≡ walked most each size 0 late
  walk_stops all next reached pushed =
      let stop : nat_le most sum ≡ true = grind (arith, nat_tests) in
      ap (map pair_of) pushed ∙ map_last names x
      ∙ sym (ap (walked most each size 0) (all ∙ ap (λ (ps : Pairs). passed ++ ps) next) ∙ last_passed most each size passed (map pair_of names) sum walk.passed (pair_of x) stop rest)

  pub walk_ends : late ≡ passed → map pair_of names ≡ walked most each size 0 late
  walk_ends all = sym (ap (walked most each size 0) all ∙ all_passed most each size passed (map pair_of names) sum walk.passed)

  pub walk_goes : (behind : Pairs) (a b : ℕ) → behind ≡ passed ++ pair_of x ∷ [] → sum < most → most < 2 ^ 64 → each < 2 ^ 64 → a < 2 ^ 64 → a ≡ size x.name → b ≡ each → new ≡ names ++ x ∷ [] → IsWalked most each size behind new (sum + (a + b))
  walk_goes behind a b all below small little fits is same pushed =
      let go : nat_le most sum ≡ false = grind (arith, nat_tests) in
      let one : Passed most each size behind (map pair_of new) (sum + (size x.name + each)) =
      subst (λ (ps : Pairs). Passed most each size ps (map pair_of new) (sum + (size x.name + each))) (sym all)
      (subst (λ (ps : Pairs). Passed most each size (passed ++ pair_of x ∷ []) ps (sum + (size x.name + each))) (sym (ap (map pair_of) pushed ∙ map_last names x))
      (one_passed most each size passed (map pair_of names) sum walk.passed (pair_of x) go)) in
      record {
        passed = subst (λ (n : ℕ). Passed most each size behind (map pair_of new) (sum + n)) (sym (λ i. is i + same i)) one;
        small = omega (arith, below, small, little, fits, same);
      }
