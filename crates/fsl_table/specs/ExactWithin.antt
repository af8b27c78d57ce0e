-- Keys of two parts that compare alike are one, where their parts are.
use Rattle.std.specs.Prelude.{◌≡◌, Option, Some, None}
use Rattle.std.proofs.Common.{ap, refl}
use Rattle.std.specs.Option.{option_cmp}
use Rattle.std.specs.declared.cmp.Ordering.{Ordering}
use Rattle.std.specs.declared.cmp.Ordering.TheVariants.{Equal}
use Rattle.std.proofs.lemmas.Map.Lookups.{exact_pairs}
use Rattle.fsl_table.specs.Within.{within_cmp}
use Rattle.fsl_table.specs.declared.within.Within.{Within}

exact_either : {B : Type 0} (RB : B → B → Ordering) → ((x y : B) → RB x y ≡ Equal → x ≡ y) → (x y : Option B) → option_cmp RB x y ≡ Equal → x ≡ y
exact_either RB exact None None h = refl
exact_either RB exact None (Some y) h = cc
exact_either RB exact (Some x) None h = cc
exact_either RB exact (Some x) (Some y) h = ap Some (exact x y h)

pub exact_within : {A B : Type 0} (RA : A → A → Ordering) (RB : B → B → Ordering) → ((x y : A) → RA x y ≡ Equal → x ≡ y) → ((x y : B) → RB x y ≡ Equal → x ≡ y)
    → (x y : Within A B) → within_cmp RA RB x y ≡ Equal → x ≡ y
exact_within {A = A} {B = B} RA RB exact_a exact_b x y h =
    let f : A × Option B → Within A B = λ p. record { first = p.0; second = p.1 } in
    ap f (exact_pairs RA (option_cmp RB) exact_a (exact_either RB exact_b) (x.first, x.second) (y.first, y.second) h)
