-- Pairs of names that compare alike are one.
use Rattle.std.specs.Prelude.{◌≡◌, ℕ, List, Option, Some, None}
use Rattle.std.proofs.Common.{ap, refl}
use Rattle.std.specs.Option.{option_cmp}
use Rattle.std.specs.Ordering.{ordering_then}
use Rattle.std.specs.declared.cmp.Ordering.{Ordering}
use Rattle.std.specs.declared.cmp.Ordering.TheVariants.{Equal}
use Rattle.std.proofs.lemmas.Map.Lookups.{exact_bytes, exact_pairs}
use Rattle.fsl_order.specs.Names.{bytes_cmp}
use Rattle.fsl_table.specs.declared.key.Pair.{Pair}

-- pairs of names, by the first and then the second, where none is least
abbrev pub pair_cmp : Pair → Pair → Ordering
pair_cmp x y = ordering_then (bytes_cmp x.first y.first) (option_cmp bytes_cmp x.second y.second)

pub exact_option : (x y : Option (List ℕ)) → option_cmp bytes_cmp x y ≡ Equal → x ≡ y
exact_option None None h = refl
exact_option None (Some y) h = cc
exact_option (Some x) None h = cc
exact_option (Some x) (Some y) h = ap Some (exact_bytes x y h)

pub exact_pair : (x y : Pair) → pair_cmp x y ≡ Equal → x ≡ y
exact_pair x y h =
    let f : List ℕ × Option (List ℕ) → Pair = λ p. record { first = p.0; second = p.1 } in
    ap f (exact_pairs bytes_cmp (option_cmp bytes_cmp) exact_bytes exact_option (x.first, x.second) (y.first, y.second) h)
