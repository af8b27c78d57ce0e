-- Groups that compare alike are one.
use Rattle.std.specs.Prelude.{◌≡◌, ℕ, List, Option}
use Rattle.std.proofs.Common.{ap}
use Rattle.std.specs.Option.{option_cmp}
use Rattle.std.specs.Ordering.{ordering_then}
use Rattle.std.specs.declared.cmp.Ordering.{Ordering}
use Rattle.std.specs.declared.cmp.Ordering.TheVariants.{Equal}
use Rattle.std.proofs.lemmas.Map.Lookups.{exact_pairs}
use Rattle.fsl_order.specs.Names.{bytes_cmp}
use Rattle.fsl_table.specs.Exact.{exact_option}
use Rattle.fsl_wiki.specs.declared.group.Group.{Group}
use Rattle.fsl_wiki.specs.Groups.{group_cmp}

abbrev Part : Type 0
Part = Option (List ℕ)

abbrev parts_cmp : Part × Part → Part × Part → Ordering
parts_cmp x y = ordering_then (option_cmp bytes_cmp x.0 y.0) (option_cmp bytes_cmp x.1 y.1)

exact_parts : (x y : Part × Part) → parts_cmp x y ≡ Equal → x ≡ y
exact_parts x y h = exact_pairs (option_cmp bytes_cmp) (option_cmp bytes_cmp) exact_option exact_option x y h

pub exact_group : (x y : Group) → group_cmp x y ≡ Equal → x ≡ y
exact_group x y h =
    let f : Part × (Part × Part) → Group = λ p. record { id = p.0; first = p.1.0; second = p.1.1 } in
    ap f (exact_pairs (option_cmp bytes_cmp) parts_cmp exact_option exact_parts (x.id, (x.first, x.second)) (y.id, (y.first, y.second)) h)
