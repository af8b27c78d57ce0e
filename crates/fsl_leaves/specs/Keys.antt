-- The keys of children: by parent and branch, and then by child.
use Rattle.std.specs.Prelude.{◌≡◌, ℕ, List, Bool, ◌&&◌, is_some}
use Rattle.std.proofs.Common.{ap}
use Rattle.std.specs.Str.{bytes_eq}
use Rattle.std.specs.Ordering.{ordering_then}
use Rattle.std.specs.declared.cmp.Ordering.{Ordering}
use Rattle.std.specs.declared.cmp.Ordering.TheVariants.{Equal}
use Rattle.std.proofs.lemmas.Map.Lookups.{exact_bytes, exact_pairs}
use Rattle.fsl_order.specs.Names.{bytes_cmp, has}
use Rattle.fsl_table.specs.Contents.{Contents, value_at, first_of}
use Rattle.fsl_table.specs.Pairs.{is_name}
use Rattle.fsl_table.specs.Within.{within, within_cmp}
use Rattle.fsl_table.specs.declared.within.Within.{Within}
use Rattle.fsl_leaves.specs.declared.kin.Twig.{Twig}

-- a name and a branch, by the name and then the branch
abbrev pub twig_cmp : Twig → Twig → Ordering
twig_cmp x y = ordering_then (bytes_cmp x.parent y.parent) (bytes_cmp x.branch y.branch)

pub exact_twig : (x y : Twig) → twig_cmp x y ≡ Equal → x ≡ y
exact_twig x y h =
    let f : List ℕ × List ℕ → Twig = λ p. record { parent = p.0; branch = p.1 } in
    ap f (exact_pairs bytes_cmp bytes_cmp exact_bytes exact_bytes (x.parent, x.branch) (y.parent, y.branch) h)

abbrev pub Kin : Type 0
Kin = Within Twig (List ℕ)

abbrev pub kin_cmp : Kin → Kin → Ordering
kin_cmp = within_cmp twig_cmp bytes_cmp

-- whether a key is there
abbrev pub has_kin : Contents Kin (Unit {0}) → Kin → Bool
has_kin children k = is_some (value_at kin_cmp k children.entries)

-- whether a key is that of a child of one of these names, in a branch
abbrev pub is_kin : List ℕ → List (List ℕ) → List ℕ → Kin → Bool
is_kin child parents branch k = is_name k.second child && (has parents k.first.parent && bytes_eq branch k.first.branch)

-- whether a name has a child in a branch, among the keys
abbrev pub walked : List (Kin × Unit {0}) → List ℕ → List ℕ → Bool
walked children q b = is_some (first_of (within twig_cmp (record { parent = q; branch = b }) children))
