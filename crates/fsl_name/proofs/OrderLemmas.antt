-- What code learns where it compares names: they are ordered and told apart by their bytes.
use Rattle.std.specs.Prelude.{◌≡◌, ℕ, List, refl}
use Rattle.std.specs.declared.cmp.Ordering.TheVariants.{Equal}
use Rattle.std.specs.Cmp.{IsTotalOrder}
use Rattle.std.specs.Str.{bytes_eq}
use Rattle.fsl_order.specs.Names.{bytes_cmp}
use Rattle.fsl_order.proofs.Orders.{bytes_cmp-IsTotalOrder, bytes_cmp-IsAntisymmetric}
use Rattle.fsl_name.specs.contracts.NameOrd.TheImpl.{cmp-value}
use Rattle.fsl_name.specs.contracts.NamePartialEq.TheImpl.{eq-value}

-- `cmp` of two names compares their bytes
pub name_cmp-is : (x y : List ℕ) → cmp-value.it x y ≡ bytes_cmp x y
name_cmp-is x y = refl

pub name_eq-is : (x y : List ℕ) → eq-value.it x y ≡ bytes_eq x y
name_eq-is x y = refl

pub name_cmp-IsTotalOrder : IsTotalOrder cmp-value.it
name_cmp-IsTotalOrder = bytes_cmp-IsTotalOrder

-- names that tie are the same
pub name_cmp-exact : (x y : List ℕ) → bytes_cmp x y ≡ Equal → x ≡ y
name_cmp-exact = bytes_cmp-IsAntisymmetric
