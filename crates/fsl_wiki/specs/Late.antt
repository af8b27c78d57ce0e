-- By date and name, the latest first.
use Rattle.std.specs.Prelude.{◌≡◌, ℕ, List}
use Rattle.std.proofs.Common.{sym}
use Rattle.std.specs.Cmp.{IsTotalOrder, back_total}
use Rattle.std.specs.declared.cmp.Ordering.{Ordering}
use Rattle.std.specs.declared.cmp.Ordering.TheVariants.{Equal}
use Rattle.fsl_order.specs.Names.{dated_cmp}
use Rattle.fsl_order.proofs.Orders.{dated_cmp-IsTotalOrder, dated_cmp-IsAntisymmetric}

-- the latest date first, and at one date the greatest name first
abbrev pub late_cmp : ℕ × List ℕ → ℕ × List ℕ → Ordering
late_cmp a b = dated_cmp b a

pub late_cmp-IsTotalOrder : IsTotalOrder late_cmp
late_cmp-IsTotalOrder = back_total dated_cmp-IsTotalOrder

pub late_cmp-exact : (x y : ℕ × List ℕ) → late_cmp x y ≡ Equal → x ≡ y
late_cmp-exact x y h = sym (dated_cmp-IsAntisymmetric y x h)
