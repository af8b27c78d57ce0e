-- The order of pairs is total.
use Rattle.std.specs.Cmp.{IsTotalOrder, then_total, on_total}
use Rattle.std.specs.Cmp.Lexicographic.{nat_list_cmp_total, options_total}
use Rattle.fsl_table.specs.Exact.{pair_cmp}

pub pair_cmp-IsTotalOrder : IsTotalOrder pair_cmp
pair_cmp-IsTotalOrder = then_total (on_total (λ p. p.first) nat_list_cmp_total) (on_total (λ p. p.second) (options_total nat_list_cmp_total))
