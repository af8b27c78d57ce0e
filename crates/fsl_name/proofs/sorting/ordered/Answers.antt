use Rattle.std.proofs.lemmas.List.Filters.{dedup_is}
use Rattle.fsl_name.proofs.OrderedNames.{sorted_once, rising_once}
use Rattle.fsl_name.proofs.sorting.ordered.Goals as goal

pub returns-clause-names : goal.returns-clause-names
returns-clause-names c =
    rw (dedup_is _ _ _ c.dedup.ensures.filtered) (sorted_once c.args.names.items c.sort_unstable.new.self.items c.sort_unstable.ensures.permutation c.sort_unstable.ensures.sorted)

pub returns-clause-rising : goal.returns-clause-rising
returns-clause-rising c =
    rw (dedup_is _ _ _ c.dedup.ensures.filtered) (rising_once c.args.names.items c.sort_unstable.new.self.items c.sort_unstable.ensures.sorted)
