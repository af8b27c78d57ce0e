use Rattle.std.proofs.Common.{sym, subst}
use Rattle.std.specs.List.Sorted.{IsStrictlySortedBy}
use Rattle.fsl_order.specs.Names.{bytes_cmp}
use Rattle.fsl_repo.specs.Machine.{now}
use Rattle.fsl_pull.proofs.RisingLemmas.{wants_rise}
use Rattle.fsl_pull.proofs.next.wanted.Goals as goal

pub returns-in-Ok-clause-rising : goal.returns-in-Ok-clause-rising
returns-in-Ok-clause-rising g c =
    let seen = c.args.repo.now.seen in
    subst (IsStrictlySortedBy bytes_cmp) (sym c.in-Ok.ensures) (wants_rise (now seen.state) seen.items)
