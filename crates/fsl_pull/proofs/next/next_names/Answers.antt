use Rattle.std.proofs.Common.{sym, ap, subst, filter, ◌∙◌}
use Rattle.std.specs.List.Sorted.{IsStrictlySortedBy}
use Rattle.std.proofs.lemmas.List.Kept.{IsStrictlySortedBy-filter}
use Rattle.fsl_order.specs.Names.{bytes_cmp}
use Rattle.fsl_blobs.specs.Fold.{is_new}
use Rattle.fsl_repo.specs.Machine.{now}
use Rattle.fsl_pull.proofs.next.next_names.Goals as goal

pub returns-clause-rising : goal.returns-clause-rising
returns-clause-rising g c =
    let new = is_new (now c.args.repo.now.seen.state) in
    subst (IsStrictlySortedBy bytes_cmp) (sym (c.in_ok-next.ensures ∙ ap (filter new) c.deref.ensures.value))
    (IsStrictlySortedBy-filter bytes_cmp new c.ordered-names.result.items c.ordered-names.ensures.rising)
