use Rattle.std.proofs.Common.{◌++◌, ap, ◌∙◌}
use Rattle.fsl_repo.proofs.Loops.{once_again, once_first}
use Rattle.fsl_pull.proofs.choosing.unsent.Goals as goal
use Rattle.fsl_pull.proofs.choosing.unsent.Goals.{then-branch+in_ok-push, else-branch}

pub loop-name-preserved : goal.loop-name-preserved
loop-name-preserved c =
    let names = c.args.names.now in
    let order = c.args.sent.now.order in
    let out = c.loop-name.list.items in
    let seen = c.loop-name.seen.keys ++ order in
    let more = c.is_first.new.seen.keys ++ order in
    elim c.if-branch.branch [
      | then-branch+in_ok-push w ↦
          once_first names c.loop-name.name-index c.name-item.result _ out seen c.loop-name-test.true c.name-item.is c.loop-name.invariant
          c.in_ok-is_first.field-0 c.in_ok-is_first.ensures.first w.if-branch.true more (c.in_ok-is_first.ensures.with w.if-branch.true)
          c.if-branch.list.items (ap (λ v. v.items) w.list-is ∙ w.in_ok-push.ensures.items)
      | else-branch w ↦
          once_again names c.loop-name.name-index c.name-item.result _ out seen c.loop-name-test.true c.name-item.is c.loop-name.invariant
          c.in_ok-is_first.field-0 c.in_ok-is_first.ensures.first w.if-branch.false more (ap (λ s. s.keys ++ order) (c.in_ok-is_first.ensures.same w.if-branch.false))
          c.if-branch.list.items (ap (λ v. v.items) w.list-is)
    ]
