use Rattle.std.proofs.Common.{ap, ◌∙◌}
use Rattle.fsl_repo.proofs.Loops.{once_again, once_first}
use Rattle.fsl_repo.proofs.asking.once.Goals as goal
use Rattle.fsl_repo.proofs.asking.once.Goals.{then-branch+in_ok-push, else-branch}

pub loop-name-preserved : goal.loop-name-preserved
loop-name-preserved c =
    let names = c.args.names.now in
    let out = c.loop-name.list.items in
    let seen = c.loop-name.seen.keys in
    elim c.if-branch.branch [
      | then-branch+in_ok-push w ↦
          once_first names c.loop-name.name-index c.name-item.result _ out seen c.loop-name-test.true c.name-item.is c.loop-name.invariant
          c.in_ok-insert.field-0 c.in_ok-insert.ensures.added w.if-branch.true c.insert.new.self.keys c.in_ok-insert.ensures.updates.0
          c.if-branch.list.items (ap (λ v. v.items) w.list-is ∙ w.in_ok-push.ensures.items)
      | else-branch w ↦
          once_again names c.loop-name.name-index c.name-item.result _ out seen c.loop-name-test.true c.name-item.is c.loop-name.invariant
          c.in_ok-insert.field-0 c.in_ok-insert.ensures.added w.if-branch.false c.insert.new.self.keys (rw w.if-branch.false at c.in_ok-insert.ensures.unchanged)
          c.if-branch.list.items (ap (λ v. v.items) w.list-is)
    ]
