use Rattle.std.proofs.Common.{ℕ, ◌+◌, List, ◌++◌, drop, sym, ap, ◌∙◌}
use Rattle.std.specs.Prelude.{filter_map}
use Rattle.fsl_blobs.specs.Held.{state_of}
use Rattle.fsl_repo.specs.Machine.{now}
use Rattle.fsl_repo.proofs.Loops.{walk_some, walk_none}
use Rattle.fsl_pull.specs.Sent.{public_size}
use Rattle.fsl_pull.proofs.choosing.sizes_of.Goals as goal
use Rattle.fsl_pull.proofs.choosing.sizes_of.Goals.{in-Some+in_ok-push, in_default}

pub loop-name-preserved : goal.loop-name-preserved
loop-name-preserved g c =
    let size_of = λ (name : List ℕ). public_size (state_of (now c.args.repo.now.seen.state) name) in
    let rest = filter_map size_of (drop (c.loop-name.name-index + 1) c.args.names.now) in
    let sizes = c.loop-name.sizes.items in
    elim c.match-public_size.branch [
      | in-Some+in_ok-push w ↦
          walk_some size_of c.args.names.now c.loop-name.name-index c.name-item.result _ sizes c.loop-name-test.true c.name-item.is c.loop-name.invariant
          w.in-Some.size (sym c.public_size.ensures ∙ w.in-Some.is)
          ∙ ap (λ (s : List ℕ). s ++ rest) (sym (ap (λ v. v.items) w.sizes-is ∙ w.in_ok-push.ensures.items))
      | in_default w ↦
          walk_none size_of c.args.names.now c.loop-name.name-index c.name-item.result _ sizes c.loop-name-test.true c.name-item.is c.loop-name.invariant
          (sym c.public_size.ensures ∙ w.in_default.is)
          ∙ ap (λ (s : List ℕ). s ++ rest) (sym (ap (λ v. v.items) w.sizes-is))
    ]
