use Rattle.std.proofs.Common.{take, ap, ◌∙◌}
use Rattle.std.specs.Prelude.{ℕ, List, filter, filter_map}
use Rattle.fsl_answer.specs.Replies.{taken}
use Rattle.fsl_blobs.specs.Held.{state_of}
use Rattle.fsl_repo.specs.Machine.{now}
use Rattle.fsl_pull.specs.Pushes.{is_public}
use Rattle.fsl_pull.specs.Sent.{public_size}
use Rattle.fsl_pull.specs.PushTurns.{sending}
use Rattle.fsl_pull.proofs.SentLemmas.{due_is}
use Rattle.fsl_pull.proofs.choosing.due.Goals as goal

pub returns : goal.returns
returns g c =
    let here = now c.args.repo.now.seen.state in
    let names = c.in_ok-names.names.items in
    c.truncate.ensures.items ∙ ap (λ (n : ℕ). take n names) (c.taken.ensures ∙ ap taken c.deref-3.ensures.value)
    ∙ due_is here (sending c.args.sent.now c.args.gimmes.now) c.in_ok-fresh.fresh.items names c.in_ok-sizes.sizes.items c.in_ok-fresh.ensures
    (c.in_ok-names.ensures ∙ ap (filter (is_public here)) c.deref.ensures.value)
    (c.in_ok-sizes.ensures ∙ ap (filter_map (λ (name : List ℕ). public_size (state_of here name))) c.deref-2.ensures.value)
