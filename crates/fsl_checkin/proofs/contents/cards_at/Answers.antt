use Rattle.fsl_repo.specs.Machine.{now}
use Rattle.fsl_checkin.proofs.HavingLemmas.{never_absent}
use Rattle.fsl_checkin.proofs.contents.cards_at.Goals as goal

pub unreachable-requires : goal.unreachable-requires
unreachable-requires g c =
    never_absent (now c.args.repo.now.seen.state).held c.args.repo.now.seen.items c.args.name c.is_whole.ensures.seen.items c.requires (rw c.in-Ok-None.field-0-is at c.in-Ok-None.ensures.content)
