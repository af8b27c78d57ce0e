use Rattle.std.proofs.Common.{Option, ap, sym, ◌∙◌}
use Rattle.std.specs.Prelude.{is_some}
use Rattle.fsl_name.specs.declared.reference.Ref.{Ref}
use Rattle.fsl_repo.specs.Machine.{now}
use Rattle.fsl_checkin.proofs.HavingLemmas.{missing_some}
use Rattle.fsl_checkin.proofs.verifying.judged.Goals as goal

pub lacking-requires : goal.lacking-requires
lacking-requires g c =
    let missing = rw c.in-Ok-Missing.field-0-is at c.in-Ok-Missing.ensures.summed in
    ap (λ (o : Option Ref). is_some o) (sym missing.1) ∙ missing_some (now c.args.repo.now.seen.state).held c.args.files.now c.requires missing.0
