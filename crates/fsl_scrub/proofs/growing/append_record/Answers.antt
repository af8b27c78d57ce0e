use Rattle.std.proofs.Common.{◌++◌, ℕ, List, ap, ◌∙◌}
use Rattle.fsl_record.specs.Records.{record_bytes}
use Rattle.fsl_scrub.proofs.GrowingLemmas.{same_bytes, unwritten}
use Rattle.fsl_scrub.proofs.growing.append_record.Goals as goal

pub returns-in_err-write-clause-writes : goal.returns-in_err-write-clause-writes
returns-in_err-write-clause-writes g c =
    unwritten c.args.at _ (g.P.Disk.state c.args.spare.now) c.from_residual.result (λ f model left. g.met.P.Disk.only_now c.args.spare.now f model left) c.from_residual.ensures.1

pub returns-clause-writes : goal.returns-clause-writes
returns-clause-writes g c =
    let bytes = c.bytes.ensures ∙ c.in_ok-write.ensures.ok ∙ ap (λ (t : List ℕ). t ++ record_bytes c.args.entry.now) c.empty-text.ensures in
    same_bytes c.args.at _ _ _ _ c.append.result bytes c.append.ensures.writes
