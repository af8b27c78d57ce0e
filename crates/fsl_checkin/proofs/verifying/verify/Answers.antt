use Rattle.fsl_checkin.proofs.FilesLemmas.{verdicts_due}
use Rattle.fsl_checkin.proofs.verifying.verify.Goals as goal

pub returns-clause-verdict : goal.returns-clause-verdict
returns-clause-verdict g c = λ honest.
    let seen = c.args.repo.now.seen in
    verdicts_due seen.state seen.items c.args.name c.verified.result c.is_whole.ensures.seen.items honest c.verified.ensures.read
