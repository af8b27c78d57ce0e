use Rattle.fsl_checkin.proofs.FilesLemmas.{exports_due}
use Rattle.fsl_checkin.proofs.exporting.export.Goals as goal

pub returns-clause-export : goal.returns-clause-export
returns-clause-export g c = λ honest.
    let seen = c.args.repo.now.seen in
    exports_due seen.state seen.items c.args.name c.exported.result c.is_whole.ensures.seen.items honest c.exported.ensures.read
