use Rattle.std.proofs.Common.{◌++◌, subst}
use Rattle.fsl_record.specs.Records.{AreRecords}
use Rattle.fsl_repo.specs.Opening.{records_in}
use Rattle.fsl_repo.proofs.Gathers.{writable_more}
use Rattle.fsl_repo.proofs.gathering.folded_on.Goals as goal

pub and_more-requires-clause-fit : goal.and_more-requires-clause-fit
and_more-requires-clause-fit c =
    writable_more c.in-Some.blobs.records c.args.group (subst (λ o. AreRecords (records_in o ++ c.args.group)) c.in-Some.is c.requires.records)
