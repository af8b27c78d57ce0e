use Rattle.std.proofs.Common.{refl, inl}
use Rattle.fsl_pull.proofs.RequestLemmas.{pushed_with}
use Rattle.fsl_pull.proofs.GivenLemmas.{only_read_none}
use Rattle.fsl_pull.proofs.requests.push_request.Goals as goal

pub returns-in-Err-clause-fault : goal.returns-in-Err-clause-fault
returns-in-Err-clause-fault g c = inl (refl, refl)

pub returns-in-Err-clause-repo : goal.returns-in-Err-clause-repo
returns-in-Err-clause-repo g c = only_read_none g.D.Disk.state c.args.repo.now

pub returns-in-Ok-signed-clause-request : goal.returns-in-Ok-signed-clause-request
returns-in-Ok-signed-clause-request g c =
    pushed_with c.args.login.now c.args.repo.now.seen.state c.config.result.now c.args.names.now c.args.due.now c.in-Ok.message c.append_files.new.into c.in-Ok-signed.request
    c.config.ensures c.in-Ok.ensures c.in-Ok-append_files.ensures.files c.in-Ok-signed.ensures

pub returns-in-Err-signed-clause-fault : goal.returns-in-Err-signed-clause-fault
returns-in-Err-signed-clause-fault g c = inl (refl, c.in-Ok-append_files.ensures.count)
