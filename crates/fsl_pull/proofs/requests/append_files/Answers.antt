use Rattle.std.proofs.Common.{◌∷◌, [], subst, ◌∙◌}
use Rattle.fsl_repo.specs.Machine.{State}
use Rattle.fsl_pull.specs.Reads.{FileFails, ArePut}
use Rattle.fsl_pull.proofs.GivenLemmas.{only_read_on}
use Rattle.fsl_pull.proofs.RequestLemmas.{files_on, one_fails}
use Rattle.fsl_pull.proofs.requests.append_files.Goals as goal

pub returns-in-Err-clause-fault : goal.returns-in-Err-clause-fault
returns-in-Err-clause-fault g c =
    let left = c.append_public.new.repo.seen.state in
    one_fails c.in-Err.fault c.args.repo.now.seen.state left c.args.names.now c.loop-name.name-index c.name-item.result c.loop-name-test.true c.name-item.is
    (subst (λ (s : State). FileFails c.in-Err.fault s c.name-item.result left) c.loop-name.invariant.state c.in-Err.ensures.fault)

pub loop-name-preserved : goal.loop-name-preserved
loop-name-preserved g c =
    let more = c.append_public.new.into in
    record {
      into =
          files_on c.args.repo.now.seen.state c.args.names.now c.loop-name.name-index c.name-item.result c.args.into.now c.loop-name.into more c.loop-name-test.true c.name-item.is c.loop-name.invariant.into
          (subst (λ (s : State). ArePut s (c.name-item.result ∷ []) c.loop-name.into more) c.loop-name.invariant.state c.in-Ok.ensures.file);
      state = c.in-Ok.ensures.count ∙ c.loop-name.invariant.state;
      only = only_read_on g.D.Disk.state c.args.repo.now c.loop-name.repo c.append_public.new.repo c.loop-name.invariant.only c.append_public.ensures.repo;
    }
