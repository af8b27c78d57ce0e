use Rattle.std.proofs.Common.{◌∷◌, ◌++◌, [], refl, subst, sym, ◌∙◌}
use Rattle.std.specs.Prelude.{flat_map}
use Rattle.md5.specs.Md5.{Holds}
use Rattle.fsl_repo.specs.Machine.{State, now}
use Rattle.fsl_checkin.specs.Having.{IsAbsorbed}
use Rattle.fsl_checkin.specs.Reads.{ExportFails, content_names}
use Rattle.fsl_checkin.specs.Sums.{summed_file}
use Rattle.fsl_checkin.proofs.HavingLemmas.{of_files, only_read_on, read_more, read_stop, read_whole, summed_more}
use Rattle.fsl_checkin.proofs.verifying.summed.Goals as goal

pub returns-then-not-there-clause-summed : goal.returns-then-not-there-clause-summed
returns-then-not-there-clause-summed g c =
    let s = c.args.repo.now.seen.state in
    let none = subst (λ (x : State). IsAbsorbed x c.file-item.result c.loop-file.hasher c.absorb.new.hasher c.in-Ok.there) c.loop-file.invariant.state c.in-Ok.ensures.absorbed in
    read_stop s.honest (now s).held c.args.files.now c.loop-file.file-index c.file-item.result c.loop-file.invariant.taken.0 c.loop-file-test.true c.file-item.is c.loop-file.invariant.taken.1 (rw c.if-not-there.true at none)

pub returns-in-Err-clause-fault : goal.returns-in-Err-clause-fault
returns-in-Err-clause-fault g c =
    let left = c.absorb.new.repo.seen.state in
    of_files c.in-Err.fault c.args.repo.now.seen.state left c.args.files.now c.loop-file.file-index c.file-item.result c.loop-file.invariant.taken.0 c.loop-file-test.true c.file-item.is c.loop-file.invariant.taken.1
    (subst (λ (s : State). ExportFails c.in-Err.fault s (content_names (c.file-item.result ∷ [])) left) c.loop-file.invariant.state c.in-Err.ensures.fault)

pub loop-file-preserved : goal.loop-file-preserved
loop-file-preserved g c =
    let s = c.args.repo.now.seen.state in
    let items = c.loop-file.invariant.taken.0 in
    let there = subst (λ (x : State). IsAbsorbed x c.file-item.result c.loop-file.hasher c.absorb.new.hasher c.in-Ok.there) c.loop-file.invariant.state c.in-Ok.ensures.absorbed in
    let absorbed = rw c.if-not-there.false at there in
    record {
      taken = (
        items ++ absorbed.0 ∷ [],
        read_more s.honest (now s).held c.args.files.now c.loop-file.file-index c.file-item.result items (items ++ absorbed.0 ∷ []) absorbed.0 c.loop-file-test.true c.file-item.is c.loop-file.invariant.taken.1 absorbed.1 refl,
        subst (Holds c.absorb.new.hasher) (sym (summed_more items absorbed.0)) (absorbed.2 (flat_map summed_file items) c.loop-file.invariant.taken.2),
      );
      state = c.in-Ok.ensures.count ∙ c.loop-file.invariant.state;
      only = only_read_on g.D.Disk.state c.args.repo.now c.loop-file.repo c.absorb.new.repo c.loop-file.invariant.only c.absorb.ensures.repo;
    }

pub returns-clause-summed : goal.returns-clause-summed
returns-clause-summed g c = (
  c.loop-file.invariant.taken.0,
  read_whole c.args.repo.now.seen.state.honest (now c.args.repo.now.seen.state).held c.args.files.now c.loop-file.file-index c.loop-file.invariant.taken.0 c.loop-file-test.false c.loop-file.invariant.taken.1,
  c.finalize.ensures _ c.loop-file.invariant.taken.2,
)
