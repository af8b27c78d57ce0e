use Rattle.std.proofs.Common.{◌∷◌, [], ◌∙◌, subst}
use Rattle.fsl_repo.specs.Machine.{State, now}
use Rattle.fsl_checkin.specs.Having.{IsFileAdded}
use Rattle.fsl_checkin.specs.Reads.{ExportFails, content_names}
use Rattle.fsl_checkin.proofs.HavingLemmas.{filled_lacking, hashed_at, of_files, only_read_on, read_more, read_stop, read_whole}
use Rattle.fsl_checkin.proofs.exporting.filled.Goals as goal

pub lacking-requires : goal.lacking-requires
lacking-requires g c = hashed_at c.args.files.now c.loop-file.file-index c.file-item.result c.loop-file-test.true c.file-item.is c.requires

pub returns-then-not-there-clause-export : goal.returns-then-not-there-clause-export
returns-then-not-there-clause-export g c =
    let s = c.args.repo.now.seen.state in
    let none = subst (λ (x : State). IsFileAdded x c.file-item.result c.loop-file.items c.add_file.new.items c.in-Ok.there) c.loop-file.invariant.state c.in-Ok.ensures.added in
    let stop = read_stop s.honest (now s).held c.args.files.now c.loop-file.file-index c.file-item.result c.loop-file.items c.loop-file-test.true c.file-item.is c.loop-file.invariant.items (rw c.if-not-there.true at none) in
    filled_lacking s c.args.files.now _ c.lacking.result c.lacking.ensures stop.0 stop.1

pub returns-in-Err-clause-fault : goal.returns-in-Err-clause-fault
returns-in-Err-clause-fault g c =
    let left = c.add_file.new.repo.seen.state in
    of_files c.in-Err.fault c.args.repo.now.seen.state left c.args.files.now c.loop-file.file-index c.file-item.result c.loop-file.items c.loop-file-test.true c.file-item.is c.loop-file.invariant.items
    (subst (λ (s : State). ExportFails c.in-Err.fault s (content_names (c.file-item.result ∷ [])) left) c.loop-file.invariant.state c.in-Err.ensures.fault)

pub loop-file-preserved : goal.loop-file-preserved
loop-file-preserved g c =
    let s = c.args.repo.now.seen.state in
    let there = subst (λ (x : State). IsFileAdded x c.file-item.result c.loop-file.items c.add_file.new.items c.in-Ok.there) c.loop-file.invariant.state c.in-Ok.ensures.added in
    let added = rw c.if-not-there.false at there in
    record {
      items = read_more s.honest (now s).held c.args.files.now c.loop-file.file-index c.file-item.result c.loop-file.items c.add_file.new.items added.0 c.loop-file-test.true c.file-item.is c.loop-file.invariant.items added.1 added.2;
      state = c.in-Ok.ensures.count ∙ c.loop-file.invariant.state;
      only = only_read_on g.D.Disk.state c.args.repo.now c.loop-file.repo c.add_file.new.repo c.loop-file.invariant.only c.add_file.ensures.repo;
    }

pub returns-clause-export : goal.returns-clause-export
returns-clause-export g c = read_whole c.args.repo.now.seen.state.honest (now c.args.repo.now.seen.state).held c.args.files.now c.loop-file.file-index c.loop-file.items c.loop-file-test.false c.loop-file.invariant.items
