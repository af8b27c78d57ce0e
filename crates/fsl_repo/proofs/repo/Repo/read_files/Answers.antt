use Rattle.std.proofs.Common.{◌≡◌, ◌∷◌, ◌++◌, [], Bool, true, not, subst, ap, ◌∙◌}
use Rattle.std.specs.Prelude.{is_ok, if◌then◌else◌}
use Rattle.fsl_disk.proofs.Moments.{quiet_on}
use Rattle.fsl_repo.specs.Machine.{State}
use Rattle.fsl_repo.specs.Sending.{FilesFail, IsReadFile}
use Rattle.fsl_repo.proofs.FileReads.{read_more, files_fail}
use Rattle.fsl_repo.proofs.repo.Repo.read_files.Goals as goal

pub returns-in-Err-clause-fault : goal.returns-in-Err-clause-fault
returns-in-Err-clause-fault g c =
    let due = c.args.due.now in
    let file = c.file-item.result in
    let s = c.args.self.now.seen.state in
    let faults = c.read_file.new.self.seen.state.faults in
    let failed = subst (λ (m : State). FilesFail c.in-Err.fault (file.name ∷ []) m faults) c.loop-file.invariant.state c.in-Err.ensures.fault in
    files_fail c.in-Err.fault due c.loop-file.file-index file s faults c.loop-file-test.true c.file-item.is failed

pub loop-file-preserved : goal.loop-file-preserved
loop-file-preserved g c =
    let s = c.args.self.now.seen.state in
    let old = g.D.Disk.state c.args.self.now.disk in
    let before = g.D.Disk.state c.loop-file.self.disk in
    let new = g.D.Disk.state c.read_file.new.self.disk in
    let file = c.file-item.result in
    let files = c.loop-file.files.items in
    let sent = c.in-Ok.sent in
    let same = c.loop-file.invariant.state in
    let is : IsReadFile s file sent = subst (λ (m : State). IsReadFile m file sent) same c.in-Ok.ensures.file in
    let kept : is_ok c.push.result ≡ true = c.is_err.ensures.negation ∙ ap not c.if-is_err.false in
    let more : c.push.new.self.items ≡ files ++ sent ∷ [] = c.push.ensures.items ∙ ap (λ (b : Bool). if b then files ++ sent ∷ [] else files) kept in
    record {
      read =
          read_more s c.args.due.now c.loop-file.file-index file files c.push.new.self.items sent c.loop-file-test.true c.file-item.is
          c.loop-file.invariant.read is more;
      state = c.in-Ok.ensures.count ∙ same;
      items = c.read_file.ensures.items ∙ c.loop-file.invariant.items;
      loaded = c.read_file.ensures.loaded ∙ c.loop-file.invariant.loaded;
      quiet = quiet_on old before new c.loop-file.invariant.quiet c.read_file.ensures.quiet;
    }
