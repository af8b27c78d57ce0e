use Rattle.std.proofs.Common.{arith, subst, sym}
use Rattle.fsl_journal.specs.Reading.{records_of, GroupFailed}
use Rattle.fsl_journal.proofs.Ends.{same_fault}
use Rattle.fsl_journal.proofs.Grouping.{noted_none, group_fault_of, more_noted, window_long}
use Rattle.fsl_journal.proofs.Records.{AreReadSoFar, are_with}
use Rattle.fsl_journal.proofs.reading.read_group.Goals as goal

pub returns-in_err-group-clause-fault : goal.returns-in_err-group-clause-fault
returns-in_err-group-clause-fault g c =
    let found = c.args.found.now in
    let v = c.version_of-version.result in
    let s = g.D.Disk.state c.args.disk.now in
    let after = g.D.Disk.state c.read_body.new.disk in
    let first_is = noted_none found c.is_empty-first.result c.is_empty-first.ensures found.records.ok.0 in
    let failed = group_fault_of c.in_err-group.field-0.0 v c.is_empty-first.result found.place c.args.size (records_of found) s after first_is (omega (arith, c.requires.inside, c.requires.fits)) c.requires.gate c.in_err-group.ensures.fault in
    same_fault c.from_residual.result _ c.from_residual.ensures.1 _ (subst (λ w. GroupFailed w found.place (records_of found) c.in_err-group.field-0.0 s after) c.version_of-version.ensures.value failed)

pub returns-clause-ok : goal.returns-clause-ok
returns-clause-ok g c =
    let found = c.args.found.now in
    let v = c.version_of-version.result in
    let s = g.D.Disk.state c.args.disk.now in
    let first_is = noted_none found c.is_empty-first.result c.is_empty-first.ensures found.records.ok.0 in
    more_noted c.hand_on.result v c.is_empty-first.result c.args.size found c.hand_on.new.found s c.in_ok-group.group c.in_ok-group.ensures.ok c.version_of-version.ensures.value first_is
    (subst (λ w. AreReadSoFar w (records_of found)) (sym c.version_of-version.ensures.value) c.requires.read) (omega (arith, c.requires.inside, c.requires.fits)) c.requires.gate (λ held told. omega (arith, c.requires.inside, window_long c.args.window.now s c.requires.holds held told))
    c.hand_on.ensures.records c.hand_on.ensures.places c.hand_on.ensures.place c.hand_on.ensures.mark

pub hand_on-requires-clause-records : goal.hand_on-requires-clause-records
hand_on-requires-clause-records g c =
    let found = c.args.found.now in
    let first_is = noted_none found c.is_empty-first.result c.is_empty-first.ensures found.records.ok.0 in
    let body = c.in_ok-group.ensures.ok in
    (are_with c.version_of-version.result (records_of found) c.in_ok-group.group body.bytes c.is_empty-first.result first_is (subst (λ w. AreReadSoFar w (records_of found)) (sym c.version_of-version.ensures.value) c.requires.read) body.is).0
