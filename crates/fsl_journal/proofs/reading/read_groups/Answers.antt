use Rattle.std.proofs.Common.{[], ◌∷◌, ◌++◌, ◌∙◌, ◌+◌, ◌<◌, arith, drop, refl, subst, sym}
use Rattle.std.specs.Prelude.{IfSome}
use Rattle.fsl_disk.proofs.Moments.{quiet_on}
use Rattle.fsl_journal.specs.File.{version_of}
use Rattle.fsl_journal.specs.Reading.{records_of, IsGate}
use Rattle.fsl_journal.proofs.Ends.{same_fault}
use Rattle.fsl_journal.proofs.Grouping.{so_far_none, so_far_on, group_fault}
use Rattle.fsl_journal.proofs.Rereading.{quiet_same}
use Rattle.fsl_journal.proofs.reading.read_groups.Goals as goal

pub groups-init : goal.groups-init
groups-init g c =
    let s = g.D.Disk.state c.args.disk.now in
    ([], so_far_none c.args.found.now c.args.window.now.len s c.requires.nothing c.requires.inside c.requires.header, quiet_same s, refl, c.requires.taken, c.requires.sound, c.requires.holds, refl)

pub read_gate-requires : goal.read_gate-requires
read_gate-requires g c =
    let inv = c.groups.invariant in record {
      holds = inv.6;
      inside = omega (arith, inv.1.inside, inv.7);
      fits = omega (arith, inv.7, c.requires.fits);
    }

pub returns-in_err-size-clause-fault : goal.returns-in_err-size-clause-fault
returns-in_err-size-clause-fault g c =
    let inv = c.groups.invariant in
    let found = c.groups.found in
    let fault = c.in_err-size.field-0.0 in
    same_fault c.from_residual.result _ c.from_residual.ensures.1 _
    (group_fault fault inv.0 c.args.window.now.len found (g.D.Disk.state c.args.disk.now) (g.D.Disk.state c.groups.disk) (g.D.Disk.state c.read_gate.new.disk) inv.1 inv.2.contents inv.3 (c.in_err-size.ensures.fault (version_of found.mark) (records_of found)))

pub read_group-requires : goal.read_group-requires
read_group-requires g c =
    let inv = c.groups.invariant in
    let inside = subst (λ o. IfSome o (λ size. c.groups.found.place + 9 + size < c.groups.window.len)) c.in-Some.is c.in_ok-size.ensures.inside in record {
      holds = c.in_ok-size.ensures.holds;
      gate = λ held told. subst (λ o. IsGate o (drop c.groups.found.place held)) c.in-Some.is (c.in_ok-size.ensures.gate held (sym c.read_gate.ensures.quiet.contents ∙ told));
      inside = omega (arith, inside, c.read_gate.ensures.len);
      fits = omega (arith, inv.7, c.requires.fits, c.read_gate.ensures.len);
      read = inv.1.read;
      taken = inv.4;
      sound = inv.5;
    }

pub groups-preserved : goal.groups-preserved
groups-preserved g c =
    let inv = c.groups.invariant in
    let s0 = g.D.Disk.state c.args.disk.now in
    let s = g.D.Disk.state c.groups.disk in
    let s1 = g.D.Disk.state c.read_gate.new.disk in
    let s2 = g.D.Disk.state c.read_group.new.disk in
    let more = c.in_ok-read_group.ensures.ok in
    let inside = subst (λ o. IfSome o (λ size. c.groups.found.place + 9 + size < c.groups.window.len)) c.in-Some.is c.in_ok-size.ensures.inside in (
      inv.0 ++ more.group ∷ [],
      so_far_on inv.0 c.args.window.now.len c.groups.found s0 inv.1 c.in-Some.size c.read_group.new.found s1 (c.read_gate.ensures.quiet.contents ∙ inv.2.contents) more (omega (arith, inside, inv.7)),
      quiet_on s0 s1 s2 (quiet_on s0 s s1 inv.2 c.read_gate.ensures.quiet) c.read_group.ensures.quiet,
      c.in_ok-read_group.ensures.count ∙ c.in_ok-size.ensures.count ∙ inv.3,
      c.in_ok-read_group.ensures.taken,
      c.in_ok-read_group.ensures.sound,
      c.in_ok-read_group.ensures.holds,
      c.read_group.ensures.len ∙ c.read_gate.ensures.len ∙ inv.7,
    )

pub returns-in_err-read_group-clause-fault : goal.returns-in_err-read_group-clause-fault
returns-in_err-read_group-clause-fault g c =
    let inv = c.groups.invariant in
    let found = c.groups.found in
    let fault = c.in_err-read_group.field-0.0 in
    same_fault c.from_residual-in_err-read_group.result _ c.from_residual-in_err-read_group.ensures.1 _
    (group_fault fault inv.0 c.args.window.now.len found (g.D.Disk.state c.args.disk.now) (g.D.Disk.state c.read_gate.new.disk) (g.D.Disk.state c.read_group.new.disk) inv.1 (c.read_gate.ensures.quiet.contents ∙ inv.2.contents) (c.in_ok-size.ensures.count ∙ inv.3) c.in_err-read_group.ensures.fault)
