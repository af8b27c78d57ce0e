use Rattle.std.proofs.Common.{◌∙◌, ◌<◌, ℕ, arith, refl, subst, sym}
use Rattle.std.specs.Prelude.{min, IfOk}
use Rattle.fsl_disk.proofs.Moments.{quiet_on}
use Rattle.fsl_journal.specs.Reading.{FileFailed}
use Rattle.fsl_journal.specs.declared.LoadFault.{LoadFault}
use Rattle.fsl_journal.proofs.Ends.{no_answer, no_success, same_fault}
use Rattle.fsl_journal.proofs.Grouping.{mark_told, no_mark_file, read_file_fault, found_before, failed_before, counted_before}
use Rattle.fsl_journal.proofs.reading.read_sized.Goals as goal

pub returns-in_err-window : goal.returns-in_err-window
returns-in_err-window g c =
    let r = c.from_residual.result in
    let is = c.from_residual.ensures.1 in record {
      ok = no_answer r _ is _;
      inside = no_answer r _ is _;
      taken = no_answer r _ is _;
      sound = no_success r _ is _;
      count = no_success r _ is _;
      fault = same_fault r _ is _ (read_file_fault _ _ _ c.in_err-window.ensures.fault);
      quiet = c.first.ensures.quiet;
    }

pub read_behind-requires : goal.read_behind-requires
read_behind-requires g c =
    let window = c.in_ok-window.window in
    let len = c.args.len in
    let same = c.first.ensures.quiet.contents in record {
      holds = c.in_ok-window.ensures.holds;
      header = λ held told.
          mark_told len (min 65536 len) window.part held (c.requires.held held (sym same ∙ told)) refl (c.in_ok-window.ensures.held held (sym same ∙ told)) c.in-Ok.empty.mark c.in-Ok.ensures.mark;
      inside = c.in-Ok.ensures.inside;
      fits = omega (arith, c.in_ok-window.ensures.len, c.requires.fits);
      nothing = c.in-Ok.ensures.nothing;
      taken = c.requires.taken;
      sound = c.requires.sound;
    }

pub returns-in-Ok : goal.returns-in-Ok
returns-in-Ok g c =
    let s0 = g.D.Disk.state c.args.disk.now in
    let s1 = g.D.Disk.state c.first.new.disk in
    let s2 = g.D.Disk.state c.read_behind.new.disk in
    let r = c.read_behind.result in
    let same = c.first.ensures.quiet.contents in
    let count = c.in_ok-window.ensures.count in record {
      ok = found_before r s0 s1 same c.read_behind.ensures.ok;
      inside = subst (λ (n : ℕ). IfOk r (λ found. found.place < n)) c.in_ok-window.ensures.len c.read_behind.ensures.inside;
      taken = c.read_behind.ensures.taken;
      sound = c.read_behind.ensures.sound;
      count = counted_before r s0.faults s1.faults s2.faults count c.read_behind.ensures.count;
      fault = failed_before r s0 s1 s2 same count c.read_behind.ensures.fault;
      quiet = quiet_on s0 s1 s2 c.first.ensures.quiet c.read_behind.ensures.quiet;
    }

pub returns : goal.returns
returns g c =
    let s0 = g.D.Disk.state c.args.disk.now in
    let s1 = g.D.Disk.state c.first.new.disk in
    let len = c.args.len in
    let failed = c.in-Err.ensures.fault in record {
      ok = tt;
      inside = tt;
      taken = tt;
      sound = tt;
      count = tt;
      fault =
          subst (λ (f : LoadFault). FileFailed f s0 s1) (sym failed.0)
          (no_mark_file s0 s1 len (min 65536 len) c.in_ok-window.window.part c.in_ok-window.ensures.count c.requires.held refl c.in_ok-window.ensures.held failed.1);
      quiet = c.first.ensures.quiet;
    }
