use Rattle.std.proofs.Common.{arith, refl}
use Rattle.fsl_journal.proofs.Ends.{no_success, same_fault}
use Rattle.fsl_journal.proofs.Grouping.{window_read, window_long}
use Rattle.fsl_journal.proofs.window.Window.cover.Goals as goal

pub read_part-requires : goal.read_part-requires
read_part-requires g c = record { inside = λ held told. omega (arith, window_long c.args.self.now (g.D.Disk.state c.args.disk.now) c.requires.holds held told, c.min.ensures, c.requires.inside) }

pub returns-in_err-part : goal.returns-in_err-part
returns-in_err-part g c =
    let r = c.from_residual.result in
    let is = c.from_residual.ensures.1 in record {
      covers = no_success r _ is _;
      holds = no_success r _ is _;
      len = refl;
      count = no_success r _ is _;
      fault = same_fault r _ is _ c.in_err-part.ensures.fault;
      quiet = c.read_part.ensures.quiet;
    }

pub returns : goal.returns
returns g c =
    let s = g.D.Disk.state c.args.disk.now in
    let after = g.D.Disk.state c.read_part.new.disk in
    let part = c.in_ok-part.part in record {
      covers = record { behind = omega arith; within = omega (arith, c.in_ok-part.ensures.sized, c.min.ensures, c.requires.inside, c.requires.few) };
      holds = window_read c.args.self.now.len c.args.at part _ s after c.read_part.ensures.quiet.contents refl refl refl (window_long c.args.self.now s c.requires.holds) c.min.result c.in_ok-part.ensures.sized c.in_ok-part.ensures.held;
      len = refl;
      count = c.in_ok-part.ensures.count;
      fault = tt;
      quiet = c.read_part.ensures.quiet;
    }
