use Rattle.std.proofs.Common.{◌≡◌, ◌∙◌, ℕ, take, ap, arith, refl}
use Rattle.std.specs.Prelude.{min}
use Rattle.fsl_journal.proofs.Ends.{no_answer, no_success, same_fault}
use Rattle.fsl_journal.proofs.Grouping.{window_read}
use Rattle.fsl_journal.proofs.window.Window.first.Goals as goal

pub read_part-requires : goal.read_part-requires
read_part-requires g c = record { inside = λ held told. omega (arith, c.requires.held held told, c.min.ensures) }

pub returns-in_err-part : goal.returns-in_err-part
returns-in_err-part g c =
    let r = c.from_residual.result in
    let is = c.from_residual.ensures.1 in record {
      len = no_answer r _ is _;
      part = no_answer r _ is _;
      held = no_answer r _ is _;
      holds = no_answer r _ is _;
      count = no_success r _ is _;
      fault = same_fault r _ is _ c.in_err-part.ensures.fault;
      quiet = c.read_part.ensures.quiet;
    }

pub returns : goal.returns
returns g c =
    let s = g.D.Disk.state c.args.disk.now in
    let after = g.D.Disk.state c.read_part.new.disk in
    let part = c.in_ok-part.part in
    let most : c.min.result ≡ min 65536 c.args.len = omega (arith, c.min.ensures) in record {
      len = refl;
      part = c.in_ok-part.ensures.sized ∙ most;
      held = λ held told. c.in_ok-part.ensures.held held told ∙ ap (λ (n : ℕ). take n held) most;
      holds = window_read c.args.len 0 part _ s after c.read_part.ensures.quiet.contents refl refl refl c.requires.held c.min.result c.in_ok-part.ensures.sized c.in_ok-part.ensures.held;
      count = c.in_ok-part.ensures.count;
      fault = tt;
      quiet = c.read_part.ensures.quiet;
    }
