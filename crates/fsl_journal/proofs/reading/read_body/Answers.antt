use Rattle.std.proofs.Common.{◌≡◌, ◌∙◌, ◌+◌, take, drop, ap, arith, length, refl}
use Rattle.fsl_disk.specs.Disk.{Told}
use Rattle.fsl_journal.proofs.Ends.{no_answer, no_success, same_fault, on_success}
use Rattle.fsl_journal.proofs.Grouping.{window_part, window_long, part_long, holds_on, body_fault, read_body_fault}
use Rattle.fsl_journal.proofs.reading.read_body.Goals as goal

pub read_alone-requires : goal.read_alone-requires
read_alone-requires g c = record {
  inside = λ held told. omega (arith, window_long c.args.window.now (g.D.Disk.state c.args.disk.now) c.requires.holds held told, c.requires.inside);
  fits = omega (arith, c.requires.inside, c.requires.fits);
  version = c.requires.version;
}

pub returns-then-size-gt-MOST : goal.returns-then-size-gt-MOST
returns-then-size-gt-MOST g c =
    let s = g.D.Disk.state c.args.disk.now in
    let after = g.D.Disk.state c.read_alone.new.disk in record {
      ok = c.read_alone.ensures.ok;
      holds = on_success c.read_alone.result _ (holds_on c.args.window.now s after c.read_alone.ensures.quiet.contents c.requires.holds);
      len = refl;
      count = c.read_alone.ensures.count;
      fault = c.read_alone.ensures.fault;
      quiet = c.read_alone.ensures.quiet;
    }

pub returns-in_err-cover : goal.returns-in_err-cover
returns-in_err-cover g c =
    let r = c.from_residual.result in
    let is = c.from_residual.ensures.1 in record {
      ok = no_answer r _ is _;
      holds = no_success r _ is _;
      len = c.cover.ensures.len;
      count = no_success r _ is _;
      fault = same_fault r _ is _ (read_body_fault _ c.args.version c.args.first c.args.at c.args.size _ _ c.in_err-cover.ensures.fault);
      quiet = c.cover.ensures.quiet;
    }

pub returns-in-Ok : goal.returns-in-Ok
returns-in-Ok g c =
    let s = g.D.Disk.state c.args.disk.now in
    let window = c.cover.new.self in
    let at = c.args.at + 9 in
    let size = c.args.size in
    let bytes = c.part.result.now in
    let covers = c.in_ok-cover.ensures.covers in
    let read : Told s (λ held. bytes ≡ take size (drop at held)) =
    λ held told. c.part.ensures ∙ window_part window held at size (c.in_ok-cover.ensures.holds held (c.cover.ensures.quiet.contents ∙ told)) covers in record {
      ok = record { bytes = bytes; is = c.in-Ok.ensures.records; sized = ap length c.part.ensures ∙ part_long window at size covers; held = read };
      holds = c.in_ok-cover.ensures.holds;
      len = c.cover.ensures.len;
      count = c.in_ok-cover.ensures.count;
      fault = tt;
      quiet = c.cover.ensures.quiet;
    }

pub returns-in-Err : goal.returns-in-Err
returns-in-Err g c =
    let s = g.D.Disk.state c.args.disk.now in
    let after = g.D.Disk.state c.cover.new.disk in
    let window = c.cover.new.self in
    let at = c.args.at + 9 in
    let size = c.args.size in
    let bytes = c.part.result.now in
    let read : Told s (λ held. bytes ≡ take size (drop at held)) =
    λ held told. c.part.ensures ∙ window_part window held at size (c.in_ok-cover.ensures.holds held (c.cover.ensures.quiet.contents ∙ told)) c.in_ok-cover.ensures.covers in record {
      ok = tt;
      holds = tt;
      len = c.cover.ensures.len;
      count = tt;
      fault = body_fault c.fault_at.result c.in-Err.fault c.args.version c.args.first c.args.at size bytes s after c.in_ok-cover.ensures.count read c.in-Err.ensures.fault c.fault_at.ensures;
      quiet = c.cover.ensures.quiet;
    }
