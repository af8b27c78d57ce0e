use Rattle.std.proofs.Common.{◌≡◌, ◌∙◌, ◌+◌, ◌-◌, ◌<◌, ◌≤◌, ℕ, length, take, drop, ap, arith, subst, sym}
use Rattle.std.specs.Prelude.{min, IfOk, IfSome}
use Rattle.fsl_disk.specs.Disk.{Told}
use Rattle.fsl_journal.proofs.Ends.{no_answer, no_success, same_fault, on_success}
use Rattle.fsl_journal.proofs.Grouping.{gate_inside, gate_there, gate_failed, read_group_fault, window_part, window_long, part_long}
use Rattle.fsl_journal.proofs.reading.read_gate.Goals as goal

pub returns-in_err-cover : goal.returns-in_err-cover
returns-in_err-cover g c =
    let r = c.from_residual.result in
    let is = c.from_residual.ensures.1 in record {
      inside = no_answer r _ is _;
      gate = no_answer r _ is _;
      holds = no_success r _ is _;
      len = c.cover.ensures.len;
      count = no_success r _ is _;
      fault = same_fault r _ is _ (λ v records. read_group_fault _ v c.args.at records _ _ c.in_err-cover.ensures.fault);
      quiet = c.cover.ensures.quiet;
    }

pub size_in-requires : goal.size_in-requires
size_in-requires g c = record {
  inside = omega (arith, c.requires.inside, c.cover.ensures.len);
  fits = omega (arith, c.requires.fits, c.cover.ensures.len);
  head = ap length c.part.ensures ∙ part_long c.cover.new.self c.args.at c.min-size.result c.in_ok-cover.ensures.covers ∙ omega (arith, c.min-size.ensures, c.cover.ensures.len);
}

pub returns : goal.returns
returns g c =
    let s = g.D.Disk.state c.args.disk.now in
    let after = g.D.Disk.state c.cover.new.disk in
    let window = c.cover.new.self in
    let at = c.args.at in
    let len = window.len in
    let same = c.cover.ensures.len in
    let head = c.part.result.now in
    let r = c.size_in.result in
    let size : c.min-size.result ≡ min 9 (len - at) = omega (arith, c.min-size.ensures, same) in
    let read : Told s (λ held. head ≡ take (min 9 (len - at)) (drop at held)) =
    λ held told. c.part.ensures ∙ window_part window held at c.min-size.result (c.in_ok-cover.ensures.holds held (c.cover.ensures.quiet.contents ∙ told)) c.in_ok-cover.ensures.covers ∙ ap (λ (n : ℕ). take n (drop at held)) size in
    let long : Told s (λ held. length held ≡ len) = λ held told. window_long c.args.window.now s c.requires.holds held told ∙ sym same in
    let inside : at ≤ len = omega (arith, c.requires.inside, same) in
    let count = c.in_ok-cover.ensures.count in record {
      inside = subst (λ (n : ℕ). IfOk r (λ found. IfSome found (λ size. at + 9 + size < n))) same (gate_inside at len head s after count long inside read r c.size_in.ensures.some);
      gate = gate_there at len head s after count long inside read r c.size_in.ensures.none c.size_in.ensures.some;
      holds = on_success r _ c.in_ok-cover.ensures.holds;
      len = same;
      count = on_success r _ count;
      fault = gate_failed at len head s after count long inside read r c.size_in.ensures.fault;
      quiet = c.cover.ensures.quiet;
    }
