use Rattle.std.proofs.Common.{◌≤◌, ℕ, List, [], length, refl, sym, subst, ◌∙◌, arith}
use Rattle.fsl_http.specs.Bodies.{ReadsBody}
use Rattle.fsl_http.proofs.Bodied.{body_start, body_more, body_ended, body_whole}
use Rattle.fsl_http.proofs.Broken.{broken_at_once, breaks_after}
use Rattle.fsl_http.proofs.Handed.{no_answer, no_success, same_fault, counted_fault}
use Rattle.fsl_http.proofs.Steps.{reads_nothing, sends_nothing_moved, sends_nothing_after}
use Rattle.fsl_http.proofs.body.read_body.Goals as goal

pub returns-in_default : goal.returns-in_default
returns-in_default g c =
    let a = (g.L.Link.state c.args.link.now).present in record {
      ok = tt;
      fits = tt;
      err = refl;
      broken = broken_at_once a;
      sent = sends_nothing_moved a a [] (reads_nothing a);
      stands = refl;
      later = omega arith;
      same = tt;
    }

pub returns-then-is_err : goal.returns-then-is_err
returns-then-is_err g c =
    let a = (g.L.Link.state c.args.link.now).present in record {
      ok = tt;
      fits = tt;
      err = refl;
      broken = broken_at_once a;
      sent = sends_nothing_moved a a [] (reads_nothing a);
      stands = refl;
      later = omega arith;
      same = tt;
    }

pub loop-body-init : goal.loop-body-init
loop-body-init g c = record {
  reads =
      let m = c.min-here.ensures in
      body_start _ c.args.front.now c.min-here.result c.args.size (omega arith) (omega arith) (λ lt. omega (arith, lt)) _ (◌∙◌ {A = List ℕ} c.reserve_exact.ensures.items c.in-Ok.ensures.items);
  stands = refl;
  same = refl;
}

pub returns-in_err-count : goal.returns-in_err-count
returns-in_err-count g c =
    let r = c.from_residual.result in
    let is = c.from_residual.ensures.1 in
    let before = c.loop-body.invariant in
    let failed = c.in_err-count.ensures in record {
      ok = no_answer r _ is _;
      fits = no_answer r _ is _;
      err = counted_fault r _ is _ _ _ before.same failed.err;
      broken = same_fault r _ is _ (breaks_after _ (g.L.Link.state c.loop-body.link).present _ before.reads.bytes _ before.reads.moved failed.broken);
      sent = sends_nothing_after _ (g.L.Link.state c.loop-body.link).present _ before.reads.bytes before.reads.moved failed.sent;
      stands = failed.stands ∙ before.stands;
      later = subst (λ n. n ≤ (g.L.Link.state c.read_piece.new.link).faults) before.same failed.later;
      same = no_success r _ is _;
    }

pub returns-then-count-eq0 : goal.returns-then-count-eq0
returns-then-count-eq0 g c =
    let before = c.loop-body.invariant in
    let piece = c.in_ok-count.ensures in
    let room = c.len-in-loop-body.ensures in
    let same = piece.same ∙ before.same in record {
      ok = subst (λ t. ReadsBody (g.L.Link.state c.args.link.now).present (g.L.Link.state c.read_piece.new.link).present c.args.front.now c.args.size t) (sym c.from_vec.ensures)
          (body_ended _ (g.L.Link.state c.loop-body.link).present _ _ c.loop-body.body.items _ _ _ _ before.reads (omega arith) piece.ok (omega (arith, room)) c.if-count-eq0.true);
      fits = subst (λ t. length t ≤ c.args.size) (sym c.from_vec.ensures)
          (body_more _ (g.L.Link.state c.loop-body.link).present _ c.args.front.now c.loop-body.body.items _ _ c.args.size _ before.reads (omega arith) piece.ok (omega (arith, room))).behind.fits;
      err = tt;
      broken = tt;
      sent = sends_nothing_after _ (g.L.Link.state c.loop-body.link).present _ before.reads.bytes before.reads.moved piece.sent;
      stands = piece.stands ∙ before.stands;
      later = omega (arith, same);
      same = same;
    }

pub loop-body-preserved : goal.loop-body-preserved
loop-body-preserved g c =
    let before = c.loop-body.invariant in
    let piece = c.in_ok-count.ensures in
    let room = c.len-in-loop-body.ensures in record {
      reads = body_more _ (g.L.Link.state c.loop-body.link).present _ _ c.loop-body.body.items _ _ _ _ before.reads (omega arith) piece.ok (omega (arith, room));
      stands = piece.stands ∙ before.stands;
      same = piece.same ∙ before.same;
    }

pub returns : goal.returns
returns g c =
    let before = c.loop-body.invariant in record {
      ok = subst (λ t. ReadsBody (g.L.Link.state c.args.link.now).present (g.L.Link.state c.loop-body.link).present c.args.front.now c.args.size t) (sym c.from_vec-2.ensures) (body_whole _ _ _ _ _ before.reads (omega arith));
      fits = subst (λ t. length t ≤ c.args.size) (sym c.from_vec-2.ensures) before.reads.behind.fits;
      err = tt;
      broken = tt;
      sent = sends_nothing_moved _ _ before.reads.bytes before.reads.moved;
      stands = before.stands;
      later = (let same = before.same in omega (arith, same));
      same = before.same;
    }
