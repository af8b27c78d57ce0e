use Rattle.std.proofs.Common.{◌<◌, ◌≤◌, length, refl, sym, ap, subst, ◌∙◌, arith, length-append}
use Rattle.fsl_http.specs.Limits.{most_head}
use Rattle.fsl_http.specs.Heads.{Never, IsHeadReadTo}
use Rattle.fsl_http.proofs.Broken.{breaks_after}
use Rattle.fsl_http.proofs.Handed.{no_answer, no_success, same_fault, counted_fault}
use Rattle.fsl_http.proofs.Headed.{head_start, head_whole, head_never, head_more, head_ended}
use Rattle.fsl_http.proofs.Steps.{sends_nothing_after}
use Rattle.fsl_http.proofs.head.read_head.Goals as goal

pub loop-bytes-init : goal.loop-bytes-init
loop-bytes-init g c = record {
  reads = subst (λ xs. IsHeadReadTo g.H.Head.opens (g.L.Link.state c.args.link.now).present (g.L.Link.state c.args.link.now).present xs) (sym c.requires) (head_start _ _);
  stands = refl;
  same = refl;
}

pub returns-in_err-count : goal.returns-in_err-count
returns-in_err-count g c =
    let r = c.from_residual.result in
    let is = c.from_residual.ensures.1 in
    let before = c.loop-bytes.invariant in
    let failed = c.in_err-count.ensures in record {
      ok = no_answer r _ is _;
      whole = no_answer r _ is _;
      err = counted_fault r _ is _ _ _ before.same failed.err;
      broken = same_fault r _ is _ (breaks_after _ (g.L.Link.state c.loop-bytes.link).present _ c.loop-bytes.bytes.items _ before.reads.moved failed.broken);
      sent = sends_nothing_after _ (g.L.Link.state c.loop-bytes.link).present _ c.loop-bytes.bytes.items before.reads.moved failed.sent;
      stands = failed.stands ∙ before.stands;
      later = subst (λ n. n ≤ (g.L.Link.state c.read_piece.new.link).faults) before.same failed.later;
      same = no_success r _ is _;
    }

pub returns-then-count-eq0 : goal.returns-then-count-eq0
returns-then-count-eq0 g c =
    let before = c.loop-bytes.invariant in
    let piece = c.in_ok-count.ensures in
    let same = piece.same ∙ before.same in record {
      ok = head_ended g.H.Head.begins g.H.Head.lacks _ _ (g.L.Link.state c.loop-bytes.link).present _ c.loop-bytes.bytes.items _ _ _ before.reads piece.ok c.if-count-eq0.true;
      whole = tt;
      err = tt;
      broken = tt;
      sent = sends_nothing_after _ (g.L.Link.state c.loop-bytes.link).present _ c.loop-bytes.bytes.items before.reads.moved piece.sent;
      stands = piece.stands ∙ before.stands;
      later = omega (arith, same);
      same = same;
    }

pub front_of-requires : goal.front_of-requires
front_of-requires g c =
    let piece = c.in_ok-count.ensures.ok in
    let whole = ap length c.deref.ensures.value in
    let joined = ap length piece.joined in
    let parts = length-append c.loop-bytes.bytes.items piece.bytes in
    let count = piece.count in
    let fits = piece.fits in
    omega (arith, whole, joined, parts, count, fits)

pub returns-in-Whole : goal.returns-in-Whole
returns-in-Whole g c =
    let before = c.loop-bytes.invariant in
    let piece = c.in_ok-count.ensures in
    let is = subst (λ xs. g.H.Head.begins xs c.in-Whole.len c.in-Whole.head × (c.in-Whole.len ≤ length xs)) c.deref.ensures.value c.in-Whole.ensures in
    let same = piece.same ∙ before.same in record {
      ok = head_whole _ g.H.Head.lacks _ _ (g.L.Link.state c.loop-bytes.link).present _ c.loop-bytes.bytes.items _ _ _ _ _ before.reads piece.ok is.0;
      whole = is;
      err = tt;
      broken = tt;
      sent = sends_nothing_after _ (g.L.Link.state c.loop-bytes.link).present _ c.loop-bytes.bytes.items before.reads.moved piece.sent;
      stands = piece.stands ∙ before.stands;
      later = omega (arith, same);
      same = same;
    }

pub returns-in-Never : goal.returns-in-Never
returns-in-Never g c =
    let before = c.loop-bytes.invariant in
    let piece = c.in_ok-count.ensures in
    let same = piece.same ∙ before.same in record {
      ok = head_never g.H.Head.begins _ _ _ (g.L.Link.state c.loop-bytes.link).present _ c.loop-bytes.bytes.items _ _ _ before.reads piece.ok c.if-count-eq0.false (subst (λ xs. Never g.H.Head.lacks xs) c.deref.ensures.value c.in-Never.ensures);
      whole = tt;
      err = tt;
      broken = tt;
      sent = sends_nothing_after _ (g.L.Link.state c.loop-bytes.link).present _ c.loop-bytes.bytes.items before.reads.moved piece.sent;
      stands = piece.stands ∙ before.stands;
      later = omega (arith, same);
      same = same;
    }

pub loop-bytes-preserved : goal.loop-bytes-preserved
loop-bytes-preserved g c =
    let before = c.loop-bytes.invariant in
    let piece = c.in_ok-count.ensures in record {
      reads = head_more _ _ (g.L.Link.state c.loop-bytes.link).present _ c.loop-bytes.bytes.items _ _ _ before.reads piece.ok (subst (λ xs. g.H.Head.opens xs × (length xs < most_head)) c.deref.ensures.value c.in-Open.ensures);
      stands = piece.stands ∙ before.stands;
      same = piece.same ∙ before.same;
    }

-- the room is never used up: a front that fills it is no open one
pub returns : goal.returns
returns g c = let fits = c.loop-bytes.invariant.reads.fits in absurd (omega (arith, fits))
