use Rattle.std.proofs.Common.{◌∙◌, ◌≤◌, refl, subst, sym, ap, drop}
use Rattle.std.proofs.lemmas.List.{take_rest}
use Rattle.fsl_http.specs.Heads.{ReadsHead}
use Rattle.fsl_http.specs.Bodies.{ReadsBody}
use Rattle.fsl_http.specs.Requests.{IsWholeHead, HasNoHead, IsUnfinished}
use Rattle.fsl_http.specs.Asking.{IsAsked, IsListedAnswer, ended_answer}
use Rattle.fsl_http.proofs.Asks.{head_moves, head_sends_nothing, listed_status, listed_length, listed_ended, listed_body, ask_refused, ask_never, ask_ended, ask_body}
use Rattle.fsl_http.proofs.Broken.{breaks_after}
use Rattle.fsl_http.proofs.Handed.{no_answer, no_success, same_fault, counted_fault}
use Rattle.fsl_http.proofs.request.ask.Goals as goal

pub returns-in_err-len : goal.returns-in_err-len
returns-in_err-len g c =
    let r = c.from_residual.result in
    let is = c.from_residual.ensures.1 in
    let failed = c.in_err-len.ensures in record {
      ok = no_answer r _ is _;
      listed = no_answer r _ is _;
      err = same_fault r _ is _ failed.err;
      broken = same_fault r _ is _ failed.broken;
      sent = failed.sent;
      stands = failed.stands;
      later = failed.later;
      same = no_success r _ is _;
    }

pub returns-in-Refuse : goal.returns-in-Refuse
returns-in-Refuse g c =
    let head = c.in_ok-len.ensures in record {
      ok = ask_refused _ _ c.read_head.new.bytes.items c.in-Whole.len c.in-Refuse.status c.in-Whole.head c.in-Refuse.is
          (subst (λ h. ReadsHead IsWholeHead HasNoHead IsUnfinished (g.L.Link.state c.args.link.now).present (g.L.Link.state c.read_head.new.link).present c.read_head.new.bytes.items h) c.in-Whole.is c.in_ok-len.ensures.ok);
      listed = listed_status c.read_head.new.bytes.items c.in-Whole.len c.in-Refuse.status c.in-Whole.head _ c.in-Whole.is c.in-Refuse.is head.whole;
      err = tt;
      broken = tt;
      sent = head.sent;
      stands = head.stands;
      later = head.later;
      same = head.same;
    }

pub returns-in_err-text-in-Length : goal.returns-in_err-text-in-Length
returns-in_err-text-in-Length g c =
    let r = c.from_residual-in_err-text-in-Length.result in
    let is = c.from_residual-in_err-text-in-Length.ensures.1 in
    let head = c.in_ok-len.ensures in
    let failed = c.in_err-text-in-Length.ensures in record {
      ok = no_answer r _ is _;
      listed = no_answer r _ is _;
      err = counted_fault r _ is _ _ _ head.same failed.err;
      broken = same_fault r _ is _ (breaks_after _ (g.L.Link.state c.read_head.new.link).present _ c.read_head.new.bytes.items _ (head_moves _ _ _ _ head.ok) failed.broken);
      sent = head_sends_nothing _ (g.L.Link.state c.read_head.new.link).present _ _ _ head.ok failed.sent;
      stands = failed.stands ∙ head.stands;
      later = subst (λ n. n ≤ (g.L.Link.state c.read_body.new.link).faults) head.same failed.later;
      same = no_success r _ is _;
    }

pub returns-in-Whole : goal.returns-in-Whole
returns-in-Whole g c =
    let head = c.in_ok-len.ensures in
    let body = c.in_ok-text-in-Length.ensures in record {
      ok =
          subst (λ a. IsAsked (g.L.Link.state c.args.link.now).present (g.L.Link.state c.read_body.new.link).present a) (sym c.whole_or_short.ensures)
          (ask_body _ (g.L.Link.state c.read_head.new.link).present _ c.read_head.new.bytes.items c.in-Whole.len c.in-Length.size c.in-Whole.head c.in_ok-text-in-Length.text c.in-Length.is
          (subst (λ h. ReadsHead IsWholeHead HasNoHead IsUnfinished (g.L.Link.state c.args.link.now).present (g.L.Link.state c.read_head.new.link).present c.read_head.new.bytes.items h) c.in-Whole.is c.in_ok-len.ensures.ok)
          (subst (λ xs. ReadsBody (g.L.Link.state c.read_head.new.link).present (g.L.Link.state c.read_body.new.link).present xs c.in-Length.size c.in_ok-text-in-Length.text)
          (take_rest c.deref.result.now c.in-Whole.len ∙ ap (drop c.in-Whole.len) c.deref.ensures.value) body.ok));
      listed =
          subst (λ a. IsListedAnswer a) (sym c.whole_or_short.ensures)
          (listed_body c.in_ok-text-in-Length.text c.in-Length.size body.fits
          (listed_length c.read_head.new.bytes.items c.in-Whole.len c.in-Length.size c.in-Whole.head _ c.in-Whole.is c.in-Length.is head.whole));
      err = tt;
      broken = tt;
      sent = head_sends_nothing _ (g.L.Link.state c.read_head.new.link).present _ _ _ head.ok body.sent;
      stands = body.stands ∙ head.stands;
      later = subst (λ n. n ≤ (g.L.Link.state c.read_body.new.link).faults) head.same body.later;
      same = body.same ∙ head.same;
    }

pub returns-in-Never : goal.returns-in-Never
returns-in-Never g c =
    let head = c.in_ok-len.ensures in record {
      ok = ask_never _ _ c.read_head.new.bytes.items
          (subst (λ h. ReadsHead IsWholeHead HasNoHead IsUnfinished (g.L.Link.state c.args.link.now).present (g.L.Link.state c.read_head.new.link).present c.read_head.new.bytes.items h) c.in-Never.is c.in_ok-len.ensures.ok);
      listed = refl;
      err = tt;
      broken = tt;
      sent = head.sent;
      stands = head.stands;
      later = head.later;
      same = head.same;
    }

pub returns : goal.returns
returns g c =
    let head = c.in_ok-len.ensures in record {
      ok =
          subst (λ a. IsAsked (g.L.Link.state c.args.link.now).present (g.L.Link.state c.read_head.new.link).present a)
          (sym (c.ended.ensures ∙ ap ended_answer c.deref-in-Open.ensures.value))
          (ask_ended _ _ c.read_head.new.bytes.items
          (subst (λ h. ReadsHead IsWholeHead HasNoHead IsUnfinished (g.L.Link.state c.args.link.now).present (g.L.Link.state c.read_head.new.link).present c.read_head.new.bytes.items h) c.in-Open.is c.in_ok-len.ensures.ok));
      listed = subst (λ a. IsListedAnswer a) (sym c.ended.ensures) (listed_ended _);
      err = tt;
      broken = tt;
      sent = head.sent;
      stands = head.stands;
      later = head.later;
      same = head.same;
    }
