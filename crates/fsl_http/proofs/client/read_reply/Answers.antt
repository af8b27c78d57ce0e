use Rattle.std.proofs.Common.{◌≡◌, ◌∙◌, ◌≤◌, subst, sym, ap, drop}
use Rattle.std.specs.Prelude.{IfErr, OnOk}
use Rattle.std.proofs.lemmas.List.{take_rest}
use Rattle.fsl_http.specs.Heads.{ReadsHead}
use Rattle.fsl_http.specs.Bodies.{ReadsBody}
use Rattle.fsl_http.specs.Reading.{FailsBy as Fails}
use Rattle.fsl_http.specs.Responses.{HasNoReply, IsUnfinishedReply}
use Rattle.fsl_http.specs.Exchanges.{IsWholeReply, ReadsReply, BreaksReply, FailsBy}
use Rattle.fsl_http.proofs.Broken.{broken_reply, broken_body, fault_tells_nothing, fault_counted}
use Rattle.fsl_http.proofs.Replying.{is_no_head, is_status, is_long, reply_of, reply_sends_nothing, body_fault, body_success}
use Rattle.fsl_http.proofs.client.read_reply.Goals as goal

pub returns-in-Err : goal.returns-in-Err
returns-in-Err g c =
    let failed = c.in-Err.ensures in record {
      replied = fault_tells_nothing _ _ _ _ c.from.ensures;
      broken = broken_reply _ _ _ _ c.from.ensures failed.broken;
      err = fault_counted _ _ _ _ c.from.ensures failed.err;
      sent = failed.sent;
      stands = failed.stands;
      later = failed.later;
      same = tt;
    }

pub returns-in_default : goal.returns-in_default
returns-in_default g c =
    let head = c.in-Ok.ensures in record {
      replied = is_no_head _ _ c.read_head.new.bytes.items c.in-Ok.front c.in_default.not-Whole head.ok;
      broken = tt;
      err = head.same;
      sent = head.sent;
      stands = head.stands;
      later = head.later;
      same = tt;
    }

pub returns-then-head-ne200 : goal.returns-then-head-ne200
returns-then-head-ne200 g c =
    let head = c.in-Ok.ensures in record {
      replied =
          is_status _ _ c.read_head.new.bytes.items c.in-Whole.len c.in-Whole.head c.if-head-ne200.true
          (subst (λ h. ReadsHead IsWholeReply HasNoReply IsUnfinishedReply (g.L.Link.state c.args.link.now).present (g.L.Link.state c.read_head.new.link).present c.read_head.new.bytes.items h) c.in-Whole.is head.ok);
      broken = tt;
      err = head.same;
      sent = head.sent;
      stands = head.stands;
      later = head.later;
      same = tt;
    }

pub returns-then-head-gt-BODY_LIMIT : goal.returns-then-head-gt-BODY_LIMIT
returns-then-head-gt-BODY_LIMIT g c =
    let head = c.in-Ok.ensures in record {
      replied =
          is_long _ _ c.read_head.new.bytes.items c.in-Whole.len c.in-Whole.head c.if-head-ne200.false c.if-head-gt-BODY_LIMIT.true
          (subst (λ h. ReadsHead IsWholeReply HasNoReply IsUnfinishedReply (g.L.Link.state c.args.link.now).present (g.L.Link.state c.read_head.new.link).present c.read_head.new.bytes.items h) c.in-Whole.is head.ok);
      broken = tt;
      err = head.same;
      sent = head.sent;
      stands = head.stands;
      later = head.later;
      same = tt;
    }

pub returns-in-Ok-read_body : goal.returns-in-Ok-read_body
returns-in-Ok-read_body g c =
    let head = c.in-Ok.ensures in
    let body = c.in-Ok-read_body.ensures in
    let now = body.same ∙ head.same in record {
      replied =
          subst (λ r. ReadsReply (g.L.Link.state c.args.link.now).present (g.L.Link.state c.read_body.new.link).present r) (sym c.whole_body.ensures)
          (reply_of _ (g.L.Link.state c.read_head.new.link).present _ c.read_head.new.bytes.items c.in-Ok-read_body.text c.in-Whole.len c.in-Whole.head
          c.if-head-ne200.false c.if-head-gt-BODY_LIMIT.false
          (subst (λ h. ReadsHead IsWholeReply HasNoReply IsUnfinishedReply (g.L.Link.state c.args.link.now).present (g.L.Link.state c.read_head.new.link).present c.read_head.new.bytes.items h) c.in-Whole.is head.ok)
          (subst (λ xs. ReadsBody (g.L.Link.state c.read_head.new.link).present (g.L.Link.state c.read_body.new.link).present xs c.in-Whole.head.size c.in-Ok-read_body.text)
          (take_rest c.deref.result.now c.in-Whole.len ∙ ap (drop c.in-Whole.len) c.deref.ensures.value) body.ok));
      broken =
          subst (λ r. IfErr r (BreaksReply (g.L.Link.state c.args.link.now).present (g.L.Link.state c.read_body.new.link).present)) (sym c.whole_body.ensures)
          (body_fault c.in-Ok-read_body.text c.in-Whole.head.size _ tt);
      err =
          subst (λ r. IfErr r (FailsBy (g.L.Link.state c.args.link.now).faults (g.L.Link.state c.read_body.new.link).faults)) (sym c.whole_body.ensures)
          (body_fault c.in-Ok-read_body.text c.in-Whole.head.size _ now);
      sent = reply_sends_nothing _ (g.L.Link.state c.read_head.new.link).present _ c.read_head.new.bytes.items c.in-Ok.front head.ok body.sent;
      stands = body.stands ∙ head.stands;
      later = subst (λ n. n ≤ (g.L.Link.state c.read_body.new.link).faults) head.same body.later;
      same = subst (λ r. OnOk r ((g.L.Link.state c.read_body.new.link).faults ≡ (g.L.Link.state c.args.link.now).faults)) (sym c.whole_body.ensures)
          (body_success c.in-Ok-read_body.text c.in-Whole.head.size _ now);
    }

pub returns : goal.returns
returns g c =
    let head = c.in-Ok.ensures in
    let failed = c.in-Err-read_body.ensures in
    let is = c.from-in-Err-read_body.ensures in record {
      replied = fault_tells_nothing _ _ _ _ is;
      broken = broken_body _ (g.L.Link.state c.read_head.new.link).present _ c.read_head.new.bytes.items c.in-Ok.front c.in-Err-read_body.fault c.from-in-Err-read_body.result head.ok is failed.broken;
      err = fault_counted _ _ _ _ is (subst (λ n. Fails n (g.L.Link.state c.read_body.new.link).faults c.in-Err-read_body.fault) head.same failed.err);
      sent = reply_sends_nothing _ (g.L.Link.state c.read_head.new.link).present _ c.read_head.new.bytes.items c.in-Ok.front head.ok failed.sent;
      stands = failed.stands ∙ head.stands;
      later = subst (λ n. n ≤ (g.L.Link.state c.read_body.new.link).faults) head.same failed.later;
      same = tt;
    }
