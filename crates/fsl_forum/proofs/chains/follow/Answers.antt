use Rattle.std.proofs.Common.{None, ap, sym, subst, ◌∙◌}
use Rattle.std.specs.Option.{is_some}
use Rattle.fsl_order.specs.Names.{has}
use Rattle.fsl_forum.specs.Kept.{IsClimb, IsClimbed}
use Rattle.fsl_forum.proofs.Climbs.{nearer, ahead_is, within_too, passed_there, stays_there, climb_on, climbed}
use Rattle.fsl_forum.proofs.chains.follow.Goals as goal

pub loop-next-smaller : goal.loop-next-smaller
loop-next-smaller c =
    let ends = c.loop-next.ends.entries in
    let new = c.put.new.map.entries in
    let nexts = c.args.nexts.now.entries in
    let at = c.loop-next.at in
    let is = ahead_is ends nexts at c.in-Some.next c.in-Some.ensures in
    nearer ends new nexts at is.0 c.in_ok-put.ensures.len (within_too ends new at None c.in_ok-put.ensures.value nexts c.loop-next.invariant.within (ap is_some is.1)) c.in_ok-put.ensures.rising

pub loop-next-preserved : goal.loop-next-preserved
loop-next-preserved c =
    let ends = c.loop-next.ends.entries in
    let new = c.put.new.map.entries in
    let nexts = c.args.nexts.now.entries in
    let at = c.loop-next.at in
    let path = c.loop-next.path.items in
    let is = ahead_is ends nexts at c.in-Some.next c.in-Some.ensures in
    let put = c.in_ok-put.ensures.value in
    record {
      within = within_too ends new at None put nexts c.loop-next.invariant.within (ap is_some is.1);
      passed = λ q h. passed_there ends new at None put path c.loop-next.invariant.passed q (sym (ap (λ p. has p q) c.in_ok-push.ensures.items) ∙ h);
      stays = λ q h. stays_there ends new at None put q (c.loop-next.invariant.stays q h);
      climbs = λ facts are right. subst (λ p. IsClimb facts new p c.args.from c.in-Some.next) (sym c.in_ok-push.ensures.items)
          (climb_on facts nexts are ends new path c.args.from at c.in-Some.next (c.loop-next.invariant.climbs facts are right) is.1 put);
    }

pub returns-clause-climbed : goal.returns-clause-climbed
returns-clause-climbed c =
    λ facts are right. subst (IsClimbed facts c.loop-next.ends.entries c.loop-next.path.items c.args.from) (sym c.end_there-end.ensures)
    (climbed facts c.args.nexts.now.entries are c.loop-next.ends.entries c.loop-next.path.items c.args.from c.loop-next.at (c.loop-next.invariant.climbs facts are right) c.in_default.ensures)
