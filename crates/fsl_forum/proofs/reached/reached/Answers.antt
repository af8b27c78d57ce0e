use Rattle.std.proofs.Common.{ap, length}
use Rattle.fsl_order.specs.Names.{has}
use Rattle.fsl_table.specs.Pairs.{seconds}
use Rattle.fsl_forum.proofs.Reaching.{reaching-begins, reaching-next, reaching-ends, known-begins, known-next, few, nearer}
use Rattle.fsl_forum.proofs.reached.reached.Goals as goal

pub loop-at-init : goal.loop-at-init
loop-at-init g c = record {
  reaching = reaching-begins c.args.followers.now.held.entries c.args.root c.new-seen.result.keys c.new-waiting.result.items c.visit.new.seen.keys c.visit.new.waiting.items
      (λ q. ap (λ ks. has ks q) c.new-seen.ensures.empty) (λ q. ap (λ ks. has ks q) c.new-waiting.ensures.items) c.in_ok-visit.ensures.visited;
  known = known-begins c.args.root c.args.followers.now.held.entries c.new-seen.result.keys c.new-waiting.result.items c.visit.new.seen.keys c.visit.new.waiting.items (λ q. ap (λ ks. has ks q) c.new-seen.ensures.empty) c.in_ok-visit.ensures.visited;
  rising = c.in_ok-visit.ensures.rising;
}

pub loop-at-preserved : goal.loop-at-preserved
loop-at-preserved g c = record {
  reaching = reaching-next c.args.followers.now.held.entries c.args.root c.in-Some.at c.loop-at.seen.keys c.pop.new.names.items c.loop-at.waiting.items c.visit_followers.new.seen.keys c.visit_followers.new.waiting.items
      c.in-Some.ensures c.loop-at.invariant.reaching c.in_ok-visit_followers.ensures.visited;
  known = known-next c.args.root c.args.followers.now.held.entries c.in-Some.at c.loop-at.seen.keys c.pop.new.names.items c.visit_followers.new.seen.keys c.visit_followers.new.waiting.items
      c.loop-at.invariant.known c.in_ok-visit_followers.ensures.visited;
  rising = c.in_ok-visit_followers.ensures.rising;
}

pub loop-at-smaller : goal.loop-at-smaller
loop-at-smaller g c =
    nearer (seconds c.in-Some.at c.args.followers.now.held.entries) c.loop-at.seen.keys c.pop.new.names.items c.loop-at.waiting.items c.visit_followers.new.seen.keys c.visit_followers.new.waiting.items c.in-Some.at (length c.args.followers.now.held.entries)
    c.in-Some.ensures c.in_ok-visit_followers.ensures.visited
    (few c.args.root c.args.followers.now.held.entries c.loop-at.seen.keys c.loop-at.invariant.rising c.loop-at.invariant.known)
    (few c.args.root c.args.followers.now.held.entries c.visit_followers.new.seen.keys c.in_ok-visit_followers.ensures.rising
    (known-next c.args.root c.args.followers.now.held.entries c.in-Some.at c.loop-at.seen.keys c.pop.new.names.items c.visit_followers.new.seen.keys c.visit_followers.new.waiting.items
    c.loop-at.invariant.known c.in_ok-visit_followers.ensures.visited))

pub returns : goal.returns
returns g c = reaching-ends c.args.followers.now.held.entries c.args.root c.loop-at.seen.keys c.loop-at.waiting.items c.in_default.ensures.0 c.loop-at.invariant.reaching
