use Rattle.std.proofs.Common.{ℕ, List, Some, cond, subst}
use Rattle.std.specs.Prelude.{◌≡◌}
use Rattle.std.proofs.lemmas.Result.{on_ok_weaker}
use Rattle.fsl_order.specs.Names.{has}
use Rattle.fsl_order.specs.Maps.{value_at}
use Rattle.fsl_forum.proofs.Climbs.{settled}
use Rattle.fsl_forum.proofs.chains.settle.Goals as goal

pub returns-clause-right : goal.returns-clause-right
returns-clause-right c =
    let climb = c.in_ok-climb.climb in
    let ends = c.follow.new.ends.entries in
    let mid = c.put_each.new.ends.entries in
    on_ok_weaker c.put.result (λ put facts are right. settled facts ends mid c.put.new.map.entries climb.path.items c.args.name climb.end (c.in_ok-climb.ensures.climbed facts are right)
    (subst (λ path. (q : List ℕ) → value_at mid q ≡ cond (has path q) (Some climb.end) (value_at ends q)) c.deref.ensures.value c.in_ok-put_each.ensures) put)
    c.put.ensures.value
