use Rattle.std.proofs.Common.{cond, subst}
use Rattle.std.specs.Str.{bytes_eq}
use Rattle.fsl_forum.specs.Held.{AreOf}
use Rattle.fsl_table.proofs.Outcomes.{always_ok}
use Rattle.fsl_forum.proofs.build.fill_one.Goals as goal

pub returns-clause-followers : goal.returns-clause-followers
returns-clause-followers g c =
    always_ok c.place_new.result
    (λ first of_ none.
    subst (λ n. AreOf (λ x. cond (bytes_eq x c.args.fact.now.name) n (first x)) c.relink.new.pairs.held.entries) c.next.ensures (c.in_ok-relink.ensures.pairs first of_ none))
