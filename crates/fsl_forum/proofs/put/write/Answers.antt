use Rattle.std.proofs.Common.{◌∙◌, cond, sym, subst}
use Rattle.std.specs.Str.{bytes_eq}
use Rattle.fsl_table.proofs.Outcomes.{always_ok}
use Rattle.fsl_forum.specs.Held.{AreOf}
use Rattle.fsl_forum.proofs.put.write.Goals as goal

pub returns-clause-followers : goal.returns-clause-followers
returns-clause-followers g c =
    always_ok c.put.result
    (λ first of_ is. subst (λ n. AreOf (λ x. cond (bytes_eq x c.args.fact.name) n (first x)) c.relink.new.pairs.held.entries) c.next.ensures (c.in_ok-relink.ensures.pairs first of_ (is ∙ sym c.next_in-old.ensures)))
