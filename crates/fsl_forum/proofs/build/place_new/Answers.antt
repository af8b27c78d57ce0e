use Rattle.std.proofs.Common.{◌∙◌, cond, ap, subst}
use Rattle.std.specs.Str.{bytes_eq}
use Rattle.fsl_forum.specs.Held.{AreOf, fact_of}
use Rattle.fsl_forum.specs.Kept.{place_by}
use Rattle.fsl_table.proofs.Outcomes.{always_ok}
use Rattle.fsl_forum.proofs.build.place_new.Goals as goal

pub returns-in-Ok-clause-placed : goal.returns-in-Ok-clause-placed
returns-in-Ok-clause-placed g c =
    always_ok c.put.result
    (λ first of_ none.
    subst (λ n. AreOf (λ x. cond (bytes_eq x c.args.fact.now.name) n (first x)) c.relink.new.pairs.held.entries)
    (c.place-place.ensures ∙ ap (λ n. place_by c.args.end (fact_of (c.args.fact.now.name, n))) c.in_ok-node.ensures) (c.in-Ok.ensures.pairs first of_ none))
