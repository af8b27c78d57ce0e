use Rattle.std.proofs.Common.{◌≡◌, sym, ◌∙◌}
use Rattle.std.specs.Cmp.Lexicographic.{bytes_decides}
use Rattle.fsl_tags.proofs.FitFacts.{all_more, all_taken, All-from}
use Rattle.tests_tables.proofs.tags.fit.are_of.Goals as goal

pub loop-assertion-preserved : goal.loop-assertion-preserved
loop-assertion-preserved c =
    all_more (λ a. a.source ≡ c.args.name) c.args.tags.now c.loop-assertion.assertion-index c.assertion-item.result c.loop-assertion-test.true c.assertion-item.is c.loop-assertion.invariant
    ((bytes_decides c.assertion-item.result.source c.args.name).0 (sym c.is_of.ensures ∙ c.if-not-is_of.false))

pub returns : goal.returns
returns c _ = All-from (λ a. a.source ≡ c.args.name) c.args.tags.now (all_taken (λ a. a.source ≡ c.args.name) c.args.tags.now c.loop-assertion.assertion-index c.loop-assertion-test.false c.loop-assertion.invariant)
