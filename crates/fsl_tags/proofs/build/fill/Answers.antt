use Rattle.std.proofs.Common.{◌∙◌, sym, subst}
use Rattle.fsl_table.proofs.Outcomes.{both_ok, always_ok}
use Rattle.fsl_tags.specs.Tags.{AreTagFacts}
use Rattle.fsl_tags.proofs.Filling.{settled_none, settled_all}
use Rattle.fsl_tags.proofs.FitByName.{fit_by_name}
use Rattle.fsl_tags.proofs.build.fill.Goals as goal

pub settle_all-requires-clause-right : goal.settle_all-requires-clause-right
settle_all-requires-clause-right g c = settled_none c.lay.new.graph.facts.held.entries c.lay.new.own.held.entries c.new-settled.result.entries c.new-settled.ensures.empty

pub returns-clause-facts : goal.returns-clause-facts
returns-clause-facts g c = always_ok c.keep.result c.in_ok-lay.ensures.facts

pub returns-clause-kept : goal.returns-clause-kept
returns-clause-kept g c =
    let facts = c.lay.new.graph.facts.held.entries in
    let own = c.lay.new.own.held.entries in
    let laying = c.in_ok-lay.ensures.laying in
    both_ok c.keep.result
    (λ full rows. record {
      ordered = laying.ordered;
      fit = subst AreTagFacts (sym c.in_ok-lay.ensures.facts) (fit_by_name c.args.given.now c.requires.fit);
      newest = laying.newest;
      right = record {
        laid = laying.laid;
        own_full = laying.full;
        full = full;
        right = λ x. rows x ∙ settled_all facts own c.settle_all.new.settled.entries c.args.given.now c.in_ok-lay.ensures.facts laying.laid.rise c.in_ok-settle_all.ensures.right c.in_ok-settle_all.ensures.all c.in_ok-lay.ensures.away x;
      };
    })
    c.keep.ensures.full c.keep.ensures.rows
