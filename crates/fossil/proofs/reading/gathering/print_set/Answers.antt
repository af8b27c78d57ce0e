use Rattle.std.proofs.Common.{◌∙◌}
use Rattle.fossil.proofs.GatherLemmas.{printed_set}
use Rattle.fossil.proofs.reading.gathering.print_set.Goals as goal

pub returns : goal.returns
returns c = printed_set c.args.set c.deref.result.now c.report_of.result (c.deref.ensures.value ∙ c.in_ok-facts.ensures) c.report_of.ensures
