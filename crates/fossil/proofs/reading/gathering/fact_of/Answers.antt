use Rattle.fossil.proofs.GatherLemmas.{is_fact_of}
use Rattle.fossil.proofs.reading.gathering.fact_of.Goals as goal

pub returns : goal.returns
returns c = is_fact_of c.args.name c.args.bytes.now c.args.private c.in_ok-artifact.artifact c.named_in-fact.result c.in_ok-artifact.ensures c.named_in-fact.ensures
