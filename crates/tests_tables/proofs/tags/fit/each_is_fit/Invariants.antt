use Rattle.std.proofs.Common.{take}
use Rattle.std.specs.List.{AllByRecursion}
use Rattle.fsl_tags.specs.Tags.{IsTagFact}
use Rattle.tests_tables.proofs.tags.fit.each_is_fit.Given as goal

-- those that were passed are fit
abbrev pub invariant-loop-fact : goal.invariant-loop-fact
invariant-loop-fact l = AllByRecursion (IsTagFact l.facts) (take l.fact-index l.facts)
