use Rattle.std.proofs.Common.{take}
use Rattle.std.specs.List.{AllByRecursion}
use Rattle.fsl_tags.specs.Laying.{AreSettled, AreKnown}
use Rattle.fsl_tags.proofs.settle.settle_all.Given as goal

-- the facts that were passed have their rows
abbrev pub invariant-loop-fact : goal.invariant-loop-fact
invariant-loop-fact g l = record {
  right : AreSettled l.facts.held.entries l.own.held.entries l.settled.entries;
  there : AllByRecursion (AreKnown l.settled.entries) (take l.fact-index l.given);
}
