use Rattle.std.proofs.Common.{refl}
use Rattle.fossil.proofs.GatherLemmas.{fresh_gathered}
use Rattle.fossil.proofs.reading.gathering.Gathered.empty.Goals as goal

pub returns : goal.returns
returns c = fresh_gathered (record { facts = c.new.result; bytes = 0; wanted = c.new-2.result }) c.new.ensures.empty refl c.new-2.ensures.empty
