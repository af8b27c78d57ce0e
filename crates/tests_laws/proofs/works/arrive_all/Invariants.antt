use Rattle.std.proofs.Common.{take}
use Rattle.laws_openings.specs.Lives.{IsWork}
use Rattle.tests_laws.specs.Texts.{PutsTexts}
use Rattle.tests_laws.proofs.works.arrive_all.Given as goal

-- the texts that were passed arrived
abbrev pub invariant-loop-text : goal.invariant-loop-text
invariant-loop-text l = IsWork (PutsTexts (take l.text-index l.texts)) l.fn.repo l.repo
