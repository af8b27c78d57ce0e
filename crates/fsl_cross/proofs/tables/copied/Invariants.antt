use Rattle.std.proofs.Common.{◌≡◌, take}
use Rattle.fsl_cross.proofs.tables.copied.Given as goal

-- the texts that were passed are copied
abbrev pub invariant-loop-text : goal.invariant-loop-text
invariant-loop-text l = l.list.items ≡ take l.text-index l.texts
