use Rattle.std.proofs.Common.{◌≡◌, ◌++◌}
use Rattle.fsl_table.proofs.names.listed.Given as goal

-- with what is left, it is the whole
abbrev pub invariant-loop-name : goal.invariant-loop-name
invariant-loop-name l = l.list ++ l.name-iterator ≡ l.names.keys
