use Rattle.std.proofs.Common.{◌≡◌, take}
use Rattle.fsl_cross.specs.Tables as cross
use Rattle.fsl_query.specs.Summary.{threads_of}
use Rattle.fsl_query.proofs.summing.threads_of.Given as goal

-- the threads of the posts that were passed are there
abbrev pub invariant-loop-name : goal.invariant-loop-name
invariant-loop-name l = l.names.items ≡ threads_of (cross.tables l.tables.fields l.tables.items) (take l.name-index l.posts)
