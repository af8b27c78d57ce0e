use Rattle.std.proofs.Common.{◌≡◌, ◌≤◌, ◌*◌, take}
use Rattle.fsl_cross.specs.Tables as cross
use Rattle.fsl_query.specs.Summary.{tags_on}
use Rattle.fsl_query.proofs.summing.tags_on.Given as goal

-- the tags on the names that were passed are counted
abbrev pub invariant-loop-name : goal.invariant-loop-name
invariant-loop-name l = record {
  counted : l.sum ≡ tags_on (cross.tables l.tables.fields l.tables.items) (take l.name-index l.names);
  few : l.sum ≤ l.name-index * 18446744073709551616;
}
