use Rattle.std.proofs.Common.{◌≡◌, map, take}
use Rattle.fsl_forum.specs.Rows.{noted_in, row_in}
use Rattle.fsl_forum.proofs.rows.note_rows.Given as goal

-- the rows of those that were passed are noted
abbrev pub invariant-loop-name : goal.invariant-loop-name
invariant-loop-name g l = l.noted.items ≡ map (noted_in (row_in l.posts.held.entries l.ends.held.entries)) (take l.name-index l.names)
