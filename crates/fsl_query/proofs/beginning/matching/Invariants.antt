use Rattle.std.proofs.Common.{◌≡◌, take}
use Rattle.fsl_blobs.specs.Held.{found}
use Rattle.fsl_query.specs.Listings.{beginning}
use Rattle.fsl_query.proofs.beginning.matching.Given as goal

-- what the names that were passed tell
abbrev pub invariant-loop-name : goal.invariant-loop-name
invariant-loop-name l = l.found ≡ found (beginning l.prefix (take l.name-index l.names))
