use Rattle.std.proofs.Common.{◌≡◌, take}
use Rattle.std.specs.Prelude.{filter_map}
use Rattle.fsl_forum.specs.Threads.{place}
use Rattle.fsl_query.proofs.threads.places.Given as goal

-- the threads of the posts that were passed
abbrev pub invariant-loop-post : goal.invariant-loop-post
invariant-loop-post l = l.names.items ≡ filter_map (λ f. place l.table.facts f.name) (take l.post-index l.posts)
