use Rattle.std.proofs.Common.{◌≡◌, ◌++◌, take}
use Rattle.std.specs.Prelude.{flat_map}
use Rattle.fsl_query.specs.Lines.{post_line}
use Rattle.fsl_query.proofs.thread.append_posts.Given as goal

-- the posts that were passed have their lines
abbrev pub invariant-loop-post : goal.invariant-loop-post
invariant-loop-post l = l.into ≡ l.initial.into ++ flat_map post_line (take l.post-index l.posts)
