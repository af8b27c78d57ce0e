use Rattle.std.proofs.Common.{◌≡◌, ◌≤◌, drop, length, map}
use Rattle.fsl_forum.specs.Rows.{by_date}
use Rattle.fsl_forum.specs.Threads.{shown}
use Rattle.fsl_forum.proofs.gathered.gathered.Given as goal

-- the posts of the names behind those that are left are in
abbrev pub invariant-loop-left : goal.invariant-loop-left
invariant-loop-left g l = record {
  done : l.thread.entries ≡ map (λ e. (e.0, shown e.1)) (by_date l.posts.held.entries (drop l.left l.names));
  within : l.left ≤ length l.names;
}

abbrev pub decreases-loop-left : goal.decreases-loop-left
decreases-loop-left g l = l.left
