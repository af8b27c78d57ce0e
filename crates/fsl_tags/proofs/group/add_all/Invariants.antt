use Rattle.std.proofs.Common.{◌≡◌, ◌++◌, List, ℕ, drop}
use Rattle.fsl_tags.specs.Kept.{on_target}
use Rattle.fsl_tags.specs.Laid.{row_in, AreFull}
use Rattle.fsl_tags.proofs.group.add_all.Given as goal

-- with what is left, each group is whole
abbrev pub invariant-loop-assertion : goal.invariant-loop-assertion
invariant-loop-assertion l = record {
  full : AreFull l.groups.entries;
  groups : (x : List ℕ) → row_in l.groups.entries x ++ on_target x (drop l.assertion-index l.assertions) ≡ row_in l.fn.groups.entries x ++ on_target x l.assertions;
}
