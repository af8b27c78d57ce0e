use Rattle.std.proofs.Common.{take}
use Rattle.fsl_tags.specs.Kept.{newest_of}
use Rattle.fsl_tags.specs.Laid.{Rises}
use Rattle.fsl_tags.specs.Laying.{HasNewer}
use Rattle.fsl_tags.proofs.blend.folded.Given as goal

-- those that were passed are there
abbrev pub invariant-loop-assertion : goal.invariant-loop-assertion
invariant-loop-assertion l = record {
  rises : Rises l.new;
  newest : HasNewer l.row (λ tag. newest_of tag (take l.assertion-index l.group)) l.new;
}
