use Rattle.fsl_tags.proofs.settle.waiting.Given as goal

abbrev pub decreases-loop-left : goal.decreases-loop-left
decreases-loop-left g l = l.left
