use Rattle.std.proofs.Common.{◌≡◌, ◌++◌, take}
use Rattle.fsl_artifact.specs.References.{tag_targets}
use Rattle.fsl_artifact.proofs.names.append_targets.Given as goal

abbrev pub invariant-loop-tag : goal.invariant-loop-tag
invariant-loop-tag l = l.names.items ≡ l.fn.names.items ++ tag_targets (take l.tag-index l.tags)
