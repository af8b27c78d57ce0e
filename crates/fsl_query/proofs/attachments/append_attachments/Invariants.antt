use Rattle.std.proofs.Common.{◌≡◌, ◌++◌, take}
use Rattle.std.specs.Prelude.{filter, flat_map}
use Rattle.fsl_query.specs.Lines.{attachment_line}
use Rattle.fsl_query.proofs.attachments.append_attachments.Given as goal

-- the attachments that were passed and aren't deleted have their lines
abbrev pub invariant-loop-attached : goal.invariant-loop-attached
invariant-loop-attached l = l.into ≡ l.initial.into ++ flat_map attachment_line (filter (λ a. a.sourced) (take l.attached-index l.attached-items))
