use Rattle.std.proofs.Common.{arith}
use Rattle.std.specs.Prelude.{option_to_list}
use Rattle.fsl_name.specs.Ref.{own_names}
use Rattle.fsl_manifest.specs.declared.FileCard.{FileCard}
use Rattle.fsl_artifact.proofs.PutBehind.{put_behind}
use Rattle.fsl_artifact.proofs.names.append_files.Goals as goal

pub loop-file-preserved : goal.loop-file-preserved
loop-file-preserved c =
    put_behind (λ (file : FileCard). own_names (option_to_list file.hash)) c.args.files.now c.file-item.result c.loop-file.file-index _ _ _ (omega arith) c.file-item.is
    c.loop-file.invariant c.in_ok-append_ref.ensures
