use Rattle.fsl_manifest.proofs.TypeLemmas.{typed}
use Rattle.fsl_manifest.proofs.Manifest.know_type.Goals as goal

pub returns : goal.returns
returns c =
    typed c.args.self.now c.know_name.ensures (rw c.items.ensures at c.know_files.ensures) (rw c.items-2.ensures at c.know_refs.ensures)
    (rw c.items-3.ensures at c.know_picks.ensures) c.know_checksum.ensures (rw c.items-4.ensures at c.know_tags.ensures)
