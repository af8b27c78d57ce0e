use Rattle.std.proofs.Common.{ap, ◌++◌, ◌∙◌}
use Rattle.fsl_card.specs.Cards.{text_of}
use Rattle.fsl_card.specs.Writing.{finished}
use Rattle.fsl_card.proofs.SealLemmas.{is_finished}
use Rattle.fsl_manifest.specs.Writing.{IsManifestText, manifest_cards}
use Rattle.fsl_manifest.proofs.ReadBack.{is_read_back}
use Rattle.fsl_manifest.proofs.Manifest.write.Goals as goal

pub returns : goal.returns
returns c =
    let made = c.in_ok-write_cards.ensures in
    let m = c.args.self.now in
    let text : IsManifestText c.finish.new.lines m =
    c.in_ok-finish.ensures.ok ∙ ap finished (made.1 ∙ ap (λ lines. lines ++ text_of (manifest_cards m)) c.empty-lines.ensures) ∙ is_finished (manifest_cards m) in
    record { written = text; read = is_read_back m c.finish.new.lines c.know_type.ensures made.0 c.requires text }
