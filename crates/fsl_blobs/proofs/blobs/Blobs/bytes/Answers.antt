use Rattle.std.proofs.Common.{◌≡◌, length, map, ap, ◌∙◌, arith}
use Rattle.std.proofs.lemmas.List.{length-map}
use Rattle.fsl_blobs.specs.Fold.{contents, held_bytes}
use Rattle.fsl_blobs.specs.Seen.{Seen}
use Rattle.fsl_blobs.proofs.blobs.Blobs.bytes.Goals as goal

pub returns-clause-bytes : goal.returns-clause-bytes
returns-clause-bytes c = c.self.invariant.sum ∙ ap (λ (b : Seen). held_bytes (contents b.records).held) c.self.view_is

pub returns-clause-fits : goal.returns-clause-fits
returns-clause-fits c =
    let count : length (map (λ s. s.value) c.self.inside.records.items) ≡ length c.self.inside.records.items = length-map _ _ in
    omega (arith, count, c.self.invariant.small, c.self.inside.records.ok)
