use Rattle.std.proofs.Common.{sym, ap, ◌∙◌}
use Rattle.std.proofs.lemmas.Bool.{and_from, false≢true}
use Rattle.std.proofs.lemmas.Result.{err_from_is_err_and}
use Rattle.std.specs.Prelude.{◌&&◌}
use Rattle.fsl_manifest.specs.Manifests.{begins_own, has_hashes}
use Rattle.fsl_manifest.proofs.FieldLemmas.{fields_of, fields_are, manifest_of}
use Rattle.fsl_manifest.proofs.reading.read_cards.Goals as goal

pub returns-in_err-manifest : goal.returns-in_err-manifest
returns-in_err-manifest c =
    let p = err_from_is_err_and c.from_residual.result c.from_residual.ensures.1 in
    rw (p.1, p.2) (λ why m h. c.in_err-manifest.ensures why m (fields_of c.args.cards.now m h))

pub returns-then-is_whole : goal.returns-then-is_whole
returns-then-is_whole c = manifest_of c.args.cards.now c.in_ok-manifest.manifest (sym c.if-not-has_manifest_letters.ensures) c.in_ok-manifest.ensures (sym c.if-is_whole.ensures)

pub returns-else-is_whole : goal.returns-else-is_whole
returns-else-is_whole c why m h =
    let same = fields_are c.args.cards.now m c.in_ok-manifest.manifest (fields_of c.args.cards.now m h) c.in_ok-manifest.ensures in
    false≢true (c.if-is_whole.ensures ∙ ap (λ m. has_hashes m && begins_own m.parents) (sym same) ∙ and_from _ _ h.hashes h.primary)
