use Rattle.fsl_grammar.specs.Forms.{HasOne, HasAtMostOne, HasEach, HasParents, checksum_form, date_form, hash_form, tag_form, text_form, user_form}
use Rattle.fsl_manifest.specs.declared.Manifest.{Manifest}
use Rattle.fsl_manifest.specs.Manifests.{file_form, pick_form}
use Rattle.fsl_manifest.proofs.FieldLemmas.{field_unread}
use Rattle.fsl_manifest.proofs.reading.read_fields.Goals as goal

pub returns-in_err-baseline : goal.returns-in_err-baseline
returns-in_err-baseline c =
    field_unread c.args.cards.now (λ x. HasAtMostOne c.args.cards.now 66 hash_form x) (λ (m : Manifest). m.baseline) (λ m h. h.baseline)
    c.from_residual.result _ c.from_residual.ensures.1 c.in_err-baseline.ensures

pub returns-in_err-comment : goal.returns-in_err-comment
returns-in_err-comment c =
    field_unread c.args.cards.now (λ x. HasOne c.args.cards.now 67 text_form x) (λ (m : Manifest). m.comment) (λ m h. h.comment)
    c.from_residual-in_err-comment.result _ c.from_residual-in_err-comment.ensures.1 c.in_err-comment.ensures

pub returns-in_err-date : goal.returns-in_err-date
returns-in_err-date c =
    field_unread c.args.cards.now (λ x. HasOne c.args.cards.now 68 date_form x) (λ (m : Manifest). m.date) (λ m h. h.date)
    c.from_residual-in_err-date.result _ c.from_residual-in_err-date.ensures.1 c.in_err-date.ensures

pub returns-in_err-files : goal.returns-in_err-files
returns-in_err-files c =
    field_unread c.args.cards.now (λ x. HasEach c.args.cards.now 70 file_form x) (λ (m : Manifest). m.files) (λ m h. h.files)
    c.from_residual-in_err-files.result _ c.from_residual-in_err-files.ensures.1 c.in_err-files.ensures

pub returns-in_err-mime : goal.returns-in_err-mime
returns-in_err-mime c =
    field_unread c.args.cards.now (λ x. HasAtMostOne c.args.cards.now 78 text_form x) (λ (m : Manifest). m.mime) (λ m h. h.mime)
    c.from_residual-in_err-mime.result _ c.from_residual-in_err-mime.ensures.1 c.in_err-mime.ensures

pub returns-in_err-parents : goal.returns-in_err-parents
returns-in_err-parents c =
    field_unread c.args.cards.now (HasParents c.args.cards.now) (λ (m : Manifest). m.parents) (λ m h. h.parents)
    c.from_residual-in_err-parents.result _ c.from_residual-in_err-parents.ensures.1 c.in_err-parents.ensures

pub returns-in_err-picks : goal.returns-in_err-picks
returns-in_err-picks c =
    field_unread c.args.cards.now (λ x. HasEach c.args.cards.now 81 pick_form x) (λ (m : Manifest). m.picks) (λ m h. h.picks)
    c.from_residual-in_err-picks.result _ c.from_residual-in_err-picks.ensures.1 c.in_err-picks.ensures

pub returns-in_err-checksum : goal.returns-in_err-checksum
returns-in_err-checksum c =
    field_unread c.args.cards.now (λ x. HasAtMostOne c.args.cards.now 82 checksum_form x) (λ (m : Manifest). m.checksum) (λ m h. h.checksum)
    c.from_residual-in_err-checksum.result _ c.from_residual-in_err-checksum.ensures.1 c.in_err-checksum.ensures

pub returns-in_err-tags : goal.returns-in_err-tags
returns-in_err-tags c =
    field_unread c.args.cards.now (λ x. HasEach c.args.cards.now 84 tag_form x) (λ (m : Manifest). m.tags) (λ m h. h.tags)
    c.from_residual-in_err-tags.result _ c.from_residual-in_err-tags.ensures.1 c.in_err-tags.ensures

pub returns-in_err-user : goal.returns-in_err-user
returns-in_err-user c =
    field_unread c.args.cards.now (λ x. HasOne c.args.cards.now 85 user_form x) (λ (m : Manifest). m.user) (λ m h. h.user)
    c.from_residual-in_err-user.result _ c.from_residual-in_err-user.ensures.1 c.in_err-user.ensures

pub returns : goal.returns
returns c = record {
  baseline = c.in_ok-baseline.ensures;
  comment = c.in_ok-comment.ensures;
  date = c.in_ok-date.ensures;
  files = c.in_ok-files.ensures;
  mime = c.in_ok-mime.ensures;
  parents = c.in_ok-parents.ensures;
  picks = c.in_ok-picks.ensures;
  checksum = c.in_ok-checksum.ensures;
  tags = c.in_ok-tags.ensures;
  user = c.in_ok-user.ensures;
}
