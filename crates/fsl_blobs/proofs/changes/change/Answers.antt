use Rattle.std.proofs.Common.{◌≡◌, ◌++◌, ◌∷◌, [], refl, sym, subst, ◌∙◌}
use Rattle.std.specs.FinSet as set
use Rattle.fsl_order.specs.Names.{bytes_cmp}
use Rattle.fsl_record.specs.declared.Record.{Record}
use Rattle.fsl_blobs.specs.Fold.{contents}
use Rattle.fsl_blobs.specs.Held.{still_new}
use Rattle.fsl_record.specs.Records.{IsWritable}
use Rattle.fsl_blobs.specs.Kept.{IsKept, AreFrom}
use Rattle.fsl_blobs.proofs.KeptLemmas.{left-from, kept-blob, announced-blob, kept-publish, announced-publish, kept-shun, announced-shun, kept-unshun, announced-unshun, kept-config, announced-config}
use Rattle.fsl_blobs.proofs.Sources.{from-still, from-blob, from-publish, from-shun}
use Rattle.fsl_blobs.proofs.Ordered.{ordered-add, ordered-same, ordered-shun, ordered-publish, next_free}
use Rattle.fsl_blobs.proofs.changes.change.Goals as goal

pub returns-in-Blob-clause-kept : goal.returns-in-Blob-clause-kept
returns-in-Blob-clause-kept c = λ records found kept last.
    subst (λ (r : Record). IsKept (records ++ r ∷ []) found c.add.new.held.entries c.args.shunned.now.keys c.remove.new.self.keys) (sym c.in-Blob.is)
    (kept-blob records found _ _ _ kept c.in-Blob.private c.in-Blob.name c.in-Blob.receipt c.in-Blob.bytes _ c.in_file-artifact.ensures.artifact c.in_file-artifact.ensures.receipt (c.in_file-artifact.ensures.place ∙ last) _ _ c.in_ok-add-in-Blob.ensures.held (left-from c.in-Blob.name _ _ c.remove.ensures.updates.0))

pub returns-in-Blob-clause-announced : goal.returns-in-Blob-clause-announced
returns-in-Blob-clause-announced c = λ records found kept.
    subst (λ (r : Record). set.from_list {R = bytes_cmp} c.remove.new.self.keys ≡ still_new (contents (records ++ r ∷ [])) (set.from_list c.args.announced.now.keys)) (sym c.in-Blob.is)
    (announced-blob records found _ _ _ kept c.in-Blob.private c.in-Blob.name c.in-Blob.receipt c.in-Blob.bytes _ (left-from c.in-Blob.name _ _ c.remove.ensures.updates.0))

pub returns-in-Publish-clause-kept : goal.returns-in-Publish-clause-kept
returns-in-Publish-clause-kept c = λ records found kept _.
    subst (λ (r : Record). IsKept (records ++ r ∷ []) found c.publish.new.held.entries c.args.shunned.now.keys c.args.announced.now.keys) (sym c.in-Publish.is)
    (kept-publish records found _ _ _ kept c.in-Publish.name _ c.publish.ensures)

pub returns-in-Publish-clause-announced : goal.returns-in-Publish-clause-announced
returns-in-Publish-clause-announced c = λ records found kept.
    subst (λ (r : Record). set.from_list {R = bytes_cmp} c.args.announced.now.keys ≡ still_new (contents (records ++ r ∷ [])) (set.from_list c.args.announced.now.keys)) (sym c.in-Publish.is)
    (announced-publish records found _ _ _ kept c.in-Publish.name)

pub returns-in-Shun-clause-kept : goal.returns-in-Shun-clause-kept
returns-in-Shun-clause-kept c = λ records found kept _.
    subst (λ (r : Record). IsKept (records ++ r ∷ []) found c.shun.new.held.entries c.shun.new.shunned.keys c.remove-in-Shun.new.self.keys) (sym c.in-Shun.is)
    (kept-shun records found _ _ _ kept c.in-Shun.name _ _ _ c.in_ok-shun-in-Shun.ensures.held c.in_ok-shun-in-Shun.ensures.shunned (left-from c.in-Shun.name _ _ c.remove-in-Shun.ensures.updates.0))

pub returns-in-Shun-clause-announced : goal.returns-in-Shun-clause-announced
returns-in-Shun-clause-announced c = λ records found kept.
    subst (λ (r : Record). set.from_list {R = bytes_cmp} c.remove-in-Shun.new.self.keys ≡ still_new (contents (records ++ r ∷ [])) (set.from_list c.args.announced.now.keys)) (sym c.in-Shun.is)
    (announced-shun records found _ _ _ kept c.in-Shun.name _ (left-from c.in-Shun.name _ _ c.remove-in-Shun.ensures.updates.0))

pub returns-in_err-add-in-Blob-clause-ordered : goal.returns-in_err-add-in-Blob-clause-ordered
returns-in_err-add-in-Blob-clause-ordered c = λ records found kept last fits.
    ordered-same records found _ _ _ kept c.args.order.now fits c.add.new.held.entries c.add.new.order c.in_err-add-in-Blob.ensures.err
    (c.in_err-add-in-Blob.ensures.order_err (next_free records found _ _ _ kept c.args.order.now fits _ (c.in_file-artifact.ensures.place ∙ last)))

pub returns-in-Blob-clause-ordered : goal.returns-in-Blob-clause-ordered
returns-in-Blob-clause-ordered c = λ records found kept last fits.
    ordered-add records found _ _ _ kept c.args.order.now fits c.in-Blob.name _ (c.in_file-artifact.ensures.place ∙ last)
    c.add.new.held.entries c.add.new.order c.in_ok-add-in-Blob.ensures.held c.in_ok-add-in-Blob.ensures.order

pub returns-in-Publish-clause-ordered : goal.returns-in-Publish-clause-ordered
returns-in-Publish-clause-ordered c = λ records found kept last fits.
    ordered-publish records found _ _ _ kept c.args.order.now fits c.in-Publish.name c.publish.new.held.entries c.reveal.new.order c.publish.ensures c.in_ok-reveal-in-Publish.ensures.order

pub returns-in-Shun-clause-ordered : goal.returns-in-Shun-clause-ordered
returns-in-Shun-clause-ordered c = λ records found kept last fits.
    ordered-shun records found _ _ _ kept c.args.order.now fits c.in-Shun.name c.shun.new.held.entries c.shun.new.order c.in_ok-shun-in-Shun.ensures.held c.in_ok-shun-in-Shun.ensures.order

pub returns-clause-kept : goal.returns-clause-kept
returns-clause-kept c = λ records found kept _.
    subst (λ (r : Record). IsKept (records ++ r ∷ []) found c.args.held.now.entries c.unshun.new.shunned.keys c.args.announced.now.keys) (sym c.in-Unshun.is)
    (kept-unshun records found _ _ _ kept c.in-Unshun.name _ c.unshun.ensures)

pub returns-clause-announced : goal.returns-clause-announced
returns-clause-announced c = λ records found kept.
    subst (λ (r : Record). set.from_list {R = bytes_cmp} c.args.announced.now.keys ≡ still_new (contents (records ++ r ∷ [])) (set.from_list c.args.announced.now.keys)) (sym c.in-Unshun.is)
    (announced-unshun records found _ _ _ kept c.in-Unshun.name)

pub returns-clause-from : goal.returns-clause-from
returns-clause-from c = λ records starts from last count. from-still records starts _ from c.args.at c.args.entry _ refl

pub returns-in-Blob-clause-from : goal.returns-in-Blob-clause-from
returns-in-Blob-clause-from c = λ records starts from last count.
    subst (λ (r : Record). AreFrom (records ++ r ∷ []) (starts ++ c.args.at ∷ []) c.add.new.held.entries) (sym c.in-Blob.is)
    (from-blob records starts _ from c.args.at c.in-Blob.private c.in-Blob.name c.in-Blob.receipt c.in-Blob.bytes (subst IsWritable c.in-Blob.is c.requires.fit) _ _ (c.in_file-artifact.ensures.place ∙ last) count
    c.in_file-artifact.ensures.at c.in_file-artifact.ensures.size c.in_file-artifact.ensures.bytes _ c.in_ok-add-in-Blob.ensures.held)

pub returns-in-Publish-clause-from : goal.returns-in-Publish-clause-from
returns-in-Publish-clause-from c = λ records starts from last count.
    subst (λ (r : Record). AreFrom (records ++ r ∷ []) (starts ++ c.args.at ∷ []) c.publish.new.held.entries) (sym c.in-Publish.is)
    (from-publish records starts _ from c.args.at c.in-Publish.name _ c.publish.ensures)

pub returns-in-Shun-clause-from : goal.returns-in-Shun-clause-from
returns-in-Shun-clause-from c = λ records starts from last count.
    subst (λ (r : Record). AreFrom (records ++ r ∷ []) (starts ++ c.args.at ∷ []) c.shun.new.held.entries) (sym c.in-Shun.is)
    (from-shun records starts _ from c.args.at c.in-Shun.name _ c.in_ok-shun-in-Shun.ensures.held)

pub returns-in-Config-clause-kept : goal.returns-in-Config-clause-kept
returns-in-Config-clause-kept c = λ records found kept _.
    subst (λ (r : Record). IsKept (records ++ r ∷ []) found c.args.held.now.entries c.args.shunned.now.keys c.args.announced.now.keys) (sym c.in-Config.is)
    (kept-config records found _ _ _ kept _)

pub returns-in-Config-clause-announced : goal.returns-in-Config-clause-announced
returns-in-Config-clause-announced c = λ records found kept.
    subst (λ (r : Record). set.from_list {R = bytes_cmp} c.args.announced.now.keys ≡ still_new (contents (records ++ r ∷ [])) (set.from_list c.args.announced.now.keys)) (sym c.in-Config.is)
    (announced-config records found _ _ _ kept _)

pub returns-in-Config-clause-from : goal.returns-in-Config-clause-from
returns-in-Config-clause-from c = λ records starts from last count. from-still records starts _ from c.args.at c.args.entry _ refl

pub returns-in-Config-clause-ordered : goal.returns-in-Config-clause-ordered
returns-in-Config-clause-ordered c = λ records found kept last fits.
    ordered-same records found _ _ _ kept c.args.order.now fits c.args.held.now.entries c.args.order.now refl (λ b n. refl)
