use Rattle.std.proofs.Common.{◌≡◌, ℕ, ◌+◌, ◌-◌, List, [], ◌∷◌, ◌++◌, length, sym, ap, ◌∙◌, subst}
use Rattle.fsl_record.specs.declared.Record.{Record}
use Rattle.fsl_blobs.specs.Fold.{contents, held_bytes}
use Rattle.fsl_blobs.proofs.Totals.{total-known, total-new, total-publish, total-shun, total-unshun}
use Rattle.fsl_blobs.proofs.Sources.{sized-from}
use Rattle.fsl_blobs.proofs.sizes.total_with.Goals as goal

pub returns-then-is_kept-clause-total : goal.returns-then-is_kept-clause-total
returns-then-is_kept-clause-total c = λ records starts found announced kept from sum.
    subst (λ (r : Record). c.args.total ≡ held_bytes (contents (records ++ r ∷ [])).held) (sym c.in-Blob.is)
    (total-known records found _ _ announced kept c.args.total sum _ _ _ _ (sym c.is_kept.ensures ∙ c.if-is_kept.true))

pub returns-else-is_kept-clause-total : goal.returns-else-is_kept-clause-total
returns-else-is_kept-clause-total c = λ records starts found announced kept from sum.
    ap (λ (bytes : List ℕ). c.args.total + length bytes) c.bytes.ensures
    ∙ subst (λ (r : Record). c.args.total + length c.in-Blob.bytes ≡ held_bytes (contents (records ++ r ∷ [])).held) (sym c.in-Blob.is)
    (total-new records found _ _ announced kept c.args.total sum _ _ _ c.in-Blob.bytes (sym c.is_kept.ensures ∙ c.if-is_kept.false))

pub returns-in-Shun-clause-total : goal.returns-in-Shun-clause-total
returns-in-Shun-clause-total c = λ records starts found announced kept from sum.
    c.saturating_sub.ensures
    ∙ subst (λ (r : Record). c.args.total - c.from.result ≡ held_bytes (contents (records ++ r ∷ [])).held) (sym c.in-Shun.is)
    (total-shun records found _ _ announced kept c.args.total sum c.in-Shun.name c.from.result (sized-from records starts _ from c.in-Shun.name) (c.from.ensures ∙ c.size_of.ensures))

pub returns-in-Publish-clause-total : goal.returns-in-Publish-clause-total
returns-in-Publish-clause-total c = λ records starts found announced kept from sum.
    subst (λ (r : Record). c.args.total ≡ held_bytes (contents (records ++ r ∷ [])).held) (sym c.in-Publish.is)
    (total-publish records found _ _ announced kept c.args.total sum c.in-Publish.name)

pub returns-in-Unshun-clause-total : goal.returns-in-Unshun-clause-total
returns-in-Unshun-clause-total c = λ records starts found announced kept from sum.
    subst (λ (r : Record). c.args.total ≡ held_bytes (contents (records ++ r ∷ [])).held) (sym c.in-Unshun.is)
    (total-unshun records found _ _ announced kept c.args.total sum c.in-Unshun.name)
