use Rattle.std.proofs.Common.{◌≡◌, Some, None, sym, ap, ◌∙◌, rules}
use Rattle.fsl_blobs.specs.Seen.{Seen}
use Rattle.fsl_blobs.specs.Kept.{held_at, receipt_of}
use Rattle.fsl_blobs.proofs.Holdings.{receipt-held}
use Rattle.fsl_blobs.proofs.blobs.Blobs.receipt.Goals as goal

pub returns-in-Some : goal.returns-in-Some
returns-in-Some c =
    let at : held_at c.self.inside.held.entries c.args.name ≡ Some c.in-Some.artifact.now = search rules in
    c.as_ref.ensures.value ∙ sym (ap receipt_of at) ∙ receipt-held _ _ c.self.invariant.kept.receipts c.args.self.now (ap (λ (b : Seen). b.records) c.self.view_is) c.args.name

pub returns-in-None : goal.returns-in-None
returns-in-None c =
    let none : held_at c.self.inside.held.entries c.args.name ≡ None = search rules in
    sym (ap receipt_of none) ∙ receipt-held _ _ c.self.invariant.kept.receipts c.args.self.now (ap (λ (b : Seen). b.records) c.self.view_is) c.args.name
