use Rattle.std.proofs.Common.{Ok, ap, refl, sym, ◌∙◌}
use Rattle.std.specs.FinMap as map_of
use Rattle.fsl_blobs.specs.Fold.{contents}
use Rattle.fsl_query.specs.Lines.{receipt_line}
use Rattle.fsl_query.proofs.Prefixes.{of_one}
use Rattle.fsl_query.proofs.loaded.receipt_of.Goals as goal

pub returns : goal.returns
returns c =
    let k = contents c.args.blobs.now.records in
    of_one k c.args.prefix.now c.args.prefix.now c.in_ok-name.name (λ name. Ok (receipt_line (map_of.get k.receipts name))) refl c.in_ok-name.ensures
    ∙ ap Ok (sym (c.in_ok-report.ensures ∙ ap receipt_line c.receipt.ensures))
