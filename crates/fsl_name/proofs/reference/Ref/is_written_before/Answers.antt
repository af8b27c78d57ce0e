use Rattle.std.proofs.Common.{ap, ◌∙◌}
use Rattle.std.specs.Ordering.{is_lt}
use Rattle.fsl_order.specs.Names.{bytes_cmp}
use Rattle.fsl_name.specs.Ref.{ref_bytes}
use Rattle.fsl_name.proofs.RefTexts.{ref_bytes-AreBytes}
use Rattle.fsl_name.proofs.WrittenOrder.{written_before}
use Rattle.fsl_name.proofs.reference.Ref.is_written_before.Goals as goal

pub returns : goal.returns
returns c =
    let a = c.args.self.now in
    let b = c.args.other.now in
    c.is_lt.ensures ∙ ap is_lt (c.cmp.ensures ∙ (λ i. bytes_cmp (c.bytes.ensures.value i) (c.bytes-2.ensures.value i)))
    ∙ written_before (ref_bytes a) (ref_bytes b) (ref_bytes-AreBytes a c.bytes.ensures.kept) (ref_bytes-AreBytes b c.bytes-2.ensures.kept)
