use Rattle.std.proofs.Common.{◌∙◌, ◌+◌, length, sym, ap}
use Rattle.fsl_uv.specs.Maps.{total}
use Rattle.fsl_uv.proofs.HeldLemmas.{with-bytes, with-count, with-over}
use Rattle.fsl_uv.proofs.held.Held.place_for.Goals as goal

pub returns-then-is_over : goal.returns-then-is_over
returns-then-is_over c =
    let m = c.args.self.now in
    let e = c.args.entry.now in
    let new = sym c.keeps.ensures.kept ∙ c.if-keeps.false in
    let up = c.keeps.ensures.rises in
    let sum = c.bytes_with-bytes.ensures ∙ ap (λ b. total m + length b) c.bytes_of.ensures in (
      new,
      with-over m e up new c.bytes_with-bytes.result c.count_with-count.result sum c.count_with-count.ensures ∙ sym c.is_over.ensures ∙ c.if-is_over.true,
      with-bytes m e up new c.bytes_with-bytes.result c.count_with-count.result sum c.count_with-count.ensures,
      with-count m e up new c.bytes_with-bytes.result c.count_with-count.result sum c.count_with-count.ensures,
    )

pub returns-else-is_over : goal.returns-else-is_over
returns-else-is_over c =
    let m = c.args.self.now in
    let e = c.args.entry.now in
    let new = sym c.keeps.ensures.kept ∙ c.if-keeps.false in
    let up = c.keeps.ensures.rises in
    let sum = c.bytes_with-bytes.ensures ∙ ap (λ b. total m + length b) c.bytes_of.ensures in (
      new,
      with-over m e up new c.bytes_with-bytes.result c.count_with-count.result sum c.count_with-count.ensures ∙ sym c.is_over.ensures ∙ c.if-is_over.false,
    )
