use Rattle.std.proofs.Common.{◌≡◌, false, sym, ap, ◌∙◌}
use Rattle.std.proofs.lemmas.Bool.{false≢true}
use Rattle.fsl_grammar.specs.Forms.{refs_differ}
use Rattle.fsl_grammar.proofs.Determined.{somes_are}
use Rattle.fsl_grammar.proofs.reading.parents.Goals as goal

pub returns-else-branch : goal.returns-else-branch
returns-else-branch c why xs h =
    let read = c.in_ok-refs.ensures in
    let same = somes_are xs c.in_ok-refs.refs (sym h.names ∙ read) in
    let differ = rw same at h.differ in
    let other : refs_differ c.in_ok-refs.refs ≡ false = ap refs_differ (sym c.items.ensures) ∙ sym c.in_ok-all_differ.ensures ∙ c.if-branch.false in
    false≢true (sym other ∙ differ)
