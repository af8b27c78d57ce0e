use Rattle.std.proofs.Common.{◌≡◌, ◌∙◌, Some, sym, ap, subst}
use Rattle.std.specs.Prelude.{IfSome}
use Rattle.std.specs.Option.{option_copied}
use Rattle.fsl_order.specs.Names.{bytes_cmp}
use Rattle.fsl_table.specs.Contents.{value_at}
use Rattle.fsl_table.proofs.Outcomes.{if_ok_map}
use Rattle.fsl_tags.specs.Joined.{joined}
use Rattle.fsl_tags.specs.Laid.{Rises, settled}
use Rattle.fsl_tags.proofs.Filling.{alone-row, below-row}
use Rattle.fsl_tags.proofs.Settled.{settled-rises}
use Rattle.fsl_tags.proofs.settle.row_for.Goals as goal

pub returns-in_default : goal.returns-in_default
returns-in_default g c =
    if_ok_map c.again.result
    (λ row is. is ∙ c.row_of-near.ensures.row ∙ alone-row c.args.facts.now.held.entries c.args.own.now.held.entries c.requires.rise c.args.name (sym c.parent_of.ensures.parent ∙ c.in_default.is))
    c.again.ensures

pub merged-requires-clause-above : goal.merged-requires-clause-above
merged-requires-clause-above g c =
    let facts = c.args.facts.now.held.entries in
    let own = c.args.own.now.held.entries in
    let up = c.in-Some.up in
    let found : value_at bytes_cmp up c.args.settled.now.entries ≡ Some c.in-Some-get.above.now = sym c.get.ensures.value ∙ ap option_copied c.in-Some-get.is in
    let right : c.in-Some-get.above.now ≡ settled facts own up = subst (λ o. IfSome o (λ row. row ≡ settled facts own up)) found (c.requires.right up) in
    subst Rises (sym right) (settled-rises facts own c.requires.rise up)

pub returns-in-Some-get : goal.returns-in-Some-get
returns-in-Some-get g c =
    let facts = c.args.facts.now.held.entries in
    let own = c.args.own.now.held.entries in
    let up = c.in-Some.up in
    let found : value_at bytes_cmp up c.args.settled.now.entries ≡ Some c.in-Some-get.above.now = sym c.get.ensures.value ∙ ap option_copied c.in-Some-get.is in
    let right : c.in-Some-get.above.now ≡ settled facts own up = subst (λ o. IfSome o (λ row. row ≡ settled facts own up)) found (c.requires.right up) in
    if_ok_map c.merged.result
    (λ row whole. whole ∙ ap (joined c.in-Some-get.above.now) c.row_of-near.ensures.row ∙ below-row facts own c.requires.rise c.args.name up c.in-Some-get.above.now (sym c.parent_of.ensures.parent ∙ c.in-Some.is) right)
    c.merged.ensures.whole
