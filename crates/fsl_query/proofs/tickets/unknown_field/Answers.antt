use Rattle.std.proofs.Common.{cond, None, Some, sym, ◌∙◌}
use Rattle.std.specs.Prelude.{not}
use Rattle.std.specs.Option.{option_or}
use Rattle.fsl_order.specs.Names.{has}
use Rattle.fsl_query.proofs.ListingLemmas.{first_is, first_more}
use Rattle.fsl_query.proofs.tickets.unknown_field.Goals as goal

pub returns-then-is_unknown : goal.returns-then-is_unknown
returns-then-is_unknown c =
    first_is (λ field. not (has c.args.fields.now field)) c.args.asked.now c.loop-field.field-index c.field-item.result c.loop-field.invariant c.loop-field-test.true c.field-item.is
    (sym c.is_unknown.ensures ∙ c.if-is_unknown.true)

pub loop-field-preserved : goal.loop-field-preserved
loop-field-preserved c =
    first_more (λ field. not (has c.args.fields.now field)) c.args.asked.now c.loop-field.field-index c.field-item.result c.loop-field-test.true c.field-item.is
    ∙ (λ i. option_or (c.loop-field.invariant i) (cond ((sym c.is_unknown.ensures ∙ c.if-is_unknown.false) i) (Some c.field-item.result) None))
