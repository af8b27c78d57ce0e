use Rattle.std.proofs.Common.{sym, ◌∙◌}
use Rattle.fsl_text.specs.Escapes.{unescape}
use Rattle.fsl_forms.proofs.PartLemmas.{field_appended}
use Rattle.fsl_forms.proofs.ticket.read_field.Goals as goal

pub returns : goal.returns
returns c =
    field_appended (unescape c.args.name.now) c.in-Some.rest.now c.in_ok-of.field-0 c.in-Some.first.now
    (sym c.in_ok-name.ensures ∙ sym c.bytes.ensures ∙ c.in-Some.ensures.cases.0) c.if-first-ne43.false (sym c.if-is_empty.ensures) c.in_ok-of.ensures
