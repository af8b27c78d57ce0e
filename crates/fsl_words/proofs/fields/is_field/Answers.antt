use Rattle.std.proofs.Common.{ℕ, List, subst}
use Rattle.std.specs.Prelude.{IsTrue, ◌↔◌}
use Rattle.fsl_record.specs.Records.{AreFields}
use Rattle.fsl_words.proofs.WordLemmas.{field_alone}
use Rattle.fsl_words.proofs.fields.is_field.Goals as goal

pub returns : goal.returns
returns c =
    let P : List (List ℕ) → Type 0 = λ fields. IsTrue c.are_fields.result ↔ AreFields fields in
    field_alone c.are_fields.result c.args.field.now (subst P c.from_ref.ensures.value c.are_fields.ensures)
