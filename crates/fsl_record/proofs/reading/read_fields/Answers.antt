use Rattle.std.proofs.Common.{◌++◌, List, ℕ, length, arith, ap, sym, subst}
use Rattle.std.specs.List.{flat_map}
use Rattle.fsl_record.specs.Records.{field_bytes, AreFields}
use Rattle.fsl_record.proofs.FieldLists.{fields_none}
use Rattle.fsl_record.proofs.reading.read_fields.Goals as goal

pub fields-init : goal.fields-init
fields-init c = record {
  layout = ap (λ (l : List (List ℕ)). flat_map field_bytes l ++ c.args.bytes.now) (sym c.requires.none);
  counted = omega (arith, ap length c.requires.none);
  fit = subst (λ (l : List (List ℕ)). AreFields l) (sym c.requires.none) fields_none;
}
