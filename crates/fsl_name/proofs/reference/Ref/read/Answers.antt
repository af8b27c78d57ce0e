use Rattle.std.proofs.Common.{rules, sym, ap, ◌∙◌, Ok, Some}
use Rattle.fsl_name.specs.declared.reference.Ref.TheVariants.{Own, Foreign}
use Rattle.fsl_name.proofs.Reading.{no_other, some_other}
use Rattle.fsl_name.proofs.RefTexts.{foreign_in, no_digits, no_length, no_own, no_ref_only, ref_again, ref_only}
use Rattle.fsl_name.specs.Ref.{ref_in}
use Rattle.fsl_name.proofs.reference.Ref.read.Goals as goal

pub spelled-requires-clause-digits : goal.spelled-requires-clause-digits
spelled-requires-clause-digits c = no_other c.args.text.now (sym c.in-None.ensures)

pub returns-in-Ok-clause-value : goal.returns-in-Ok-clause-value
returns-in-Ok-clause-value c = ap ref_in c.in-Ok.ensures.spelled ∙ ref_again (Own c.in-Ok.name) c.in-Ok.ensures.named

pub returns-in-Ok-clause-only : goal.returns-in-Ok-clause-only
returns-in-Ok-clause-only c r h written = ap Ok (ref_only c.args.text.now (Own c.in-Ok.name) r (returns-in-Ok-clause-value c) h written)

pub returns-in-Err-clause-value : goal.returns-in-Err-clause-value
returns-in-Err-clause-value c = (no_own c.args.text.now c.in-Err.fault c.in-40.is c.in-Err.ensures.fault).0

pub returns-in-Err-clause-only : goal.returns-in-Err-clause-only
returns-in-Err-clause-only c r h written = absurd (no_ref_only c.args.text.now r (returns-in-Err-clause-value c) h written)

pub returns-in-Err-clause-fault : goal.returns-in-Err-clause-fault
returns-in-Err-clause-fault c = (no_own c.args.text.now c.in-Err.fault c.in-40.is c.in-Err.ensures.fault).1

pub returns-in-Some-clause-value : goal.returns-in-Some-clause-value
returns-in-Some-clause-value c = no_digits c.args.text.now (some_other c.args.text.now c.in-Some.at (sym c.in-Some.ensures))

pub returns-in-Some-clause-only : goal.returns-in-Some-clause-only
returns-in-Some-clause-only c r h written = absurd (no_ref_only c.args.text.now r (returns-in-Some-clause-value c) h written)

pub returns-in-None-clause-value : goal.returns-in-None-clause-value
returns-in-None-clause-value c =
    (foreign_in c.args.text.now c.in-64.is (no_other c.args.text.now (sym c.in-None.ensures))).0 ∙ ap (λ bytes. Some (Foreign bytes)) (sym c.spelled.ensures)

pub returns-in-None-clause-spelled : goal.returns-in-None-clause-spelled
returns-in-None-clause-spelled c = rw c.spelled.ensures ((foreign_in c.args.text.now c.in-64.is (no_other c.args.text.now (sym c.in-None.ensures))).1)

pub returns-in-None-clause-only : goal.returns-in-None-clause-only
returns-in-None-clause-only c r h written = ap Ok (ref_only c.args.text.now (Foreign c.spelled.result) r (returns-in-None-clause-value c) h written)

pub returns-in_default-clause-only : goal.returns-in_default-clause-only
returns-in_default-clause-only c r h written = absurd (no_ref_only c.args.text.now r (no_length c.args.text.now (search rules) (search rules)) h written)
