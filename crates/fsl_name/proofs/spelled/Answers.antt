use Rattle.std.proofs.Common.{sym, subst}
use Rattle.fsl_name.specs.Name.{IsNameText}
use Rattle.fsl_name.proofs.Reading.{decoded, is_text}
use Rattle.fsl_name.proofs.spelled.Goals as goal

pub returns-clause-value : goal.returns-clause-value
returns-clause-value c = decoded c.args.text.now c.decode_to_slice.new.out c.decode_to_slice.result c.requires.length c.requires.digits c.decode_to_slice.ensures.value

pub returns-clause-named : goal.returns-clause-named
returns-clause-named c =
    subst (λ name. IsNameText c.args.text.now name) (sym (returns-clause-value c)) (is_text c.args.text.now c.requires.length c.requires.digits)
