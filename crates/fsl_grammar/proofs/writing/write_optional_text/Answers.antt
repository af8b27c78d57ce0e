use Rattle.std.proofs.Common.{rules}
use Rattle.fsl_grammar.proofs.writing.write_optional_text.Goals as goal

pub returns-in-Some-clause-ok : goal.returns-in-Some-clause-ok
returns-in-Some-clause-ok c = search rules
