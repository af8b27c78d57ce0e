use Rattle.std.proofs.Common.{sym, ◌∙◌}
use Rattle.fsl_record.proofs.Unique.{records_same}
use Rattle.fsl_record.proofs.laws.is_one_group.Goals as goal

pub returns : goal.returns
returns c = λ version first bytes a b one other. records_same a b one.fit other.fit (sym one.layout ∙ other.layout)
