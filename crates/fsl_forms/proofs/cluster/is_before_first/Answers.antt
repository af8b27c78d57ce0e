use Rattle.std.proofs.Common.{ap, sym, ◌∙◌}
use Rattle.std.specs.Option.{option_copied}
use Rattle.fsl_forms.proofs.OrderLemmas.{before_first}
use Rattle.fsl_forms.proofs.cluster.is_before_first.Goals as goal

pub returns-in-Some : goal.returns-in-Some
returns-in-Some c =
    before_first c.args.member.now c.in-Some.other.now c.args.others.now c.is_written_before.result
    (sym c.first.ensures.value ∙ ap option_copied c.in-Some.is) c.is_written_before.ensures
