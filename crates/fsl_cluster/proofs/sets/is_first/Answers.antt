use Rattle.std.proofs.Common.{None, is_some, ap, ◌∙◌}
use Rattle.fsl_table.specs.Contents.{first_of}
use Rattle.fsl_table.specs.Pairs.{seconds}
use Rattle.fsl_table.proofs.Seconds.{next_second, rest_none}
use Rattle.fsl_cluster.proofs.sets.is_first.Goals as goal

pub returns-clause-named : goal.returns-clause-named
returns-clause-named g c =
    c.is_some.ensures ∙ ap is_some (c.second_after.ensures.next ∙ next_second c.args.name None c.args.pairs.now.held.entries c.requires ∙ ap first_of (rest_none (seconds c.args.name c.args.pairs.now.held.entries)))
