use Rattle.std.proofs.Common.{◌∙◌, ap}
use Rattle.std.specs.Option.{option_map}
use Rattle.fsl_table.proofs.Belonging.{next_in}
use Rattle.fsl_table.proofs.within.next_within.Goals as goal

pub returns-clause-next : goal.returns-clause-next
returns-clause-next g c =
    ap (option_map (λ b. (b, tt))) c.second_of_next.ensures.next ∙ next_in g.A.Ord.cmp g.B.Ord.cmp g.met.A.Ord.total g.met.A.Key.exact c.args.key.now.first c.args.key.now.second c.args.table.now.entries c.requires
