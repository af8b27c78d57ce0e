use Rattle.std.proofs.Common.{ap, ◌∙◌}
use Rattle.fsl_order.specs.Names.{has}
use Rattle.fsl_cluster.proofs.name_set.NameSet.contains.Goals as goal

pub stands-requires : goal.stands-requires
stands-requires c = rw c.deref.ensures.value c.self.invariant

pub returns : goal.returns
returns c = c.stands.ensures ∙ ap (λ names. has names c.args.name.now) (c.deref.ensures.value ∙ c.self.view_is)
