use Rattle.std.proofs.Common.{◌∙◌}
use Rattle.fsl_name.proofs.OrderedNames.{searched}
use Rattle.fsl_name.proofs.sorting.stands.Goals as goal

pub returns : goal.returns
returns c =
    c.is_ok.ensures.value
    ∙ searched c.args.names.now c.args.name.now c.binary_search.result c.requires c.binary_search.ensures.bound c.binary_search.ensures.position
