use Rattle.std.proofs.Common.{◌∙◌, [], ap}
use Rattle.fsl_table.proofs.Outcomes.{if_ok_map}
use Rattle.fsl_tags.specs.Laid.{row_in, parent_in}
use Rattle.fsl_tags.specs.Laying.{down}
use Rattle.fsl_tags.proofs.Filling.{down-line}
use Rattle.fsl_tags.proofs.settle.climbed.Goals as goal

pub returns : goal.returns
returns g c =
    let par = parent_in c.args.facts.now.held.entries in
    let own = row_in c.args.own.now.held.entries in
    if_ok_map c.descend.result (λ row is. is ∙ ap (λ names. down own names []) c.in_ok-names.ensures ∙ down-line par own c.args.most c.args.name) c.descend.ensures
