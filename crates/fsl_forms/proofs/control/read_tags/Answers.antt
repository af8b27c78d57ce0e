use Rattle.std.proofs.Common.{ap, sym, ◌∙◌}
use Rattle.std.proofs.lemmas.Bool.{false≢true}
use Rattle.std.specs.List.{list_all}
use Rattle.fsl_forms.specs.Kinds.{names_target}
use Rattle.fsl_grammar.proofs.Determined.{somes_are}
use Rattle.fsl_forms.proofs.control.read_tags.Goals as goal

pub returns-else-all_targeted : goal.returns-else-all_targeted
returns-else-all_targeted c why xs h =
    let same = somes_are xs c.in_ok-tags.tags (sym h.tags ∙ c.in_ok-tags.ensures) in
    false≢true (c.if-all_targeted.ensures ∙ ap (list_all names_target) (c.items.ensures ∙ sym same) ∙ h.targets)
