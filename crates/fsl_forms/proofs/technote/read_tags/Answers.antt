use Rattle.std.proofs.Common.{ap, sym, ◌∙◌}
use Rattle.std.proofs.lemmas.Bool.{false≢true}
use Rattle.std.specs.List.{list_all}
use Rattle.fsl_forms.specs.Kinds.{is_own_tag}
use Rattle.fsl_grammar.proofs.Determined.{somes_are}
use Rattle.fsl_forms.proofs.technote.read_tags.Goals as goal

pub returns-else-all_own : goal.returns-else-all_own
returns-else-all_own c why xs h =
    let same = somes_are xs c.in_ok-tags.tags (sym h.tags ∙ c.in_ok-tags.ensures) in
    false≢true (c.if-all_own.ensures ∙ ap (list_all is_own_tag) (c.items.ensures ∙ sym same) ∙ h.own)
