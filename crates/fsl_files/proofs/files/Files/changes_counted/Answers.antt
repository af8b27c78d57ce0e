use Rattle.std.proofs.Common.{◌∙◌, Some, ap, sym, List, option_map}
use Rattle.fsl_files.specs.declared.Change.{Change}
use Rattle.fsl_files.specs.declared.FileRow.{FileRow}
use Rattle.fsl_files.specs.Files.{differences, changes}
use Rattle.fsl_files.specs.At.{both_at}
use Rattle.fsl_files.proofs.Reading.{changes-at}
use Rattle.fsl_files.proofs.files.Files.changes_counted.Goals as goal

abbrev differ : List FileRow × List FileRow → List Change
differ lists = differences lists.0 lists.1

pub returns-in-None : goal.returns-in-None
returns-in-None g c =
    let name = c.args.name in
    ap (option_map differ) (c.in-None.ensures.both ∙ ap (λ l. both_at l name) c.of.ensures)
    ∙ sym (changes-at c.self.inside.maps.facts.held.entries name) ∙ ap (λ h. changes h.facts name) c.self.view_is

pub returns : goal.returns
returns g c =
    let name = c.args.name in
    ap Some c.in_ok-differences-in-Some.ensures ∙ ap (option_map differ) (c.in-Some.ensures.both ∙ ap (λ l. both_at l name) c.of.ensures)
    ∙ sym (changes-at c.self.inside.maps.facts.held.entries name) ∙ ap (λ h. changes h.facts name) c.self.view_is
