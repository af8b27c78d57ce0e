use Rattle.std.proofs.Common.{◌∙◌, ap, sym}
use Rattle.fsl_files.specs.declared.Listing.TheVariants.{Known}
use Rattle.fsl_files.specs.Files.{files}
use Rattle.fsl_files.specs.At.{files_at}
use Rattle.fsl_files.proofs.Reading.{files-at}
use Rattle.fsl_files.proofs.files.Files.files_counted.Goals as goal

pub returns-in-NotCheckin : goal.returns-in-NotCheckin
returns-in-NotCheckin g c =
    let name = c.args.name in
    c.in-NotCheckin.ensures.listing ∙ ap (λ l. files_at l name) c.of.ensures ∙ sym (files-at c.self.inside.maps.facts.held.entries name) ∙ ap (λ h. files h.facts name) c.self.view_is

pub returns-in-NoBaseline : goal.returns-in-NoBaseline
returns-in-NoBaseline g c =
    let name = c.args.name in
    c.in-NoBaseline.ensures.listing ∙ ap (λ l. files_at l name) c.of.ensures ∙ sym (files-at c.self.inside.maps.facts.held.entries name) ∙ ap (λ h. files h.facts name) c.self.view_is

pub returns : goal.returns
returns g c =
    let name = c.args.name in
    ap Known c.in_ok-collected-in-Known.ensures
    ∙ c.in-Known.ensures.listing ∙ ap (λ l. files_at l name) c.of.ensures ∙ sym (files-at c.self.inside.maps.facts.held.entries name) ∙ ap (λ h. files h.facts name) c.self.view_is
