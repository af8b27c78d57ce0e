use Rattle.std.proofs.Common.{◌∙◌, ap}
use Rattle.std.specs.Map.{keys_of}
use Rattle.fsl_order.specs.Names.{bytes_cmp}
use Rattle.fsl_table.specs.Within.{within}
use Rattle.fsl_table.proofs.Outcomes.{if_ok_map}
use Rattle.fsl_wiki.specs.Pages as table
use Rattle.fsl_wiki.specs.Kept.{facts_of, first_of_file, rows_of}
use Rattle.fsl_wiki.proofs.Listed.{listed}
use Rattle.fsl_wiki.proofs.Answering.{file_is}
use Rattle.fsl_wiki.proofs.pages.Pages.attached_counted.Goals as goal

pub returns : goal.returns
returns g c =
    let r = rows_of c.self.inside.maps in
    let target = c.args.target.now in
    if_ok_map c.listed.result
    (λ list is. is
    ∙ listed (facts_of r.facts.entries) target c.in_ok-files.files.entries c.listed.ensures.rising
    (λ file. c.in_ok-files.ensures file
    ∙ ap (first_of_file r.facts.entries file) (c.deref.ensures.value ∙ c.in_ok-found.ensures ∙ (λ i. keys_of (within bytes_cmp (c.in_ok-key.ensures i) (c.map.ensures i).entries)))
    ∙ file_is r c.self.invariant target file)
    ∙ ap (λ h. table.attached h.facts target) c.self.view_is)
    c.listed.ensures.list
