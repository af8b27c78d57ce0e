use Rattle.std.proofs.Common.{◌++◌, ap, ◌∙◌}
use Rattle.std.specs.Prelude.{flat_map}
use Rattle.fsl_cross.specs.Inside.{branch_over}
use Rattle.fsl_query.specs.Lines.{branch_line}
use Rattle.fsl_query.specs.Listings.{branches_report, checkins}
use Rattle.fsl_query.proofs.NewestLemmas.{each_told}
use Rattle.fsl_query.proofs.branches.report.Goals as goal

pub returns : goal.returns
returns c =
    let branches = branch_over c.args.tags.now.facts in
    let es = c.in_ok-newest.newest.entries in
    c.in_ok-append_branches.ensures
    ∙ ap (λ t. t ++ flat_map (λ e. branch_line e.1 e.0) es) c.empty-text.ensures
    ∙ each_told es (checkins branches c.items.result.now) c.rises.ensures c.in_ok-newest.ensures (λ branch newest. branch_line newest branch)
    ∙ ap (branches_report branches) (c.items.ensures ∙ c.in_ok-rows.ensures)
