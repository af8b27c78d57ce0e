use Rattle.std.proofs.Common.{◌∙◌, ap}
use Rattle.std.specs.Prelude.{reverse}
use Rattle.std.specs.List.{filter_map}
use Rattle.std.specs.Map.{keys_of}
use Rattle.fsl_table.specs.Within.{within}
use Rattle.fsl_table.proofs.Outcomes.{if_ok_map}
use Rattle.fsl_wiki.specs.Groups.{group_cmp}
use Rattle.fsl_wiki.specs.Pages as table
use Rattle.fsl_wiki.specs.Kept.{page_at, rows_of}
use Rattle.fsl_wiki.proofs.Answering.{pages_are}
use Rattle.fsl_wiki.proofs.pages.Pages.history_counted.Goals as goal

pub returns : goal.returns
returns g c =
    let r = rows_of c.self.inside.maps in
    let title = c.args.title.now in
    if_ok_map c.pages_from.result
    (λ list is. is
    ∙ ap (λ ps. filter_map (λ p. page_at r.facts.entries p.1) (reverse ps)) (c.in_ok-versions.ensures ∙ (λ i. keys_of (within group_cmp (c.in_ok-page.ensures i) (c.map.ensures i).entries)))
    ∙ pages_are r c.self.invariant title
    ∙ ap (λ h. table.history h.facts title) c.self.view_is)
    c.pages_from.ensures
