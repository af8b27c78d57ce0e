use Rattle.std.proofs.Common.{[], ◌++◌, ap, ◌∙◌}
use Rattle.std.specs.Prelude.{flat_map}
use Rattle.std.specs.Option.{option_map_or}
use Rattle.fsl_query.specs.Lines.{title_line}
use Rattle.fsl_query.specs.Listings.{current_page, keys_in, versions}
use Rattle.fsl_query.proofs.NewestLemmas.{keys_told}
use Rattle.fsl_query.proofs.pages.report.Goals as goal

pub returns : goal.returns
returns c =
    let facts = c.args.table.now.facts in
    let es = c.in_ok-titles.titles.entries in
    c.in_ok-append_titles.ensures
    ∙ ap (λ t. t ++ flat_map (λ e. option_map_or title_line (current_page facts e.0) []) es) c.empty-text.ensures
    ∙ keys_told es (versions c.args.facts.now) c.rises.ensures c.in_ok-titles.ensures (λ title. option_map_or title_line (current_page facts title) [])
    ∙ ap (λ fs. flat_map (λ title. option_map_or title_line (current_page facts title) []) (keys_in (versions fs))) c.requires
