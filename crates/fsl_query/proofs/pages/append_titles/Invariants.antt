use Rattle.std.proofs.Common.{◌≡◌, [], ◌++◌, map}
use Rattle.std.specs.Prelude.{flat_map}
use Rattle.std.specs.Map.Iter.{deref_pair}
use Rattle.std.specs.Option.{option_map_or}
use Rattle.fsl_query.specs.Lines.{title_line}
use Rattle.fsl_query.specs.Listings.{current_page}
use Rattle.fsl_query.proofs.pages.append_titles.Given as goal

-- the titles that were passed have their lines
abbrev pub invariant-loop-title : goal.invariant-loop-title
invariant-loop-title l = l.into ≡ l.initial.into ++ flat_map (λ e. option_map_or title_line (current_page l.table.facts e.0) []) (map deref_pair l.yielded)
