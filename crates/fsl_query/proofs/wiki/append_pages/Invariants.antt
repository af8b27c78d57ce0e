use Rattle.std.proofs.Common.{◌≡◌, ◌++◌, take}
use Rattle.std.specs.Prelude.{flat_map}
use Rattle.fsl_query.specs.Lines.{page_line}
use Rattle.fsl_query.proofs.wiki.append_pages.Given as goal

-- the versions that were passed have their lines
abbrev pub invariant-loop-page : goal.invariant-loop-page
invariant-loop-page l = l.into ≡ l.initial.into ++ flat_map page_line (take l.page-index l.pages)
