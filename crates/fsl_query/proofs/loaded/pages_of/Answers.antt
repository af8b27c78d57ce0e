use Rattle.std.proofs.Common.{◌≡◌, IfOk, sym, subst}
use Rattle.fsl_query.specs.Listings.{pages_report}
use Rattle.fsl_query.proofs.loaded.pages_of.Goals as goal

pub pages_by-text-requires : goal.pages_by-text-requires
pages_by-text-requires c = sym c.in_ok-table.ensures.own

pub returns : goal.returns
returns c fields = subst (λ facts. IfOk c.pages_by-text.result (λ text. text ≡ pages_report facts)) (c.in_ok-table.ensures.facts fields) c.pages_by-text.ensures
