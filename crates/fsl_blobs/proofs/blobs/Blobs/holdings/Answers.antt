use Rattle.std.proofs.Common.{[], map, ap}
use Rattle.fsl_blobs.specs.Seen.{Seen}
use Rattle.fsl_blobs.proofs.HeldLists.{bare-held, lent}
use Rattle.fsl_blobs.proofs.Holdings.{if-ok, all-from, all-apart}
use Rattle.fsl_blobs.proofs.blobs.Blobs.holdings.Goals as goal

pub returns-clause-held : goal.returns-clause-held
returns-clause-held c = lent _ _ c.holdings.result c.holdings.ensures.holdings (bare-held _ _ c.self.invariant.kept.held c.holdings.ensures.ordered c.args.self.now (ap (λ (b : Seen). b.records) c.self.view_is))

pub returns-clause-from : goal.returns-clause-from
returns-clause-from c =
    if-ok _ _ c.holdings.result
    (λ list known. all-from _ _ c.self.inside.held.entries list.items known c.is_map.ensures.found c.self.invariant.from c.args.self.now (ap (λ (b : Seen). b.records) c.self.view_is))
    c.holdings.ensures.known

pub returns-clause-apart : goal.returns-clause-apart
returns-clause-apart c =
    if-ok _ _ c.holdings.result
    (λ list known. all-apart (map (λ s. s.value) c.self.inside.records.items) [] c.self.inside.held.entries list.items known c.is_map.ensures.found c.self.invariant.kept.places c.is_map.ensures.ordered)
    c.holdings.ensures.known
