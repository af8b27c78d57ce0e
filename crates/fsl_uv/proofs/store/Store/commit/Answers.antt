use Rattle.std.proofs.Common.{length, ap, sym, ◌∙◌, Ok}
use Rattle.fsl_uv.specs.Stores.{Whole}
use Rattle.fsl_uv.proofs.store.Store.commit.Goals as goal

pub returns-clause-nothing : goal.returns-clause-nothing
returns-clause-nothing g c = λ settled.
    let is = c.self.view_is in
    c.commit.ensures.nothing (ap (λ (s : Whole g.row.D.Denot). s.seen.log.stopped) is ∙ settled.0)
    (ap (λ (s : Whole g.row.D.Denot). s.seen.log.stable) is ∙ settled.1 ∙ sym (ap (λ (s : Whole g.row.D.Denot). length s.seen.log.records) is))
    ∙ ap (λ (s : Whole g.row.D.Denot). Ok (length s.seen.log.records)) is
