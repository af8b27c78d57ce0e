use Rattle.std.proofs.Common.{◌∙◌, sym, ap, length, arith}
use Rattle.fsl_wire.specs.Drafts.{Drafted}
use Rattle.fsl_wire.proofs.DraftLemmas.{drafted_length}
use Rattle.fsl_wire.proofs.drafts.Draft.len.Goals as goal

pub returns-clause-count : goal.returns-clause-count
returns-clause-count c =
    let d = c.self.inside in
    let same = sym (drafted_length d.settled d.cards.items d.behind.items d.logins) ∙ ap (λ (v : Drafted). length v.message) c.self.view_is in
    let many = c.len.ensures in
    omega (arith, many, same)

pub returns-clause-within : goal.returns-clause-within
returns-clause-within c =
    let d = c.self.inside in
    let same = sym (drafted_length d.settled d.cards.items d.behind.items d.logins) ∙ ap (λ (v : Drafted). length v.message) c.self.view_is in
    let shown = ap (λ (v : Drafted). v.settled) c.self.view_is in
    let most = c.self.invariant.0 in
    omega (arith, most, same, shown)
