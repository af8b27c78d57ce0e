use Rattle.std.proofs.Common.{◌≤◌, ◌∙◌, sym, ap, length, arith}
use Rattle.fsl_wire.specs.Drafts.{Drafted}
use Rattle.fsl_wire.proofs.DraftLemmas.{drafted_length, all_settled}
use Rattle.fsl_wire.proofs.drafts.Draft.into_message.Goals as goal

pub returns : goal.returns
returns c =
    let d = c.self-2.inside in
    let shown = ap (λ (v : Drafted). v.message) c.self-2.view_is in
    let count = ap (λ (v : Drafted). v.settled) c.self-2.view_is in
    let same = c.loop-place.invariant.0 in
    let far = c.loop-place.invariant.1 in
    let end = c.loop-place-test.false in
    let many = c.len-place-end.ensures.count ∙ sym (ap length same) ∙ sym (ap length shown) ∙ drafted_length d.settled d.cards.items d.behind.items d.logins in
    let past : length d.cards.items ≤ d.settled = omega (arith, many, count, far, end) in
    c.of.ensures ∙ c.from_vec.ensures ∙ sym (all_settled d.settled d.cards.items d.behind.items d.logins past) ∙ shown ∙ same
