use Rattle.std.proofs.Common.{◌∙◌, ℕ, List, ap, subst, length}
use Rattle.std.specs.Prelude.{Result}
use Rattle.std.proofs.lemmas.List.{take_at}
use Rattle.fsl_wire.specs.declared.WireCard.{WireCard}
use Rattle.fsl_serve.specs.declared.said.Halt.{Halt}
use Rattle.fsl_serve.specs.Sessions.{IsConcluded, sent_of}
use Rattle.fsl_serve.specs.Points.{Passes, arrived, reached}
use Rattle.fsl_serve.specs.Calls.{Call, Gains}
use Rattle.fsl_serve.proofs.Runs.{Before, run_whole, run_early}
use Rattle.fsl_serve.proofs.Passing.{did_arrive}
use Rattle.fsl_serve.proofs.events.run.Goals as goal

pub returns-in-Ok-clause-made : goal.returns-in-Ok-clause-made
returns-in-Ok-clause-made g c =
    let r = c.before_build-before.result in
    let old = g.G.Gate.passed c.args.gate.now in
    let new = g.G.Gate.passed c.before_build-before.new.gate in
    let Q : Result (List (List ℕ)) Halt → List Call → Type 0 = λ r made. Passes old new c.args.number (reached r made) in
    let R : List Call → Type 0 = λ made. Passes old new c.args.number (arrived made) in
    let cards = c.as_mut_slice.ensures.value ∙ c.into_vec-cards.ensures ∙ c.into_cards.ensures in
    let kept = c.in-Ok.ensures.kept in
    let same = c.of.ensures ∙ c.from_vec.ensures ∙ take_at c.before_build-before.new.cards _ _ (ap (λ (l : List WireCard). length l) kept ∙ c.as_mut_slice.ensures.len) ∙ kept ∙ cards in
    let F : List WireCard → Type 0 = λ m. Gains g.D.Disk.state (g.T.Calls.calls c.args.pass.now) (g.T.Calls.calls c.before_build-before.new.pass) (Before m c.args.caps c.args.receipt.now r Q) in
    let K : List WireCard → Type 0 = λ m. Gains g.D.Disk.state (g.T.Calls.calls c.before_build-before.new.pass) (g.T.Calls.calls c.conclude.new.pass)
    (λ made. IsConcluded (record { caps = c.args.caps; message = m; notices = c.in-Ok.notices }) made (sent_of c.conclude.result)) in
    run_whole _ _ _ c.args.message c.args.caps c.args.receipt.now c.in-Ok.notices r (sent_of c.conclude.result) Q R c.in-Ok.is (λ xs ys p late. did_arrive old new c.args.number xs ys p late)
    (subst F cards c.before_build-before.ensures.made) (subst K same c.conclude.ensures.made)

pub returns-in-Err-clause-made : goal.returns-in-Err-clause-made
returns-in-Err-clause-made g c =
    let r = c.before_build-before.result in
    let Q : Result (List (List ℕ)) Halt → List Call → Type 0 = λ r made. Passes (g.G.Gate.passed c.args.gate.now) (g.G.Gate.passed c.before_build-before.new.gate) c.args.number (reached r made) in
    let cards = c.as_mut_slice.ensures.value ∙ c.into_vec-cards.ensures ∙ c.into_cards.ensures in
    let F : List WireCard → Type 0 = λ m. Gains g.D.Disk.state (g.T.Calls.calls c.args.pass.now) (g.T.Calls.calls c.before_build-before.new.pass) (Before m c.args.caps c.args.receipt.now r Q) in
    run_early _ _ c.args.message c.args.caps c.args.receipt.now r c.in-Err.halt Q c.in-Err.is (subst F cards c.before_build-before.ensures.made)
