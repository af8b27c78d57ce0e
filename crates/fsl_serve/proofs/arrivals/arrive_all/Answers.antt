use Rattle.std.proofs.Common.{◌≡◌, ℕ, zero, suc, sym, ap, subst, ◌∙◌, refl, arith, ◌+◌, ◌<◌, length, get_or, slice_set, Bool, false, drop, List, [], ◌∷◌}
use Rattle.std.proofs.lemmas.List.{set-get_or}
use Rattle.std.specs.Prelude.{option_to_list, OnOk, ◌++◌}
use Rattle.std.specs.Result.{result_err}
use Rattle.fsl_record.specs.Receipts.{Brought}
use Rattle.fsl_repo.specs.declared.Event.{Event}
use Rattle.fsl_wire.specs.declared.WireCard.{WireCard}
use Rattle.fsl_serve.specs.Session.{arrival_of, arrivals, mark_after, notices}
use Rattle.fsl_serve.specs.Calls.{Call, Gains, Phase, asked, told}
use Rattle.fsl_serve.proofs.Runs.{IsAt, at_card, loop_goes_on, loop_halts}
use Rattle.fsl_serve.proofs.arrivals.arrive_all.Goals as goal

-- what stands for a card beyond the end of a list doesn't matter within it
same_within : (cs : List WireCard) (i : ℕ) (y z : WireCard) → i < length cs → get_or cs i y ≡ get_or cs i z
same_within [] i y z lt = let none : ⊥ = omega (arith, lt) in absurd none
same_within (c ∷ cs) zero y z lt = refl
same_within (c ∷ cs) (suc i) y z lt = same_within cs i y z (omega (arith, lt))

-- the card at a place of a list that is another one
at_same : (cs ds : List WireCard) (i : ℕ) (y : WireCard) → cs ≡ ds → i < length cs → drop i ds ≡ get_or cs i y ∷ drop (i + 1) ds
at_same cs ds i y same lt =
    subst (λ (l : List WireCard). drop i l ≡ get_or cs i y ∷ drop (i + 1) l) same (at_card cs i (get_or cs i y) lt (same_within cs i y (get_or cs i y) lt))

pub returns-in-Err-clause-made : goal.returns-in-Err-clause-made
returns-in-Err-clause-made g c =
    let i = c.loop-at.at in
    let cs = c.args.cards.now in
    let r = c.args.receipt.now in
    let x = get_or c.loop-at.cards c.loop-at.at c.index-cards-at-in-loop-at.result in
    let m = c.loop-at.marked in
    let eq = ap (arrivals r m) (at_same c.loop-at.cards cs i c.index-cards-at-in-loop-at.result c.loop-at.invariant.2 c.loop-at-test.true) in
    let Q : List Call → Type 0 = λ made. c.loop-at.texts ≡ notices (asked made) (told made) in
    let R : List Call → Type 0 = λ made. OnOk c.arrive_card.result (c.arrive_card.new.texts ≡ c.loop-at.texts ++ notices (asked made) (told made)) in
    let F : List Event → Type 0 = λ d. Gains g.D.Disk.state (g.T.Calls.calls c.args.pass.now) (g.T.Calls.calls c.loop-at.pass) (λ made. IsAt (arrivals r false cs) made d × Q made) in
    let A : Brought → Type 0 = λ b. Gains g.D.Disk.state (g.T.Calls.calls c.loop-at.pass) (g.T.Calls.calls c.arrive_card.new.pass) (λ made. Phase (option_to_list (arrival_of b m x)) made (result_err c.arrive_card.result) × OnOk c.arrive_card.result (c.arrive_card.new.texts ≡ c.loop-at.texts ++ notices (asked made) (told made))) in
    let arrived = subst A c.loop-at.invariant.3 c.arrive_card.ensures.made in
    loop_halts _ _ _ (arrivals r false cs) (option_to_list (arrival_of r m x)) (arrivals r (mark_after m x) (drop (i + 1) cs)) Q R c.arrive_card.result c.in-Err.halt (subst F eq c.loop-at.invariant.1) arrived c.in-Err.is

pub loop-at-preserved : goal.loop-at-preserved
loop-at-preserved g c = (
  g.met.T.Calls.grows_through c.args.pass.now c.loop-at.pass c.arrive_card.new.pass c.loop-at.invariant.0 c.arrive_card.ensures.grown,
  let i = c.loop-at.at in
      let cs = c.args.cards.now in
      let r = c.args.receipt.now in
      let x = get_or c.loop-at.cards c.loop-at.at c.index-cards-at-in-loop-at.result in
      let m = c.loop-at.marked in
      let eq = ap (arrivals r m) (at_same c.loop-at.cards cs i c.index-cards-at-in-loop-at.result c.loop-at.invariant.2 c.loop-at-test.true) in
      let old = c.loop-at.texts in
      let new = c.arrive_card.new.texts in
      let F : List Event → Type 0 = λ d. Gains g.D.Disk.state (g.T.Calls.calls c.args.pass.now) (g.T.Calls.calls c.loop-at.pass) (λ made. IsAt (arrivals r false cs) made d × (old ≡ notices (asked made) (told made))) in
      let A : Brought → Type 0 = λ b. Gains g.D.Disk.state (g.T.Calls.calls c.loop-at.pass) (g.T.Calls.calls c.arrive_card.new.pass) (λ made. Phase (option_to_list (arrival_of b m x)) made (result_err c.arrive_card.result) × OnOk c.arrive_card.result (c.arrive_card.new.texts ≡ c.loop-at.texts ++ notices (asked made) (told made))) in
      let arrived = subst A c.loop-at.invariant.3 c.arrive_card.ensures.made in
      let end = loop_goes_on _ _ _ (arrivals r false cs) (option_to_list (arrival_of r m x)) (arrivals r (mark_after m x) (drop (i + 1) cs)) old old new c.arrive_card.result (subst F eq c.loop-at.invariant.1) arrived c.in-Ok.is in
      let H : Bool → Type 0 = λ b. Gains g.D.Disk.state (g.T.Calls.calls c.args.pass.now) (g.T.Calls.calls c.arrive_card.new.pass) (λ made. IsAt (arrivals r false cs) made (arrivals r b (drop (i + 1) cs)) × (new ≡ notices (asked made) (told made))) in
      let next = c.marks-next.ensures ∙ ap (mark_after m) (same_within c.loop-at.cards i c.index-cards-at.result c.index-cards-at-in-loop-at.result c.loop-at-test.true) in
      subst H (sym next) end,
  ap (λ (w : WireCard). slice_set c.loop-at.cards c.loop-at.at w) c.arrive_card.ensures.kept ∙ set-get_or c.loop-at.cards c.loop-at.at c.index-cards-at-in-loop-at.result ∙ c.loop-at.invariant.2,
  c.arrive_card.ensures.same ∙ c.loop-at.invariant.3,
)
