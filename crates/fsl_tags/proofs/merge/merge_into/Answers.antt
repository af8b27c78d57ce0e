use Rattle.std.proofs.Math.Seq.{take-length}
use Rattle.fsl_tags.specs.declared.Assertion.{Assertion}
use Rattle.fsl_tags.specs.Passing.{passes}
use mir.Val.{bool_byte}
use Rattle.std.proofs.Common.{arith, ◌≡◌, ◌≤◌, ◌<◌, ◌+◌, ◌++◌, ◌-◌, ◌∷◌, ℕ, List, length, length-drop, take, drop, filter, ◌∙◌, ap, sym, subst, inl, inr}
use Rattle.std.proofs.lemmas.List.{drop_more}
use Rattle.std.specs.Ordering.{is_ge, is_le}
use Rattle.fsl_order.specs.Names.{bytes_cmp}
use Rattle.fsl_tags.specs.Joined.{joined}
use Rattle.fsl_table.proofs.Outcomes.{on_ok_map}
use Rattle.fsl_tags.proofs.Blending.{byte_within}
use Rattle.fsl_tags.proofs.Merging.{joined-ends, joined-step}
use Rattle.fsl_tags.proofs.merge.merge_into.Goals.{then-loop-near-test+else-far-above, else-loop-near-test}
use Rattle.fsl_tags.proofs.merge.merge_into.Goals as goal

all_left : (n : ℕ) (xs : List Assertion) → take (length xs - n) (drop n xs) ≡ drop n xs
all_left n xs = ap (λ m. take m (drop n xs)) (sym (length-drop n xs)) ∙ take-length (drop n xs)

pub returns : goal.returns
returns c =
    on_ok_map c.push_all_passed.result
    (λ passed. joined-ends c.args.own.now c.args.above.now c.loop-near.row c.push_all.new.row c.push_all_passed.new.row c.loop-near.near c.loop-near.far c.loop-near.invariant.whole
    (c.in_ok-push_all.ensures ∙ ap (λ l. c.loop-near.row ++ l) (all_left c.loop-near.near c.args.own.now))
    (passed ∙ ap (λ l. c.push_all.new.row ++ filter passes l) (all_left c.loop-near.far c.args.above.now))
    (elim c.loop-near-test.branch [
      | then-loop-near-test+else-far-above w ↦ inr w.if-far-above.false
      | else-loop-near-test w ↦ inl w.loop-near-test.false
    ]))
    c.push_all_passed.ensures

pub loop-near-preserved : goal.loop-near-preserved
loop-near-preserved c =
    let own = c.args.own.now in
    let above = c.args.above.now in
    let l = c.loop-near in
    let x = c.index-own-near.result in
    let y = c.index-above-far.result in
    let near_less : l.near < length own = omega (arith, c.loop-near-test.true) in
    let far_less : l.far < length above = omega (arith, c.if-far-above.true) in
    let one : drop l.near own ≡ x ∷ drop (l.near + 1) own = drop_more own l.near x near_less ∙ ap (λ a. a ∷ drop (l.near + 1) own) (sym c.index-own-near.is) in
    let other : drop l.far above ≡ y ∷ drop (l.far + 1) above = drop_more above l.far y far_less ∙ ap (λ a. a ∷ drop (l.far + 1) above) (sym c.index-above-far.is) in
    let order : bytes_cmp x.tag y.tag ≡ c.cmp-order.result = sym (c.cmp-order.ensures ∙ (λ i. bytes_cmp (c.get.ensures i).tag (c.get-in-loop-near.ensures i).tag)) in
    let near_is : c.from-near.result ≡ bool_byte (is_le c.cmp-order.result) = c.from-near.ensures ∙ ap bool_byte c.is_le.ensures in
    let far_is : c.from-far.result ≡ bool_byte (is_ge c.cmp-order.result) = c.from-far.ensures ∙ ap bool_byte c.is_ge.ensures in
    record {
      whole = (λ i. c.in_ok-push_next.ensures i ++ joined (drop (l.far + far_is i) above) (drop (l.near + near_is i) own))
          ∙ joined-step own above l.row l.near l.far x y one other c.cmp-order.result order ∙ l.invariant.whole;
      near_within = subst (λ k. l.near + k ≤ length own) (sym c.from-near.ensures) (byte_within c.is_le.result l.near (length own) near_less);
      far_within = subst (λ k. l.far + k ≤ length above) (sym c.from-far.ensures) (byte_within c.is_ge.result l.far (length above) far_less);
    }
