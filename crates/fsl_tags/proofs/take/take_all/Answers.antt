use Rattle.std.proofs.lemmas.List.{drop_more, take_more}
use Rattle.std.proofs.Math.Seq.{take-length}
use Rattle.std.proofs.Common.{◌≡◌, ◌∙◌, ◌+◌, ◌-◌, ◌<◌, ◌∷◌, ◌++◌, [], drop, take, length, refl, sym, ap, subst, arith}
use Rattle.fsl_order.specs.Rows.{greater}
use Rattle.fsl_table.specs.Pairs.{seconds}
use Rattle.fsl_tags.specs.Tags.{newer_cmp}
use Rattle.fsl_tags.specs.Kept.{newest_of}
use Rattle.fsl_tags.specs.Laid.{row_in}
use Rattle.fsl_tags.specs.Laying.{AreElsewhere}
use Rattle.fsl_tags.proofs.RowsOf.{of_tag}
use Rattle.fsl_tags.proofs.Newest.{greater-none}
use Rattle.fsl_tags.proofs.EffectiveLaw.{newer_cmp-IsTotalOrder}
use Rattle.fsl_tags.proofs.Dropped.{at_place}
use Rattle.fsl_tags.proofs.Grouping.{newest_of-group, on_target-none, left-next, gone-next}
use Rattle.fsl_tags.proofs.take.take_all.Goals as goal

pub loop-at-init : goal.loop-at-init
loop-at-init g c =
    let all = c.args.assertions.now in
    record {
      right = c.requires.right;
      full = c.in_ok-groups.ensures.full;
      own = λ x tag. ap (greater newer_cmp (of_tag (row_in c.args.own.now.held.entries x) tag)) (ap (newest_of tag) (c.in_ok-groups.ensures.groups x) ∙ newest_of-group x tag all);
      gone = λ x away. c.in_ok-groups.ensures.groups x ∙ on_target-none x all (subst (AreElsewhere x) (take-length all) away);
      noted = λ before m. m;
      own_was = refl;
      rows_was = refl;
      touches = λ free. omega arith;
      back = λ free. omega arith;
      more = λ free. omega arith;
      within = omega arith;
    }

pub loop-at-preserved : goal.loop-at-preserved
loop-at-preserved g c =
    let all = c.args.assertions.now in
    let i = c.loop-at.at in
    let j = i - 1 in
    let a = c.index-assertions-at.result in
    let e : j + 1 ≡ i = omega (arith, c.loop-at-test.true) in
    let less : j < length all = omega (arith, c.loop-at-test.true, c.loop-at.invariant.within) in
    let cut : drop j all ≡ a ∷ drop i all = drop_more all j a less ∙ (λ k. (sym c.index-assertions-at.is) k ∷ drop (e k) all) in
    let last : take i all ≡ take j all ++ a ∷ [] = ap (λ n. take n all) (sym e) ∙ take_more all j a less ∙ ap (λ y. take j all ++ y ∷ []) (sym c.index-assertions-at.is) in
    let target : a.target ≡ c.get.result.now.target = ap (λ y. y.target) (sym c.get.ensures) in
    let kids = c.args.graph.now.children.held.entries in
    let left = c.loop-at.groups.entries in
    record {
      right = c.in_ok-take_left.ensures.right;
      full = c.take_left.ensures.full;
      own = λ x tag.
          left-next c.get.result.now.target left c.take_left.new.groups.entries c.loop-at.own.held.entries c.take_left.new.own.held.entries c.take_left.ensures.groups x tag (c.in_ok-take_left.ensures.own x tag)
          ∙ c.loop-at.invariant.own x tag;
      gone = gone-next c.get.result.now.target left c.take_left.new.groups.entries (take j all) (take i all) a target last c.take_left.ensures.groups c.loop-at.invariant.gone;
      noted = λ before n. c.in_ok-take_left.ensures.noted before (c.loop-at.invariant.noted before n);
      own_was = c.take_left.ensures.own_was ∙ c.loop-at.invariant.own_was;
      rows_was = c.take_left.ensures.rows_was ∙ c.loop-at.invariant.rows_was;
      touches = λ free. let one = ap (λ t. seconds t kids) (sym target) ∙ at_place (λ b. seconds b.target kids ≡ []) j all a (drop i all) free cut in omega (arith, e, c.take_left.ensures.touches one, c.loop-at.invariant.touches free);
      back = λ free. let one = ap (λ t. seconds t kids) (sym target) ∙ at_place (λ b. seconds b.target kids ≡ []) j all a (drop i all) free cut in omega (arith, e, c.take_left.ensures.back one, c.loop-at.invariant.back free);
      more = λ free. let one = ap (λ t. seconds t kids) (sym target) ∙ at_place (λ b. seconds b.target kids ≡ []) j all a (drop i all) free cut in omega (arith, e, c.take_left.ensures.more one, c.loop-at.invariant.more free);
      within = omega (arith, e, c.loop-at.invariant.within);
    }

pub returns-clause-own : goal.returns-clause-own
returns-clause-own g c = λ x tag.
    let found = of_tag (row_in c.loop-at.own.held.entries x) tag in
    let e : c.loop-at.at ≡ 0 = omega (arith, c.loop-at-test.false) in
    let none : row_in c.loop-at.groups.entries x ≡ [] = c.loop-at.invariant.gone x (subst (λ n. AreElsewhere x (take n c.args.assertions.now)) (sym e) tt) in
    sym (greater-none newer_cmp newer_cmp-IsTotalOrder found)
    ∙ ap (λ l. greater newer_cmp found (newest_of tag l)) (sym none) ∙ c.loop-at.invariant.own x tag

pub returns-clause-touches : goal.returns-clause-touches
returns-clause-touches g c = λ free. omega (arith, c.loop-at.invariant.touches free)

pub returns-clause-back : goal.returns-clause-back
returns-clause-back g c = λ free. omega (arith, c.loop-at.invariant.back free)

pub returns-clause-more : goal.returns-clause-more
returns-clause-more g c = λ free. omega (arith, c.loop-at.invariant.more free)

pub returns-in_err-take_left-clause-touches : goal.returns-in_err-take_left-clause-touches
returns-in_err-take_left-clause-touches g c = λ free.
    let all = c.args.assertions.now in
    let i = c.loop-at.at in
    let j = i - 1 in
    let a = c.index-assertions-at.result in
    let e : j + 1 ≡ i = omega (arith, c.loop-at-test.true) in
    let less : j < length all = omega (arith, c.loop-at-test.true, c.loop-at.invariant.within) in
    let cut : drop j all ≡ a ∷ drop i all = drop_more all j a less ∙ (λ k. (sym c.index-assertions-at.is) k ∷ drop (e k) all) in
    let one = ap (λ y. seconds y.target c.args.graph.now.children.held.entries) c.get.ensures ∙ at_place (λ b. seconds b.target c.args.graph.now.children.held.entries ≡ []) j all a (drop i all) free cut in
    omega (arith, e, c.take_left.ensures.touches one, c.loop-at.invariant.touches free)

pub returns-in_err-take_left-clause-back : goal.returns-in_err-take_left-clause-back
returns-in_err-take_left-clause-back g c = λ free.
    let all = c.args.assertions.now in
    let i = c.loop-at.at in
    let j = i - 1 in
    let a = c.index-assertions-at.result in
    let e : j + 1 ≡ i = omega (arith, c.loop-at-test.true) in
    let less : j < length all = omega (arith, c.loop-at-test.true, c.loop-at.invariant.within) in
    let cut : drop j all ≡ a ∷ drop i all = drop_more all j a less ∙ (λ k. (sym c.index-assertions-at.is) k ∷ drop (e k) all) in
    let one = ap (λ y. seconds y.target c.args.graph.now.children.held.entries) c.get.ensures ∙ at_place (λ b. seconds b.target c.args.graph.now.children.held.entries ≡ []) j all a (drop i all) free cut in
    omega (arith, e, c.take_left.ensures.back one, c.loop-at.invariant.back free)

pub returns-in_err-take_left-clause-more : goal.returns-in_err-take_left-clause-more
returns-in_err-take_left-clause-more g c = λ free.
    let all = c.args.assertions.now in
    let i = c.loop-at.at in
    let j = i - 1 in
    let a = c.index-assertions-at.result in
    let e : j + 1 ≡ i = omega (arith, c.loop-at-test.true) in
    let less : j < length all = omega (arith, c.loop-at-test.true, c.loop-at.invariant.within) in
    let cut : drop j all ≡ a ∷ drop i all = drop_more all j a less ∙ (λ k. (sym c.index-assertions-at.is) k ∷ drop (e k) all) in
    let one = ap (λ y. seconds y.target c.args.graph.now.children.held.entries) c.get.ensures ∙ at_place (λ b. seconds b.target c.args.graph.now.children.held.entries ≡ []) j all a (drop i all) free cut in
    omega (arith, e, c.take_left.ensures.more one, c.loop-at.invariant.more free)
