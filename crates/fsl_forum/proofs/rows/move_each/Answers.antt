use Rattle.std.proofs.Common.{◌≡◌, ◌∙◌, ◌+◌, ◌++◌, cond, length, map, take, sym, ap, subst, arith}
use Rattle.std.specs.Str.{bytes_eq}
use Rattle.fsl_order.specs.Names.{has}
use Rattle.std.proofs.Math.Seq.{take-length}
use Rattle.fsl_forum.specs.Held.{AreOf}
use Rattle.fsl_forum.specs.Rows.{if_other, place_of, row_in}
use Rattle.fsl_forum.proofs.Linked.{of-alike}
use Rattle.fsl_forum.proofs.Noting.{all-at, not-before, has-more, over, differing-more}
use Rattle.fsl_forum.proofs.rows.move_each.Goals as goal

pub loop-one-preserved : goal.loop-one-preserved
loop-one-preserved g c =
    let rows = row_in c.args.posts.now.held.entries c.args.ends.now.held.entries in
    let noted = c.args.noted.now in
    let i = c.loop-one.one-index in
    let one = c.one-item.result in
    record {
      ordered = c.in_ok-move_one.ensures.ordered;
      placed = λ first of_ all.
          of-alike (λ x. cond (bytes_eq x one.name) (place_of (rows x)) (cond (has (map (λ n. n.name) (take i noted)) x) (place_of (rows x)) (first x))) (λ x. cond (has (map (λ n. n.name) (take (i + 1) noted)) x) (place_of (rows x)) (first x)) c.move_one.new.placed.held.entries
          (λ x. over (bytes_eq x one.name) (has (map (λ n. n.name) (take i noted)) x) (place_of (rows x)) (first x) ∙ ap (λ b. cond b (place_of (rows x)) (first x)) (sym (has-more (λ n. n.name) noted i one c.loop-one-test.true c.one-item.is x)))
          (c.in_ok-move_one.ensures.placed (λ x. cond (has (map (λ n. n.name) (take i noted)) x) (place_of (rows x)) (first x)) (c.loop-one.invariant.placed first of_ all)
          (ap (λ b. cond b (place_of (rows one.name)) (first one.name)) (not-before (λ n. n.name) noted i one one c.requires.rise c.loop-one-test.true c.one-item.is)
          ∙ all-at (λ n. first n.name ≡ place_of n.row) noted i one one all c.loop-one-test.true c.one-item.is));
      changed = c.in_ok-move_one.ensures.changed ∙ ap (λ l. l ++ if_other rows one) c.loop-one.invariant.changed ∙ differing-more rows noted i one c.loop-one-test.true c.one-item.is;
      was = c.move_one.ensures.was ∙ c.loop-one.invariant.was;
    }

pub returns-clause-placed : goal.returns-clause-placed
returns-clause-placed g c = λ first of_ all.
    let rows = row_in c.args.posts.now.held.entries c.args.ends.now.held.entries in
    let noted = c.args.noted.now in
    let ended : c.loop-one.one-index ≡ length noted = omega (arith, c.loop-one-test.false, c.loop-one.auto.one-index-end) in
    subst (λ l. AreOf (λ x. cond (has (map (λ n. n.name) l) x) (place_of (rows x)) (first x)) c.loop-one.placed.held.entries) (ap (λ i. take i noted) ended ∙ take-length noted) (c.loop-one.invariant.placed first of_ all)
