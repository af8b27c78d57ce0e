use Rattle.std.proofs.Common.{◌≡◌, ◌∙◌, ◌-◌, ◌+◌, ◌<◌, ◌∷◌, drop, length, map, sym, subst, arith}
use Rattle.std.specs.Prelude.{IfSome}
use Rattle.std.proofs.lemmas.List.{drop_more}
use Rattle.std.proofs.Math.Path.{transport}
use Rattle.std.proofs.Math.Seq.{drop-length}
use Rattle.fsl_order.specs.Rows.{AreDistinct}
use Rattle.fsl_name.proofs.RowsBuilt.{distinct-drop}
use Rattle.fsl_forum.specs.Held.{rows_of}
use Rattle.fsl_forum.proofs.Climbs.{among}
use Rattle.fsl_forum.proofs.Filling.{IsFilled, filled-none, filled-more, filled-all}
use Rattle.fsl_forum.proofs.build.fill.Goals as goal

pub loop-left-init : goal.loop-left-init
loop-left-init g c = record {
  filled = filled-none c.args.facts.now (drop (length c.args.facts.now) c.args.facts.now) (rows_of c.args.maps.now)
      (drop-length c.args.facts.now) c.requires.posts c.requires.followers c.requires.ends c.requires.placed;
  within = omega arith;
  found = c.in_ok-found.ensures;
}

pub loop-left-preserved : goal.loop-left-preserved
loop-left-preserved g c =
    let facts = c.args.facts.now in
    let left = c.loop-left.left in
    let fact = c.index-facts-left.result in
    let within : left - 1 < length facts = omega (arith, c.loop-left-test.true, c.loop-left.invariant.within) in
    let one : left - 1 + 1 ≡ left = omega (arith, c.loop-left-test.true) in
    let cut : drop (left - 1) facts ≡ fact ∷ drop left facts = drop_more facts (left - 1) fact within ∙ (λ i. sym c.index-facts-left.is i ∷ drop (one i) facts) in
    let known = c.loop-left.invariant.found fact.name (among facts (left - 1) fact within c.index-facts-left.is) in
    let ended = subst (λ o. IfSome o (λ e. c.known_end-end.result ≡ e)) known c.known_end-end.ensures in
    let d : AreDistinct (map (λ f. f.name) (fact ∷ drop left facts)) = subst (λ l. AreDistinct (map (λ f. f.name) l)) cut (distinct-drop (λ f. f.name) (left - 1) facts c.requires.distinct) in
    let new = rows_of c.fill_one.new.maps in
    record {
      filled = transport (λ i. IsFilled facts (sym cut i) (sym c.begin.ensures.rows i))
          (filled-more facts (drop left facts) fact (rows_of c.loop-left.maps) new c.known_end-end.result d ended c.loop-left.invariant.filled
          c.in_ok-fill_one.ensures.posts c.in_ok-fill_one.ensures.followers c.in_ok-fill_one.ensures.ordered c.in_ok-fill_one.ensures.ends c.in_ok-fill_one.ensures.placed);
      within = omega (arith, c.loop-left.invariant.within);
      found = c.loop-left.invariant.found;
    }

pub returns-clause-kept : goal.returns-clause-kept
returns-clause-kept g c =
    let none : c.loop-left.left ≡ 0 = omega (arith, c.loop-left-test.false) in
    filled-all c.args.facts.now (rows_of c.loop-left.maps) (subst (λ n. IsFilled c.args.facts.now (drop n c.args.facts.now) (rows_of c.loop-left.maps)) none c.loop-left.invariant.filled)
