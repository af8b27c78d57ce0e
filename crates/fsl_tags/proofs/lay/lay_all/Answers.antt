use Rattle.std.proofs.lemmas.List.{drop_more}
use Rattle.std.proofs.Common.{◌≡◌, ◌+◌, ◌-◌, ◌<◌, ◌∙◌, ◌∷◌, [], List, map, drop, length, refl, sym, ap, subst, arith}
use Rattle.std.specs.List.{IsDistinct}
use Rattle.fsl_order.specs.Rows.{by_name, named, AreDistinct}
use Rattle.fsl_order.proofs.NamedLemmas.{named-by_name}
use Rattle.fsl_name.proofs.RowsBuilt.{distinct-drop, by_name-again}
use Rattle.fsl_tags.specs.declared.Fact.{Fact}
use Rattle.fsl_tags.specs.Tags.{IsTagFact}
use Rattle.fsl_tags.specs.Held.{facts_of}
use Rattle.fsl_tags.specs.Laid.{row_in}
use Rattle.fsl_tags.specs.Laying.{AreElsewhere}
use Rattle.fsl_tags.proofs.Dropped.{at_place}
use Rattle.fsl_tags.proofs.Filling.{grouped_none, value_none, named_none}
use Rattle.fsl_tags.proofs.lay.lay_all.Goals as goal

pub loop-left-init : goal.loop-left-init
loop-left-init g c = record {
  grouped = grouped_none c.args.graph.now.facts.held.entries c.args.graph.now.children.held.entries c.args.groups.now.entries c.requires.facts c.requires.children c.requires.groups;
  done = ap facts_of c.requires.facts ∙ ap (by_name (λ f. f.name)) (sym (dropped c.args.given.now));
  away = λ x all. ap (λ es. row_in es x) c.requires.groups;
  within = omega arith;
}
  where
    dropped : (fs : List Fact) → drop (length fs) fs ≡ []
    dropped [] = refl
    dropped (f ∷ fs) = dropped fs

pub lay_one-requires-clause-absent : goal.lay_one-requires-clause-absent
unfolding IsDistinct
lay_one-requires-clause-absent g c =
    let given = c.args.given.now in
    let j = c.loop-left.left - 1 in
    let fact = c.index-given-left.result in
    let e : j + 1 ≡ c.loop-left.left = omega (arith, c.loop-left-test.true) in
    let less : j < length given = omega (arith, c.loop-left-test.true, c.loop-left.invariant.within) in
    let cut : drop j given ≡ fact ∷ drop c.loop-left.left given = drop_more given j fact less ∙ (λ i. (sym c.index-given-left.is) i ∷ drop (e i) given) in
    let d : AreDistinct (map (λ f. f.name) (fact ∷ drop c.loop-left.left given)) = subst (λ l. AreDistinct (map (λ f. f.name) l)) cut (distinct-drop (λ f. f.name) j given c.requires.fit.differ) in
    value_none c.loop-left.graph.facts.held.entries fact.name
    (ap (λ fs. named (λ f. f.name) fs fact.name) c.loop-left.invariant.done ∙ named-by_name (λ f. f.name) (drop c.loop-left.left given) fact.name ∙ named_none (drop c.loop-left.left given) fact.name d.0)

pub lay_one-requires-clause-sources : goal.lay_one-requires-clause-sources
lay_one-requires-clause-sources g c =
    let given = c.args.given.now in
    let j = c.loop-left.left - 1 in
    let fact = c.index-given-left.result in
    let e : j + 1 ≡ c.loop-left.left = omega (arith, c.loop-left-test.true) in
    let less : j < length given = omega (arith, c.loop-left-test.true, c.loop-left.invariant.within) in
    let cut : drop j given ≡ fact ∷ drop c.loop-left.left given = drop_more given j fact less ∙ (λ i. (sym c.index-given-left.is) i ∷ drop (e i) given) in
    (at_place (IsTagFact given) j given fact (drop c.loop-left.left given) c.requires.fit.fit cut).sources

pub loop-left-preserved : goal.loop-left-preserved
loop-left-preserved g c =
    let given = c.args.given.now in
    let j = c.loop-left.left - 1 in
    let fact = c.index-given-left.result in
    let rest = drop c.loop-left.left given in
    let e : j + 1 ≡ c.loop-left.left = omega (arith, c.loop-left-test.true) in
    let less : j < length given = omega (arith, c.loop-left-test.true, c.loop-left.invariant.within) in
    let cut : drop j given ≡ fact ∷ rest = drop_more given j fact less ∙ (λ i. (sym c.index-given-left.is) i ∷ drop (e i) given) in
    let d : AreDistinct (map (λ f. f.name) (fact ∷ rest)) = subst (λ l. AreDistinct (map (λ f. f.name) l)) cut (distinct-drop (λ f. f.name) j given c.requires.fit.differ) in
    record {
      grouped = c.in_ok-lay_one.ensures.grouped;
      done = c.in_ok-lay_one.ensures.facts ∙ ap (λ fs. by_name (λ f. f.name) (fact ∷ fs)) c.loop-left.invariant.done ∙ by_name-again (λ f. f.name) fact rest d ∙ ap (by_name (λ f. f.name)) (sym cut);
      away = λ x all. c.in_ok-lay_one.ensures.away x (at_place (λ f. AreElsewhere x f.tags) j given fact rest all cut) ∙ c.loop-left.invariant.away x all;
      within = omega (arith, c.loop-left.invariant.within);
    }
