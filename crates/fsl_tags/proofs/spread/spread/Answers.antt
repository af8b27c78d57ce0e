use Rattle.std.proofs.Common.{◌∙◌, ◌++◌, ◌∷◌, [], ap, subst, arith, List, ℕ, ◌+◌, ◌⊎◌, inl, inr, ⊎_elim, refl, true, length, ◌≡◌, sym}
use Rattle.fsl_tags.specs.Spread.{IsSpread}
use Rattle.fsl_tags.specs.Laid.{row_in, parent_in, settled}
use Rattle.fsl_tags.proofs.Settled.{spread-begins, spread-again, spread-chain, length-last}
use Rattle.std.specs.Str.{bytes_eq}
use Rattle.std.specs.List.{AllByRecursion}
use Rattle.fsl_table.specs.Pairs.{seconds}
use Rattle.fsl_tags.specs.InMaps.{IsBrief}
use Rattle.fsl_tags.proofs.spread.spread.Goals as goal

never : (ys : List (List ℕ)) (y : List ℕ) → ys ++ y ∷ [] ≡ [] → ⊥
never [] y e = cc
never (x ∷ ys) y e = cc

last_one : (ys : List (List ℕ)) (y r : List ℕ) → ys ++ y ∷ [] ≡ r ∷ [] → (ys ≡ []) × (y ≡ r)
last_one [] y r e = (refl, cc)
last_one (x ∷ ys) y r e = let rest : ys ++ y ∷ [] ≡ [] = cc in absurd (never ys y rest)

pub loop-at-init : goal.loop-at-init
loop-at-init g c =
    let facts = c.args.graph.now.facts.held.entries in
    let own = c.args.own.now.held.entries in
    record {
      full = c.requires.full;
      spread = spread-begins (parent_in facts) (row_in own) (settled facts own) c.args.root c.push.new.self.items (row_in c.args.flow.now.rows.held.entries)
          (c.in_ok-push.ensures.items ∙ ap (λ l. l ++ c.args.root ∷ []) c.clear.ensures.items) c.requires.root c.requires.even;
      noted = λ before n. n;
      was = refl;
      noted_idle = λ all. refl;
      idle = λ all. inl (c.in_ok-push.ensures.items ∙ ap (λ l. l ++ c.args.root ∷ []) c.clear.ensures.items, record { touches = omega arith; logged = refl });
    }

pub spread_one-requires-clause-spread : goal.spread_one-requires-clause-spread
spread_one-requires-clause-spread g c =
    let facts = c.args.graph.now.facts.held.entries in
    let own = c.args.own.now.held.entries in
    subst (λ w. IsSpread (parent_in facts) (row_in own) (settled facts own) c.args.root w (row_in c.loop-at.flow.rows.held.entries) (row_in c.loop-at.flow.rows.held.entries)) c.in-Some.ensures
    (spread-again (parent_in facts) (row_in own) (settled facts own) c.args.root c.loop-at.flow.waiting.items (row_in c.args.flow.now.rows.held.entries) (row_in c.loop-at.flow.rows.held.entries) c.loop-at.invariant.spread)

pub loop-at-preserved : goal.loop-at-preserved
loop-at-preserved g c =
    let facts = c.args.graph.now.facts.held.entries in
    let own = c.args.own.now.held.entries in
    record {
      full = c.in_ok-spread_one.ensures.full;
      spread = spread-chain (parent_in facts) (row_in own) (settled facts own) c.args.root c.spread_one.new.flow.waiting.items c.loop-at.flow.waiting.items (row_in c.args.flow.now.rows.held.entries) (row_in c.loop-at.flow.rows.held.entries) (row_in c.spread_one.new.flow.rows.held.entries)
          c.loop-at.invariant.spread c.in_ok-spread_one.ensures.spread;
      noted = λ before n. c.in_ok-spread_one.ensures.noted before (c.loop-at.invariant.noted before n);
      was = c.spread_one.ensures.was ∙ c.loop-at.invariant.was;
      noted_idle = λ all.
          ⊎_elim {C = length c.spread_one.new.flow.noted.entries ≡ length c.args.flow.now.noted.entries}
          (λ (one : (c.loop-at.flow.waiting.items ≡ c.args.root ∷ []) × IsBrief 0 c.args.steps.now c.loop-at.steps c.args.flow.now c.loop-at.flow).
          let l = last_one c.pop.new.names.items c.in-Some.at c.args.root (sym c.in-Some.ensures ∙ one.0) in
          c.spread_one.ensures.noted_idle (subst (λ y. AllByRecursion (λ x. bytes_eq x c.args.root ≡ true) (seconds y c.args.graph.now.children.held.entries)) (sym l.1) all) ∙ c.loop-at.invariant.noted_idle all)
          (λ (none : (c.loop-at.flow.waiting.items ≡ []) × IsBrief (2 + length (seconds c.args.root c.args.graph.now.children.held.entries)) c.args.steps.now c.loop-at.steps c.args.flow.now c.loop-at.flow).
          absurd (never c.pop.new.names.items c.in-Some.at (sym c.in-Some.ensures ∙ none.0)))
          (c.loop-at.invariant.idle all);
      idle = λ all.
          ⊎_elim {C = ((c.spread_one.new.flow.waiting.items ≡ c.args.root ∷ []) × IsBrief 0 c.args.steps.now c.spread_one.new.steps c.args.flow.now c.spread_one.new.flow) ⊎ ((c.spread_one.new.flow.waiting.items ≡ []) × IsBrief (2 + length (seconds c.args.root c.args.graph.now.children.held.entries)) c.args.steps.now c.spread_one.new.steps c.args.flow.now c.spread_one.new.flow)}
          (λ (one : (c.loop-at.flow.waiting.items ≡ c.args.root ∷ []) × IsBrief 0 c.args.steps.now c.loop-at.steps c.args.flow.now c.loop-at.flow).
          let l = last_one c.pop.new.names.items c.in-Some.at c.args.root (sym c.in-Some.ensures ∙ one.0) in
          let same : AllByRecursion (λ x. bytes_eq x c.args.root ≡ true) (seconds c.in-Some.at c.args.graph.now.children.held.entries) = subst (λ y. AllByRecursion (λ x. bytes_eq x c.args.root ≡ true) (seconds y c.args.graph.now.children.held.entries)) (sym l.1) all in
          let q = c.spread_one.ensures.idle same in
          let n : length (seconds c.in-Some.at c.args.graph.now.children.held.entries) ≡ length (seconds c.args.root c.args.graph.now.children.held.entries) = ap (λ y. length (seconds y c.args.graph.now.children.held.entries)) l.1 in
          inr (c.in_ok-spread_one.ensures.done same ∙ l.0, record { touches = omega (arith, q.touches, one.1.touches, n); logged = q.logged ∙ one.1.logged }))
          (λ (none : (c.loop-at.flow.waiting.items ≡ []) × IsBrief (2 + length (seconds c.args.root c.args.graph.now.children.held.entries)) c.args.steps.now c.loop-at.steps c.args.flow.now c.loop-at.flow).
          absurd (never c.pop.new.names.items c.in-Some.at (sym c.in-Some.ensures ∙ none.0)))
          (c.loop-at.invariant.idle all);
    }

pub loop-at-smaller : goal.loop-at-smaller
loop-at-smaller g c =
    let l = length-last c.loop-at.flow.waiting.items c.pop.new.names.items c.in-Some.at c.in-Some.ensures in
    omega (arith, l, c.in_ok-spread_one.ensures.less)

pub returns-in_err-spread_one-clause-idle : goal.returns-in_err-spread_one-clause-idle
returns-in_err-spread_one-clause-idle g c = λ all.
    ⊎_elim {C = IsBrief (2 + length (seconds c.args.root c.args.graph.now.children.held.entries)) c.args.steps.now c.spread_one.new.steps c.args.flow.now c.spread_one.new.flow}
    (λ (one : (c.loop-at.flow.waiting.items ≡ c.args.root ∷ []) × IsBrief 0 c.args.steps.now c.loop-at.steps c.args.flow.now c.loop-at.flow).
    let l = last_one c.pop.new.names.items c.in-Some.at c.args.root (sym c.in-Some.ensures ∙ one.0) in
    let same : AllByRecursion (λ x. bytes_eq x c.args.root ≡ true) (seconds c.in-Some.at c.args.graph.now.children.held.entries) = subst (λ y. AllByRecursion (λ x. bytes_eq x c.args.root ≡ true) (seconds y c.args.graph.now.children.held.entries)) (sym l.1) all in
    let q = c.spread_one.ensures.idle same in
    let n : length (seconds c.in-Some.at c.args.graph.now.children.held.entries) ≡ length (seconds c.args.root c.args.graph.now.children.held.entries) = ap (λ y. length (seconds y c.args.graph.now.children.held.entries)) l.1 in
    record { touches = omega (arith, q.touches, one.1.touches, n); logged = q.logged ∙ one.1.logged })
    (λ (none : (c.loop-at.flow.waiting.items ≡ []) × IsBrief (2 + length (seconds c.args.root c.args.graph.now.children.held.entries)) c.args.steps.now c.loop-at.steps c.args.flow.now c.loop-at.flow).
    absurd (never c.pop.new.names.items c.in-Some.at (sym c.in-Some.ensures ∙ none.0)))
    (c.loop-at.invariant.idle all)

pub returns-clause-idle : goal.returns-clause-idle
returns-clause-idle g c = λ all.
    ⊎_elim {C = IsBrief (2 + length (seconds c.args.root c.args.graph.now.children.held.entries)) c.args.steps.now c.loop-at.steps c.args.flow.now c.loop-at.flow}
    (λ (one : (c.loop-at.flow.waiting.items ≡ c.args.root ∷ []) × IsBrief 0 c.args.steps.now c.loop-at.steps c.args.flow.now c.loop-at.flow). absurd (never [] c.args.root (sym one.0 ∙ c.in_default.ensures.0)))
    (λ (none : (c.loop-at.flow.waiting.items ≡ []) × IsBrief (2 + length (seconds c.args.root c.args.graph.now.children.held.entries)) c.args.steps.now c.loop-at.steps c.args.flow.now c.loop-at.flow). none.1)
    (c.loop-at.invariant.idle all)

pub returns-in_err-spread_one-clause-noted_idle : goal.returns-in_err-spread_one-clause-noted_idle
returns-in_err-spread_one-clause-noted_idle g c = λ all.
    ⊎_elim {C = length c.spread_one.new.flow.noted.entries ≡ length c.args.flow.now.noted.entries}
    (λ (one : (c.loop-at.flow.waiting.items ≡ c.args.root ∷ []) × IsBrief 0 c.args.steps.now c.loop-at.steps c.args.flow.now c.loop-at.flow).
    let l = last_one c.pop.new.names.items c.in-Some.at c.args.root (sym c.in-Some.ensures ∙ one.0) in
    c.spread_one.ensures.noted_idle (subst (λ y. AllByRecursion (λ x. bytes_eq x c.args.root ≡ true) (seconds y c.args.graph.now.children.held.entries)) (sym l.1) all) ∙ c.loop-at.invariant.noted_idle all)
    (λ (none : (c.loop-at.flow.waiting.items ≡ []) × IsBrief (2 + length (seconds c.args.root c.args.graph.now.children.held.entries)) c.args.steps.now c.loop-at.steps c.args.flow.now c.loop-at.flow).
    absurd (never c.pop.new.names.items c.in-Some.at (sym c.in-Some.ensures ∙ none.0)))
    (c.loop-at.invariant.idle all)
