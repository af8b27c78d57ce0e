use Rattle.std.proofs.Common.{◌≡◌, ◌∙◌, inl, sym, subst, refl, arith}
use Rattle.fsl_tags.specs.Joined.{joined}
use Rattle.fsl_tags.specs.Laid.{Rises, row_in, parent_in, settled}
use Rattle.fsl_table.proofs.Outcomes.{on_ok_map}
use Rattle.fsl_tags.proofs.Ends.{no_success}
use Rattle.fsl_tags.proofs.SameRows.{rows-one}
use Rattle.fsl_tags.proofs.Settled.{even-then, even-end, placed, put_here, right_end}
use Rattle.fsl_tags.proofs.renew.renew.Goals as goal

pub merged-requires : goal.merged-requires
merged-requires g c = record {
  own = subst (λ row. Rises row) (sym c.row_of-near.ensures.row) (c.requires.laid.rise c.args.root);
  above = subst (λ row. Rises row) (sym c.row_above-above.ensures.row) c.requires.above;
}

pub returns-in_err-row : goal.returns-in_err-row
returns-in_err-row g c =
    let r = c.from_residual.result in
    let is = c.from_residual.ensures.1 in record {
      full = no_success r _ is _;
      each = no_success r _ is _;
      root = no_success r _ is _;
      even = no_success r _ is _;
      noted = no_success r _ is _;
      was = refl;
      touches = λ all. (let above = c.row_above-above.ensures.cost in let near = c.row_of-near.ensures.cost in omega (arith, above, near));
      more = λ all. omega arith;
      back = λ all. omega arith;
    }

pub returns-then-is_same : goal.returns-then-is_same
returns-then-is_same g c =
    let same : c.row_of-before.result.now ≡ c.in_ok-row.row = rows-one c.row_of-before.result.now c.in_ok-row.row (sym c.is_same.ensures ∙ c.if-is_same.true) in record {
      full = c.requires.full;
      each = λ x. inl refl;
      root =
          sym c.row_of-before.ensures.row ∙ same ∙ c.in_ok-row.ensures.whole
          ∙ (λ i. joined (c.row_above-above.ensures.row i) (c.row_of-near.ensures.row i)) ∙ c.requires.root;
      even = c.requires.even;
      noted = λ before n. n;
      was = refl;
      touches = λ all.
          (let above = c.row_above-above.ensures.cost in
          let near = c.row_of-near.ensures.cost in
          let before = c.row_of-before.ensures.cost in omega (arith, above, near, before));
      more = λ all. omega arith;
      back = λ all. omega arith;
    }

pub place-requires : goal.place-requires
place-requires g c = c.requires.full

pub returns-in_err-place : goal.returns-in_err-place
returns-in_err-place g c =
    let r = c.from_residual-in_err-place.result in
    let is = c.from_residual-in_err-place.ensures.1 in record {
      full = no_success r _ is _;
      each = no_success r _ is _;
      root = no_success r _ is _;
      even = no_success r _ is _;
      noted = no_success r _ is _;
      was = c.place.ensures.was;
      touches = λ all.
          (let above = c.row_above-above.ensures.cost in
          let near = c.row_of-near.ensures.cost in
          let before = c.row_of-before.ensures.cost in
          let most = c.place.ensures.most in omega (arith, above, near, before, most));
      more = λ all. c.place.ensures.more;
      back = λ all. c.place.ensures.back;
    }

pub spread-requires : goal.spread-requires
spread-requires g c =
    let facts = c.args.graph.now.facts.held.entries in
    let own = c.args.own.now.held.entries in
    let rows = row_in c.args.flow.now.rows.held.entries in
    let row : c.in_ok-row.row ≡ settled facts own c.args.root = c.in_ok-row.ensures.whole ∙ (λ i. joined (c.row_above-above.ensures.row i) (c.row_of-near.ensures.row i)) ∙ c.requires.root in record {
      laid = c.requires.laid;
      full = c.in_ok-place.ensures.full;
      root = put_here rows (row_in c.place.new.flow.rows.held.entries) c.args.root c.in_ok-row.row c.in_ok-place.ensures.row ∙ row;
      even = λ x other. even-then (parent_in facts) (row_in own) rows (row_in c.place.new.flow.rows.held.entries) c.args.root c.in_ok-row.row c.in_ok-place.ensures.row x other (c.requires.even x other);
    }

pub returns : goal.returns
returns g c =
    let facts = c.args.graph.now.facts.held.entries in
    let own = c.args.own.now.held.entries in
    let root = c.args.root in
    let rows = row_in c.args.flow.now.rows.held.entries in
    let mid = row_in c.place.new.flow.rows.held.entries in
    let then = row_in c.spread.new.flow.rows.held.entries in
    let row : c.in_ok-row.row ≡ settled facts own root = c.in_ok-row.ensures.whole ∙ (λ i. joined (c.row_above-above.ensures.row i) (c.row_of-near.ensures.row i)) ∙ c.requires.root in record {
      full = c.spread.ensures.full;
      each = on_ok_map c.spread.result (λ s x. placed rows mid then (settled facts own) root c.in_ok-row.row row c.in_ok-place.ensures.row x (s.each x)) c.spread.ensures.spread;
      root = on_ok_map c.spread.result (λ s. right_end (mid root) (then root) (settled facts own root) (put_here rows mid root c.in_ok-row.row c.in_ok-place.ensures.row ∙ row) (s.each root)) c.spread.ensures.spread;
      even = on_ok_map c.spread.result (λ s. even-end (parent_in facts) (row_in own) (settled facts own) root mid then s) c.spread.ensures.spread;
      noted = on_ok_map c.spread.result (λ n before m. n before (c.in_ok-place.ensures.noted before m)) c.spread.ensures.noted;
      was = c.spread.ensures.was ∙ c.place.ensures.was;
      touches = λ all.
          (let touches = (c.spread.ensures.idle all).touches in
          let above = c.row_above-above.ensures.cost in
          let near = c.row_of-near.ensures.cost in
          let before = c.row_of-before.ensures.cost in
          let most = c.in_ok-place.ensures.most in omega (arith, touches, above, near, before, most));
      more = λ all. (let same = c.spread.ensures.noted_idle all in let more = c.in_ok-place.ensures.more in omega (arith, same, more));
      back = λ all. (let same = (c.spread.ensures.idle all).logged in let logged = c.in_ok-place.ensures.back in omega (arith, same, logged));
    }
