use Rattle.std.proofs.Common.{◌∙◌, refl, sym, subst}
use Rattle.fsl_table.proofs.Outcomes.{on_ok_map, always_ok}
use Rattle.fsl_tags.specs.Laid.{Rises}
use Rattle.fsl_tags.proofs.Ends.{no_success}
use Rattle.fsl_tags.proofs.Refreshed.{row_is, stays, waits, waits_not, put_is}
use Rattle.fsl_tags.proofs.spread.refresh.Goals as goal

pub merged-requires-clause-own : goal.merged-requires-clause-own
merged-requires-clause-own g c = subst (λ row. Rises row) (sym c.row_of-near.ensures.row) c.requires.rise

pub merged-requires-clause-above : goal.merged-requires-clause-above
merged-requires-clause-above g c = c.requires.above

pub returns-in_err-row : goal.returns-in_err-row
returns-in_err-row g c =
    let r = c.from_residual.result in
    let is = c.from_residual.ensures.1 in record {
      full = no_success r _ is _;
      row = no_success r _ is _;
      waiting = no_success r _ is _;
      noted = no_success r _ is _;
      was = refl;
    }

pub returns-then-is_same : goal.returns-then-is_same
returns-then-is_same g c =
    let rows = c.args.flow.now.rows.held.entries in
    let name = c.args.name in
    let items = row_is c.in_ok-row.row c.in_ok-row.row c.row_of-near.result.now c.args.above.now _ refl c.in_ok-row.ensures.whole c.row_of-near.ensures.row in record {
      full = c.requires.full;
      row = stays name rows c.row_of-before.result.now c.in_ok-row.row _ c.is_same.result c.row_of-before.ensures.row items c.is_same.ensures c.if-is_same.true;
      waiting = waits_not name c.args.flow.now.waiting.items c.row_of-before.result.now c.in_ok-row.row _ _ c.is_same.result c.row_of-before.ensures.row items c.is_same.ensures c.if-is_same.true;
      noted = λ before n. n;
      was = refl;
    }

pub returns-in_err-push : goal.returns-in_err-push
returns-in_err-push g c =
    let r = c.from_residual-in_err-push.result in
    let is = c.from_residual-in_err-push.ensures.1 in record {
      full = no_success r _ is _;
      row = no_success r _ is _;
      waiting = no_success r _ is _;
      noted = no_success r _ is _;
      was = refl;
    }

pub place-requires : goal.place-requires
place-requires g c = c.requires.full

pub returns : goal.returns
returns g c =
    let name = c.args.name in
    let rows = c.args.flow.now.rows.held.entries in
    let items = row_is c.in_ok-row.row c.in_ok-row.row c.row_of-near.result.now c.args.above.now _ refl c.in_ok-row.ensures.whole c.row_of-near.ensures.row in record {
      full = c.place.ensures.full;
      row = on_ok_map c.place.result (put_is name rows c.place.new.flow.rows.held.entries c.in_ok-row.row _ items) c.place.ensures.row;
      waiting =
          always_ok c.place.result
          (c.place.ensures.waiting ∙ waits name c.args.flow.now.waiting.items c.push.new.self.items c.row_of-before.result.now c.in_ok-row.row _ _ c.is_same.result c.in_ok-push.ensures.items c.row_of-before.ensures.row items c.is_same.ensures c.if-is_same.false);
      noted = c.place.ensures.noted;
      was = c.place.ensures.was;
    }
