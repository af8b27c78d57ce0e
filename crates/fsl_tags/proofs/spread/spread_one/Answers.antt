use Rattle.std.proofs.Common.{◌≡◌, ◌∙◌, Some, true, refl, sym, subst, arith}
use Rattle.std.specs.List.{AllByRecursion}
use Rattle.std.specs.Str.{bytes_eq}
use Rattle.fsl_table.specs.Pairs.{seconds}
use Rattle.fsl_tags.specs.Spread.{IsSpreading}
use Rattle.fsl_tags.specs.Laid.{row_in, parent_in, settled}
use Rattle.fsl_table.proofs.Outcomes.{on_ok_map, always_ok}
use Rattle.fsl_tags.proofs.Ends.{no_success}
use Rattle.fsl_tags.proofs.Climbs.{spreading-begin, spreading-end, has-at}
use Rattle.fsl_tags.proofs.Settled.{settled-law, kids-parents, parent-kid}
use Rattle.fsl_tags.proofs.spread.spread_one.Goals as goal

pub returns-in_err-row : goal.returns-in_err-row
returns-in_err-row g c =
    let r = c.from_residual.result in
    let is = c.from_residual.ensures.1 in record {
      full = no_success r _ is _;
      spread = no_success r _ is _;
      less = no_success r _ is _;
      noted = no_success r _ is _;
      was = refl;
      idle = λ all. record { touches = (let cost = c.row_of.ensures.cost in omega (arith, cost)); logged = refl };
      noted_idle = λ all. refl;
      done = no_success r _ is _;
    }

pub seconds-requires : goal.seconds-requires
seconds-requires g c = c.requires.laid.ordered

pub returns-in_err-kids : goal.returns-in_err-kids
returns-in_err-kids g c =
    let r = c.from_residual-in_err-kids.result in
    let is = c.from_residual-in_err-kids.ensures.1 in record {
      full = no_success r _ is _;
      spread = no_success r _ is _;
      less = no_success r _ is _;
      noted = no_success r _ is _;
      was = refl;
      idle = λ all. record { touches = (let near = c.row_of.ensures.cost in let cost = c.seconds.ensures.cost in omega (arith, near, cost)); logged = refl };
      noted_idle = λ all. refl;
      done = no_success r _ is _;
    }

pub follow-requires : goal.follow-requires
follow-requires g c =
    let facts = c.args.graph.now.facts.held.entries in
    let own = c.args.own.now.held.entries in
    let rows = row_in c.args.flow.now.rows.held.entries in
    let kids = seconds c.args.at c.args.graph.now.children.held.entries in
    let is : kids ≡ c.items.result.now = sym (c.items.ensures ∙ c.in_ok-kids.ensures.seconds) in record {
      rise = c.requires.laid.rise;
      full = c.requires.full;
      kids = subst (AllByRecursion (λ x. parent_in facts x ≡ Some c.args.at)) is (kids-parents facts c.args.graph.now.children.held.entries own c.requires.laid c.args.at);
      above = c.in_ok-row.ensures ∙ c.row_of.ensures.row ∙ c.requires.spread.ready c.args.at (has-at c.args.flow.now.waiting.items c.args.at);
      spread =
          subst (λ ks. IsSpreading (parent_in facts) (row_in own) (settled facts own) c.args.root c.args.at ks c.args.flow.now.waiting.items rows rows) is
          (spreading-begin (parent_in facts) (row_in own) (settled facts own) c.args.root (settled-law facts own c.requires.laid.rise) c.args.at kids c.args.flow.now.waiting.items rows rows
          (λ x e. parent-kid facts c.args.graph.now.children.held.entries own c.requires.laid c.args.at x e)
          c.requires.spread);
    }

pub returns : goal.returns
returns g c =
    let facts = c.args.graph.now.facts.held.entries in
    let own = c.args.own.now.held.entries in
    let root = c.args.root in
    let rows = row_in c.args.flow.now.rows.held.entries in
    let kids = seconds c.args.at c.args.graph.now.children.held.entries in
    let roots = λ (all : AllByRecursion (λ x. bytes_eq x root ≡ true) kids). subst (AllByRecursion (λ x. bytes_eq x root ≡ true)) (sym (c.items.ensures ∙ c.in_ok-kids.ensures.seconds)) all in record {
      full = c.follow.ensures.full;
      spread =
          on_ok_map c.follow.result
          (λ s. spreading-end (parent_in facts) (row_in own) (settled facts own) root (settled-law facts own c.requires.laid.rise) c.args.at c.follow.new.flow.waiting.items rows (row_in c.follow.new.flow.rows.held.entries) s)
          c.follow.ensures.spread;
      less = c.follow.ensures.less;
      noted = c.follow.ensures.noted;
      was = c.follow.ensures.was;
      idle = λ all.
          let q = c.follow.ensures.idle (roots all) in
          let near = c.row_of.ensures.cost in
          let cost = c.seconds.ensures.cost in
          let touches = q.touches in record { touches = omega (arith, touches, near, cost); logged = q.logged };
      noted_idle = λ all. c.follow.ensures.noted_idle (roots all);
      done = always_ok c.follow.result (λ all. (c.follow.ensures.idle (roots all)).waits);
    }
