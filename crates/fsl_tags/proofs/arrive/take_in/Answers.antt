use Rattle.std.proofs.Common.{◌≡◌, ◌∙◌, inl, inr, refl, ap, length, arith}
use Rattle.fsl_table.proofs.Outcomes.{if_ok_map, always_ok}
use Rattle.fsl_tags.specs.Laid.{row_in}
use Rattle.fsl_tags.specs.Held.{Rows, rows_of}
use Rattle.fsl_tags.proofs.Ends.{no_answer, no_success}
use Rattle.fsl_tags.proofs.Taken.{noted_none, no_parent, free_items, taken_facts, taken_kept, taken_lists}
use Rattle.fsl_tags.proofs.arrive.take_in.Goals as goal

pub returns-in_err-tags : goal.returns-in_err-tags
returns-in_err-tags g c =
    let r = c.from_residual.result in
    let is = c.from_residual.ensures.1 in record {
      facts = no_success r _ is _;
      kept = no_success r _ is _;
      changed = no_answer r _ is _;
      was = refl;
      touches = λ free own. omega arith;
      back = λ free own. omega arith;
    }

pub take_all-requires : goal.take_all-requires
take_all-requires g c = record { right = c.requires.kept.right }

pub returns-in-Err : goal.returns-in-Err
returns-in-Err g c =
    let items = c.items.ensures ∙ c.in_ok-tags.ensures in
    let maps = c.args.maps.now in
    let long : length c.items.result.now ≡ length c.args.fact.tags = ap length items in record {
      facts = tt;
      kept = tt;
      changed = tt;
      was = λ i. record { facts = maps.graph.facts.was; children = maps.graph.children.was; own = c.take_all.ensures.own_was i; rows = c.take_all.ensures.rows_was i };
      touches = λ free own.
          (let touches = c.take_all.ensures.touches (free_items c.args.fact.name c.args.maps.now.graph.children.held.entries c.args.fact.tags c.items.result.now items free own) in omega (arith, long, touches));
      back = λ free own.
          (let back = c.take_all.ensures.back (free_items c.args.fact.name c.args.maps.now.graph.children.held.entries c.args.fact.tags c.items.result.now items free own) in omega (arith, long, back));
    }

pub set_node-requires : goal.set_node-requires
set_node-requires g c = record {
  right = c.in-Ok.ensures.right;
  before = inr (inl (no_parent c.args.fact c.args.maps.now.graph.facts.held.entries c.requires.fit));
}

pub returns-in-Err-set_node : goal.returns-in-Err-set_node
returns-in-Err-set_node g c =
    let items = c.items.ensures ∙ c.in_ok-tags.ensures in
    let long : length c.items.result.now ≡ length c.args.fact.tags = ap length items in
    let rows_was = c.set_node.ensures.rows_was ∙ c.take_all.ensures.rows_was in
    let lone = no_parent c.args.fact c.args.maps.now.graph.facts.held.entries c.requires.fit in record {
      facts = tt;
      kept = tt;
      changed = tt;
      was = λ i. record { facts = c.set_node.ensures.facts_was i; children = c.set_node.ensures.children_was i; own = c.take_all.ensures.own_was i; rows = rows_was i };
      touches = λ free own.
          (let taken = c.take_all.ensures.touches (free_items c.args.fact.name c.args.maps.now.graph.children.held.entries c.args.fact.tags c.items.result.now items free own) in
          let touches = c.set_node.ensures.touches lone free in omega (arith, long, taken, touches));
      back = λ free own.
          (let taken = c.take_all.ensures.back (free_items c.args.fact.name c.args.maps.now.graph.children.held.entries c.args.fact.tags c.items.result.now items free own) in
          let back = c.set_node.ensures.back lone free in omega (arith, long, taken, back));
    }

pub returns-in-Ok-set_node : goal.returns-in-Ok-set_node
returns-in-Ok-set_node g c =
    let fact = c.args.fact in
    let old = rows_of c.args.maps.now in
    let new : Rows = record { facts = c.set_node.new.graph.facts.held; children = c.set_node.new.graph.children.held; own = c.take_all.new.own.held; rows = c.set_node.new.flow.rows.held } in
    let put = c.in-Ok-set_node.ensures.facts in
    let before = row_in c.args.maps.now.flow.rows.held.entries in
    let noted = c.in-Ok-set_node.ensures.noted before (c.in-Ok.ensures.noted before (noted_none c.args.maps.now.flow.rows.held.entries c.args.maps.now.flow.noted.entries c.requires.noted)) in
    let items = c.items.ensures ∙ c.in_ok-tags.ensures in
    let long : length c.items.result.now ≡ length fact.tags = ap length items in
    let none : length c.args.maps.now.flow.noted.entries ≡ 0 = ap length c.requires.noted in
    let rows_was = c.set_node.ensures.rows_was ∙ c.take_all.ensures.rows_was in
    let lone = no_parent fact c.args.maps.now.graph.facts.held.entries c.requires.fit in record {
      facts = always_ok c.changed_names.result (taken_facts fact fact.parent c.in_ok-tags.tags old new refl c.in_ok-tags.ensures c.requires.kept c.requires.fit put);
      kept =
          always_ok c.changed_names.result
          (taken_kept fact fact.parent c.in_ok-tags.tags old new refl c.in_ok-tags.ensures c.requires.kept c.requires.fit put c.items.result.now c.items.ensures c.in-Ok.ensures.own c.in-Ok-set_node.ensures.right);
      changed =
          if_ok_map c.changed_names.result
          (λ list f. taken_lists fact fact.parent c.in_ok-tags.tags old new refl c.in_ok-tags.ensures c.requires.kept c.requires.fit put c.items.result.now c.items.ensures c.in-Ok.ensures.own c.in-Ok-set_node.ensures.right list (f before noted))
          c.changed_names.ensures.list;
      was = λ i. record { facts = c.set_node.ensures.facts_was i; children = c.set_node.ensures.children_was i; own = c.take_all.ensures.own_was i; rows = rows_was i };
      touches = λ free own.
          (let all = free_items fact.name c.args.maps.now.graph.children.held.entries fact.tags c.items.result.now items free own in
          let taken = c.take_all.ensures.touches all in
          let taken_more = c.take_all.ensures.more all in
          let put_touches = c.set_node.ensures.touches lone free in
          let put_more = c.set_node.ensures.more lone free in
          let cost = c.changed_names.ensures.cost in omega (arith, long, none, taken, taken_more, put_touches, put_more, cost));
      back = λ free own.
          (let taken = c.take_all.ensures.back (free_items fact.name c.args.maps.now.graph.children.held.entries fact.tags c.items.result.now items free own) in
          let back = c.set_node.ensures.back lone free in omega (arith, long, taken, back));
    }
