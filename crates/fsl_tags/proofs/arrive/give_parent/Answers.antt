use Rattle.std.proofs.Common.{◌≡◌, ◌∙◌, ◌∷◌, sym, ap, subst, refl}
use Rattle.fsl_order.specs.Names.{bytes_cmp}
use Rattle.fsl_order.specs.Rows.{by_name, ListsChanged}
use Rattle.fsl_tags.specs.declared.node.Node.{Node}
use Rattle.fsl_tags.specs.Laid.{row_in, AreNoted}
use Rattle.fsl_tags.specs.Held.{Rows, IsKept, facts_of, fact_of, rows_of}
use Rattle.fsl_table.proofs.Outcomes.{if_ok_map, always_ok}
use Rattle.std.specs.List.Sorted.{IsStrictlySortedBy}
use Rattle.std.specs.Map.{keys_of}
use Rattle.fsl_order.proofs.Orders.{bytes_cmp-IsTotalOrder}
use Rattle.fsl_table.specs.Contents.{with_entry}
use Rattle.fsl_table.proofs.Entries.{sorted-insert_entry}
use Rattle.fsl_tags.specs.Tags.{direct, tags_row, AreTagFacts}
use Rattle.fsl_tags.proofs.Effective.{kept-row}
use Rattle.fsl_tags.proofs.DirectWith.{direct-kept, tags_there}
use Rattle.fsl_tags.proofs.WithFact.{facts_with}
use Rattle.fsl_tags.proofs.arrive.give_parent.Goals as goal

pub returns : goal.returns
returns g c =
    let node : Node = record { checkin = c.args.fact.checkin; parent = c.args.fact.parent; tags = c.in_ok-tags.tags } in
    let old = rows_of c.args.maps.now in
    let new : Rows = record { facts = c.move_node.new.graph.facts.held; children = c.move_node.new.graph.children.held; own = c.args.maps.now.own.held; rows = c.move_node.new.flow.rows.held } in
    let es = old.facts.entries in
    let before = row_in old.rows.entries in
    let moved = c.in_ok-move_node.ensures in
    let put : new.facts.entries ≡ with_entry bytes_cmp c.args.fact.name node es = moved.facts in
    let is : fact_of (c.args.fact.name, node) ≡ c.args.fact = λ i. record { name = c.args.fact.name; checkin = c.args.fact.checkin; parent = c.args.fact.parent; tags = c.in_ok-tags.ensures i } in
    let facts : facts_of new.facts.entries ≡ by_name (λ f. f.name) (c.args.fact ∷ facts_of es) =
    ap facts_of put ∙ facts_with c.args.fact.name node es c.requires.kept.ordered ∙ ap (λ f. by_name (λ f. f.name) (f ∷ facts_of es)) is in
    let there = tags_there c.args.fact.name c.requires.change.old es c.requires.change.there in
    let kept : IsKept new = record {
      ordered = subst (λ es. IsStrictlySortedBy bytes_cmp (keys_of es)) (sym put) (sorted-insert_entry bytes_cmp-IsTotalOrder c.args.fact.name node es c.requires.kept.ordered);
      fit = subst AreTagFacts (sym facts) c.requires.fit;
      newest = λ x t.
          c.requires.kept.newest x t
          ∙ sym (direct-kept c.args.fact.name node x t es c.requires.kept.ordered there.0 there.1 (there.2 ∙ sym (ap (λ f. f.tags) c.requires.change.kept) ∙ sym c.in_ok-tags.ensures))
          ∙ ap (λ es. direct (facts_of es) x t) (sym put);
      right = moved.right;
    } in
    let noted : AreNoted before c.move_node.new.flow.noted.entries new.rows.entries = moved.noted before (subst (λ es. AreNoted before es old.rows.entries) (sym c.requires.noted) (λ x. refl)) in
    record {
      facts = always_ok c.changed_names.result facts;
      kept = always_ok c.changed_names.result kept;
      changed = if_ok_map c.changed_names.result
          (λ list f. subst (λ after. ListsChanged (tags_row (facts_of es)) after list) (λ i x. kept-row new kept x i)
          (subst (λ before. ListsChanged before (row_in new.rows.entries) list) (λ i x. kept-row old c.requires.kept x i) (f before noted)))
          c.changed_names.ensures.list;
      was = λ i. record { facts = moved.facts_was i; children = moved.children_was i; own = c.args.maps.now.own.was; rows = moved.rows_was i };
    }
