use Rattle.std.proofs.lemmas.List.{append-nil}
use Rattle.std.proofs.Common.{◌≡◌, ◌∙◌, ◌∷◌, ◌++◌, ◌||◌, All, sym, ap, subst, option_and_then}
use Rattle.std.specs.List.Sorted.{IsStrictlySortedBy}
use Rattle.std.specs.Map.{keys_of}
use Rattle.fsl_order.specs.Names.{bytes_cmp}
use Rattle.fsl_order.specs.Rows.{by_name, greater}
use Rattle.fsl_order.proofs.Orders.{bytes_cmp-IsTotalOrder}
use Rattle.fsl_table.specs.Contents.{with_entry}
use Rattle.fsl_table.specs.Exact.{pair_cmp}
use Rattle.fsl_table.specs.Pairs.{is_link, is_linked, is_name}
use Rattle.fsl_table.specs.declared.key.Pair.{Pair}
use Rattle.fsl_table.proofs.Outcomes.{always_ok, on_ok_map}
use Rattle.fsl_table.proofs.Entries.{sorted-insert_entry}
use Rattle.fsl_tags.specs.declared.node.Node.{Node}
use Rattle.fsl_tags.specs.Tags.{newer_cmp, direct}
use Rattle.fsl_tags.specs.Kept.{newest_of, newest_on, on_target}
use Rattle.fsl_tags.specs.Held.{facts_of, fact_of}
use Rattle.fsl_tags.specs.Laid.{parent_in, row_in}
use Rattle.fsl_tags.specs.Laying.{AreSourced, AreElsewhere}
use Rattle.fsl_tags.proofs.Blending.{newest_of-append}
use Rattle.fsl_tags.proofs.DirectWith.{direct-with}
use Rattle.fsl_tags.proofs.Filling.{gone_none}
use Rattle.fsl_tags.proofs.FitByName.{all-by_name}
use Rattle.fsl_tags.proofs.Grouping.{newest_of-group, on_target-none}
use Rattle.fsl_tags.proofs.Linked.{relinked}
use Rattle.fsl_tags.proofs.WithFact.{facts_with}
use Rattle.fsl_tags.proofs.lay.lay_one.Goals as goal

pub add_all-requires : goal.add_all-requires
add_all-requires g c = c.requires.grouped.full

pub link-requires : goal.link-requires
link-requires g c = subst (λ m. IsStrictlySortedBy pair_cmp (keys_of m.entries)) (sym c.begin.ensures.held) c.requires.grouped.children_ordered

pub returns-clause-facts : goal.returns-clause-facts
returns-clause-facts g c =
    let name = c.args.fact.now.name in
    let node : Node = record { checkin = c.args.fact.now.checkin; parent = c.args.fact.now.parent; tags = c.in_ok-tags.tags } in
    let es = c.args.graph.now.facts.held.entries in
    let is : fact_of (name, node) ≡ c.args.fact.now = λ i. record { name = name; checkin = c.args.fact.now.checkin; parent = c.args.fact.now.parent; tags = (c.in_ok-tags.ensures ∙ c.items.ensures) i } in
    on_ok_map c.put.result
    (λ put. ap facts_of (put ∙ ap (λ m. with_entry bytes_cmp name node m.entries) c.begin-2.ensures.held) ∙ facts_with name node es c.requires.grouped.ordered ∙ ap (λ f. by_name (λ f. f.name) (f ∷ facts_of es)) is)
    c.put.ensures.ok

pub returns-clause-grouped : goal.returns-clause-grouped
returns-clause-grouped g c =
    let name = c.args.fact.now.name in
    let node : Node = record { checkin = c.args.fact.now.checkin; parent = c.args.fact.now.parent; tags = c.in_ok-tags.tags } in
    let es = c.args.graph.now.facts.held.entries in
    let children = c.args.graph.now.children.held.entries in
    let links = c.link.new.self.held.entries in
    let tags : c.in_ok-tags.tags ≡ c.args.fact.now.tags = c.in_ok-tags.ensures ∙ c.items.ensures in
    let is : fact_of (name, node) ≡ c.args.fact.now = λ i. record { name = name; checkin = c.args.fact.now.checkin; parent = c.args.fact.now.parent; tags = tags i } in
    let linked : (k : Pair) → is_linked links k ≡ (is_link name node.parent k || is_linked children k) = λ k. c.in_ok-link.ensures.pairs k ∙ ap (λ m. is_link name node.parent k || is_linked m.entries k) c.begin.ensures.held in
    on_ok_map c.put.result
    (λ ok.
    let put : c.put.new.self.held.entries ≡ with_entry bytes_cmp name node es = ok ∙ ap (λ m. with_entry bytes_cmp name node m.entries) c.begin-2.ensures.held in
    let facts : facts_of c.put.new.self.held.entries ≡ by_name (λ f. f.name) (c.args.fact.now ∷ facts_of es) =
    ap facts_of put ∙ facts_with name node es c.requires.grouped.ordered ∙ ap (λ f. by_name (λ f. f.name) (f ∷ facts_of es)) is in
    record {
      ordered = subst (λ es. IsStrictlySortedBy bytes_cmp (keys_of es)) (sym put) (sorted-insert_entry bytes_cmp-IsTotalOrder name node es c.requires.grouped.ordered);
      sourced = subst AreSourced (sym facts) (all-by_name (λ f. f.name) (λ f. All (λ a. a.source ≡ f.name) f.tags) (c.args.fact.now ∷ facts_of es) (c.requires.sources, c.requires.grouped.sourced));
      newest = λ x t.
          ap (newest_of t) (c.in_ok-add_all.ensures.groups x)
          ∙ newest_of-append t (row_in c.args.groups.now.entries x) (on_target x c.items-2.result.now)
          ∙ (λ i. greater newer_cmp (c.requires.grouped.newest x t i) ((newest_of-group x t c.items-2.result.now ∙ ap (newest_on x t) c.items-2.ensures) i))
          ∙ sym (direct-with name node x t (subst (All (λ a. a.source ≡ name)) (sym tags) c.requires.sources) es c.requires.grouped.sourced c.requires.absent)
          ∙ ap (λ es. direct (facts_of es) x t) (sym put);
      children_ordered = c.in_ok-link.ensures.ordered;
      pairs = λ k.
          relinked es name node children children links c.requires.grouped.pairs (gone_none es name children c.requires.absent) linked k
          ∙ ap (λ es. is_name (option_and_then (parent_in es) k.second) k.first) (sym put);
      full = c.in_ok-add_all.ensures.full;
    })
    c.put.ensures.ok

pub returns-clause-away : goal.returns-clause-away
returns-clause-away g c =
    always_ok c.put.result
    (λ x all.
    let row = row_in c.args.groups.now.entries x in
    c.in_ok-add_all.ensures.groups x
    ∙ ap (λ l. row ++ l) (on_target-none x c.items-2.result.now (subst (AreElsewhere x) (sym (c.items-2.ensures ∙ c.in_ok-tags.ensures ∙ c.items.ensures)) all))
    ∙ append-nil row)
