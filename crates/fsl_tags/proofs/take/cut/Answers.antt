use Rattle.std.proofs.Common.{◌∙◌, None, cond, refl, ap}
use Rattle.std.specs.Cmp.{tied_itself}
use Rattle.std.specs.Cmp.Lexicographic.{bytes_decides}
use Rattle.fsl_order.specs.Names.{bytes_cmp}
use Rattle.fsl_order.proofs.Orders.{bytes_cmp-IsTotalOrder}
use Rattle.fsl_table.specs.Contents.{with_entry}
use Rattle.fsl_table.proofs.Entries.{insert_entry-again}
use Rattle.fsl_tags.specs.declared.node.Node.{Node}
use Rattle.fsl_tags.specs.Laid.{parent_in}
use Rattle.fsl_table.proofs.Outcomes.{on_ok_map}
use Rattle.fsl_tags.proofs.Linked.{parent-with}
use Rattle.fsl_tags.proofs.take.cut.Goals as goal

pub returns-in_ok-tags-in-Some-clause-alone : goal.returns-in_ok-tags-in-Some-clause-alone
returns-in_ok-tags-in-Some-clause-alone g c =
    let name = c.args.name in
    let node : Node = record { checkin = c.args.node.now.checkin; parent = None; tags = c.in_ok-tags-in-Some.tags } in
    on_ok_map c.set_node.result
    (λ e. ap (λ es. parent_in es name) e ∙ parent-with name node c.args.graph.now.facts.held.entries name ∙ ap (λ b. cond b None (parent_in c.args.graph.now.facts.held.entries name)) ((bytes_decides name name).1 refl))
    c.set_node.ensures.facts

pub returns-in_ok-tags-in-Some-clause-facts : goal.returns-in_ok-tags-in-Some-clause-facts
returns-in_ok-tags-in-Some-clause-facts g c =
    let name = c.args.name in
    let cut : Node = record { checkin = c.args.node.now.checkin; parent = None; tags = c.in_ok-tags-in-Some.tags } in
    on_ok_map c.set_node.result
    (λ e node. ap (with_entry bytes_cmp name node) e ∙ insert_entry-again bytes_cmp-IsTotalOrder name name node cut c.args.graph.now.facts.held.entries (tied_itself bytes_cmp-IsTotalOrder name))
    c.set_node.ensures.facts
