use Rattle.std.proofs.Common.{◌∙◌, ap, sym, subst}
use Rattle.std.specs.BTreeMap.{is_at}
use Rattle.std.specs.List.Sorted.{IsStrictlySortedBy}
use Rattle.std.specs.Map.{keys_of}
use Rattle.fsl_order.specs.Names.{bytes_cmp, has}
use Rattle.fsl_order.proofs.Orders.{bytes_cmp-IsTotalOrder}
use Rattle.fsl_table.proofs.Entries.{sorted-remove_entry}
use Rattle.fsl_table.proofs.Outcomes.{on_ok_map, always_ok}
use Rattle.fsl_cluster.specs.Kept.{is_in, differs}
use Rattle.fsl_cluster.proofs.Turning.{in_without, take_same, take_turns, turns}
use Rattle.fsl_cluster.proofs.sets.take_name.Goals as goal

pub returns-then-not-there-clause-names : goal.returns-then-not-there-clause-names
returns-then-not-there-clause-names g c = λ q. ap (λ es. is_in es q) c.in_ok-there.ensures.ok ∙ in_without c.args.name c.args.names.now.held.entries c.requires q

pub returns-then-not-there-clause-turned : goal.returns-then-not-there-clause-turned
returns-then-not-there-clause-turned g c = λ before all q.
    all q
    ∙ ap (differs (before q))
    (sym (ap (λ es. is_in es q) c.in_ok-there.ensures.ok ∙ in_without c.args.name c.args.names.now.held.entries c.requires q ∙ take_same c.args.name (is_in c.args.names.now.held.entries) (sym c.in_ok-there.ensures.there ∙ c.if-not-there.true) q))

pub returns-then-not-there-clause-ordered : goal.returns-then-not-there-clause-ordered
returns-then-not-there-clause-ordered g c =
    subst (λ es. IsStrictlySortedBy bytes_cmp (keys_of es)) (sym c.in_ok-there.ensures.ok) (sorted-remove_entry bytes_cmp-IsTotalOrder (is_at (bytes_cmp c.args.name)) c.args.names.now.held.entries c.requires)

pub returns-clause-names : goal.returns-clause-names
returns-clause-names g c = always_ok c.flip.result (λ q. ap (λ es. is_in es q) c.in_ok-there.ensures.ok ∙ in_without c.args.name c.args.names.now.held.entries c.requires q)

pub returns-clause-turned : goal.returns-clause-turned
returns-clause-turned g c =
    on_ok_map c.flip.result
    (λ flipped before all q.
    turns _ (has c.args.turned.now.keys q) (has c.flip.new.names.keys q) (is_in c.args.names.now.held.entries q) (is_in c.take.new.self.held.entries q) (before q) (flipped q)
    (ap (λ es. is_in es q) c.in_ok-there.ensures.ok ∙ in_without c.args.name c.args.names.now.held.entries c.requires q ∙ take_turns c.args.name (is_in c.args.names.now.held.entries) (sym c.in_ok-there.ensures.there ∙ c.if-not-there.false) q) (all q))
    c.flip.ensures.flipped

pub returns-clause-ordered : goal.returns-clause-ordered
returns-clause-ordered g c =
    always_ok c.flip.result (subst (λ es. IsStrictlySortedBy bytes_cmp (keys_of es)) (sym c.in_ok-there.ensures.ok) (sorted-remove_entry bytes_cmp-IsTotalOrder (is_at (bytes_cmp c.args.name)) c.args.names.now.held.entries c.requires))
