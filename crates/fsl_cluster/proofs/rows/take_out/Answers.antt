use Rattle.std.proofs.Common.{◌≡◌, sym, subst, Some}
use Rattle.fsl_order.specs.Names.{bytes_cmp}
use Rattle.fsl_table.specs.Contents.{value_at}
use Rattle.fsl_table.proofs.Outcomes.{on_ok_map, always_ok}
use Rattle.fsl_cluster.specs.declared.tables.Tables.{Tables}
use Rattle.fsl_cluster.specs.Kept.{AreFewer, AreFreed, AreLost, is_in, tables_in}
use Rattle.fsl_cluster.proofs.Putting.{kept_less}
use Rattle.fsl_cluster.proofs.rows.take_out.Goals as goal

pub returns-clause-flips : goal.returns-clause-flips
returns-clause-flips g c =
    always_ok c.remove.result
    (λ before f. record {
      unclustered = c.in_ok-take_members.ensures.turned (is_in before.unclustered.entries) f.unclustered;
      missing = c.in_ok-take_refs.ensures.turned (is_in before.missing.entries) f.missing;
    })

pub returns-clause-kept : goal.returns-clause-kept
returns-clause-kept g c =
    let old = tables_in c.args.maps.now in
    let new : Tables = record {
      facts = c.remove.new.self.held;
      members = c.take_members.new.members.held;
      refs = c.take_refs.new.refs.held;
      unclustered = c.take_members.new.unclustered.held;
      missing = c.take_refs.new.missing.held;
    } in
    let name = c.args.name in
    let entry = c.in-Some.entry.now in
    let there : value_at bytes_cmp name old.facts.entries ≡ Some entry = sym c.in-Some.ensures.value in
    let less = c.in_ok-take_members.ensures in
    let lost = c.in_ok-take_refs.ensures in
    on_ok_map c.remove.result
    (λ out.
    kept_less old new name entry c.requires.kept there out less.members_ordered lost.refs_ordered
    (subst (AreFewer old.members.entries new.members.entries name) c.items.ensures less.members)
    (subst (AreFewer old.refs.entries new.refs.entries name) c.items-2.ensures lost.refs)
    less.unclustered_ordered lost.missing_ordered
    (subst (λ l. AreFreed old.facts new.members name l old.unclustered new.unclustered) c.items.ensures less.names)
    (subst (λ l. AreLost new.refs name l old.missing new.missing) c.items-2.ensures lost.names))
    c.remove.ensures.ok
