use Rattle.std.proofs.Common.{◌||◌, ◌&&◌, not, ◌∙◌, ap, sym, subst, is_some}
use Rattle.std.specs.Str.{bytes_eq}
use Rattle.std.specs.List.Sorted.{IsStrictlySortedBy}
use Rattle.std.specs.Map.{keys_of}
use Rattle.fsl_order.specs.Names.{bytes_cmp}
use Rattle.fsl_table.specs.Contents.{with_entry, value_at}
use Rattle.fsl_table.specs.Exact.{pair_cmp}
use Rattle.fsl_table.proofs.Outcomes.{on_ok_map, four_ok}
use Rattle.fsl_cluster.specs.declared.entry.Entry.{Entry}
use Rattle.fsl_cluster.specs.Kept.{entry_of, is_in, is_named, tables_in}
use Rattle.fsl_cluster.proofs.Putting.{kept_with}
use Rattle.fsl_cluster.proofs.rows.put_fact.Goals as goal

pub returns-clause-entries : goal.returns-clause-entries
returns-clause-entries g c =
    let v : Entry = entry_of c.args.fact in
    on_ok_map c.enter_fact.result (λ is. is ∙ ap (λ t. with_entry bytes_cmp c.args.fact.name v t.held.entries) c.in_ok-spread.ensures.facts) c.enter_fact.ensures.entries

pub returns-clause-flips : goal.returns-clause-flips
returns-clause-flips g c = on_ok_map c.enter_fact.result (λ turned before f. turned before (c.in_ok-spread.ensures.flips before f)) c.enter_fact.ensures.flips

pub returns-clause-kept : goal.returns-clause-kept
returns-clause-kept g c =
    let old = tables_in c.args.maps.now in
    let new = tables_in c.enter_fact.new.maps in
    let name = c.args.fact.name in
    let v : Entry = entry_of c.args.fact in
    let members = c.enter_fact.ensures.members in
    let refs = c.enter_fact.ensures.refs in
    let missing = c.enter_fact.ensures.missing in
    four_ok c.enter_fact.result
    (λ entries names ordered flips.
    kept_with old new name v c.requires.kept c.requires.absent
    (entries ∙ ap (λ t. with_entry bytes_cmp name v t.held.entries) c.in_ok-spread.ensures.facts)
    (subst (λ t. IsStrictlySortedBy pair_cmp (keys_of t.held.entries)) (sym members) c.in_ok-spread.ensures.members_ordered)
    (subst (λ t. IsStrictlySortedBy pair_cmp (keys_of t.held.entries)) (sym refs) c.in_ok-spread.ensures.refs_ordered)
    (λ k. ap (λ t. is_some (value_at pair_cmp k t.held.entries)) members ∙ c.in_ok-spread.ensures.members k)
    (λ k. ap (λ t. is_some (value_at pair_cmp k t.held.entries)) refs ∙ c.in_ok-spread.ensures.refs k)
    ordered
    (subst (λ t. IsStrictlySortedBy bytes_cmp (keys_of t.held.entries)) (sym missing) c.in_ok-spread.ensures.missing_ordered)
    (λ q. names q ∙ (λ i. c.in_ok-spread.ensures.unclustered q i || (bytes_eq q name && (c.is_unclustered-free.ensures.is ∙ ap (λ t. not v.private && not (is_named t.held.entries name)) (sym members)) i)))
    (λ q. ap (λ t. is_in t.held.entries q) missing ∙ c.in_ok-spread.ensures.missing q))
    c.enter_fact.ensures.entries c.enter_fact.ensures.names c.enter_fact.ensures.unclustered_ordered c.enter_fact.ensures.flips
