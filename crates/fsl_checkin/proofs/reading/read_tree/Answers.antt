use Rattle.std.proofs.Common.{◌+◌, List, length, sym, ap, ◌∙◌}
use Rattle.std.proofs.lemmas.Bool.{eqb-false}
use Rattle.fsl_checkin.specs.declared.types.TreeItem.{TreeItem}
use Rattle.fsl_checkin.proofs.TreeLemmas.{bad_item, read_more}
use Rattle.fsl_checkin.proofs.reading.read_tree.Goals as goal

pub returns-in_default-clause-fault : goal.returns-in_default-clause-fault
returns-in_default-clause-fault c =
    let none = rw c.in_default.is at c.in_ok-behind.ensures in
    bad_item c.args.bytes.now c.loop-rest.rest.now c.loop-rest.items _ c.loop-rest.invariant
    (λ e. eqb-false (length c.loop-rest.rest.now) 0 (sym c.is_empty.ensures ∙ c.loop-rest-test.true) (ap length e))
    (ap (λ (l : List TreeItem). length l + 1) (c.items-in_default.ensures ∙ none.0)) none.1

pub loop-rest-preserved : goal.loop-rest-preserved
loop-rest-preserved c =
    let more = rw c.in-Some.is at c.in_ok-behind.ensures in
    read_more c.args.bytes.now c.loop-rest.rest.now c.in-Some.behind.now more.1 c.loop-rest.items c.add_front.new.items more.0 c.loop-rest.invariant more.2 more.3 more.4 more.5
