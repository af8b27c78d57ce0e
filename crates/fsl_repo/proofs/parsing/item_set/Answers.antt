use Rattle.fsl_blobs.specs.Fold.{contents}
use Rattle.fsl_repo.proofs.ItemLemmas.{items_differ, items_are, set_items}
use Rattle.fsl_repo.proofs.parsing.item_set.Goals as goal

pub of-requires : goal.of-requires
of-requires c = items_differ (contents c.args.blobs.now.records).held c.in_ok-read.read c.in_ok-read.ensures

pub returns-clause-items : goal.returns-clause-items
returns-clause-items c = set_items (contents c.args.blobs.now.records).held c.in_ok-read.read c.in_ok-items.items c.in_ok-read.ensures c.in_ok-items.ensures.items

pub returns-clause-kinds : goal.returns-clause-kinds
returns-clause-kinds c =
    let held = (contents c.args.blobs.now.records).held in
    items_are held c.in_ok-items.items (set_items held c.in_ok-read.read c.in_ok-items.items c.in_ok-read.ensures c.in_ok-items.ensures.items)
