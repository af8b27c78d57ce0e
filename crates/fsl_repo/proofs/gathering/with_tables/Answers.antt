use Rattle.std.proofs.Common.{◌≡◌, Some, [], sym, ap, ◌∙◌}
use Rattle.std.specs.Option.{option_map_or}
use Rattle.fsl_record.specs.declared.Config.{Config}
use Rattle.fsl_blobs.specs.Fold.{contents}
use Rattle.fsl_repo.proofs.ItemLemmas.{items_differ, items_are, set_items}
use Rattle.fsl_repo.proofs.gathering.with_tables.Goals as goal

pub build-requires-clause-names : goal.build-requires-clause-names
build-requires-clause-names c = items_differ (contents c.args.blobs.records).held c.in_ok-items.items c.in_ok-items.ensures

pub build-requires-clause-kinds : goal.build-requires-clause-kinds
build-requires-clause-kinds c = items_are (contents c.args.blobs.records).held c.in_ok-items.items c.in_ok-items.ensures

pub returns-clause-items : goal.returns-clause-items
returns-clause-items c = set_items (contents c.args.blobs.records).held c.in_ok-items.items c.in_ok-tables.tables.items c.in_ok-items.ensures c.in_ok-tables.ensures.items

pub returns-clause-fields : goal.returns-clause-fields
returns-clause-fields c =
    let config : (contents c.args.blobs.records).config ≡ Some c.config.result.now = c.config.ensures in
    c.in_ok-tables.ensures.fields ∙ sym (ap (λ o. option_map_or (λ (x : Config). x.fields) o []) config)
