-- The facts of a repository's items are those of its tables.
use Rattle.std.proofs.Common.{◌≡◌, List, ap, ◌∙◌}
use Rattle.fsl_cross.specs.declared.Item.{Item}
use Rattle.fsl_cross.specs.Tables.{forum_facts, pages_facts, tables, ticket_facts}
use Rattle.fsl_query.proofs.Alone.{pages-alone, threads-alone, tickets-alone}
use Rattle.fsl_repo.specs.Machine.{AreItems, now}
use Rattle.fsl_repo.specs.Whole.{Seen}
use Rattle.fsl_repo.proofs.ItemLemmas.{items_rise}
use Rattle.fsl_query.specs.Reports.{tables_now}

module _ (seen : Seen) (are : AreItems (now seen.state).held seen.items) (items : List Item) (same : items ≡ seen.items) where
  pub own_pages : pages_facts items ≡ (tables_now (now seen.state) seen.items).pages
  own_pages = ap pages_facts same ∙ pages-alone seen.items (items_rise (now seen.state).held seen.items are)

  pub own_changes : ticket_facts items ≡ (tables_now (now seen.state) seen.items).tickets
  own_changes = ap ticket_facts same ∙ tickets-alone seen.items (items_rise (now seen.state).held seen.items are)

  pub own_posts : forum_facts items ≡ (tables_now (now seen.state) seen.items).threads
  own_posts = ap forum_facts same ∙ threads-alone seen.items (items_rise (now seen.state).held seen.items are)
