-- The facts that items give, where these rise by name, are those of their tables.
use Rattle.std.proofs.Common.{◌≡◌, List, sym, ap, ◌∙◌}
use Rattle.fsl_order.specs.Rows.{by_name}
use Rattle.fsl_wiki.specs.Pages.{fact_name}
use Rattle.fsl_cross.specs.declared.Item.{Item}
use Rattle.fsl_cross.specs.Tables.{forum_facts, item_set, pages_facts, ticket_facts}
use Rattle.fsl_cross.proofs.FactLemmas.{Rise, set-rising}
use Rattle.fsl_cross.proofs.TableLemmas.{forum-by_name, pages-by_name, tickets-by_name}

pub pages-alone : (items : List Item) → Rise items → pages_facts items ≡ by_name fact_name (pages_facts (item_set items))
pages-alone items rise = sym (ap (λ set. by_name fact_name (pages_facts set)) (set-rising items rise) ∙ pages-by_name items rise)

pub tickets-alone : (items : List Item) → Rise items → ticket_facts items ≡ by_name (λ f. f.name) (ticket_facts (item_set items))
tickets-alone items rise = sym (ap (λ set. by_name (λ f. f.name) (ticket_facts set)) (set-rising items rise) ∙ tickets-by_name items rise)

pub threads-alone : (items : List Item) → Rise items → forum_facts items ≡ by_name (λ f. f.name) (forum_facts (item_set items))
threads-alone items rise = sym (ap (λ set. by_name (λ f. f.name) (forum_facts set)) (set-rising items rise) ∙ forum-by_name items rise)
