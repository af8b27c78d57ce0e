-- What a table that is made by itself holds: what all tables of the set hold.
use Rattle.std.proofs.Common.{◌≡◌, List, sym, ap, ◌∙◌}
use Rattle.fsl_order.specs.Rows.{by_name}
use Rattle.fsl_wiki.specs.Pages.{fact_name}
use Rattle.fsl_cross.specs.declared.Item.{Item}
use Rattle.fsl_cross.specs.Checkins.{tags_facts}
use Rattle.fsl_cross.specs.Tables.{item_set, leaves_facts, files_facts, pages_facts, ticket_facts, forum_facts, cluster_facts, timeline_rows}
use Rattle.fsl_cross.proofs.FactLemmas.{Rise, set-rising, tags-by_name, leaves-by_name}
use Rattle.fsl_cross.proofs.TableLemmas.{files-by_name, pages-by_name, tickets-by_name, forum-by_name, clusters-by_name, rows-by_name}

pub tags-alone : (items : List Item) → Rise items → tags_facts items ≡ by_name (λ f. f.name) (tags_facts (item_set items))
tags-alone items rise = sym (ap (λ set. by_name (λ f. f.name) (tags_facts set)) (set-rising items rise) ∙ tags-by_name items rise)

pub leaves-alone : (items : List Item) → Rise items → leaves_facts items ≡ by_name (λ f. f.name) (leaves_facts (item_set items))
leaves-alone items rise = sym (ap (λ set. by_name (λ f. f.name) (leaves_facts set)) (set-rising items rise) ∙ leaves-by_name items rise)

pub files-alone : (items : List Item) → Rise items → files_facts items ≡ by_name (λ f. f.name) (files_facts (item_set items))
files-alone items rise = sym (ap (λ set. by_name (λ f. f.name) (files_facts set)) (set-rising items rise) ∙ files-by_name items rise)

pub pages-alone : (items : List Item) → Rise items → pages_facts items ≡ by_name fact_name (pages_facts (item_set items))
pages-alone items rise = sym (ap (λ set. by_name fact_name (pages_facts set)) (set-rising items rise) ∙ pages-by_name items rise)

pub tickets-alone : (items : List Item) → Rise items → ticket_facts items ≡ by_name (λ f. f.name) (ticket_facts (item_set items))
tickets-alone items rise = sym (ap (λ set. by_name (λ f. f.name) (ticket_facts set)) (set-rising items rise) ∙ tickets-by_name items rise)

pub threads-alone : (items : List Item) → Rise items → forum_facts items ≡ by_name (λ f. f.name) (forum_facts (item_set items))
threads-alone items rise = sym (ap (λ set. by_name (λ f. f.name) (forum_facts set)) (set-rising items rise) ∙ forum-by_name items rise)

pub clusters-alone : (items : List Item) → Rise items → cluster_facts items ≡ by_name (λ f. f.name) (cluster_facts (item_set items))
clusters-alone items rise = sym (ap (λ set. by_name (λ f. f.name) (cluster_facts set)) (set-rising items rise) ∙ clusters-by_name items rise)

pub timeline-alone : (items : List Item) → Rise items → timeline_rows items ≡ by_name (λ r. r.name) (timeline_rows (item_set items))
timeline-alone items rise = sym (ap (λ set. by_name (λ r. r.name) (timeline_rows set)) (set-rising items rise) ∙ rows-by_name items rise)
