-- What a set gives doesn't depend on which of its artifacts are private, but for clusters.
use Rattle.std.proofs.Common.{◌≡◌, ℕ, true, false, cond, List, [], ◌∷◌, Bool, Option, Some, None, map, All, refl, sym, ap, ◌∙◌, subst}
use Rattle.std.specs.Prelude.{filter_map, option_map}
use Rattle.std.specs.List.{list_any, cons_option}
use Rattle.std.specs.List.Sorted.{IsStrictlySortedBy}
use Rattle.std.specs.Str.{bytes_eq}
use Rattle.std.specs.Cmp.Lexicographic.{bytes_decides}
use Rattle.fsl_name.specs.Name.{name_text}
use Rattle.fsl_order.specs.Names.{bytes_cmp}
use Rattle.fsl_order.specs.Rows.{named}
use Rattle.fsl_wiki.specs.Pages.{as_note}
use Rattle.fsl_cross.specs.declared.Item.{Item}
use Rattle.fsl_cross.specs.declared.derived.Derived.{Derived}
use Rattle.fsl_cross.specs.Attached.{ArePairs, target_pair, change_pair}
use Rattle.fsl_cross.specs.Built.{AreTablesOf}
use Rattle.fsl_cross.specs.Checkins.{links_facts, tags_facts}
use Rattle.fsl_cross.specs.Facts.{links_fact, files_fact, pages_fact, ticket_fact, forum_fact}
use Rattle.fsl_cross.specs.Inside.{tags_fact_over, leaves_fact_over, item_row_over}
use Rattle.fsl_cross.specs.Marks.{private_at}
use Rattle.fsl_cross.specs.Tables.{IsItem, leaves_facts, pages_facts, ticket_facts, forum_facts, cluster_facts, timeline_rows}
use Rattle.fsl_cross.proofs.Moved.{item_name}
use Rattle.fsl_cross.proofs.Mapped.{named-has}
use Rattle.fsl_cross.proofs.Sets.{rising-found}
use Rattle.fsl_cross.proofs.TableLemmas.{rows-by_facts}
use Rattle.fsl_cross.proofs.Undoing.{names-private}

-- what is found among items of which one is marked
pub named-private : (n : List ℕ) (private : Bool) (items : List Item) (q : List ℕ) → named item_name (map (private_at n private) items) q ≡ option_map (private_at n private) (named item_name items q)
named-private n private [] q = refl
named-private n private (item ∷ items) q =
    ap (λ m. cond (bytes_eq m q) (Some (private_at n private item)) (named item_name (map (private_at n private) items) q)) (name_same (bytes_eq item.name n))
    ∙ ap (λ o. cond (bytes_eq item.name q) (Some (private_at n private item)) o) (named-private n private items q)
    ∙ elim (bytes_eq item.name q) as (λ b. cond b (Some (private_at n private item)) (option_map (private_at n private) (named item_name items q)) ≡ option_map (private_at n private) (cond b (Some item) (named item_name items q))) [ true ↦ refl | false ↦ refl ]
  where
    name_same : (b : Bool) → (cond b (record item { private = private }) item).name ≡ item.name
    name_same true = refl
    name_same false = refl

-- a private item that becomes public and private again
pub again-private : (n : List ℕ) (items : List Item) → IsStrictlySortedBy bytes_cmp (map item_name items) → option_map (λ i. i.private) (named item_name items n) ≡ Some true
    → map (private_at n true) (map (private_at n false) items) ≡ items
again-private n items rise hidden =
    rising-found item_name (map (private_at n true) (map (private_at n false) items)) items
    (subst (IsStrictlySortedBy bytes_cmp) (sym (names-private n true (map (private_at n false) items) ∙ names-private n false items)) rise) rise
    (λ q. named-private n true (map (private_at n false) items) q ∙ ap (option_map (private_at n true)) (named-private n false items q) ∙ back q (named item_name items q) refl)
  where
    inside : (y : Item) → Some y.private ≡ Some true → y.private ≡ true
    inside y e = cc

    whole : (y : Item) → y.private ≡ true → record y { private = true } ≡ y
    whole y e = λ i. record y { private = sym e i }

    back : (q : List ℕ) (o : Option Item) → named item_name items q ≡ o → option_map (private_at n true) (option_map (private_at n false) o) ≡ o
    back q None e = refl
    back q (Some y) e =
        elim (bytes_eq y.name n) as (λ b. bytes_eq y.name n ≡ b → Some (private_at n true (cond b (record y { private = false }) y)) ≡ Some y) [
          | true ↦ λ t.
              let own : y.name ≡ q = named-has item_name items q y e in
              let is : y.private ≡ true = inside y (sym (ap (option_map (λ (i : Item). i.private)) (ap (named item_name items) (sym ((bytes_decides y.name n).0 t) ∙ own) ∙ e)) ∙ hidden) in
              ap (λ b. Some (cond b (record y { private = true }) (record y { private = false }))) t ∙ ap Some (whole y is)
          | false ↦ λ t. ap (λ b. Some (cond b (record y { private = true }) y)) t
        ] refl

module _ (n : List ℕ) (private : Bool) (items : List Item) where
  abbrev marked : List Item
  marked = map (private_at n private) items

  same-over : {F : Type 0} (give : Item → Option F) → ((item : Item) (p : Bool) → give (record item { private = p }) ≡ give item) → (some : List Item) → filter_map give (map (private_at n private) some) ≡ filter_map give some
  same-over give same [] = refl
  same-over give same (item ∷ some) =
      (λ i. cons_option (elim (bytes_eq item.name n) as (λ b. give (cond b (record item { private = private }) item) ≡ give item) [ true ↦ same item private | false ↦ refl ] i) (same-over give same some i))

  links-same : links_facts marked ≡ links_facts items
  links-same = same-over links_fact (λ item p. refl) items

  tags-same : tags_facts marked ≡ tags_facts items
  tags-same = ap (λ ls. filter_map (tags_fact_over ls) marked) links-same ∙ same-over (tags_fact_over (links_facts items)) (λ item p. refl) items

  leaves-same : leaves_facts marked ≡ leaves_facts items
  leaves-same = ap (λ ts. filter_map (leaves_fact_over ts) marked) tags-same ∙ same-over (leaves_fact_over (tags_facts items)) (λ item p. refl) items

  pages-same : pages_facts marked ≡ pages_facts items
  pages-same = same-over pages_fact (λ item p. refl) items

  tickets-same : ticket_facts marked ≡ ticket_facts items
  tickets-same = same-over ticket_fact (λ item p. refl) items

  forum-same : forum_facts marked ≡ forum_facts items
  forum-same = same-over forum_fact (λ item p. refl) items

  rows-same : timeline_rows marked ≡ timeline_rows items
  rows-same =
      sym (rows-by_facts marked)
      ∙ (λ i. filter_map (item_row_over (tags-same i) (pages-same i) (forum-same i) (λ q. list_any (λ f. bytes_eq (name_text f.id) q) (tickets-same i)) (λ q. list_any (λ m. bytes_eq (name_text m.id) q) (filter_map as_note (pages-same i)))) marked)
      ∙ same-over (item_row_over (tags_facts items) (pages_facts items) (forum_facts items) (λ q. list_any (λ f. bytes_eq (name_text f.id) q) (ticket_facts items)) (λ q. list_any (λ m. bytes_eq (name_text m.id) q) (filter_map as_note (pages_facts items)))) (λ item p. refl) items
      ∙ rows-by_facts items

  -- the tables of the marked items are those of the items, where the facts of clusters are
  pub tables-same : (fields : List (List ℕ)) (old new : Derived) → AreTablesOf fields marked old → IsStrictlySortedBy bytes_cmp (map item_name items) → All IsItem items → new ≡ record old { contents = record old.contents { clusters = new.contents.clusters } }
      → new.contents.clusters.facts ≡ cluster_facts items → AreTablesOf fields items new
  tables-same fields old new are rising kinds but clusters =
      subst (AreTablesOf fields items) (sym but) (record {
        rising = rising;
        kinds = kinds;
        history = record { links = are.history.links ∙ links-same; tags = are.history.tags ∙ tags-same; leaves = are.history.leaves ∙ leaves-same };
        contents = record {
          files = are.contents.files ∙ same-over files_fact (λ item p. refl) items;
          pages = are.contents.pages ∙ pages-same;
          configured = are.contents.configured;
          tickets = are.contents.tickets ∙ tickets-same;
          threads = are.contents.threads ∙ forum-same;
          clusters = clusters;
        };
        timeline = are.timeline ∙ rows-same;
        attached = record {
          targets = subst (λ ps. ArePairs ps old.attached.targets.entries) (same-over target_pair (λ item p. refl) items) are.attached.targets;
          changes = subst (λ ps. ArePairs ps old.attached.changes.entries) (same-over change_pair (λ item p. refl) items) are.attached.changes;
        };
      })

-- it is found public
pub public-named : (n : List ℕ) (items : List Item) → option_map (λ i. i.private) (named item_name items n) ≡ Some true → option_map (λ i. i.private) (named item_name (map (private_at n false) items) n) ≡ Some false
public-named n items hidden = ap (option_map (λ (i : Item). i.private)) (named-private n false items n) ∙ by (named item_name items n) refl hidden
  where
    by : (o : Option Item) → named item_name items n ≡ o → option_map (λ (i : Item). i.private) o ≡ Some true → option_map (λ (i : Item). i.private) (option_map (private_at n false) o) ≡ Some false
    by None e h = cc
    by (Some y) e h = ap (λ b. let marked : Item = cond b (record y { private = false }) y in Some marked.private) ((bytes_decides y.name n).1 (named-has item_name items n y e))
