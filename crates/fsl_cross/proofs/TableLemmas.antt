-- The facts of the tables of files, pages, tickets, posts and clusters and the rows of the timeline, of a set whose items rise by name.
use Rattle.std.proofs.Common.{◌≡◌, ℕ, Bool, true, false, cond, List, [], ◌∷◌, Option, Some, None, Result, Ok, Err, map, refl, sym, ap, ◌∙◌}
use Rattle.std.specs.Prelude.{◌||◌, filter_map, is_some, option_map, option_and_then, slice_get, IfSome, IfOk, OnOk}
use Rattle.std.specs.List.{list_any, cons_option}
use Rattle.std.specs.Option.{option_eq, option_map_or}
use Rattle.std.specs.BTreeMap.{is_at}
use Rattle.std.specs.Str.{bytes_eq}
use Rattle.std.specs.Cmp.Lexicographic.{texts_ties}
use Rattle.fsl_name.specs.Name.{name_text}
use Rattle.fsl_order.specs.Names.{bytes_cmp}
use Rattle.fsl_order.specs.TableState.{TableState}
use Rattle.fsl_order.specs.Rows.{by_name, AreDistinct}
use Rattle.fsl_artifact.specs.declared.Artifact.{Artifact}
use Rattle.fsl_artifact.specs.declared.Artifact.TheVariants.{Plain, Manifest as Checkin, Cluster, Control, Wiki, Ticket, Attachment, Technote, Forum}
use Rattle.fsl_files.specs.declared.Fact as files
use Rattle.fsl_timeline.specs.declared.Row.{Row}
use Rattle.fsl_wiki.specs.declared.Fact as wiki
use Rattle.fsl_wiki.specs.Pages as pages
use Rattle.fsl_wiki.specs.Pages.{fact_name}
use Rattle.fsl_ticket.specs.declared.Fact as ticket
use Rattle.fsl_ticket.specs.Seen.{Seen}
use Rattle.fsl_forum.specs.Threads as threads
use Rattle.fsl_cross.specs.declared.Item.{Item}
use Rattle.fsl_cross.specs.Facts.{as_manifest, file_row, files_fact, pages_fact, pages_fact_of, ticket_fact, ticket_fact_of, forum_fact, forum_fact_of, cluster_fact, parent_names}
use Rattle.fsl_cross.specs.Checkins.{tags_facts}
use Rattle.fsl_cross.specs.Tables.{files_facts, pages_facts, ticket_facts, forum_facts, cluster_facts, timeline_row_of, timeline_rows}
use Rattle.fsl_cross.specs.Inside.{is_ticket, is_note, row_over, item_row_over}
use Rattle.fsl_cross.proofs.Mapped.{by_name-given, distinct-given, by_name-mapped, distinct-mapped}
use Rattle.fsl_cross.proofs.Moved.{item_name}
use Rattle.fsl_cross.proofs.FactLemmas.{Rise}

-- ---- each fact has the name of its item

pub files-own : (item : Item) → IfSome (files_fact item) (λ f. f.name ≡ item.name)
files-own item =
    elim (as_manifest item.artifact) as (λ o. IfSome (option_map (λ m. let f : files.Fact = record { name = item.name; baseline = m.baseline; parent = slice_get (parent_names m) 0; files = map file_row m.files } in f) o) (λ f. f.name ≡ item.name)) [
      | None ↦ tt
      | Some m ↦ refl
    ]

pages-own_of : (name : List ℕ) (a : Artifact) → IfSome (pages_fact_of name a) (λ f. fact_name f ≡ name)
pages-own_of name Plain = tt
pages-own_of name (Checkin m) = tt
pages-own_of name (Cluster c) = tt
pages-own_of name (Control c) = tt
pages-own_of name (Wiki w) = refl
pages-own_of name (Ticket t) = tt
pages-own_of name (Attachment a) = refl
pages-own_of name (Technote t) = refl
pages-own_of name (Forum f) = tt

pub pages-own : (item : Item) → IfSome (pages_fact item) (λ f. fact_name f ≡ item.name)
pages-own item = pages-own_of item.name item.artifact

ticket-own_of : (name : List ℕ) (a : Artifact) → IfSome (ticket_fact_of name a) (λ f. f.name ≡ name)
ticket-own_of name Plain = tt
ticket-own_of name (Checkin m) = tt
ticket-own_of name (Cluster c) = tt
ticket-own_of name (Control c) = tt
ticket-own_of name (Wiki w) = tt
ticket-own_of name (Ticket t) = refl
ticket-own_of name (Attachment a) = tt
ticket-own_of name (Technote t) = tt
ticket-own_of name (Forum f) = tt

pub ticket-own : (item : Item) → IfSome (ticket_fact item) (λ f. f.name ≡ item.name)
ticket-own item = ticket-own_of item.name item.artifact

forum-own_of : (name : List ℕ) (a : Artifact) → IfSome (forum_fact_of name a) (λ f. f.name ≡ name)
forum-own_of name Plain = tt
forum-own_of name (Checkin m) = tt
forum-own_of name (Cluster c) = tt
forum-own_of name (Control c) = tt
forum-own_of name (Wiki w) = tt
forum-own_of name (Ticket t) = tt
forum-own_of name (Attachment a) = tt
forum-own_of name (Technote t) = tt
forum-own_of name (Forum f) = refl

pub forum-own : (item : Item) → IfSome (forum_fact item) (λ f. f.name ≡ item.name)
forum-own item = forum-own_of item.name item.artifact

-- a row that is there where a test holds has the name that it is given
some-own : (name : List ℕ) (r : Row) (b : Bool) → r.name ≡ name → IfSome (cond b (Some r) None) (λ r. r.name ≡ name)
some-own name r true e = e
some-own name r false e = tt

row-own_of : (items : List Item) (name : List ℕ) (a : Artifact) → IfSome (timeline_row_of items name a) (λ r. r.name ≡ name)
row-own_of items name Plain = tt
row-own_of items name (Checkin m) = refl
row-own_of items name (Cluster c) = tt
row-own_of items name (Control c) = refl
row-own_of items name (Wiki w) = refl
row-own_of items name (Ticket t) = refl
row-own_of items name (Attachment a) = refl
row-own_of items name (Technote t) = some-own name _ (option_eq bytes_eq (pages.note (pages_facts items) t.id) (Some name)) refl
row-own_of items name (Forum f) = some-own name _ (is_some (threads.place (forum_facts items) name)) refl

abbrev pub row_of : List Item → Item → Option Row
row_of items item = timeline_row_of items item.name item.artifact

pub row-own : (items : List Item) (item : Item) → IfSome (row_of items item) (λ r. r.name ≡ item.name)
row-own items item = row-own_of items item.name item.artifact

-- ---- the facts stand by name, and their names differ

pub files-by_name : (items : List Item) → Rise items → by_name (λ f. f.name) (files_facts items) ≡ files_facts items
files-by_name items h = by_name-given item_name (λ f. f.name) files_fact files-own items h

pub pages-by_name : (items : List Item) → Rise items → by_name fact_name (pages_facts items) ≡ pages_facts items
pages-by_name items h = by_name-given item_name fact_name pages_fact pages-own items h

pub tickets-by_name : (items : List Item) → Rise items → by_name (λ f. f.name) (ticket_facts items) ≡ ticket_facts items
tickets-by_name items h = by_name-given item_name (λ f. f.name) ticket_fact ticket-own items h

pub forum-by_name : (items : List Item) → Rise items → by_name (λ f. f.name) (forum_facts items) ≡ forum_facts items
forum-by_name items h = by_name-given item_name (λ f. f.name) forum_fact forum-own items h

pub clusters-by_name : (items : List Item) → Rise items → by_name (λ f. f.name) (cluster_facts items) ≡ cluster_facts items
clusters-by_name items h = by_name-mapped item_name (λ f. f.name) cluster_fact (λ item. refl) items h

pub rows-by_name : (items : List Item) → Rise items → by_name (λ r. r.name) (timeline_rows items) ≡ timeline_rows items
rows-by_name items h = by_name-given item_name (λ r. r.name) (row_of items) (row-own items) items h

pub files-distinct : (items : List Item) → Rise items → AreDistinct (map (λ f. f.name) (files_facts items))
files-distinct items h = distinct-given item_name (λ f. f.name) files_fact files-own items h

pub pages-distinct : (items : List Item) → Rise items → AreDistinct (map fact_name (pages_facts items))
pages-distinct items h = distinct-given item_name fact_name pages_fact pages-own items h

pub tickets-distinct : (items : List Item) → Rise items → AreDistinct (map (λ f. f.name) (ticket_facts items))
tickets-distinct items h = distinct-given item_name (λ f. f.name) ticket_fact ticket-own items h

pub forum-distinct : (items : List Item) → Rise items → AreDistinct (map (λ f. f.name) (forum_facts items))
forum-distinct items h = distinct-given item_name (λ f. f.name) forum_fact forum-own items h

pub clusters-distinct : (items : List Item) → Rise items → AreDistinct (map (λ f. f.name) (cluster_facts items))
clusters-distinct items h = distinct-mapped item_name (λ f. f.name) cluster_fact (λ item. refl) items h

pub rows-distinct : (items : List Item) → Rise items → AreDistinct (map (λ r. r.name) (timeline_rows items))
rows-distinct items h = distinct-given item_name (λ r. r.name) (row_of items) (row-own items) items h

-- ---- rows by the facts of the other tables

pub row-by_facts : (items : List Item) (name : List ℕ) (a : Artifact) → row_over (tags_facts items) (pages_facts items) (forum_facts items) (is_ticket items) (is_note items) name a ≡ timeline_row_of items name a
row-by_facts items name Plain = refl
row-by_facts items name (Checkin m) = refl
row-by_facts items name (Cluster c) = refl
row-by_facts items name (Control c) = refl
row-by_facts items name (Wiki w) = refl
row-by_facts items name (Ticket t) = refl
row-by_facts items name (Attachment a) = refl
row-by_facts items name (Technote t) = refl
row-by_facts items name (Forum f) = refl

rows-among : (items some : List Item) → filter_map (item_row_over (tags_facts items) (pages_facts items) (forum_facts items) (is_ticket items) (is_note items)) some ≡ filter_map (row_of items) some
rows-among items [] = refl
rows-among items (item ∷ some) = λ i. cons_option (row-by_facts items item.name item.artifact i) (rows-among items some i)

pub rows-by_facts : (items : List Item) → filter_map (item_row_over (tags_facts items) (pages_facts items) (forum_facts items) (is_ticket items) (is_note items)) items ≡ timeline_rows items
rows-by_facts items = rows-among items items

-- ---- the ids of tickets and technotes

or-assoc : (a b c : Bool) → ((a || b) || c) ≡ (a || (b || c))
or-assoc true b c = refl
or-assoc false b c = refl

-- one artifact more, of those that are left
any-next : {X : Type 0} (p : X → Bool) (o : Option X) (xs : List X) → (option_map_or p o false || list_any p xs) ≡ list_any p (cons_option o xs)
any-next p None xs = refl
any-next p (Some x) xs = refl

pub ticket-next : (now next : Bool) (item : Item) (rest left all : List Item) (q : List ℕ) → next ≡ (now || option_map_or (λ f. bytes_eq (name_text f.id) q) (ticket_fact item) false) → left ≡ item ∷ rest
    → (now || is_ticket left q) ≡ is_ticket all q → (next || is_ticket rest q) ≡ is_ticket all q
ticket-next now next item rest left all q put cut so =
    ap (λ b. b || is_ticket rest q) put ∙ or-assoc now _ (is_ticket rest q) ∙ ap (λ b. now || b) (any-next (λ f. bytes_eq (name_text f.id) q) (ticket_fact item) (ticket_facts rest))
    ∙ ap (λ l. now || is_ticket l q) (sym cut) ∙ so

notes-cons : (o : Option wiki.Fact) (fs : List wiki.Fact) → filter_map pages.as_note (cons_option o fs) ≡ cons_option (option_and_then pages.as_note o) (filter_map pages.as_note fs)
notes-cons None fs = refl
notes-cons (Some f) fs = refl

pub note-next : (now next : Bool) (item : Item) (rest left all : List Item) (q : List ℕ) → next ≡ (now || option_map_or (λ n. bytes_eq (name_text n.id) q) (option_and_then pages.as_note (pages_fact item)) false) → left ≡ item ∷ rest
    → (now || is_note left q) ≡ is_note all q → (next || is_note rest q) ≡ is_note all q
note-next now next item rest left all q put cut so =
    ap (λ b. b || is_note rest q) put ∙ or-assoc now _ (is_note rest q)
    ∙ ap (λ b. now || b) (any-next (λ n. bytes_eq (name_text n.id) q) (option_and_then pages.as_note (pages_fact item)) (filter_map pages.as_note (pages_facts rest)) ∙ ap (list_any (λ n. bytes_eq (name_text n.id) q)) (sym (notes-cons (pages_fact item) (pages_facts rest))))
    ∙ ap (λ l. now || is_note l q) (sym cut) ∙ so

-- a text more in a set
or-swap : (now b : Bool) → cond b true now ≡ (now || b)
or-swap true true = refl
or-swap true false = refl
or-swap false true = refl
or-swap false false = refl

put-is : (now next : Bool) (key q : List ℕ) → next ≡ cond (is_at (bytes_cmp key) q) true now → next ≡ (now || bytes_eq key q)
put-is now next key q put = put ∙ ap (λ b. cond b true now) (sym (texts_ties key q)) ∙ or-swap now (bytes_eq key q)

pub put-on : {A E : Type 0} (r : Result A E) (old new with_it : List ℕ → Bool) (key : List ℕ) → ((q : List ℕ) → bytes_eq key q ≡ with_it q) → OnOk r ((q : List ℕ) → new q ≡ cond (is_at (bytes_cmp key) q) true (old q))
    → OnOk r ((q : List ℕ) → new q ≡ (old q || with_it q))
put-on (Ok x) old new with_it key same put = λ q. put-is (old q) (new q) key q (put q) ∙ ap (λ b. old q || b) (same q)
put-on (Err e) old new with_it key same put = tt

-- ---- a table of these facts

pub held-if : {F E : Type 0} (r : Result (TableState F) E) (given wanted : List F) → given ≡ wanted → IfOk r (λ t. t.facts ≡ given) → IfOk r (λ t. t.facts ≡ wanted)
held-if (Ok t) given wanted same facts = facts ∙ same
held-if (Err e) given wanted same facts = tt

pub seen-if : {E : Type 0} (r : Result Seen E) (fields : List (List ℕ)) (given wanted : List ticket.Fact) → given ≡ wanted → IfOk r (λ t. t.fields ≡ fields) → IfOk r (λ t. t.facts ≡ given)
    → IfOk r (λ t. (t.fields ≡ fields) × (t.facts ≡ wanted))
seen-if (Ok t) fields given wanted same named facts = (named, facts ∙ same)
seen-if (Err e) fields given wanted same named facts = tt
