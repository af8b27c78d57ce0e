-- Attachments whose kind one artifact more changes.
use Rattle.std.proofs.Common.{◌≡◌, ℕ, true, false, ◌&&◌, List, [], ◌∷◌, Bool, Option, Some, None, All, cond, map, refl, sym, ap, ◌∙◌, subst}
use Rattle.std.specs.Prelude.{◌||◌, filter, filter_map, option_map, option_and_then, is_some, IfSome}
use Rattle.std.specs.List.{list_any, cons_option}
use Rattle.std.specs.Option.{option_map_or}
use Rattle.std.specs.Str.{bytes_eq}
use Rattle.std.specs.Cmp.Lexicographic.{bytes_decides, nat_list_eq_equiv}
use Rattle.std.proofs.lemmas.Bool.{or_left, or_right, or_parts}
use Rattle.fsl_order.specs.Names.{has}
use Rattle.fsl_order.specs.Rows.{named, greater, greatest}
use Rattle.fsl_order.proofs.RowLemmas.{is_some-named}
use Rattle.fsl_order.proofs.Booleans.{second_holds}
use Rattle.fsl_name.specs.Name.{IsName, name_in, name_text}
use Rattle.fsl_name.proofs.ReadAgain.{name_from_text}
use Rattle.fsl_table.specs.Contents.{first_of, entries_after}
use Rattle.fsl_table.specs.Exact.{pair_cmp}
use Rattle.fsl_table.specs.Pairs.{is_name, second_of, seconds}
use Rattle.fsl_table.specs.declared.key.Pair.{Pair}
use Rattle.fsl_table.proofs.Seconds.{next_second, rest_none, has_seconds}
use Rattle.fsl_artifact.specs.declared.Artifact.{Artifact}
use Rattle.fsl_artifact.specs.declared.Artifact.TheVariants as kind
use Rattle.fsl_wiki.specs.Pages as pages
use Rattle.fsl_timeline.specs.declared.RowKind.TheVariants as row
use Rattle.fsl_cross.specs.declared.Item.{Item}
use Rattle.fsl_cross.specs.declared.attached.Attached.{Attached}
use Rattle.fsl_cross.specs.Attached.{pair_of, pair_name, is_pair, target_id, change_id, ArePairs}
use Rattle.fsl_cross.specs.Built.{IsAttachedOf}
use Rattle.fsl_cross.specs.Facts.{ticket_fact_of}
use Rattle.fsl_cross.specs.Inside.{is_ticket, is_note, kind_by}
use Rattle.fsl_cross.specs.Kinds.{own_id, own_kind, own_names, target_kind}
use Rattle.fsl_cross.specs.Tables.{IsItem, attachment_kind, pages_facts, ticket_facts, without}
use Rattle.fsl_cross.proofs.Moved.{item_name}
use Rattle.fsl_cross.proofs.FactLemmas.{Rise}
use Rattle.fsl_cross.proofs.Mapped.{named-given, named-has}
use Rattle.fsl_cross.proofs.Added.{given-absent}
use Rattle.fsl_cross.proofs.PairsAdded.{any-added, pair-is}
use Rattle.fsl_cross.proofs.Ids.{same-test, any-text, none-text, tickets-named, notes-named}

-- ---- the names that belong to an id

module _ (id_of : Item → Option (List ℕ)) where
  abbrev give : Item → Option Pair
  give item = option_map (pair_of item.name) (id_of item)

  -- where the pair of an id is there, an item has the id
  any-back : (id q : List ℕ) (xs : List Item) → list_any (is_pair (pair_of q id)) (filter_map give xs) ≡ true → list_any (λ (y : Item). is_name (id_of y) id) xs ≡ true
  any-back id q [] h = cc
  any-back id q (x ∷ xs) h = by (id_of x) (any-back id q xs) h
    where
      by : (o : Option (List ℕ)) → (list_any (is_pair (pair_of q id)) (filter_map give xs) ≡ true → list_any (λ (y : Item). is_name (id_of y) id) xs ≡ true)
          → list_any (is_pair (pair_of q id)) (cons_option (option_map (pair_of x.name) o) (filter_map give xs)) ≡ true → (is_name o id || list_any (λ (y : Item). is_name (id_of y) id) xs) ≡ true
      by None rest h = rest h
      by (Some p) rest h =
          elim (is_pair (pair_of q id) (pair_of x.name p)) as (λ b. is_pair (pair_of q id) (pair_of x.name p) ≡ b → (b || list_any (is_pair (pair_of q id)) (filter_map give xs)) ≡ true → (bytes_eq p id || list_any (λ (y : Item). is_name (id_of y) id) xs) ≡ true) [
            | true ↦ λ t _. or_left (bytes_eq p id) _ (nat_list_eq_equiv.symm p id ∙ second_holds (bytes_eq q x.name) (bytes_eq id p) t)
            | false ↦ λ _ more. or_right (bytes_eq p id) _ (rest more)
          ] refl h

  -- .. and where an item has the id, the pair with its name is there
  any-forth : (id : List ℕ) (xs : List Item) → list_any (λ (y : Item). is_name (id_of y) id) xs ≡ true → (q : List ℕ) × (list_any (is_pair (pair_of q id)) (filter_map give xs) ≡ true)
  any-forth id [] h = cc
  any-forth id (x ∷ xs) h = by (id_of x) (any-forth id xs) h
    where
      by : (o : Option (List ℕ)) → (list_any (λ (y : Item). is_name (id_of y) id) xs ≡ true → (q : List ℕ) × (list_any (is_pair (pair_of q id)) (filter_map give xs) ≡ true))
          → (is_name o id || list_any (λ (y : Item). is_name (id_of y) id) xs) ≡ true → (q : List ℕ) × (list_any (is_pair (pair_of q id)) (cons_option (option_map (pair_of x.name) o) (filter_map give xs)) ≡ true)
      by None rest h = rest h
      by (Some p) rest h =
          elim (bytes_eq p id) as (λ b. bytes_eq p id ≡ b → (b || list_any (λ (y : Item). is_name (id_of y) id) xs) ≡ true → (q : List ℕ) × (list_any (is_pair (pair_of q id)) (pair_of x.name p ∷ filter_map give xs) ≡ true)) [
            | true ↦ λ t _. (x.name, or_left (is_pair (pair_of x.name id) (pair_of x.name p)) _ ((λ i. (bytes_decides x.name x.name).1 refl i && bytes_eq id p) ∙ nat_list_eq_equiv.symm id p ∙ t))
            | false ↦ λ _ more. let found = rest more in (found.0, or_right (is_pair (pair_of found.0 id) (pair_of x.name p)) _ found.1)
          ] refl h

  -- a name belongs to the id where an item has it
  pub second-some : (items : List Item) (es : List (Pair × Unit {0})) → ArePairs (filter_map give items) es → (id : List ℕ)
      → is_some (option_and_then (second_of id) (first_of (entries_after pair_cmp (record { first = id; second = None }) es))) ≡ list_any (λ (y : Item). is_name (id_of y) id) items
  second-some items es are id =
      ap is_some (next_second id None es are.ordered ∙ ap first_of (rest_none (seconds id es)))
      ∙ same-test (is_some (first_of (seconds id es))) (list_any (λ (y : Item). is_name (id_of y) id) items) (forth (seconds id es) refl)
      (λ h. let some = any-forth id items h in back (seconds id es) some.0 (has_seconds id some.0 es ∙ are.there (pair_of some.0 id) ∙ some.1))
    where
      forth : (l : List (List ℕ)) → seconds id es ≡ l → is_some (first_of l) ≡ true → list_any (λ (y : Item). is_name (id_of y) id) items ≡ true
      forth [] e h = cc
      forth (q ∷ qs) e h = any-back id q items (sym (are.there (pair_of q id)) ∙ sym (has_seconds id q es) ∙ ap (λ l. has l q) e ∙ or_left (bytes_eq q q) (has qs q) ((bytes_decides q q).1 refl))

      back : (l : List (List ℕ)) (q : List ℕ) → has l q ≡ true → is_some (first_of l) ≡ true
      back [] q h = cc
      back (x ∷ l) q h = refl

  -- ---- by the name

  own : (item : Item) → IfSome (give item) (λ p. pair_name p ≡ item.name)
  own item = elim (id_of item) as (λ o. IfSome (option_map (pair_of item.name) o) (λ p. pair_name p ≡ item.name)) [ None ↦ tt | Some id ↦ refl ]

  -- no pair has a name that isn't there
  none-pair : (id q : List ℕ) (ps : List Pair) → has (map pair_name ps) q ≡ false → list_any (is_pair (pair_of q id)) ps ≡ false
  none-pair id q [] h = refl
  none-pair id q (p ∷ ps) h =
      let parts = or_parts (bytes_eq q (pair_name p)) (has (map pair_name ps) q) h in
      λ i. (parts.0 i && bytes_eq id p.first) || none-pair id q ps parts.1 i

  -- the pair of an id and a name is there where the item of the name has the id
  pair-at : (items : List Item) → Rise items → (id q : List ℕ) → list_any (is_pair (pair_of q id)) (filter_map give items) ≡ option_map_or (λ (y : Item). is_name (id_of y) id) (named item_name items q) false
  pair-at items rise id q = by (named item_name items q) refl
    where
      or-none : (b : Bool) → (b || false) ≡ b
      or-none true = refl
      or-none false = refl

      by : (o : Option Item) → named item_name items q ≡ o → list_any (is_pair (pair_of q id)) (filter_map give items) ≡ option_map_or (λ (y : Item). is_name (id_of y) id) o false
      by None e =
          none-pair id q (filter_map give items)
          (sym (is_some-named pair_name (filter_map give items) q) ∙ ap is_some (named-given item_name pair_name give own items rise q ∙ ap (option_and_then give) e))
      by (Some y) e =
          let is : y.name ≡ q = named-has item_name items q y e in
          let at : named item_name items y.name ≡ Some y = ap (named item_name items) is ∙ e in
          let out : has (map pair_name (filter_map give (without y.name items))) q ≡ false
          = subst (λ n. has (map pair_name (filter_map give (without y.name items))) n ≡ false) is (given-absent item_name pair_name give own items rise y.name) in
          any-added items rise y at id_of (pair_of q id)
          ∙ (λ i. sym (pair-is (pair_of q id) (id_of y) y.name) i || none-pair id q (filter_map give (without y.name items)) out i)
          ∙ ap (λ b. (b && is_name (id_of y) id) || false) (ap (bytes_eq q) is ∙ (bytes_decides q q).1 refl)
          ∙ or-none (is_name (id_of y) id)

  -- a name belongs to an id where the item of the name has the id
  pub second-at : (items : List Item) → Rise items → (es : List (Pair × Unit {0})) → ArePairs (filter_map give items) es → (id q : List ℕ)
      → has (seconds id es) q ≡ option_map_or (λ (y : Item). is_name (id_of y) id) (named item_name items q) false
  second-at items rise es are id q = has_seconds id q es ∙ are.there (pair_of q id) ∙ pair-at items rise id q

-- ---- the kind of an id

ticket-by_id : (id : List ℕ) (items : List Item) → list_any (λ f. bytes_eq f.id id) (ticket_facts items) ≡ list_any (λ (y : Item). is_name (change_id y.artifact) id) items
ticket-by_id id [] = refl
ticket-by_id id (item ∷ items) = by item.artifact ∙ ap (λ b. is_name (change_id item.artifact) id || b) (ticket-by_id id items)
  where
    by : (a : Artifact) → list_any (λ f. bytes_eq f.id id) (cons_option (ticket_fact_of item.name a) (ticket_facts items)) ≡ (is_name (change_id a) id || list_any (λ f. bytes_eq f.id id) (ticket_facts items))
    by (kind.Ticket t) = refl
    by (kind.Technote t) = refl
    by kind.Plain = refl
    by (kind.Manifest m) = refl
    by (kind.Cluster c) = refl
    by (kind.Control c) = refl
    by (kind.Wiki w) = refl
    by (kind.Attachment a) = refl
    by (kind.Forum f) = refl

-- there is a greatest where there is some
some-greatest : {X : Type 0} (R : X → X → _) (p : X → Bool) (xs : List X) → is_some (greatest R (filter p xs)) ≡ list_any p xs
some-greatest R p [] = refl
some-greatest R p (x ∷ xs) = elim (p x) as (λ b. is_some (greatest R (cond b (x ∷ filter p xs) (filter p xs))) ≡ (b || list_any p xs)) [ true ↦ front (greatest R (filter p xs)) | false ↦ some-greatest R p xs ]
  where
    front : (o : Option _) → is_some (greater R (Some x) o) ≡ true
    front None = refl
    front (Some y) = refl

is_some-map : {X Y : Type 0} (f : X → Y) (o : Option X) → is_some (option_map f o) ≡ is_some o
is_some-map f None = refl
is_some-map f (Some x) = refl

module _ (items : List Item) (all : All IsItem items) where
  ticket-of : (id : List ℕ) → IsName id → is_ticket items (name_text id) ≡ list_any (λ (y : Item). is_name (change_id y.artifact) id) items
  ticket-of id is = any-text (λ f. f.id) id is (ticket_facts items) (tickets-named items all) ∙ ticket-by_id id items

  note-of : (id : List ℕ) → IsName id → is_note items (name_text id) ≡ is_some (pages.note (pages_facts items) id)
  note-of id is =
      any-text (λ n. n.id) id is (filter_map pages.as_note (pages_facts items)) (notes-named items all)
      ∙ sym (is_some-map (λ n. n.name) (pages.current_note (pages_facts items) id) ∙ some-greatest _ (λ n. bytes_eq n.id id) (filter_map pages.as_note (pages_facts items)))

  -- the kind by what the tables say of the id
  pub kind-is : (attached : Attached) → IsAttachedOf items attached → (id : List ℕ) → IsName id
      → kind_by (is_some (option_and_then (second_of id) (first_of (entries_after pair_cmp (record { first = id; second = None }) attached.changes.entries)))) (is_some (pages.note (pages_facts items) id)) ≡ attachment_kind items (name_text id)
  kind-is attached are id is = λ i. kind_by ((second-some (λ (y : Item). change_id y.artifact) items attached.changes.entries are.changes id ∙ sym (ticket-of id is)) i) (sym (note-of id is) i)

  -- a text that is no id is of the wiki
  pub kind-none : (text : List ℕ) → name_in text ≡ None → attachment_kind items text ≡ row.Wiki
  kind-none text none = λ i.
      kind_by (none-text (λ f. f.id) text none (ticket_facts items) (tickets-named items all) i)
      (none-text (λ n. n.id) text none (filter_map pages.as_note (pages_facts items)) (notes-named items all) i)

-- the target of an attachment, where it is an id and where it isn't
pub target-some : (items : List Item) (a : Artifact) (id : List ℕ) → target_id a ≡ Some id → attachment_kind items (name_text id) ≡ target_kind items a
target-some items (kind.Attachment file) id e = ap (attachment_kind items) (sym (name_from_text file.target id e).1)
target-some items (kind.Manifest w) id e = cc
target-some items kind.Plain id e = cc
target-some items (kind.Cluster w) id e = cc
target-some items (kind.Control w) id e = cc
target-some items (kind.Wiki w) id e = cc
target-some items (kind.Ticket w) id e = cc
target-some items (kind.Technote w) id e = cc
target-some items (kind.Forum w) id e = cc

pub target-none : (items : List Item) → All IsItem items → (a : Artifact) → target_id a ≡ None → row.Wiki ≡ target_kind items a
target-none items all (kind.Attachment file) e = sym (kind-none items all file.target e)
target-none items all (kind.Manifest w) e = refl
target-none items all kind.Plain e = refl
target-none items all (kind.Cluster w) e = refl
target-none items all (kind.Control w) e = refl
target-none items all (kind.Wiki w) e = refl
target-none items all (kind.Ticket w) e = refl
target-none items all (kind.Technote w) e = refl
target-none items all (kind.Forum w) e = refl

-- .. and so the id of an artifact
pub own-kind-is : (items : List Item) (a : Artifact) (o : Option (List ℕ)) → own_id a ≡ o → option_map_or (λ id. attachment_kind items (name_text id)) o row.Wiki ≡ own_kind items a
own-kind-is items a o e = ap (λ o. option_map_or (λ id. attachment_kind items (name_text id)) o row.Wiki) (sym e)

pub own-names-are : (attached : Attached) (a : Artifact) (o : Option (List ℕ)) → own_id a ≡ o → option_map_or (λ id. seconds id attached.targets.entries) o [] ≡ own_names attached a
own-names-are attached a o e = ap (λ o. option_map_or (λ id. seconds id attached.targets.entries) o []) (sym e)
