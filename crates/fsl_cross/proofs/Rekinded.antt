-- Rows of attachments whose kind one artifact more changes.
use Rattle.std.proofs.Common.{◌≡◌, ℕ, ◌<◌, true, false, List, [], ◌∷◌, length, get_or, Option, Some, None, map, refl, sym, ap, ◌∙◌, subst, Result}
use Rattle.std.proofs.lemmas.List.Folds.{list_any_at}
use Rattle.std.specs.Prelude.{option_map, option_and_then, is_some, IfSome, OnOk}
use Rattle.std.specs.Option.{option_map_or}
use Rattle.std.specs.Str.{bytes_eq}
use Rattle.std.specs.Cmp.Lexicographic.{bytes_decides}
use Rattle.fsl_order.specs.Names.{has}
use Rattle.fsl_order.specs.Rows.{by_name, named}
use Rattle.fsl_name.specs.Name.{IsName, name_in, name_text}
use Rattle.fsl_name.proofs.ReadAgain.{name_again, name_from_text}
use Rattle.fsl_table.specs.Pairs.{is_name, seconds}
use Rattle.fsl_forms.specs.declared.attachment.Attachment.{Attachment}
use Rattle.fsl_artifact.specs.declared.Artifact.{Artifact}
use Rattle.fsl_artifact.specs.declared.Artifact.TheVariants as kind
use Rattle.fsl_wiki.specs.Pages as pages
use Rattle.fsl_timeline.specs.declared.Row.{Row}
use Rattle.fsl_timeline.specs.declared.RowKind.{RowKind}
use Rattle.fsl_cross.specs.declared.Item.{Item}
use Rattle.fsl_cross.specs.declared.attached.Attached.{Attached}
use Rattle.fsl_cross.specs.Attached.{target_id}
use Rattle.fsl_cross.specs.Built.{IsAttachedOf}
use Rattle.fsl_cross.specs.Facts.{as_manifest, pages_fact_of, ticket_fact_of, forum_fact_of}
use Rattle.fsl_cross.specs.Inside.{attachment_row, has_ticket, has_note}
use Rattle.fsl_cross.specs.Kinds.{as_attachment, attachment, is_attachment, IsOfKind, AreOfKind, KindsGo, own_id, own_names}
use Rattle.fsl_cross.specs.Mixed.{IsMixture, pushed, rows_mixed, timeline_row}
use Rattle.fsl_cross.specs.Tables.{attachment_kind, without}
use Rattle.fsl_cross.proofs.Moved.{item_name}
use Rattle.fsl_cross.proofs.FactLemmas.{Rise}
use Rattle.fsl_cross.proofs.TableLemmas.{row-own}
use Rattle.fsl_cross.proofs.Mapped.{named-has}
use Rattle.fsl_cross.proofs.Sets.{mixed-same}
use Rattle.fsl_cross.proofs.Gifts.{behind}
use Rattle.fsl_cross.proofs.Pushing.{pushed-out}
use Rattle.fsl_cross.proofs.Going.{goes-stay, goes-put, goes-all-none}
use Rattle.fsl_cross.proofs.Retagged.{rows-next, rows-there}
use Rattle.fsl_cross.proofs.Stays.{row-attachment, row-stays, notes-stay, posts-stay, kind-stays, attachment-stays}
use Rattle.fsl_cross.proofs.Kinded.{second-at}

some_is : {X : Type 0} {a b : X} → Some a ≡ Some b → a ≡ b
some_is e = cc

is_name-some : (o : Option (List ℕ)) (id : List ℕ) → is_name o id ≡ true → o ≡ Some id
is_name-some None id e = cc
is_name-some (Some p) id e = ap Some ((bytes_decides p id).0 e)

-- the target of an attachment
target-of : (a : Artifact) (file : Attachment) → as_attachment a ≡ Some file → target_id a ≡ name_in file.target
target-of (kind.Attachment w) file e = ap (λ (f : Attachment). name_in f.target) (some_is e)
target-of (kind.Manifest w) file e = cc
target-of kind.Plain file e = cc
target-of (kind.Cluster w) file e = cc
target-of (kind.Control w) file e = cc
target-of (kind.Wiki w) file e = cc
target-of (kind.Ticket w) file e = cc
target-of (kind.Technote w) file e = cc
target-of (kind.Forum w) file e = cc

-- the attachment behind a row, of the item of a name
attachment-behind : (items : List Item) (q : List ℕ) (file : Attachment) → attachment items q ≡ Some file → (y : Item) × (named item_name items y.name ≡ Some y) × (y.name ≡ q) × (as_attachment y.artifact ≡ Some file)
attachment-behind items q file is =
    let y = behind (λ (item : Item). as_attachment item.artifact) (named item_name items q) file is in
    let own : y.0.name ≡ q = named-has item_name items q y.0 y.1 in
    (y.0, ap (named item_name items) own ∙ y.1, own, y.2)

row-behind : (what : RowKind) (items : List Item) (q : List ℕ) (r : Row) → option_map (attachment_row what q) (attachment items q) ≡ Some r → (file : Attachment) × (attachment items q ≡ Some file) × (attachment_row what q file ≡ r)
row-behind what items q r is = by (attachment items q) refl is
  where
    by : (o : Option Attachment) → attachment items q ≡ o → option_map (attachment_row what q) o ≡ Some r → (file : Attachment) × (attachment items q ≡ Some file) × (attachment_row what q file ≡ r)
    by None e h = cc
    by (Some file) e h = (file, e, some_is h)

some-of : {X : Type 0} (o : Option X) → is_some o ≡ true → (x : X) × (o ≡ Some x)
some-of None e = cc
some-of (Some x) e = (x, refl)

-- ---- the attachments of an id

-- each has its digits as the target
pub targets-at : (items : List Item) → Rise items → (attached : Attached) → IsAttachedOf items attached → (id q : List ℕ) → has (seconds id attached.targets.entries) q ≡ true → IfSome (attachment items q) (λ file. file.target ≡ name_text id)
targets-at items rise attached are id q there =
    by (named item_name items q) (sym (second-at (λ (y : Item). target_id y.artifact) items rise attached.targets.entries are.targets id q) ∙ there)
  where
    of : (a : Artifact) → is_name (target_id a) id ≡ true → IfSome (as_attachment a) (λ file. file.target ≡ name_text id)
    of (kind.Attachment file) h = (name_from_text file.target id (is_name-some (name_in file.target) id h)).1
    of (kind.Manifest w) h = tt
    of kind.Plain h = tt
    of (kind.Cluster w) h = tt
    of (kind.Control w) h = tt
    of (kind.Wiki w) h = tt
    of (kind.Ticket w) h = tt
    of (kind.Technote w) h = tt
    of (kind.Forum w) h = tt

    by : (o : Option Item) → option_map_or (λ (y : Item). is_name (target_id y.artifact) id) o false ≡ true → IfSome (option_and_then (λ (item : Item). as_attachment item.artifact) o) (λ file. file.target ≡ name_text id)
    by None h = tt
    by (Some y) h = of y.artifact h

if_some-map : {X : Type 0} (P Q : X → Type 0) (o : Option X) → ((x : X) → P x → Q x) → IfSome o P → IfSome o Q
if_some-map P Q None f h = tt
if_some-map P Q (Some x) f h = f x h

-- .. so that they have the kind of the id
pub kinds-at : (items : List Item) → Rise items → (attached : Attached) → IsAttachedOf items attached → (id : List ℕ) (what : RowKind) → what ≡ attachment_kind items (name_text id) → AreOfKind what items (seconds id attached.targets.entries)
kinds-at items rise attached are id what is = λ q there.
    if_some-map (λ file. file.target ≡ name_text id) (λ file. attachment_kind items file.target ≡ what) (attachment items q) (λ file t. ap (attachment_kind items) t ∙ sym is) (targets-at items rise attached are id q there)

module _ (items : List Item) (rise : Rise items) (x : Item) (at : named item_name items x.name ≡ Some x) where
  abbrev n : List ℕ
  n = x.name

  abbrev old : List Item
  old = without x.name items

  -- the row of an attachment is there before
  pub kinds-there : (what : RowKind) (q : List ℕ) (r : Row) (rows : List Row) → option_map (attachment_row what q) (attachment items q) ≡ Some r → IsMixture (rows_mixed items n) rows → has (map (λ r. r.name) rows) r.name ≡ true
  kinds-there what q r rows is m =
      let file = row-behind what items q r is in
      let y = attachment-behind items q file.0 file.1 in
      (λ i. has (map (λ (r : Row). r.name) (m.1 i)) ((ap (λ (r : Row). r.name) (sym file.2) ∙ sym y.2) i))
      ∙ rows-there items rise x at m.0 y.0 y.1 (ap is_some (row-attachment old y.0.name y.0.artifact file.0 y.3)) (ap is_some (row-attachment items y.0.name y.0.artifact file.0 y.3))

  -- its new row is put
  pub kinds-goes : {X E : Type 0} (res : Result X E) (what : RowKind) (q : List ℕ) (r : Row) (before after : List Row) → option_map (attachment_row what q) (attachment items q) ≡ Some r → IsOfKind what items q
      → OnOk res (after ≡ by_name (λ r. r.name) (r ∷ before)) → OnOk res (KindsGo items n (q ∷ []) before after)
  kinds-goes res what q r before after is of put =
      let file = row-behind what items q r is in
      let y = attachment-behind items q file.0 file.1 in
      let same : attachment_kind items file.0.target ≡ what = subst (λ o. IfSome o (λ f. attachment_kind items f.target ≡ what)) file.1 of in
      let row_is : timeline_row items y.0 ≡ Some r
      = row-attachment items y.0.name y.0.artifact file.0 y.3 ∙ (λ i. Some (attachment_row (same i) (y.2 i) file.0)) ∙ ap Some file.2 in
      goes-put (rows_mixed items n) (is_attachment items) res (λ rs. by_name (λ (r : Row). r.name) (r ∷ rs)) q before after (ap is_some file.1)
      (λ done. subst (λ p. rows_mixed items n (p ∷ done) ≡ by_name (λ (r : Row). r.name) (r ∷ rows_mixed items n done)) y.2 (rows-next items rise x at done y.0 r y.1 row_is)) put

  -- a name that is no attachment's
  pub kinds-goes-none : (q : List ℕ) (rows : List Row) → attachment items q ≡ None → KindsGo items n (q ∷ []) rows rows
  kinds-goes-none q rows none = goes-stay (rows_mixed items n) (is_attachment items) q rows (ap is_some none)

  -- where the kind of the id is what it was, their rows are what they were
  pub kinds-same : (attached : Attached) → IsAttachedOf items attached → (id : List ℕ) → attachment_kind items (name_text id) ≡ attachment_kind old (name_text id) → (rows : List Row) → KindsGo items n (seconds id attached.targets.entries) rows rows
  kinds-same attached are id same rows =
      goes-all-none (rows_mixed items n) (is_attachment items) (seconds id attached.targets.entries) rows
      (λ q there is done.
      let file = some-of (attachment items q) is in
      let y = attachment-behind items q file.0 file.1 in
      let target : file.0.target ≡ name_text id = subst (λ o. IfSome o (λ f. f.target ≡ name_text id)) file.1 (targets-at items rise attached are id q there) in
      let stays : timeline_row items y.0 ≡ timeline_row old y.0
      = attachment-stays items rise x at y.0.name y.0.artifact file.0 y.3 (ap (attachment_kind items) target ∙ same ∙ sym (ap (attachment_kind old) target)) in
      subst (λ p. rows_mixed items n (p ∷ done) ≡ rows_mixed items n done) y.2
      (mixed-same item_name (λ (r : Row). r.name) (timeline_row old) (timeline_row items) (row-own old) (row-own items) items rise done y.0 y.1 stays))

  -- ---- at the end

  -- an artifact gives no ticket and no technote of another id
  own-elsewhere : (name : List ℕ) (a : Artifact) (id text : List ℕ) → own_id a ≡ Some id → bytes_eq (name_text id) text ≡ false
      → (option_map_or (λ f. bytes_eq (name_text f.id) text) (ticket_fact_of name a) false ≡ false) × (option_map_or (λ n. bytes_eq (name_text n.id) text) (option_and_then pages.as_note (pages_fact_of name a)) false ≡ false)
  own-elsewhere name (kind.Ticket t) id text own apart = (ap (λ i. bytes_eq (name_text i) text) (some_is own) ∙ apart, refl)
  own-elsewhere name (kind.Technote t) id text own apart = (refl, ap (λ i. bytes_eq (name_text i) text) (some_is own) ∙ apart)
  own-elsewhere name kind.Plain id text own apart = (refl, refl)
  own-elsewhere name (kind.Manifest w) id text own apart = (refl, refl)
  own-elsewhere name (kind.Cluster w) id text own apart = (refl, refl)
  own-elsewhere name (kind.Control w) id text own apart = (refl, refl)
  own-elsewhere name (kind.Wiki w) id text own apart = (refl, refl)
  own-elsewhere name (kind.Attachment w) id text own apart = (refl, refl)
  own-elsewhere name (kind.Forum w) id text own apart = (refl, refl)

  -- the row of an attachment that isn't done stays
  pub attachment-kept : (attached : Attached) → IsAttachedOf items attached → (id : List ℕ) → IsName id → own_id x.artifact ≡ Some id → (done : List (List ℕ)) (y : Item) (file : Attachment)
      → named item_name items y.name ≡ Some y → as_attachment y.artifact ≡ Some file → has (pushed (is_attachment items) (own_names attached x.artifact) done) y.name ≡ false → timeline_row items y ≡ timeline_row old y
  attachment-kept attached are id named_id own done y file found is out =
      attachment-stays items rise x at y.name y.artifact file is (kind-stays items rise x at file.target elsewhere.0 elsewhere.1)
    where
      attaches : is_attachment items y.name ≡ true
      attaches = ap is_some (ap (option_and_then (λ (item : Item). as_attachment item.artifact)) found ∙ is)

      unlisted : has (seconds id attached.targets.entries) y.name ≡ false
      unlisted = ap (λ o. has (option_map_or (λ i. seconds i attached.targets.entries) o []) y.name) (sym own) ∙ pushed-out (is_attachment items) (own_names attached x.artifact) done y.name out attaches

      untold : is_name (name_in file.target) id ≡ false
      untold =
          ap (λ o. is_name o id) (sym (target-of y.artifact file is))
          ∙ ap (λ o. option_map_or (λ (z : Item). is_name (target_id z.artifact) id) o false) (sym found)
          ∙ sym (second-at (λ (z : Item). target_id z.artifact) items rise attached.targets.entries are.targets id y.name) ∙ unlisted

      apart : bytes_eq (name_text id) file.target ≡ false
      apart =
          elim (bytes_eq (name_text id) file.target) as (λ b. bytes_eq (name_text id) file.target ≡ b → b ≡ false) [
            | true ↦ λ t. let there : is_name (name_in file.target) id ≡ true
                = ap (λ o. is_name o id) (sym (ap name_in ((bytes_decides (name_text id) file.target).0 t)) ∙ name_again id named_id) ∙ (bytes_decides id id).1 refl in
                let no : true ≡ false = sym there ∙ untold in cc
            | false ↦ λ t. refl
          ] refl

      elsewhere : (has_ticket x file.target ≡ false) × (has_note x file.target ≡ false)
      elsewhere = own-elsewhere x.name x.artifact id file.target own apart

  -- where the new artifact is a ticket change, so do all others
  pub ticket-kept : (attached : Attached) → IsAttachedOf items attached → (id : List ℕ) → IsName id → own_id x.artifact ≡ Some id → option_and_then pages.as_note (pages_fact_of x.name x.artifact) ≡ None → forum_fact_of x.name x.artifact ≡ None
      → (done : List (List ℕ)) (y : Item) → named item_name items y.name ≡ Some y → has (pushed (is_attachment items) (own_names attached x.artifact) done) y.name ≡ false → as_manifest y.artifact ≡ None → timeline_row items y ≡ timeline_row old y
  ticket-kept attached are id named_id own no_note no_post done y found out none =
      elim (as_attachment y.artifact) as (λ o. as_attachment y.artifact ≡ o → timeline_row items y ≡ timeline_row old y) [
        | Some file ↦ λ is. attachment-kept attached are id named_id own done y file found is out
        | None ↦ λ is. row-stays items old (notes-stay items rise x at no_note) (posts-stay items rise x at no_post) y.name y.artifact none is
      ] refl

-- a name that stands in a list is one of it
pub has-place : (names : List (List ℕ)) (i : ℕ) (name : List ℕ) → i < length names → name ≡ get_or names i name → has names name ≡ true
has-place names i name lt is = list_any_at (bytes_eq name) names i name lt (ap (bytes_eq name) (sym is) ∙ (bytes_decides name name).1 refl)
