-- Scrubbed records leave what the records leave, and are a repository's records.
use Rattle.std.proofs.Common.{◌≡◌, inl, inr, ℕ, Bool, true, false, cond, List, [], ◌∷◌, ◌++◌, length, map, Option, Some, None, refl, sym, ap, subst, ◌∙◌, not, append_assoc, length-append, ◌<◌, ◌≤◌, ◌⊎◌, arith}
use Rattle.std.specs.Prelude.{◌^◌, ◌&&◌, ◌||◌, IfSome, is_some, fold, filter_map, option_map, option_to_list}
use Rattle.std.specs.List.{AllByRecursion, cons_option, list_all, list_any}
use Rattle.std.specs.Option.{option_map_or, option_or}
use Rattle.std.specs.Ordering.{is_eq}
use Rattle.std.specs.Str.{bytes_eq}
use Rattle.std.specs.Cmp.{tied_itself}
use Rattle.std.specs.Cmp.Lexicographic.{bytes_decides, texts_ties}
use Rattle.std.specs.FinMap as map_of
use Rattle.std.specs.FinMap.{FinMap}
use Rattle.std.specs.FinSet as set
use Rattle.std.specs.FinSet.{FinSet}
use Rattle.std.specs.Int.{to_be_bytes, w64}
use Rattle.std.proofs.lemmas.Bool.{and_parts}
use Rattle.fsl_order.specs.Names.{bytes_cmp, has}
use Rattle.fsl_order.specs.Rows.{ascending}
use Rattle.fsl_order.proofs.Orders.{bytes_cmp-IsTotalOrder, bytes_cmp-IsAntisymmetric}
use Rattle.fsl_order.proofs.AscendingLemmas.{has-ascending}
use Rattle.fsl_text.specs.Limits.{most_of_artifact}
use Rattle.fsl_name.specs.Name.{name_of}
use Rattle.fsl_record.specs.Receipts.{Brought, IsReceiptOr}
use Rattle.fsl_record.specs.declared.Config.{Config}
use Rattle.fsl_record.specs.declared.Record.{Record}
use Rattle.fsl_record.specs.declared.Record.TheVariants as record_of
use Rattle.fsl_record.specs.Records.{AreRecords, IsFit, is_config, records_bytes}
use Rattle.fsl_journal.specs.File.{IsFileOf, group_bytes, header, mark_2}
use Rattle.fsl_blobs.specs.Fold.{Held, HeldSet, Contents, contents, nothing, after, received, is_new, held_from}
use Rattle.fsl_blobs.specs.Kept.{is_same}
use Rattle.fsl_blobs.proofs.KeptLemmas.{is_same-means, shown, turned, blob-get, blob-shunned, blob-receipts, publish-get, publish-shunned, shun-get, shun-shunned, shun-receipts, unshun-shunned}
use Rattle.fsl_blobs.proofs.ShunnedNames.{shunned_are_not_held}
use Rattle.fsl_journal.proofs.Unique.{one_file}
use Rattle.fsl_repo.specs.Machine.{AreItems}
use Rattle.fsl_repo.proofs.OneList.{are_one_list}
use Rattle.fsl_repo.proofs.Placings.{all_held}
use Rattle.fsl_scrub.specs.Closing.{MomentsStand, UnopenedOr}
use Rattle.fsl_scrub.specs.Scrubbed.{FoldsAlike, LoadsAlike, ScrubbedAreRecords, blob_of, blobs_of, file_text, scrubbed, shuns_of}
use Rattle.fsl_scrub.proofs.ScrubbedLemmas.{unopened_none, whole_stands}

abbrev Pair : Type 0
Pair = ℕ × List ℕ

fold_parts : (c : Contents) (xs ys : List Record) → fold after c (xs ++ ys) ≡ fold after (fold after c xs) ys
fold_parts c [] ys = refl
fold_parts c (x ∷ xs) ys = fold_parts (after c x) xs ys

-- ---- the Config alone

abbrev configured : Option Config → Contents
configured o = record { config = o; held = map_of.empty; receipts = map_of.empty; shunned = set.empty }

first_part : (o : Option Config) → fold after nothing (option_to_list (option_map record_of.Config o)) ≡ configured o
first_part None = refl
first_part (Some config) = refl

-- ---- receipts stand by held names alone

abbrev AreReceipted : Contents → Type 0
AreReceipted c = (name : List ℕ) → map_of.get c.held name ≡ None → map_of.get c.receipts name ≡ None

pub published_receipts : (c : Contents) (name : List ℕ) → (after c (record_of.Publish name)).receipts ≡ c.receipts
published_receipts c name =
    elim (map_of.get c.held name) as (λ o. (option_map_or (λ (a : Held). record c { held = map_of.insert c.held name (record a { private = false }) }) o c).receipts ≡ c.receipts) [ None ↦ refl | Some a ↦ refl ]

new_none : (o : Option Held) (s : Bool) → not (is_some o || s) ≡ true → o ≡ None
new_none None s e = refl
new_none (Some a) s e = absurd cc

shown_none : (name q : List ℕ) (o : Option Held) → option_map (shown name q) o ≡ None → o ≡ None
shown_none name q None e = refl
shown_none name q (Some a) e = absurd cc

receipted_blob : (b : Bool) (a : Held) (o : Option Held) (receipt r : Option Brought) → (o ≡ None → r ≡ None) → cond b (Some a) o ≡ None → cond b receipt r ≡ None
receipted_blob true a o receipt r h e = absurd cc
receipted_blob false a o receipt r h e = h e

receipted_shun : (b : Bool) (o : Option Held) (r : Option Brought) → (o ≡ None → r ≡ None) → cond b None o ≡ None → cond b None r ≡ None
receipted_shun true o r h e = refl
receipted_shun false o r h e = h e

receipted_after : (c : Contents) (r : Record) → AreReceipted c → AreReceipted (after c r)
receipted_after c (record_of.Config config) h = h
receipted_after c (record_of.Blob private name receipt bytes) h = λ q e.
    blob-receipts c name private receipt bytes q (λ new. h name (new_none (map_of.get c.held name) (set.contains c.shunned name) new))
    ∙ receipted_blob (is_same name q && is_new c name) (record { private = private; bytes = bytes }) (map_of.get c.held q) receipt (map_of.get c.receipts q) (h q) (sym (blob-get c name private receipt bytes q) ∙ e)
receipted_after c (record_of.Publish name) h = λ q e.
    ap (λ (m : FinMap bytes_cmp Brought). map_of.get m q) (published_receipts c name) ∙ h q (shown_none name q (map_of.get c.held q) (sym (publish-get c name q) ∙ e))
receipted_after c (record_of.Shun name) h = λ q e.
    shun-receipts c name q ∙ receipted_shun (is_same name q) (map_of.get c.held q) (map_of.get c.receipts q) (h q) (sym (shun-get c name q) ∙ e)
receipted_after c (record_of.Unshun name) h = h

receipted_fold : (records : List Record) (c : Contents) → AreReceipted c → AreReceipted (fold after c records)
receipted_fold [] c h = h
receipted_fold (r ∷ records) c h = receipted_fold records (after c r) (receipted_after c r h)

all_receipted : (records : List Record) → AreReceipted (contents records)
all_receipted records = receipted_fold records nothing (λ q _. map_of.get-empty bytes_cmp q)

-- ---- the Blobs of held names

or_false : {A : Type 0} (b : Bool) (o : Option A) → cond b o None ≡ cond (b || false) o None
or_false true o = refl
or_false false o = refl

none_either : {A : Type 0} (b : Bool) → cond {A = Option A} b None None ≡ None
none_either true = refl
none_either false = refl

regrouped : {A : Type 0} (a b c : Bool) (o : Option A) → cond ((a || b) || c) o None ≡ cond (a || (b || c)) o None
regrouped true b c o = refl
regrouped false b c o = refl

settled : (b : Bool) (o h : Option Held) (a : Held) → h ≡ Some a → o ≡ cond b h None → cond (not (is_some o || false)) (Some a) o ≡ cond (b || true) h None
settled true o h a there was = ap (λ (x : Option Held). cond (not (is_some x || false)) (Some a) x) (was ∙ there) ∙ sym there
settled false o h a there was = ap (λ (x : Option Held). cond (not (is_some x || false)) (Some a) x) was ∙ sym there

-- the receipt of an artifact that is added where it wasn't, and that of one that was
brought : (b : Bool) (o h : Option Held) (a : Held) (due r : Option Brought) → h ≡ Some a → o ≡ cond b h None → r ≡ cond b due None → cond (not (is_some o || false)) due r ≡ cond (b || true) due None
brought true o h a due r there was had = ap (λ (x : Option Held). cond (not (is_some x || false)) due r) (was ∙ there) ∙ had
brought false o h a due r there was had = ap (λ (x : Option Held). cond (not (is_some x || false)) due r) was

pub blobbing_config : (c : Contents) (private : Bool) (name : List ℕ) (receipt : Option Brought) (bytes : List ℕ) → (after c (record_of.Blob private name receipt bytes)).config ≡ c.config
blobbing_config c private name receipt bytes =
    elim (is_new c name) as (λ b. (cond b (record c { held = map_of.insert c.held name (record { private = private; bytes = bytes }); receipts = received c.receipts name receipt }) c).config ≡ c.config) [ true ↦ refl | false ↦ refl ]

module _ (s : Contents) where
  abbrev held : HeldSet
  held = s.held

  abbrev receipt_at : List ℕ → Option Brought
  receipt_at name = map_of.get s.receipts name

  abbrev blobs : List Pair → List Record
  blobs ps = filter_map (λ (p : Pair). blob_of s p.1) ps

  abbrev blobs_on : Option Held → Pair → List Pair → List Record
  blobs_on o p ps = cons_option (option_map (λ (a : Held). record_of.Blob a.private p.1 (map_of.get s.receipts p.1) a.bytes) o) (blobs ps)

  blobs_config : (ps : List Pair) (c : Contents) → (fold after c (blobs ps)).config ≡ c.config
  blobs_config [] c = refl
  blobs_config (p ∷ ps) c =
      elim (map_of.get s.held p.1) as (λ o. (fold after c (blobs_on o p ps)).config ≡ c.config) [
        | None ↦ blobs_config ps c
        | Some a ↦ blobs_config ps (after c (record_of.Blob a.private p.1 (receipt_at p.1) a.bytes)) ∙ blobbing_config c a.private p.1 (receipt_at p.1) a.bytes
      ]

  blobs_shunned : (ps : List Pair) (c : Contents) → (fold after c (blobs ps)).shunned ≡ c.shunned
  blobs_shunned [] c = refl
  blobs_shunned (p ∷ ps) c =
      elim (map_of.get s.held p.1) as (λ o. (fold after c (blobs_on o p ps)).shunned ≡ c.shunned) [
        | None ↦ blobs_shunned ps c
        | Some a ↦ blobs_shunned ps (after c (record_of.Blob a.private p.1 (receipt_at p.1) a.bytes)) ∙ blob-shunned c p.1 a.private (receipt_at p.1) a.bytes
      ]

  module _ (q : List ℕ) where
    abbrev is_it : Pair → Bool
    is_it p = bytes_eq p.1 q

    one_blob : (c : Contents) (name : List ℕ) (a : Held) (b : Bool) → set.contains c.shunned q ≡ false → map_of.get held name ≡ Some a
        → map_of.get c.held q ≡ cond b (map_of.get held q) None → map_of.get (after c (record_of.Blob a.private name (receipt_at name) a.bytes)).held q ≡ cond (b || bytes_eq name q) (map_of.get held q) None
    one_blob c name a b free is was =
        blob-get c name a.private (receipt_at name) a.bytes q
        ∙ ap (λ (t : Bool). cond (t && is_new c name) (Some a) (map_of.get c.held q)) (sym (texts_ties name q))
        ∙ elim (bytes_eq name q) as (λ t. bytes_eq name q ≡ t → cond (t && is_new c name) (Some a) (map_of.get c.held q) ≡ cond (b || t) (map_of.get held q) None) [
          | true ↦ λ e.
              let one : name ≡ q = (bytes_decides name q).0 e in
              let there : map_of.get held q ≡ Some a = subst (λ (x : List ℕ). map_of.get held x ≡ Some a) one is in
              ap (λ (x : List ℕ). cond (is_new c x) (Some a) (map_of.get c.held q)) one
              ∙ ap (λ (s : Bool). cond (not (is_some (map_of.get c.held q) || s)) (Some a) (map_of.get c.held q)) free
              ∙ settled b (map_of.get c.held q) (map_of.get held q) a there was
          | false ↦ λ _. was ∙ or_false b (map_of.get held q)
        ] refl

    one_receipt : (c : Contents) (name : List ℕ) (a : Held) (b : Bool) → AreReceipted c → set.contains c.shunned q ≡ false → map_of.get held name ≡ Some a
        → map_of.get c.held q ≡ cond b (map_of.get held q) None → map_of.get c.receipts q ≡ cond b (receipt_at q) None
        → map_of.get (after c (record_of.Blob a.private name (receipt_at name) a.bytes)).receipts q ≡ cond (b || bytes_eq name q) (receipt_at q) None
    one_receipt c name a b fits free is was had =
        blob-receipts c name a.private (receipt_at name) a.bytes q (λ new. fits name (new_none (map_of.get c.held name) (set.contains c.shunned name) new))
        ∙ ap (λ (t : Bool). cond (t && is_new c name) (receipt_at name) (map_of.get c.receipts q)) (sym (texts_ties name q))
        ∙ elim (bytes_eq name q) as (λ t. bytes_eq name q ≡ t → cond (t && is_new c name) (receipt_at name) (map_of.get c.receipts q) ≡ cond (b || t) (receipt_at q) None) [
          | true ↦ λ e.
              let one : name ≡ q = (bytes_decides name q).0 e in
              let there : map_of.get held q ≡ Some a = subst (λ (x : List ℕ). map_of.get held x ≡ Some a) one is in
              ap (λ (x : List ℕ). cond (is_new c x) (receipt_at x) (map_of.get c.receipts q)) one
              ∙ ap (λ (s : Bool). cond (not (is_some (map_of.get c.held q) || s)) (receipt_at q) (map_of.get c.receipts q)) free
              ∙ brought b (map_of.get c.held q) (map_of.get held q) a (receipt_at q) (map_of.get c.receipts q) there was had
          | false ↦ λ _. had ∙ or_false b (receipt_at q)
        ] refl

    -- where a name has nothing there is nothing more of it
    no_more : {A : Type 0} (m : List ℕ → Option A) (name : List ℕ) (b : Bool) (o : Option A) → m name ≡ None → o ≡ cond b (m q) None → o ≡ cond (b || bytes_eq name q) (m q) None
    no_more m name b o none was =
        was
        ∙ elim (bytes_eq name q) as (λ t. bytes_eq name q ≡ t → cond b (m q) None ≡ cond (b || t) (m q) None) [
          | true ↦ λ e.
              let absent : m q ≡ None = subst (λ (x : List ℕ). m x ≡ None) ((bytes_decides name q).0 e) none in
              ap (λ x. cond b x None) absent ∙ none_either b ∙ sym (ap (λ x. cond (b || true) x None) absent ∙ none_either (b || true))
          | false ↦ λ _. or_false b (m q)
        ] refl

    blobs_get : (ps : List Pair) (c : Contents) (b : Bool) → set.contains c.shunned q ≡ false → map_of.get c.held q ≡ cond b (map_of.get held q) None
        → map_of.get (fold after c (blobs ps)).held q ≡ cond (b || list_any is_it ps) (map_of.get held q) None
    blobs_get [] c b free was = was ∙ or_false b (map_of.get held q)
    blobs_get (p ∷ ps) c b free was =
        elim (map_of.get held p.1) as (λ o. map_of.get held p.1 ≡ o → map_of.get (fold after c (blobs_on o p ps)).held q ≡ cond (b || (is_it p || list_any is_it ps)) (map_of.get held q) None) [
          | None ↦ λ is. blobs_get ps c (b || is_it p) free (no_more (λ (x : List ℕ). map_of.get held x) p.1 b (map_of.get c.held q) is was) ∙ regrouped b (is_it p) (list_any is_it ps) (map_of.get held q)
          | Some a ↦ λ is.
              blobs_get ps (after c (record_of.Blob a.private p.1 (receipt_at p.1) a.bytes)) (b || is_it p)
              (ap (λ (s : FinSet bytes_cmp). set.contains s q) (blob-shunned c p.1 a.private (receipt_at p.1) a.bytes) ∙ free) (one_blob c p.1 a b free is was)
              ∙ regrouped b (is_it p) (list_any is_it ps) (map_of.get held q)
        ] refl

    blobs_receipts : AreReceipted s → (ps : List Pair) (c : Contents) (b : Bool) → AreReceipted c → set.contains c.shunned q ≡ false → map_of.get c.held q ≡ cond b (map_of.get held q) None
        → map_of.get c.receipts q ≡ cond b (receipt_at q) None → map_of.get (fold after c (blobs ps)).receipts q ≡ cond (b || list_any is_it ps) (receipt_at q) None
    blobs_receipts all [] c b fits free was had = had ∙ or_false b (receipt_at q)
    blobs_receipts all (p ∷ ps) c b fits free was had =
        elim (map_of.get held p.1) as (λ o. map_of.get held p.1 ≡ o → map_of.get (fold after c (blobs_on o p ps)).receipts q ≡ cond (b || (is_it p || list_any is_it ps)) (receipt_at q) None) [
          | None ↦ λ is.
              blobs_receipts all ps c (b || is_it p) fits free (no_more (λ (x : List ℕ). map_of.get held x) p.1 b (map_of.get c.held q) is was) (no_more receipt_at p.1 b (map_of.get c.receipts q) (all p.1 is) had)
              ∙ regrouped b (is_it p) (list_any is_it ps) (receipt_at q)
          | Some a ↦ λ is.
              blobs_receipts all ps (after c (record_of.Blob a.private p.1 (receipt_at p.1) a.bytes)) (b || is_it p) (receipted_after c (record_of.Blob a.private p.1 (receipt_at p.1) a.bytes) fits)
              (ap (λ (s : FinSet bytes_cmp). set.contains s q) (blob-shunned c p.1 a.private (receipt_at p.1) a.bytes) ∙ free) (one_blob c p.1 a b free is was) (one_receipt c p.1 a b fits free is was had)
              ∙ regrouped b (is_it p) (list_any is_it ps) (receipt_at q)
        ] refl

-- ---- the Shuns

none_once : {A : Type 0} (a b : Bool) (o : Option A) → cond b None (cond a None o) ≡ cond (a || b) None o
none_once true true o = refl
none_once true false o = refl
none_once false b o = refl

or_moved : (a b c : Bool) → (b || (a || c)) ≡ ((a || b) || c)
or_moved true true c = refl
or_moved true false c = refl
or_moved false b c = refl

told_same : (name q : List ℕ) → is_same name q ≡ bytes_eq q name
told_same name q = turned name q ∙ sym (texts_ties q name)

shuns_config : (names : List (List ℕ)) (c : Contents) → (fold after c (map record_of.Shun names)).config ≡ c.config
shuns_config [] c = refl
shuns_config (n ∷ names) c = shuns_config names (after c (record_of.Shun n))

shuns_get : (q : List ℕ) (names : List (List ℕ)) (c : Contents) → map_of.get (fold after c (map record_of.Shun names)).held q ≡ cond (has names q) None (map_of.get c.held q)
shuns_get q [] c = refl
shuns_get q (n ∷ names) c =
    shuns_get q names (after c (record_of.Shun n))
    ∙ ap (cond (has names q) None) (shun-get c n q ∙ ap (λ (b : Bool). cond b None (map_of.get c.held q)) (told_same n q))
    ∙ none_once (bytes_eq q n) (has names q) (map_of.get c.held q)

shuns_receipts : (q : List ℕ) (names : List (List ℕ)) (c : Contents) → map_of.get (fold after c (map record_of.Shun names)).receipts q ≡ cond (has names q) None (map_of.get c.receipts q)
shuns_receipts q [] c = refl
shuns_receipts q (n ∷ names) c =
    shuns_receipts q names (after c (record_of.Shun n))
    ∙ ap (cond (has names q) None) (shun-receipts c n q ∙ ap (λ (b : Bool). cond b None (map_of.get c.receipts q)) (told_same n q))
    ∙ none_once (bytes_eq q n) (has names q) (map_of.get c.receipts q)

shuns_shunned : (q : List ℕ) (names : List (List ℕ)) (c : Contents) → set.contains (fold after c (map record_of.Shun names)).shunned q ≡ (has names q || set.contains c.shunned q)
shuns_shunned q [] c = refl
shuns_shunned q (n ∷ names) c =
    shuns_shunned q names (after c (record_of.Shun n))
    ∙ ap (λ (b : Bool). has names q || b) (shun-shunned c n q ∙ ap (λ (b : Bool). b || set.contains c.shunned q) (told_same n q))
    ∙ or_moved (bytes_eq q n) (has names q) (set.contains c.shunned q)

-- ---- they leave the same

listed : (all : FinSet bytes_cmp) (q : List ℕ) → has (ascending (set.items all)) q ≡ set.contains all q
listed all q = has-ascending (set.items all) q ∙ (λ i. list_any (λ k. texts_ties q k i) (set.items all)) ∙ sym (set.contains-items all q)

module _ (records : List Record) where
  abbrev c : Contents
  c = contents records

  abbrev names : List (List ℕ)
  names = ascending (set.items c.shunned)

  -- what the Config and the Blobs leave
  abbrev d : Contents
  d = fold after (configured c.config) (blobs_of records)

  by_parts : contents (scrubbed records) ≡ fold after d (shuns_of records)
  by_parts =
      let first = option_to_list (option_map record_of.Config c.config) in
      fold_parts nothing (first ++ blobs_of records) (shuns_of records)
      ∙ ap (λ (x : Contents). fold after x (shuns_of records))
      (fold_parts nothing first (blobs_of records) ∙ ap (λ (x : Contents). fold after x (blobs_of records)) (first_part c.config))

  blobs_leave : (q : List ℕ) → map_of.get d.held q ≡ map_of.get c.held q
  blobs_leave q =
      blobs_get c q (held_from records 0) (configured c.config) false (set.contains-empty bytes_cmp q) (map_of.get-empty bytes_cmp q)
      ∙ elim (map_of.get c.held q) as (λ o. map_of.get c.held q ≡ o → cond (list_any (is_it c q) (held_from records 0)) o None ≡ o) [
        | None ↦ λ _. none_either (list_any (is_it c q) (held_from records 0))
        | Some a ↦ λ is. ap (λ (b : Bool). cond b (Some a) None) (all_held records q (ap is_some is))
      ] refl

  same_held : (q : List ℕ) → map_of.get (fold after d (shuns_of records)).held q ≡ map_of.get c.held q
  same_held q =
      shuns_get q names d ∙ ap (cond (has names q) None) (blobs_leave q)
      ∙ elim (has names q) as (λ b. has names q ≡ b → cond b None (map_of.get c.held q) ≡ map_of.get c.held q) [
        | true ↦ λ e. sym (shunned_are_not_held records q (sym (listed c.shunned q) ∙ e))
        | false ↦ λ _. refl
      ] refl

  receipts_leave : (q : List ℕ) → map_of.get d.receipts q ≡ map_of.get c.receipts q
  receipts_leave q =
      blobs_receipts c q (all_receipted records) (held_from records 0) (configured c.config) false (λ n _. map_of.get-empty bytes_cmp n) (set.contains-empty bytes_cmp q) (map_of.get-empty bytes_cmp q) (map_of.get-empty bytes_cmp q)
      ∙ elim (map_of.get c.held q) as (λ o. map_of.get c.held q ≡ o → cond (list_any (is_it c q) (held_from records 0)) (map_of.get c.receipts q) None ≡ map_of.get c.receipts q) [
        | None ↦ λ is.
            let none = all_receipted records q is in
            ap (λ (x : Option Brought). cond (list_any (is_it c q) (held_from records 0)) x None) none ∙ none_either (list_any (is_it c q) (held_from records 0)) ∙ sym none
        | Some a ↦ λ is. ap (λ (b : Bool). cond b (map_of.get c.receipts q) None) (all_held records q (ap is_some is))
      ] refl

  same_receipts : (q : List ℕ) → map_of.get (fold after d (shuns_of records)).receipts q ≡ map_of.get c.receipts q
  same_receipts q =
      shuns_receipts q names d ∙ ap (cond (has names q) None) (receipts_leave q)
      ∙ elim (has names q) as (λ b. has names q ≡ b → cond b None (map_of.get c.receipts q) ≡ map_of.get c.receipts q) [
        | true ↦ λ e. sym (all_receipted records q (shunned_are_not_held records q (sym (listed c.shunned q) ∙ e)))
        | false ↦ λ _. refl
      ] refl

  or_none : (b : Bool) → (b || false) ≡ b
  or_none true = refl
  or_none false = refl

  same_shunned : (q : List ℕ) → set.contains (fold after d (shuns_of records)).shunned q ≡ set.contains c.shunned q
  same_shunned q =
      shuns_shunned q names d
      ∙ ap (λ (s : FinSet bytes_cmp). has names q || set.contains s q) (blobs_shunned c (held_from records 0) (configured c.config))
      ∙ ap (λ (b : Bool). has names q || b) (set.contains-empty bytes_cmp q)
      ∙ or_none (has names q) ∙ listed c.shunned q

pub folds_alike : FoldsAlike
folds_alike records =
    let e : Contents = fold after (d records) (shuns_of records) in
    let config : e.config ≡ (contents records).config = shuns_config (names records) (d records) ∙ blobs_config (contents records) (held_from records 0) (configured (contents records).config) in
    let held : e.held ≡ (contents records).held = map_of.same_map bytes_cmp-IsTotalOrder bytes_cmp-IsAntisymmetric e.held (contents records).held (same_held records) in
    let shunned : e.shunned ≡ (contents records).shunned = set.same_set bytes_cmp-IsTotalOrder bytes_cmp-IsAntisymmetric e.shunned (contents records).shunned (same_shunned records) in
    let receipts : e.receipts ≡ (contents records).receipts = map_of.same_map bytes_cmp-IsTotalOrder bytes_cmp-IsAntisymmetric e.receipts (contents records).receipts (same_receipts records) in
    by_parts records ∙ (λ i. record { config = config i; held = held i; receipts = receipts i; shunned = shunned i })

-- ---- each is fit

-- what is kept can be written again
abbrev FitHeld : List ℕ → Option Held → Type 0
FitHeld name o = IfSome o (λ a. (length name ≡ 20) × ((name ≡ name_of a.bytes) × (length a.bytes ≤ most_of_artifact)))

record CanWrite (c : Contents) : Type 0 where
  config : IfSome c.config (λ config. IsFit (record_of.Config config))
  held : (name : List ℕ) → FitHeld name (map_of.get c.held name)
  receipts : (name : List ℕ) → IsReceiptOr (map_of.get c.receipts name)
  shunned : (name : List ℕ) → set.contains c.shunned name ≡ true → length name ≡ 20

fit_shown : (name q : List ℕ) (o : Option Held) → FitHeld q o → FitHeld q (option_map (shown name q) o)
fit_shown name q None h = tt
fit_shown name q (Some a) h = elim (is_same name q) as (λ b. FitHeld q (Some (cond b (record a { private = false }) a))) [ true ↦ h | false ↦ h ]

fit_less : (b : Bool) (q : List ℕ) (o : Option Held) → FitHeld q o → FitHeld q (cond b None o)
fit_less true q o h = tt
fit_less false q o h = h

receipt_less : (b : Bool) (o : Option Brought) → IsReceiptOr o → IsReceiptOr (cond b None o)
receipt_less true o h = tt
receipt_less false o h = h

receipt_either : (b : Bool) (a o : Option Brought) → IsReceiptOr a → IsReceiptOr o → IsReceiptOr (cond b a o)
receipt_either true a o g h = g
receipt_either false a o g h = h

receipt_more : (m : FinMap bytes_cmp Brought) (name q : List ℕ) (receipt : Option Brought) → IsReceiptOr receipt → IsReceiptOr (map_of.get m q) → IsReceiptOr (map_of.get (received m name receipt) q)
receipt_more m name q None fit h = h
receipt_more m name q (Some r) fit h = subst IsReceiptOr (sym (map_of.get-insert bytes_cmp-IsTotalOrder m name r q)) (receipt_either (is_same q name) (Some r) (map_of.get m q) fit h)

receipts_on : (c : Contents) (private : Bool) (name : List ℕ) (receipt : Option Brought) (bytes q : List ℕ) → IsReceiptOr receipt → IsReceiptOr (map_of.get c.receipts q) → IsReceiptOr (map_of.get (after c (record_of.Blob private name receipt bytes)).receipts q)
receipts_on c private name receipt bytes q fit h =
    elim (is_new c name) as (λ b. IsReceiptOr (map_of.get (cond b (record c { held = map_of.insert c.held name (record { private = private; bytes = bytes }); receipts = received c.receipts name receipt }) c).receipts q)) [
      | true ↦ receipt_more c.receipts name q receipt fit h
      | false ↦ h
    ]

fit_config : (o : Option Config) (config : Config) → IsFit (record_of.Config config) → IfSome o (λ config. IsFit (record_of.Config config)) → IfSome (option_or o (Some config)) (λ config. IsFit (record_of.Config config))
fit_config None config fit h = fit
fit_config (Some first) config fit h = h

pub published_config : (c : Contents) (name : List ℕ) → (after c (record_of.Publish name)).config ≡ c.config
published_config c name =
    elim (map_of.get c.held name) as (λ o. (option_map_or (λ (a : Held). record c { held = map_of.insert c.held name (record a { private = false }) }) o c).config ≡ c.config) [ None ↦ refl | Some a ↦ refl ]

abbrev FitConfig : Option Config → Type 0
FitConfig o = IfSome o (λ config. IsFit (record_of.Config config))

write_after : (c : Contents) (r : Record) → IsFit r → CanWrite c → CanWrite (after c r)
write_after c (record_of.Config config) fit h = record { config = fit_config c.config config fit h.config; held = h.held; receipts = h.receipts; shunned = h.shunned }
write_after c (record_of.Blob private name receipt bytes) fit h = record {
  config = subst FitConfig (sym (blobbing_config c private name receipt bytes)) h.config;
  held = λ q.
      subst (FitHeld q) (sym (blob-get c name private receipt bytes q))
      (elim (is_same name q && is_new c name) as (λ b. (is_same name q && is_new c name) ≡ b → FitHeld q (cond b (Some (record { private = private; bytes = bytes })) (map_of.get c.held q))) [
        | true ↦ λ e.
            subst (λ (x : List ℕ). (length x ≡ 20) × ((x ≡ name_of bytes) × (length bytes ≤ most_of_artifact))) (is_same-means name q (and_parts (is_same name q) (is_new c name) e).0) (fit.0, fit.1)
        | false ↦ λ _. h.held q
      ] refl);
  receipts = λ q. receipts_on c private name receipt bytes q fit.2 (h.receipts q);
  shunned = λ q e. h.shunned q (sym (ap (λ (s : FinSet bytes_cmp). set.contains s q) (blob-shunned c name private receipt bytes)) ∙ e);
}
write_after c (record_of.Publish name) fit h = record {
  config = subst FitConfig (sym (published_config c name)) h.config;
  held = λ q. subst (FitHeld q) (sym (publish-get c name q)) (fit_shown name q (map_of.get c.held q) (h.held q));
  receipts = λ q. subst (λ (m : FinMap bytes_cmp Brought). IsReceiptOr (map_of.get m q)) (sym (published_receipts c name)) (h.receipts q);
  shunned = λ q e. h.shunned q (sym (ap (λ (s : FinSet bytes_cmp). set.contains s q) (publish-shunned c name)) ∙ e);
}
write_after c (record_of.Shun name) fit h = record {
  config = h.config;
  held = λ q. subst (FitHeld q) (sym (shun-get c name q)) (fit_less (is_same name q) q (map_of.get c.held q) (h.held q));
  receipts = λ q. subst IsReceiptOr (sym (shun-receipts c name q)) (receipt_less (is_same name q) (map_of.get c.receipts q) (h.receipts q));
  shunned = λ q e.
      elim (is_same name q) as (λ b. is_same name q ≡ b → (b || set.contains c.shunned q) ≡ true → length q ≡ 20) [
        | true ↦ λ same _. subst (λ (x : List ℕ). length x ≡ 20) (is_same-means name q same) fit.0
        | false ↦ λ _ was. h.shunned q was
      ] refl (sym (shun-shunned c name q) ∙ e);
}
write_after c (record_of.Unshun name) fit h = record {
  config = h.config;
  held = h.held;
  receipts = h.receipts;
  shunned = λ q e. h.shunned q (and_parts (not (is_same name q)) (set.contains c.shunned q) (sym (unshun-shunned c name q) ∙ e)).1;
}

write_fold : (records : List Record) (c : Contents) → AllByRecursion IsFit records → CanWrite c → CanWrite (fold after c records)
write_fold [] c fit h = h
write_fold (r ∷ records) c fit h = write_fold records (after c r) fit.1 (write_after c r fit.0 h)

all_fit : (records : List Record) → AreRecords records → AllByRecursion IsFit records
all_fit [] none = absurd none
all_fit (r ∷ records) are = are.2

no_shunned : (q : List ℕ) → set.contains {R = bytes_cmp} set.empty q ≡ true → length q ≡ 20
no_shunned q e = let no : false ≡ true = sym (set.contains-empty bytes_cmp q) ∙ e in cc

can_write : (records : List Record) → AreRecords records → CanWrite (contents records)
can_write records are =
    write_fold records nothing (all_fit records are)
    (record { config = tt; held = λ q. subst (FitHeld q) (sym (map_of.get-empty bytes_cmp q)) tt; receipts = λ q. subst IsReceiptOr (sym (map_of.get-empty bytes_cmp q)) tt; shunned = no_shunned })

-- ---- and there is a Config

some_still : (o : Option Config) (config : Config) → is_some o ≡ true → is_some (option_or o (Some config)) ≡ true
some_still None config h = refl
some_still (Some first) config h = refl

config_stays : (c : Contents) (r : Record) → is_some c.config ≡ true → is_some (after c r).config ≡ true
config_stays c (record_of.Config config) h = some_still c.config config h
config_stays c (record_of.Blob private name receipt bytes) h = ap is_some (blobbing_config c private name receipt bytes) ∙ h
config_stays c (record_of.Publish name) h = ap is_some (published_config c name) ∙ h
config_stays c (record_of.Shun name) h = h
config_stays c (record_of.Unshun name) h = h

config_still : (records : List Record) (c : Contents) → is_some c.config ≡ true → is_some (fold after c records).config ≡ true
config_still [] c h = h
config_still (r ∷ records) c h = config_still records (after c r) (config_stays c r h)

first_config : (r : Record) → is_config r ≡ true → is_some (after nothing r).config ≡ true
first_config (record_of.Config config) h = refl
first_config (record_of.Blob private name receipt bytes) h = cc
first_config (record_of.Publish name) h = cc
first_config (record_of.Shun name) h = cc
first_config (record_of.Unshun name) h = cc

has_config : (records : List Record) → AreRecords records → is_some (contents records).config ≡ true
has_config [] none = absurd none
has_config (r ∷ records) are = config_still records (after nothing r) (first_config r are.0)

-- ---- they are a repository's records

-- a record behind the Config
abbrev IsLater : Record → Type 0
IsLater r = IsFit r × (is_config r ≡ false)

later_parts : (xs ys : List Record) → AllByRecursion IsLater xs → AllByRecursion IsLater ys → AllByRecursion IsLater (xs ++ ys)
later_parts [] ys h k = k
later_parts (x ∷ xs) ys h k = (h.0, later_parts xs ys h.1 k)

later_fit : (xs : List Record) → AllByRecursion IsLater xs → AllByRecursion IsFit xs
later_fit [] h = tt
later_fit (x ∷ xs) h = (h.0.0, later_fit xs h.1)

later_none : (xs : List Record) → AllByRecursion IsLater xs → list_all (λ (r : Record). not (is_config r)) xs ≡ true
later_none [] h = refl
later_none (x ∷ xs) h = ap (λ (b : Bool). not b && list_all (λ (r : Record). not (is_config r)) xs) h.0.1 ∙ later_none xs h.1

later_blobs : (s : Contents) → ((name : List ℕ) → FitHeld name (map_of.get s.held name)) → ((name : List ℕ) → IsReceiptOr (map_of.get s.receipts name)) → (ps : List Pair)
    → AllByRecursion IsLater (filter_map (λ (p : Pair). blob_of s p.1) ps)
later_blobs s fit brought [] = tt
later_blobs s fit brought (p ∷ ps) =
    elim (map_of.get s.held p.1) as (λ o. FitHeld p.1 o → AllByRecursion IsLater (blobs_on s o p ps)) [
      | None ↦ λ _. later_blobs s fit brought ps
      | Some a ↦ λ h. (((h.0, h.1, brought p.1), refl), later_blobs s fit brought ps)
    ] (fit p.1)

later_shuns : (names : List (List ℕ)) → ((q : List ℕ) → has names q ≡ true → length q ≡ 20) → AllByRecursion IsLater (map record_of.Shun names)
later_shuns [] h = tt
later_shuns (n ∷ names) h =
    let here : has (n ∷ names) n ≡ true = ap (λ (b : Bool). b || has names n) (texts_ties n n ∙ ap is_eq (tied_itself bytes_cmp-IsTotalOrder n)) in
    (((h n here, tt, tt), refl), later_shuns names (λ q e. h q (more (bytes_eq q n) (has names q) e)))
  where
    more : (a b : Bool) → b ≡ true → (a || b) ≡ true
    more true b e = refl
    more false b e = e

behind : (o : Option Config) (rest : List Record) → is_some o ≡ true → FitConfig o → AllByRecursion IsLater rest → AreRecords (option_to_list (option_map record_of.Config o) ++ rest)
behind None rest some fit h = cc
behind (Some config) rest some fit h = (refl, later_none rest h, (fit, later_fit rest h))

pub scrubbed_are_records : ScrubbedAreRecords
scrubbed_are_records records are =
    let c = contents records in
    let can = can_write records are in
    subst AreRecords (sym (append_assoc (option_to_list (option_map record_of.Config c.config)) (blobs_of records) (shuns_of records)))
    (behind c.config (blobs_of records ++ shuns_of records) (has_config records are) can.config
    (later_parts (blobs_of records) (shuns_of records) (later_blobs c can.held can.receipts (held_from records 0))
    (later_shuns (ascending (set.items c.shunned)) (λ q e. can.shunned q (sym (listed c.shunned q) ∙ e)))))

-- ---- so their file stands for them

text_fits : (records : List Record) (end : ℕ) → end ≡ length (file_text records) → end < 2 ^ 64 → length (records_bytes records) < 2 ^ 64
text_fits records end is small =
    let bytes = records_bytes records in
    let size = to_be_bytes w64 (length bytes) in
    omega (arith, is, small, length-append (header mark_2) (group_bytes records), length-append (header mark_2 ++ group_bytes records) (67 ∷ []), length-append (79 ∷ size) bytes)

pub text_stands : (records : List Record) (end : ℕ) → AreRecords records → end ≡ length (file_text records) → end < 2 ^ 64 → IsFileOf (file_text records) records
text_stands records end are is small = whole_stands records are (text_fits records end is small)

pub file_stands : (records : List Record) (end : ℕ) → AreRecords records → end ≡ length (file_text (scrubbed records)) → end < 2 ^ 64 → IsFileOf (file_text (scrubbed records)) (scrubbed records)
file_stands records end are is small = text_stands (scrubbed records) end (scrubbed_are_records records are) is small

-- what may be there at each moment of the writing of a repository's records
pub any_stands : (records : List Record) → AreRecords records → (c : List ℕ) → UnopenedOr records c → ((others : List Record) → ¬ (IsFileOf c others)) ⊎ IsFileOf c records
any_stands records are c (inl unopened) = inl (unopened_none c unopened)
any_stands records are c (inr whole) = inr (subst (λ (d : List ℕ). IsFileOf d records) (sym whole.0) (text_stands records (length c) are (ap length whole.0) whole.1))

pub moments_stand : MomentsStand
moments_stand records are c may = any_stands (scrubbed records) (scrubbed_are_records records are) c may

-- ---- and a load of it leaves the same

pub loads_alike : LoadsAlike
loads_alike records loaded are small read =
    let stands = file_stands records (length (file_text (scrubbed records))) are refl small in
    let one : loaded ≡ scrubbed records = one_file (file_text (scrubbed records)) loaded (scrubbed records) read stands in
    let same : contents loaded ≡ contents records = ap contents one ∙ folds_alike records in (
      same,
      λ items others due read. are_one_list (contents records).held others items (subst (λ (c : Contents). AreItems c.held others) same read) due,
    )
