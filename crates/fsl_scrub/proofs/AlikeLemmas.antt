-- What records leave as they are written.
use Rattle.std.proofs.Common.{◌≡◌, ℕ, Bool, true, false, cond, not, List, [], ◌∷◌, Option, Some, None, refl, sym, ap, subst, ◌∙◌}
use Rattle.std.specs.Prelude.{◌&&◌, ◌||◌, is_some, fold}
use Rattle.std.specs.Option.{option_map, option_or}
use Rattle.std.specs.FinMap as map_of
use Rattle.std.specs.FinMap.{FinMap}
use Rattle.std.specs.FinSet as set
use Rattle.std.specs.FinSet.{FinSet}
use Rattle.fsl_order.specs.Names.{bytes_cmp}
use Rattle.fsl_record.specs.Receipts.{Brought}
use Rattle.fsl_record.specs.declared.Config.{Config}
use Rattle.fsl_record.specs.declared.Record.{Record}
use Rattle.fsl_record.specs.declared.Record.TheVariants as record_of
use Rattle.fsl_blobs.specs.Fold.{Held, Contents, contents, nothing, after, received, is_new}
use Rattle.fsl_blobs.specs.Kept.{is_same}
use Rattle.fsl_blobs.proofs.KeptLemmas.{shown, blob-get, blob-shunned, publish-get, publish-shunned, shun-get}
use Rattle.fsl_scrub.specs.Scrubbed.{AreContentsAs, AreWrittenAs, IsHeldAs, IsReadAs, IsWrittenAs, WrittenFoldsAlike, scrubbed}
use Rattle.fsl_scrub.proofs.FoldLemmas.{blobbing_config, folds_alike, published_config, published_receipts}

-- ---- one artifact

some_as : (honest : Bool) (o p : Option Held) → IsHeldAs honest o p → is_some p ≡ is_some o
some_as honest None p h = ap is_some h
some_as honest (Some a) p h = ap is_some h.1

new_as : (honest : Bool) (o p : Option Held) (s t : Bool) → IsHeldAs honest o p → t ≡ s → not (is_some p || t) ≡ not (is_some o || s)
new_as honest o p s t h same = let some = some_as honest o p h in λ i. not (some i || same i)

either_as : (honest b : Bool) (a : Held) (text : List ℕ) (o p : Option Held) → IsReadAs honest a.bytes text → IsHeldAs honest o p → IsHeldAs honest (cond b (Some a) o) (cond b (Some (record a { bytes = text })) p)
either_as honest true a text o p read h = (text, refl, read)
either_as honest false a text o p read h = h

less_as : (honest b : Bool) (o p : Option Held) → IsHeldAs honest o p → IsHeldAs honest (cond b None o) (cond b None p)
less_as honest true o p h = refl
less_as honest false o p h = h

abbrev open_if : Bool → Held → Held
open_if b x = cond b (record x { private = false }) x

shown_as : (honest : Bool) (name q : List ℕ) (o p : Option Held) → IsHeldAs honest o p → IsHeldAs honest (option_map (shown name q) o) (option_map (shown name q) p)
shown_as honest name q None p h = ap (option_map (shown name q)) h
shown_as honest name q (Some a) p h = by (is_same name q)
  where
    by : (b : Bool) → IsHeldAs honest (Some (open_if b a)) (option_map (open_if b) p)
    by true = (h.0, ap (option_map (open_if true)) h.1, h.2)
    by false = (h.0, ap (option_map (open_if false)) h.1, h.2)

-- both sides are these
both_as : (honest : Bool) (o o2 p p2 : Option Held) → o ≡ o2 → p ≡ p2 → IsHeldAs honest o2 p2 → IsHeldAs honest o p
both_as honest o o2 p p2 is other h = subst (λ (x : Option Held). IsHeldAs honest x p) (sym is) (subst (λ (y : Option Held). IsHeldAs honest o2 y) (sym other) h)

-- ---- one record

receipts_are : (c : Contents) (private : Bool) (name : List ℕ) (receipt : Option Brought) (bytes : List ℕ) → (after c (record_of.Blob private name receipt bytes)).receipts ≡ cond (is_new c name) (received c.receipts name receipt) c.receipts
receipts_are c private name receipt bytes =
    elim (is_new c name) as (λ b. (cond b (record c { held = map_of.insert c.held name (record { private = private; bytes = bytes }); receipts = received c.receipts name receipt }) c).receipts ≡ cond b (received c.receipts name receipt) c.receipts) [
      | true ↦ refl
      | false ↦ refl
    ]

module _ (honest : Bool) (c d : Contents) (h : AreContentsAs honest c d) where
  newly : (name : List ℕ) → is_new d name ≡ is_new c name
  newly name = new_as honest (map_of.get c.held name) (map_of.get d.held name) (set.contains c.shunned name) (set.contains d.shunned name) (h.held name) (ap (λ (s : FinSet bytes_cmp). set.contains s name) h.shunned)

  blob_as : (private : Bool) (name : List ℕ) (receipt : Option Brought) (bytes text : List ℕ) → IsReadAs honest bytes text
      → AreContentsAs honest (after c (record_of.Blob private name receipt bytes)) (after d (record_of.Blob private name receipt text))
  blob_as private name receipt bytes text read = record {
    config = blobbing_config d private name receipt text ∙ h.config ∙ sym (blobbing_config c private name receipt bytes);
    held = λ q.
        let a : Held = record { private = private; bytes = bytes } in
        let b : Held = record { private = private; bytes = text } in
        let test : (is_same name q && is_new d name) ≡ (is_same name q && is_new c name) = ap (λ (n : Bool). is_same name q && n) (newly name) in
        both_as honest _ (cond (is_same name q && is_new c name) (Some a) (map_of.get c.held q)) _ (cond (is_same name q && is_new c name) (Some b) (map_of.get d.held q))
        (blob-get c name private receipt bytes q) (blob-get d name private receipt text q ∙ ap (λ (t : Bool). cond t (Some b) (map_of.get d.held q)) test)
        (either_as honest (is_same name q && is_new c name) a text (map_of.get c.held q) (map_of.get d.held q) read (h.held q));
    receipts =
        let new = newly name in
        receipts_are d private name receipt text ∙ (λ i. cond (new i) (received (h.receipts i) name receipt) (h.receipts i)) ∙ sym (receipts_are c private name receipt bytes);
    shunned = blob-shunned d name private receipt text ∙ h.shunned ∙ sym (blob-shunned c name private receipt bytes);
  }

  same_as : (r : Record) → IsWrittenAs honest r r → AreContentsAs honest (after c r) (after d r)
  same_as (record_of.Config config) is = record { config = ap (λ (o : Option Config). option_or o (Some config)) h.config; held = h.held; receipts = h.receipts; shunned = h.shunned }
  same_as (record_of.Blob private name receipt bytes) is = blob_as private name receipt bytes bytes (record { named = refl; sized = refl; same = λ _. refl })
  same_as (record_of.Publish name) is = record {
    config = published_config d name ∙ h.config ∙ sym (published_config c name);
    held = λ q. both_as honest _ (option_map (shown name q) (map_of.get c.held q)) _ (option_map (shown name q) (map_of.get d.held q)) (publish-get c name q) (publish-get d name q) (shown_as honest name q (map_of.get c.held q) (map_of.get d.held q) (h.held q));
    receipts = published_receipts d name ∙ h.receipts ∙ sym (published_receipts c name);
    shunned = publish-shunned d name ∙ h.shunned ∙ sym (publish-shunned c name);
  }
  same_as (record_of.Shun name) is = record {
    config = h.config;
    held = λ q.
        both_as honest _ (cond (is_same name q) None (map_of.get c.held q)) _ (cond (is_same name q) None (map_of.get d.held q)) (shun-get c name q) (shun-get d name q)
        (less_as honest (is_same name q) (map_of.get c.held q) (map_of.get d.held q) (h.held q));
    receipts = ap (λ (m : FinMap bytes_cmp Brought). map_of.remove m name) h.receipts;
    shunned = ap (λ (s : FinSet bytes_cmp). set.insert s name) h.shunned;
  }
  same_as (record_of.Unshun name) is = record { config = h.config; held = h.held; receipts = h.receipts; shunned = ap (λ (s : FinSet bytes_cmp). set.remove s name) h.shunned }

  after_as : (r w : Record) → IsWrittenAs honest r w → AreContentsAs honest (after c r) (after d w)
  after_as (record_of.Config config) w is = subst (λ (x : Record). AreContentsAs honest (after c (record_of.Config config)) (after d x)) (sym is) (same_as (record_of.Config config) refl)
  after_as (record_of.Blob private name receipt bytes) w is =
      subst (λ (x : Record). AreContentsAs honest (after c (record_of.Blob private name receipt bytes)) (after d x)) (sym is.1) (blob_as private name receipt bytes is.0 is.2)
  after_as (record_of.Publish name) w is = subst (λ (x : Record). AreContentsAs honest (after c (record_of.Publish name)) (after d x)) (sym is) (same_as (record_of.Publish name) refl)
  after_as (record_of.Shun name) w is = subst (λ (x : Record). AreContentsAs honest (after c (record_of.Shun name)) (after d x)) (sym is) (same_as (record_of.Shun name) refl)
  after_as (record_of.Unshun name) w is = subst (λ (x : Record). AreContentsAs honest (after c (record_of.Unshun name)) (after d x)) (sym is) (same_as (record_of.Unshun name) refl)

-- ---- all records

fold_as : (honest : Bool) (due written : List Record) (c d : Contents) → AreContentsAs honest c d → AreWrittenAs honest due written → AreContentsAs honest (fold after c due) (fold after d written)
fold_as honest [] [] c d h all = h
fold_as honest [] (w ∷ written) c d h all = absurd all
fold_as honest (r ∷ due) [] c d h all = absurd all
fold_as honest (r ∷ due) (w ∷ written) c d h all = fold_as honest due written (after c r) (after d w) (after_as honest c d h r w all.0) all.1

nothing_as : (honest : Bool) → AreContentsAs honest nothing nothing
nothing_as honest = record { config = refl; held = λ q. both_as honest _ None _ None (map_of.get-empty bytes_cmp q) (map_of.get-empty bytes_cmp q) refl; receipts = refl; shunned = refl }

pub written_folds_alike : WrittenFoldsAlike
written_folds_alike honest records written all =
    subst (λ (c : Contents). AreContentsAs honest c (contents written)) (folds_alike records) (fold_as honest (scrubbed records) written nothing nothing (nothing_as honest) all)
