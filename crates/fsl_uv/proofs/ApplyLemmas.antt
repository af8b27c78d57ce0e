-- Files that are put in one after another.
use Rattle.std.proofs.Common.{◌≡◌, ℕ, ◌≤◌, Bool, true, false, cond, List, [], ◌∷◌, ◌++◌, length, map, Some, None, Result, Ok, Err, refl, sym, ap, subst, ◌∙◌, arith, length-append, if◌then◌else◌}
use Rattle.std.specs.Prelude.{OnOk}
use Rattle.std.specs.List.{AllByRecursion}
use Rattle.fsl_uv.specs.Cards.{IsCard}
use Rattle.std.specs.Str.{bytes_eq}
use Rattle.fsl_order.specs.Maps.{value_at}
use Rattle.fsl_order.specs.Rows.{greatest}
use Rattle.fsl_order.proofs.GreatestLemmas.{greater-none}
use Rattle.fsl_journal.specs.Log.{Log}
use Rattle.fsl_journal.specs.Places.{content_places}
use Rattle.fsl_uv.specs.declared.Entry.{Entry}
use Rattle.fsl_uv.specs.declared.Card.{Card}
use Rattle.fsl_uv.specs.declared.Card.TheVariants as card_is
use Rattle.fsl_uv.specs.Entries.{Version, version_of}
use Rattle.fsl_uv.specs.Maps.{version_cmp, newest, uv, merge}
use Rattle.fsl_uv.specs.Laws.{Rises}
use Rattle.fsl_uv.specs.Syncing.{is_kept, with_entry, stored, files, applied}
use Rattle.fsl_uv.specs.Stores.{log_with, blob_of, next_start}
use Rattle.fsl_uv.proofs.Logs.{as-many-places, with-both}
use Rattle.fsl_uv.specs.Applying.{AreAsThose, IsTaken}
use Rattle.fsl_uv.proofs.Versions.{version_cmp-IsTotalOrder}
use Rattle.fsl_uv.proofs.Merging.{most, most-assoc, only-merge, value-merge, rises-merge, value-uv, newest-append}
use Rattle.fsl_uv.proofs.HeldLemmas.{single, kept-same}

abbrev Map : Type 0
Map = List (List ℕ × Version)

-- no entries change nothing
pub merge-none : (m : Map) → Rises m → merge m (uv []) ≡ m
merge-none m up = sym (only-merge m (uv []) m up (λ q. sym (ap (most (value_at m q)) (value-uv [] q) ∙ greater-none version_cmp version_cmp-IsTotalOrder (value_at m q))))

newest-one : (e : Entry) (q : List ℕ) → cond (bytes_eq q e.path) (Some (version_of e)) None ≡ newest (e ∷ []) q
newest-one e q = elim (bytes_eq q e.path) as (λ t. cond t (Some (version_of e)) None ≡ greatest version_cmp (map version_of (cond t (e ∷ []) []))) [ true ↦ refl | false ↦ refl ]

-- the first of some entries may be put in before the others
pub merge-first : (m : Map) (e : Entry) (es : List Entry) → merge m (uv (e ∷ es)) ≡ merge (with_entry m e) (uv es)
merge-first m e es =
    only-merge (with_entry m e) (uv es) (merge m (uv (e ∷ es))) (rises-merge m (uv (e ∷ es)))
    (λ q. value-merge m (uv (e ∷ es)) q
    ∙ ap (most (value_at m q)) (value-uv (e ∷ es) q ∙ newest-append (e ∷ []) es q)
    ∙ most-assoc (value_at m q) (newest (e ∷ []) q) (newest es q)
    ∙ (λ i. most (sym (first q) i) (sym (value-uv es q) i)))
  where
    first : (q : List ℕ) → value_at (with_entry m e) q ≡ most (value_at m q) (newest (e ∷ []) q)
    first q = value-merge m ((e.path, version_of e) ∷ []) q ∙ ap (most (value_at m q)) (single e q ∙ newest-one e q)

module _ (log : Log) (m : Map) (e : Entry) (up : Rises m) (counted : log.stable ≤ length log.records) where
  stored-first : (es : List Entry) (b : Bool) → is_kept m e ≡ b → stored m (e ∷ es) ≡ stored m (e ∷ []) ++ stored (with_entry m e) es
  stored-first es true k =
      ap (λ b. if b then stored m es else e ∷ stored (with_entry m e) es) k
      ∙ ap (λ n. stored n es) (kept-same m e up k)
      ∙ sym (ap (λ b. (if b then [] else e ∷ []) ++ stored (with_entry m e) es) k)
  stored-first es false k =
      ap (λ b. if b then stored m es else e ∷ stored (with_entry m e) es) k
      ∙ sym (ap (λ b. (if b then [] else e ∷ []) ++ stored (with_entry m e) es) k)

  logged : (es : List Entry) → log_with log (stored m (e ∷ es)) ≡ log_with (log_with log (stored m (e ∷ []))) (stored (with_entry m e) es)
  logged es =
      ap (log_with log) (stored-first es (is_kept m e) refl)
      ∙ sym (with-both log counted (stored m (e ∷ [])) (stored (with_entry m e) es))

  pub file-taken : (other : Log) (n : Map) → log.stopped ≡ None → length log.places ≡ length log.records → other ≡ log_with log (stored m (e ∷ [])) → n ≡ with_entry m e → IsTaken log m (card_is.File e) other n
  file-taken other n runs as_many log-is map-is = record {
    ahead = λ cards. record {
      logs = logged (files cards) ∙ (λ i. log_with (sym log-is i) (stored (sym map-is i) (files cards)));
      maps = merge-first m e (files cards) ∙ ap (λ k. merge k (uv (files cards))) (sym map-is);
    };
    rises = subst Rises (sym map-is) (rises-merge m ((e.path, version_of e) ∷ []));
    runs = ap (λ (l : Log). l.stopped) log-is ∙ runs;
    stable =
        let a = ap (λ (l : Log). l.stable) log-is in
        let b = ap (λ (l : Log). length l.records) log-is ∙ length-append log.records (map blob_of (stored m (e ∷ []))) in
        omega (arith, a, b, counted);
    as_many =
        let a = ap (λ (l : Log). length l.places) log-is ∙ length-append log.places (content_places (next_start log) (map blob_of (stored m (e ∷ [])))) in
        let b = ap (λ (l : Log). length l.records) log-is ∙ length-append log.records (map blob_of (stored m (e ∷ []))) in
        omega (arith, a, b, as_many, as-many-places (next_start log) (map blob_of (stored m (e ∷ []))));
  }

-- what two facts of an answer that is Ok give
pub both-ok : {A B : Type 0} (r : Result A B) (P Q R : Type 0) → (P → Q → R) → OnOk r P → OnOk r Q → OnOk r R
both-ok (Ok x) P Q R f p q = f p q
both-ok (Err x) P Q R f p q = tt

-- nothing is left to put in
pub none-left : (m n : Map) (cards rest : List Card) → applied m cards ≡ applied n rest → rest ≡ [] → Rises n → n ≡ applied m cards
none-left m n cards rest is empty up = sym (is ∙ ap (applied n) empty ∙ merge-none n up)

-- the first of the cards that are left was put in
pub next-taken : (first log other : Log) (start m n : Map) (cards left rest : List Card) (c : Card) → AreAsThose first start cards log m left → left ≡ c ∷ rest → IsTaken log m c other n → AreAsThose first start cards other n rest
next-taken first log other start m n cards left rest c so-far is taken =
    let ahead = taken.ahead rest in
    record {
      logs = so-far.logs ∙ ap (λ (cs : List Card). log_with log (stored m (files cs))) is ∙ ahead.logs;
      maps = so-far.maps ∙ ap (applied m) is ∙ ahead.maps;
    }

pub rest-good : (left rest : List Card) (c : Card) → left ≡ c ∷ rest → AllByRecursion IsCard left → AllByRecursion IsCard rest
rest-good left rest c is good = (subst (AllByRecursion IsCard) is good).1
