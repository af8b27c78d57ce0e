-- The entries of records, one record more.
use Rattle.std.proofs.Common.{◌≡◌, ℕ, ◌+◌, ◌<◌, Bool, true, false, cond, List, [], ◌∷◌, ◌++◌, length, map, take, drop, get_or, Option, Some, None, refl, sym, ap, ◌∙◌, append_assoc}
use Rattle.std.specs.List.{AllByRecursion}
use Rattle.std.specs.List.Sorted.{IsStrictlySortedBy}
use Rattle.std.specs.Str.{bytes_eq}
use Rattle.std.specs.Cmp.Lexicographic.{texts_ties}
use Rattle.std.proofs.lemmas.List.{map-append, append-nil, take-append-drop, drop_more, take_more}
use Rattle.fsl_order.specs.Rows.{greatest}
use Rattle.fsl_record.specs.declared.Record.{Record}
use Rattle.fsl_record.specs.Receipts.{Brought}
use Rattle.fsl_record.specs.declared.Record.TheVariants.{Config, Blob, Publish, Shun, Unshun}
use Rattle.fsl_uv.specs.declared.Entry.{Entry}
use Rattle.fsl_uv.specs.Entries.{Version, IsEntry, IsEntryText, entry_text, version_of}
use Rattle.fsl_uv.specs.Maps.{uv, merge, version_cmp}
use Rattle.fsl_uv.specs.Syncing.{with_entry, entries_of, entry_of, offered, offer_of}
use Rattle.fsl_uv.specs.declared.Card.{Card}
use Rattle.fsl_uv.specs.Cards.{card_text, message_text}
use Rattle.fsl_uv.specs.Opening.{RecordFails, RecordsFail}
use Rattle.fsl_uv.specs.declared.UvLoadFault.{UvLoadFault}
use Rattle.fsl_uv.specs.declared.UvLoadFault.TheVariants as load_fault
use Rattle.fsl_uv.specs.Stores.{texts, IsUv, IsNoEntry}
use Rattle.fsl_uv.proofs.Merging.{uv_is_the_newest, uv_of_both_is_merge}

abbrev Map : Type 0
Map = List (List ℕ × Version)

pub texts-append : (a b : List Record) → texts (a ++ b) ≡ texts a ++ texts b
texts-append [] b = refl
texts-append (Config c ∷ a) b = texts-append a b
texts-append (Blob private name receipt bytes ∷ a) b = ap (λ (ts : List (List ℕ)). bytes ∷ ts) (texts-append a b)
texts-append (Publish name ∷ a) b = texts-append a b
texts-append (Shun name ∷ a) b = texts-append a b
texts-append (Unshun name ∷ a) b = texts-append a b

pub no-text : (r : Record) → ((private : Bool) (name : List ℕ) (receipt : Option Brought) (bytes : List ℕ) → r ≡ Blob private name receipt bytes → ⊥) → texts (r ∷ []) ≡ []
no-text (Config c) none = refl
no-text (Blob private name receipt bytes) none = absurd (none private name receipt bytes refl)
no-text (Publish name) none = refl
no-text (Shun name) none = refl
no-text (Unshun name) none = refl

pub uv-one : (e : Entry) → uv (e ∷ []) ≡ (e.path, version_of e) ∷ []
unfolding IsStrictlySortedBy
uv-one e =
    sym (uv_is_the_newest.only (e ∷ []) ((e.path, version_of e) ∷ []) (tt, tt)
    (λ q. ap (λ b. cond b (Some (version_of e)) None) (sym (texts_ties q e.path))
    ∙ elim (bytes_eq q e.path) as (λ b. cond b (Some (version_of e)) None ≡ greatest version_cmp (map version_of (cond b (e ∷ []) []))) [ true ↦ refl | false ↦ refl ]))

pub uv-more : (es : List Entry) (e : Entry) → uv (es ++ e ∷ []) ≡ with_entry (uv es) e
uv-more es e = uv_of_both_is_merge es (e ∷ []) ∙ ap (merge (uv es)) (uv-one e)

all-more : (es : List Entry) (e : Entry) → AllByRecursion IsEntry es → IsEntry e → AllByRecursion IsEntry (es ++ e ∷ [])
all-more [] e all good = (good, tt)
all-more (f ∷ es) e all good = (all.0, all-more es e all.1 good)

pub no-entries : IsUv [] []
no-entries = ([], record { good = tt; texts = refl }, refl)

-- a record that is no Blob changes nothing
pub other-record : (records : List Record) (m : Map) (r : Record) → ((private : Bool) (name : List ℕ) (receipt : Option Brought) (bytes : List ℕ) → r ≡ Blob private name receipt bytes → ⊥) → IsUv records m → IsUv (records ++ r ∷ []) m
other-record records m r none u = (
  u.0,
  record { good = u.1.good; texts = texts-append records (r ∷ []) ∙ (λ i. texts records ++ no-text r none i) ∙ append-nil (texts records) ∙ u.1.texts },
  u.2,
)

-- a Blob that is an entry's text is in the map
pub more-record : (records : List Record) (m : Map) (private : Bool) (name : List ℕ) (receipt : Option Brought) (bytes : List ℕ) (e : Entry) → IsEntryText bytes e → IsUv records m → IsUv (records ++ Blob private name receipt bytes ∷ []) (with_entry m e)
more-record records m private name receipt bytes e is u = (
  u.0 ++ e ∷ [],
  record {
    good = all-more u.0 e u.1.good is.0;
    texts = texts-append records (Blob private name receipt bytes ∷ []) ∙ (λ i. u.1.texts i ++ is.1 i ∷ []) ∙ sym (map-append entry_text u.0 (e ∷ []));
  },
  ap (λ x. with_entry x e) u.2 ∙ sym (uv-more u.0 e),
)

-- ---- a loop over records

pub take-next : (records : List Record) (i : ℕ) (d : Record) → i < length records → take (i + 1) records ≡ take i records ++ get_or records i d ∷ []
take-next records i d lt = take_more records i d lt

-- the first record that is no entry
pub fails-here : (records : List Record) (i : ℕ) (d : Record) (m : Map) (private : Bool) (name : List ℕ) (receipt : Option Brought) (bytes : List ℕ) → i < length records → IsUv (take i records) m → get_or records i d ≡ Blob private name receipt bytes
    → ((e : Entry) → IsEntryText bytes e → ⊥) → IsNoEntry records name
fails-here records i d m private name receipt bytes lt u is none = (
  take i records,
  drop (i + 1) records,
  private,
  receipt,
  bytes,
  u.0,
  sym (take-append-drop i records) ∙ ap (λ (rs : List Record). take i records ++ rs) (drop_more records i d lt ∙ ap (λ (r : Record). r ∷ drop (i + 1) records) is),
  u.1,
  none,
)

pub fails-there : (records : List Record) (i : ℕ) (d : Record) (m : Map) (r : Record) (fault : UvLoadFault) → i < length records → IsUv (take i records) m → get_or records i d ≡ r → RecordFails r fault → RecordsFail records fault
fails-there records i d m r (load_fault.NotEntry name) lt u is f = fails-here records i d m f.0 name f.1 f.2 lt u (is ∙ f.3) f.4
fails-there records i d m r load_fault.Memory lt u is f = tt
fails-there records i d m r load_fault.Disk lt u is f = f
fails-there records i d m r (load_fault.NotRepository at) lt u is f = f

-- ---- a loop over a map

module _ {Y : Type 0} (shows : Y → List ℕ × Version) where
  pub entries_more : (ys : List Y) (y : Y) (entries new : List Entry) (e : Entry) → entries ≡ entries_of (map shows ys) → e ≡ entry_of (shows y).0 (shows y).1 → new ≡ entries ++ e ∷ [] → new ≡ entries_of (map shows (ys ++ y ∷ []))
  entries_more ys y entries new e before is pushed =
      pushed ∙ (λ i. before i ++ is i ∷ [])
      ∙ sym (ap entries_of (map-append shows ys (y ∷ [])) ∙ map-append (λ p. entry_of p.0 p.1) (map shows ys) (shows y ∷ []))

  message_last : (cards : List Card) (c : Card) → message_text (cards ++ c ∷ []) ≡ message_text cards ++ card_text c
  message_last [] c = append-nil (card_text c)
  message_last (d ∷ cards) c = ap (λ (t : List ℕ). card_text d ++ t) (message_last cards c) ∙ sym (append_assoc (card_text d) (message_text cards) (card_text c))

  pub offered_more : (ys : List Y) (y : Y) (text new : List ℕ) → text ≡ message_text (offered (map shows ys)) → new ≡ text ++ card_text (offer_of (shows y)) → new ≡ message_text (offered (map shows (ys ++ y ∷ [])))
  offered_more ys y text new before added =
      added ∙ ap (λ (t : List ℕ). t ++ card_text (offer_of (shows y))) before ∙ sym (message_last (offered (map shows ys)) (offer_of (shows y)))
      ∙ sym (ap message_text (ap offered (map-append shows ys (y ∷ [])) ∙ map-append offer_of (map shows ys) (shows y ∷ [])))
