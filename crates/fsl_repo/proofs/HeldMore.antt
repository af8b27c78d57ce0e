-- The held artifacts with one more.
use Rattle.std.proofs.Common.{◌≡◌, ℕ, ◌+◌, Bool, true, false, cond, not, List, [], ◌∷◌, ◌++◌, length, map, Option, Some, None, refl, sym, ap, subst, ◌∙◌}
use Rattle.std.specs.Prelude.{◌&&◌, ◌||◌, T, IsTrue, if◌then◌else◌, is_some}
use Rattle.std.specs.Option.{option_map_or}
use Rattle.std.specs.List.{AllZip, list_any}
use Rattle.std.specs.Ordering.{is_lt, eq_by_cmp}
use Rattle.std.specs.declared.cmp.Ordering.{Ordering}
use Rattle.std.specs.declared.cmp.Ordering.TheVariants.{Less, Equal, Greater}
use Rattle.std.specs.Str.{bytes_eq}
use Rattle.std.specs.Cmp.Lexicographic.{texts_ties}
use Rattle.std.specs.FinMap as map_of
use Rattle.std.specs.FinMap.{put, is_sorted}
use Rattle.std.specs.FinMap.Entries.{by_order, below_all}
use Rattle.std.specs.FinSet as set
use Rattle.std.specs.FinSet.{FinSet}
use Rattle.std.proofs.lemmas.List.Sums.{fold-append}
use Rattle.fsl_order.specs.Names.{bytes_cmp, has}
use Rattle.fsl_order.specs.Rows.{keyed}
use Rattle.fsl_order.proofs.Orders.{bytes_cmp-IsTotalOrder, bytes_cmp-IsAntisymmetric}
use Rattle.fsl_record.specs.Receipts.{Brought}
use Rattle.fsl_record.specs.declared.Record.{Record}
use Rattle.fsl_record.specs.declared.Record.TheVariants as record_of
use Rattle.fsl_blobs.proofs.Totals.{front_first, front_second, is_less}
use Rattle.fsl_blobs.specs.Fold.{Held, HeldSet, Contents, contents, after, nothing, is_new, received}
use Rattle.fsl_blobs.specs.Held.{state_of, still_new}
use Rattle.fsl_blobs.specs.declared.BlobState.{BlobState}
use Rattle.fsl_blobs.specs.declared.BlobState.TheVariants as blob
use Rattle.fsl_cross.specs.declared.Item.{Item}
use Rattle.fsl_cross.specs.Tables.{with_item}
use Rattle.fsl_repo.specs.Machine.{IsItemOf, AreItems}
use Rattle.fsl_repo.proofs.ItemLemmas.{same_names}

-- ---- a name that is neither held nor shunned

abbrev told_by : Option Held → Bool → BlobState
told_by o b = option_map_or (λ a. if a.private then blob.Private (length a.bytes) else blob.Public (length a.bytes)) o (if b then blob.Shunned else blob.Absent)

private_or : (b : Bool) (n : ℕ) → (if b then blob.Private n else blob.Public n) ≡ blob.Absent → ⊥
private_or true n h = cc
private_or false n h = cc

absent_by : (o : Option Held) (b : Bool) → told_by o b ≡ blob.Absent → (o ≡ None) × (b ≡ false)
absent_by None true h = absurd cc
absent_by None false h = (refl, refl)
absent_by (Some a) b h = absurd (private_or a.private (length a.bytes) h)

pub absent_is : (c : Contents) (name : List ℕ) → state_of c name ≡ blob.Absent → (map_of.get c.held name ≡ None) × (set.contains c.shunned name ≡ false)
absent_is c name h = absent_by (map_of.get c.held name) (set.contains c.shunned name) h

pub any_alike : (name : List ℕ) (names : List (List ℕ)) → list_any (bytes_eq name) names ≡ list_any (eq_by_cmp bytes_cmp name) names
any_alike name [] = refl
any_alike name (n ∷ names) = λ i. texts_ties name n i || any_alike name names i

pub absent_items : (held : HeldSet) (items : List Item) (name : List ℕ) → AreItems held items → map_of.get held name ≡ None → has (map (λ i. i.name) items) name ≡ false
absent_items held items name each none =
    ap (λ (ns : List (List ℕ)). has ns name) (same_names (map_of.entries held) items each)
    ∙ any_alike name (map_of.keys held) ∙ sym (map_of.contains_key-keys held name) ∙ ap is_some none

-- ---- one blob more

pub contents_more : (records : List Record) (r : Record) → contents (records ++ r ∷ []) ≡ after (contents records) r
contents_more records r = fold-append after nothing records (r ∷ [])

pub blob_after : (c : Contents) (private : Bool) (name : List ℕ) (receipt : Option Brought) (bytes : List ℕ) → map_of.get c.held name ≡ None → set.contains c.shunned name ≡ false
    → after c (record_of.Blob private name receipt bytes) ≡ record c { held = map_of.insert c.held name (record { private = private; bytes = bytes }); receipts = received c.receipts name receipt }
blob_after c private name receipt bytes none out =
    let new : is_new c name ≡ true = λ i. not (is_some (none i) || out i) in
    ap (λ (b : Bool). if b then record c { held = map_of.insert c.held name (record { private = private; bytes = bytes }); receipts = received c.receipts name receipt } else c) new

-- ---- its item

abbrev Beside : List ℕ × Held → List ℕ × Item → Type 0
Beside e h = (h.0 ≡ e.0) × IsItemOf e h.1

beside_put : (k : List ℕ) (a : Held) (x : Item) → IsItemOf (k, a) x → (es : List (List ℕ × Held)) (hs : List (List ℕ × Item)) → AllZip Beside es hs → AllZip Beside (put bytes_cmp k a es) (put bytes_cmp k x hs)
beside_put k a x fits [] [] all = ((refl, fits), tt)
beside_put k a x fits [] (h ∷ hs) all = absurd all
beside_put k a x fits (e ∷ es) [] all = absurd all
beside_put k a x fits (e ∷ es) (h ∷ hs) all =
    subst (λ (key : List ℕ). AllZip Beside (put bytes_cmp k a (e ∷ es)) (by_order (bytes_cmp k key) ((k, x) ∷ h ∷ hs) ((h.0, x) ∷ hs) (h ∷ put bytes_cmp k x hs))) (sym all.0.0)
    (elim (bytes_cmp k e.0) as (λ r. bytes_cmp k e.0 ≡ r → AllZip Beside (by_order r ((k, a) ∷ e ∷ es) ((e.0, a) ∷ es) (e ∷ put bytes_cmp k a es)) (by_order r ((k, x) ∷ h ∷ hs) ((h.0, x) ∷ hs) (h ∷ put bytes_cmp k x hs))) [
      | Less ↦ λ _. ((refl, fits), all)
      | Equal ↦ λ same. ((all.0.0, record { name = fits.name ∙ bytes_cmp-IsAntisymmetric k e.0 same; private = fits.private; kind = fits.kind }), all.1)
      | Greater ↦ λ _. (all.0, beside_put k a x fits es hs all.1)
    ] refl)

put_front : (e : List ℕ × Held) (es : List (List ℕ × Held)) → T (below_all bytes_cmp e.0 es) → put bytes_cmp e.0 e.1 es ≡ e ∷ es
put_front e [] h = refl
put_front e (f ∷ fs) h =
    ap (λ (r : Ordering). by_order r ((e.0, e.1) ∷ f ∷ fs) ((f.0, e.1) ∷ fs) (f ∷ put bytes_cmp e.0 e.1 fs)) (is_less (bytes_cmp e.0 f.0) (front_first (is_lt (bytes_cmp e.0 f.0)) (below_all bytes_cmp e.0 fs) h))

beside_keyed : (es : List (List ℕ × Held)) (items : List Item) → T (is_sorted bytes_cmp es) → AllZip IsItemOf es items → AllZip Beside es (keyed bytes_cmp (λ i. i.name) items)
beside_keyed [] [] rise all = tt
beside_keyed [] (i ∷ items) rise all = absurd all
beside_keyed (e ∷ es) [] rise all = absurd all
beside_keyed (e ∷ es) (i ∷ items) rise all =
    let rest = beside_keyed es items (front_second (below_all bytes_cmp e.0 es) (is_sorted bytes_cmp es) rise) all.1 in
    let two = beside_put e.0 e.1 i all.0 es (keyed bytes_cmp (λ i. i.name) items) rest in
    subst (λ (es2 : List (List ℕ × Held)). AllZip Beside es2 (put bytes_cmp i.name i (keyed bytes_cmp (λ i. i.name) items))) (put_front e es (front_first (below_all bytes_cmp e.0 es) (is_sorted bytes_cmp es) rise))
    (subst (λ (key : List ℕ). AllZip Beside (put bytes_cmp e.0 e.1 es) (put bytes_cmp key i (keyed bytes_cmp (λ i. i.name) items))) (sym all.0.name) two)

of_beside : (es : List (List ℕ × Held)) (hs : List (List ℕ × Item)) → AllZip Beside es hs → AllZip IsItemOf es (map (λ h. h.1) hs)
of_beside [] [] all = tt
of_beside [] (h ∷ hs) all = absurd all
of_beside (e ∷ es) [] all = absurd all
of_beside (e ∷ es) (h ∷ hs) all = (all.0.1, of_beside es hs all.1)

pub items_more : (held : HeldSet) (items : List Item) (name : List ℕ) (a : Held) (item : Item) → AreItems held items → IsItemOf (name, a) item → AreItems (map_of.insert held name a) (with_item item items)
items_more held items name a item each fits =
    let kept = beside_keyed (map_of.entries held) items (map_of.entries_sorted held) each in
    let more = beside_put name a item fits (map_of.entries held) (keyed bytes_cmp (λ i. i.name) items) kept in
    let keys = subst (λ (key : List ℕ). AllZip Beside (put bytes_cmp name a (map_of.entries held)) (put bytes_cmp key item (keyed bytes_cmp (λ i. i.name) items))) (sym fits.name) more in
    subst (λ (es : List (List ℕ × Held)). AllZip IsItemOf es (with_item item items)) (sym (map_of.entries-insert bytes_cmp-IsTotalOrder held name a))
    (of_beside (put bytes_cmp name a (map_of.entries held)) (put bytes_cmp item.name item (keyed bytes_cmp (λ i. i.name) items)) keys)

-- ---- the numbers

pub count_more : (held : HeldSet) (name : List ℕ) (a : Held) → map_of.get held name ≡ None → map_of.len (map_of.insert held name a) ≡ map_of.len held + 1
count_more held name a none =
    map_of.len-insert bytes_cmp-IsTotalOrder held name a ∙ ap (λ (o : Option Held). cond (is_some o) (map_of.len held) (map_of.len held + 1)) none

-- ---- the announced names

new_by : (same held shunned : Bool) (a : Held) (o : Option Held) → is_some o ≡ held → not (is_some (cond same (Some a) o) || shunned) ≡ (not same && not (held || shunned))
new_by true held shunned a o is = refl
new_by false held shunned a o is = ap (λ (b : Bool). not (b || shunned)) is

kept_by : (in_it same new : Bool) → (in_it ≡ true → new ≡ true) → (in_it && (not same && new)) ≡ (not same && in_it)
kept_by true true new h = refl
kept_by true false new h = h refl
kept_by false true new h = refl
kept_by false false new h = refl

pub announced_less : (c : Contents) (announced : FinSet bytes_cmp) (name : List ℕ) (a : Held) → ((q : List ℕ) → IsTrue (set.contains announced q) → IsTrue (is_new c q))
    → still_new (record c { held = map_of.insert c.held name a }) announced ≡ set.remove announced name
announced_less c announced name a new =
    let more : Contents = record c { held = map_of.insert c.held name a } in
    set.same_set bytes_cmp-IsTotalOrder bytes_cmp-IsAntisymmetric (still_new more announced) (set.remove announced name)
    (λ q.
    let is : is_new more q ≡ (not (eq_by_cmp bytes_cmp q name) && is_new c q) =
    ap (λ (o : Option Held). not (is_some o || set.contains c.shunned q)) (map_of.get-insert bytes_cmp-IsTotalOrder c.held name a q)
    ∙ new_by (eq_by_cmp bytes_cmp q name) (map_of.contains_key c.held q) (set.contains c.shunned q) a (map_of.get c.held q) refl in
    set.contains-retain announced (is_new more) q (λ x same. ap (is_new more) (sym (bytes_cmp-IsAntisymmetric q x same)))
    ∙ ap (λ (b : Bool). set.contains announced q && b) is
    ∙ kept_by (set.contains announced q) (eq_by_cmp bytes_cmp q name) (is_new c q) (new q)
    ∙ sym (set.contains-remove bytes_cmp-IsTotalOrder announced name q))
