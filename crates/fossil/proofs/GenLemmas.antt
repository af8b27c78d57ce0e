-- The set that generated artifacts make.
use Rattle.std.proofs.Common.{◌≡◌, ℕ, Bool, true, false, cond, List, [], ◌∷◌, map, Option, Some, None, Result, Ok, Err, IfOk, refl, sym, ap, subst, ◌∙◌}
use Rattle.std.specs.Prelude.{◌||◌, not, is_some, fold, if◌then◌else◌}
use Rattle.std.specs.Map.{keys_of, values_of, lookup}
use Rattle.std.specs.BTreeMap.{insert_entry, is_at}
use Rattle.std.specs.Ordering.{match_ordering}
use Rattle.std.specs.declared.cmp.Ordering.TheVariants.{Less, Equal, Greater}
use Rattle.std.specs.List.{AllByRecursion, AllZip}
use Rattle.std.proofs.lemmas.List.{nil_from_length}
use Rattle.std.specs.List.Sorted.{IsStrictlySortedBy}
use Rattle.std.specs.Cmp.Lexicographic.{texts_ties}
use Rattle.std.specs.FinMap as map_of
use Rattle.std.specs.FinSet as set
use Rattle.fsl_name.specs.Name.{name_of}
use Rattle.fsl_order.specs.Names.{bytes_cmp, has}
use Rattle.fsl_text.specs.declared.memory.Memory.{Memory}
use Rattle.fsl_order.specs.Rows.{by_name}
use Rattle.fsl_order.proofs.Orders.{bytes_cmp-IsAntisymmetric}
use Rattle.fsl_name.specs.RowsKept.{IsKept}
use Rattle.fsl_name.proofs.RowsKeeping.{values-insert}
use Rattle.fsl_blobs.specs.Fold.{Held, HeldSet, Contents, contents, nothing, after}
use Rattle.fsl_cross.specs.declared.Item.{Item}
use Rattle.fsl_cross.specs.Tables.{Seen, tables, with_item}
use Rattle.fsl_gen.specs.Arrival.{generated}
use Rattle.fsl_query.specs.declared.Note.{Note}
use Rattle.fsl_query.specs.Summary.{note_of, entry_of, summary}
use Rattle.fsl_repo.specs.Machine.{IsItemOf, AreItems}
use Rattle.fsl_repo.proofs.HeldMore.{any_alike, blob_after, items_more}
use Rattle.fsl_repo.proofs.ItemLemmas.{same_names}
use Rattle.fsl_repo.proofs.OneList.{are_one_list}
use Rattle.fossil.specs.Outcome.{Outcome, without_commit, IsGen}
use Rattle.fossil.specs.Gen.{public_record, IsSummed, IsSetOf, IsTextAdded, all_after, AreTextsAdded}

-- ---- one outcome

pub one_gen : (count : ℕ) (reversed : Bool) (a b : Outcome) → IsGen count reversed a → IsGen count reversed b → a ≡ b
one_gen count reversed a b h k =
    let same = are_one_list (contents (map public_record (generated count reversed))).held h.1.0 k.1.0 h.1.1 k.1.1 in
    let printed : h.0 ≡ k.0 = h.1.2 ∙ ap (λ (items : List Item). record { status = 0; text = summary (tables [] items) items }) same ∙ sym k.1.2 in
    h.2 ∙ ap without_commit printed ∙ sym k.2

-- ---- names that are there

none : {X : Type 0} (o : Option X) → is_some o ≡ false → o ≡ None
none None e = refl
none (Some x) e = cc

tested : {X : Type 0} (b : Bool) (x : X) (o : Option X) → is_some (cond b (Some x) o) ≡ (b || is_some o)
tested true x o = refl
tested false x o = refl

-- a name is noted where an item has it
pub noted_has : (items : List Item) (q : List ℕ) → is_some (lookup (is_at (bytes_cmp q)) (map entry_of items)) ≡ has (map (λ i. i.name) items) q
noted_has [] q = refl
noted_has (i ∷ items) q =
    tested (is_at (bytes_cmp q) i.name) (note_of i.artifact) (lookup (is_at (bytes_cmp q)) (map entry_of items))
    ∙ (λ k. sym (texts_ties q i.name) k || noted_has items q k)

held_has : (held : HeldSet) (items : List Item) (name : List ℕ) → AreItems held items → has (map (λ i. i.name) items) name ≡ map_of.contains_key held name
held_has held items name each =
    ap (λ (ns : List (List ℕ)). has ns name) (same_names (map_of.entries held) items each)
    ∙ any_alike name (map_of.keys held) ∙ sym (map_of.contains_key-keys held name)

-- ---- one text more

abbrev public_held : List ℕ → Held
public_held text = record { private = false; bytes = text }

-- a name that is there is passed over
pub passed_over : (c : Contents) (items : List Item) (text : List ℕ) → IsSetOf c items → has (map (λ i. i.name) items) (name_of text) ≡ true → IsSetOf (after c (public_record text)) items
passed_over c items text s there =
    let name = name_of text in
    let held : map_of.contains_key c.held name ≡ true = sym (held_has c.held items name s.held) ∙ there in
    let stays : after c (public_record text) ≡ c =
    ap (λ (b : Bool). if not (b || set.contains c.shunned name) then record c { held = map_of.insert c.held name (public_held text) } else c) held in
    subst (λ (d : Contents). IsSetOf d items) (sym stays) s

-- another one is added
pub text_added : (c : Contents) (items : List Item) (text : List ℕ) (item : Item) → IsSetOf c items → has (map (λ i. i.name) items) (name_of text) ≡ false
    → IsItemOf (name_of text, public_held text) item → IsSetOf (after c (public_record text)) (with_item item items)
text_added c items text item s absent fits =
    let name = name_of text in
    let free = none (map_of.get c.held name) (sym (held_has c.held items name s.held) ∙ absent) in
    subst (λ (d : Contents). IsSetOf d (with_item item items)) (sym (blob_after c false name None text free (s.unshunned name)))
    (record { held = items_more c.held items name (public_held text) item s.held fits; unshunned = s.unshunned })

-- ---- one note more

abbrev pair : Item → List ℕ × Item
pair item = (item.name, item)

values_pairs : (items : List Item) → values_of (map pair items) ≡ items
values_pairs [] = refl
values_pairs (i ∷ items) = ap (λ (xs : List Item). i ∷ xs) (values_pairs items)

keys_alike : (items : List Item) → keys_of (map pair items) ≡ keys_of (map entry_of items)
keys_alike [] = refl
keys_alike (i ∷ items) = ap (λ (names : List (List ℕ)). i.name ∷ names) (keys_alike items)

own_pairs : (items : List Item) → AllByRecursion (λ (e : List ℕ × Item). e.0 ≡ e.1.name) (map pair items)
own_pairs [] = tt
own_pairs (i ∷ items) = (refl, own_pairs items)

note_put : (x : Item) (items : List Item) → map entry_of (values_of (insert_entry bytes_cmp (map pair items) x.name x)) ≡ insert_entry bytes_cmp (map entry_of items) x.name (note_of x.artifact)
note_put x [] = refl
note_put x (i ∷ items) =
    elim (bytes_cmp x.name i.name) as
    (λ r. bytes_cmp x.name i.name ≡ r → map entry_of (values_of (match_ordering r (pair x ∷ pair i ∷ map pair items) ((i.name, x) ∷ map pair items) (pair i ∷ insert_entry bytes_cmp (map pair items) x.name x)))
    ≡ match_ordering r (entry_of x ∷ entry_of i ∷ map entry_of items) ((i.name, note_of x.artifact) ∷ map entry_of items) (entry_of i ∷ insert_entry bytes_cmp (map entry_of items) x.name (note_of x.artifact))) [
      | Less ↦ λ _. ap (λ (xs : List Item). entry_of x ∷ entry_of i ∷ map entry_of xs) (values_pairs items)
      | Equal ↦ λ h. λ k. (bytes_cmp-IsAntisymmetric x.name i.name h k, note_of x.artifact) ∷ map entry_of (values_pairs items k)
      | Greater ↦ λ _. ap (λ (es : List (List ℕ × Note)). entry_of i ∷ es) (note_put x items)
    ] refl

-- an insert of its note goes with an item more
pub note_more : (x : Item) (items : List Item) (entries : List (List ℕ × Note)) → entries ≡ map entry_of items → IsStrictlySortedBy bytes_cmp (keys_of entries)
    → insert_entry bytes_cmp entries x.name (note_of x.artifact) ≡ map entry_of (with_item x items)
note_more x items entries is rise =
    let rising : IsStrictlySortedBy bytes_cmp (keys_of (map pair items)) =
    subst (IsStrictlySortedBy bytes_cmp) (ap (λ (es : List (List ℕ × Note)). keys_of es) is ∙ sym (keys_alike items)) rise in
    let kept : IsKept (λ (i : Item). i.name) (map pair items) = record { rising = rising; named = own_pairs items } in
    let put : values_of (insert_entry bytes_cmp (map pair items) x.name x) ≡ with_item x items =
    values-insert (λ (i : Item). i.name) x (map pair items) kept ∙ ap (λ (xs : List Item). by_name (λ (i : Item). i.name) (x ∷ xs)) (values_pairs items) in
    ap (λ (es : List (List ℕ × Note)). insert_entry bytes_cmp es x.name (note_of x.artifact)) is ∙ sym (note_put x items) ∙ ap (λ (xs : List Item). map entry_of xs) put

-- ---- all texts

no_entries : map_of.entries (map_of.empty {K = List ℕ} {X = Held} {R = bytes_cmp}) ≡ []
no_entries = nil_from_length (map_of.entries (map_of.empty {K = List ℕ} {X = Held} {R = bytes_cmp})) (sym (map_of.len-entries (map_of.empty {K = List ℕ} {X = Held} {R = bytes_cmp})) ∙ map_of.len-empty bytes_cmp Held)

-- no contents have no items
pub none_held : IsSetOf nothing []
none_held = record {
  held = subst (λ (es : List (List ℕ × Held)). AllZip IsItemOf es []) (sym no_entries) tt;
  unshunned = λ name. set.contains-empty bytes_cmp name;
}

contents_from : (c : Contents) (texts : List (List ℕ)) → all_after c texts ≡ fold after c (map public_record texts)
contents_from c [] = refl
contents_from c (text ∷ texts) = contents_from (after c (public_record text)) texts

pub all_contents : (texts : List (List ℕ)) → all_after nothing texts ≡ contents (map public_record texts)
all_contents texts = contents_from nothing texts

-- ---- what the parts of it say

-- whether a name is there, as the notes say
pub there_is : (name : List ℕ) (items : List Item) (entries : List (List ℕ × Note)) (b : Bool) → entries ≡ map entry_of items → is_some (lookup (is_at (bytes_cmp name)) entries) ≡ b
    → has (map (λ i. i.name) items) name ≡ b
there_is name items entries b noted is =
    sym (noted_has items name) ∙ ap (λ (es : List (List ℕ × Note)). is_some (lookup (is_at (bytes_cmp name)) es)) (sym noted) ∙ is

-- the notes with that of an item more
pub new_note : (x : Item) (before now : List Item) (note : Note) (old new : List (List ℕ × Note)) → old ≡ map entry_of before → IsStrictlySortedBy bytes_cmp (keys_of old)
    → note ≡ note_of x.artifact → new ≡ insert_entry bytes_cmp old x.name note → now ≡ with_item x before → new ≡ map entry_of now
new_note x before now note old new noted rise is put items =
    put ∙ ap (λ (n : Note). insert_entry bytes_cmp old x.name n) is ∙ note_more x before old noted rise ∙ ap (λ (xs : List Item). map entry_of xs) (sym items)

-- a name that is there leaves the set
pub old_text : (text name : List ℕ) (before : Seen) → name ≡ name_of text → has (map (λ i. i.name) before.items) name ≡ true → IsTextAdded text before before
old_text text name before named there = record {
  set = λ c s. passed_over c before.items text s (ap (λ (q : List ℕ). has (map (λ i. i.name) before.items) q) (sym named) ∙ there);
  fields = refl;
}

-- another one goes into it
pub new_text : (text : List ℕ) (before now : Seen) (item : Item) → has (map (λ i. i.name) before.items) item.name ≡ false → IsItemOf (name_of text, public_held text) item
    → now.items ≡ with_item item before.items → now.fields ≡ before.fields → IsTextAdded text before now
new_text text before now item absent fits items fields = record {
  set = λ c s.
      subst (λ (xs : List Item). IsSetOf (after c (public_record text)) xs) (sym items)
      (text_added c before.items text item s (ap (λ (q : List ℕ). has (map (λ i. i.name) before.items) q) (sym fits.name) ∙ absent) fits);
  fields = fields;
}

-- what the texts that were passed leave, the others lead to what all leave
pub record IsOnWay (texts left : List (List ℕ)) (before now : Seen) : Type 0 where
  pub set : (c : Contents) → IsSetOf c before.items → (d : Contents) × IsSetOf d now.items × (all_after d left ≡ all_after c texts)
  pub fields : now.fields ≡ before.fields

pub way_begun : (texts left : List (List ℕ)) (before : Seen) → left ≡ texts → IsOnWay texts left before before
way_begun texts left before same = record { set = λ c s. (c, s, ap (λ (ts : List (List ℕ)). all_after c ts) same); fields = refl }

pub way_on : (texts left rest : List (List ℕ)) (text : List ℕ) (before now later : Seen) → IsOnWay texts left before now → left ≡ text ∷ rest → IsTextAdded text now later
    → IsOnWay texts rest before later
way_on texts left rest text before now later way first added = record {
  set = λ c s.
      let there = way.set c s in
      (after there.0 (public_record text), added.set there.0 there.1, ap (λ (ts : List (List ℕ)). all_after there.0 ts) (sym first) ∙ there.2);
  fields = added.fields ∙ way.fields;
}

pub way_ended : (texts left : List (List ℕ)) (before now : Seen) → IsOnWay texts left before now → left ≡ [] → AreTextsAdded texts before now
way_ended texts left before now way ended = record {
  set = λ c s.
      let there = way.set c s in
      subst (λ (d : Contents). IsSetOf d now.items) (ap (λ (ts : List (List ℕ)). all_after there.0 ts) (sym ended) ∙ there.2) there.1;
  fields = way.fields;
}

-- the summary of a set that was empty is that of the texts
pub set_summed : (texts : List (List ℕ)) (before now : Seen) (text : List ℕ) → before.items ≡ [] → before.fields ≡ [] → AreTextsAdded texts before now
    → text ≡ summary (tables now.fields now.items) now.items → IsSummed texts text
set_summed texts before now text fresh plain added is =
    let made = added.set nothing (subst (λ (is : List Item). IsSetOf nothing is) (sym fresh) none_held) in (
      now.items,
      subst (λ (c : Contents). AreItems c.held now.items) (all_contents texts) made.held,
      is ∙ ap (λ (fields : List (List ℕ)). summary (tables fields now.items) now.items) (added.fields ∙ plain),
    )

pub summed_by : (texts : List (List ℕ)) (before now : Seen) (result : Result (List ℕ) Memory) → before.items ≡ [] → before.fields ≡ [] → AreTextsAdded texts before now
    → IfOk result (λ text. text ≡ summary (tables now.fields now.items) now.items) → IfOk result (IsSummed texts)
summed_by texts before now (Ok text) fresh plain added is = set_summed texts before now text fresh plain added is
summed_by texts before now (Err e) fresh plain added is = tt
