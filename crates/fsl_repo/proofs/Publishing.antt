-- A repository that publishes an artifact.
use Rattle.std.proofs.Common.{◌≡◌, inl, ℕ, ◌≤◌, Bool, true, false, cond, not, List, [], ◌∷◌, ◌++◌, length, map, drop, Option, Some, None, Ok, Err, refl, sym, ap, subst, ◌∙◌, arith}
use Rattle.std.specs.Prelude.{⊤, T, ◌&&◌, ◌||◌, if◌then◌else◌, is_some, filter}
use Rattle.std.specs.List.{AllZip}
use Rattle.std.specs.Str.{bytes_eq}
use Rattle.std.specs.Ordering.{is_eq, is_lt, eq_by_cmp}
use Rattle.std.specs.declared.cmp.Ordering.{Ordering}
use Rattle.std.specs.declared.cmp.Ordering.TheVariants.{Less, Equal, Greater}
use Rattle.std.specs.Cmp.{eq_by_cmp_equiv}
use Rattle.std.specs.Cmp.Lexicographic.{texts_ties}
use Rattle.std.specs.Option.{option_map, option_map_or}
use Rattle.std.proofs.lemmas.Bool.{false≢true}
use Rattle.fsl_artifact.specs.Kind.{IsKind}
use Rattle.fsl_blobs.specs.Held as answers
use Rattle.fsl_blobs.specs.declared.BlobState.{BlobState}
use Rattle.fsl_blobs.specs.declared.BlobState.TheVariants as blob
use Rattle.std.specs.FinMap as map_of
use Rattle.std.specs.FinMap.{put, find, is_sorted}
use Rattle.std.specs.FinMap.Entries.{by_order, below_all}
use Rattle.std.specs.FinSet as set
use Rattle.std.proofs.lemmas.List.{drop-append-le, length-append}
use Rattle.std.proofs.lemmas.List.Sums.{length-filter}
use Rattle.std.proofs.lemmas.List.Elements.{filter-append}
use Rattle.fsl_order.specs.Names.{bytes_cmp}
use Rattle.fsl_order.specs.Rows.{named}
use Rattle.fsl_order.proofs.Orders.{bytes_cmp-IsTotalOrder, bytes_cmp-IsAntisymmetric}
use Rattle.fsl_disk.specs.Disk.{DiskState}
use Rattle.fsl_record.specs.declared.Record.{Record}
use Rattle.fsl_record.specs.declared.Record.TheVariants as record_of
use Rattle.fsl_record.specs.Records.{AreRecords}
use Rattle.fsl_journal.specs.Log.{Log}
use Rattle.fsl_journal.specs.Places.{next_place}
use Rattle.fsl_journal.proofs.Belonging.{belongs_append}
use Rattle.fsl_blobs.proofs.Totals.{front_first, front_second, other_less, below_less, none_below}
use Rattle.fsl_blobs.specs.Seen as blobs
use Rattle.fsl_blobs.specs.Seen.{applied}
use Rattle.fsl_blobs.specs.Fold.{Held, Contents, contents, after, is_new}
use Rattle.fsl_blobs.specs.Held.{still_new}
use Rattle.fsl_cross.specs.declared.Item.{Item}
use Rattle.fsl_cross.specs.Tables as tables
use Rattle.fsl_cross.specs.Tables.{public_at, published}
use Rattle.fsl_repo.specs.declared.Arrival.TheVariants as arrival
use Rattle.fsl_repo.specs.declared.ArriveFault.TheVariants as arrive_fault
use Rattle.fsl_repo.specs.Machine.{AreItems, IsItemOf, configured, IsDueOrMemory}
use Rattle.fsl_repo.specs.Arriving.{appended, IsPublishing, is_private}
use Rattle.fsl_repo.specs.Keeping.{state_of, IsKept}
use Rattle.fsl_repo.specs.Whole as whole
use Rattle.fsl_repo.specs.Whole.{is_modelled}
use Rattle.fsl_repo.proofs.HeldMore.{contents_more}
use Rattle.fsl_repo.proofs.OneMore.{records_more, same_more, cached_more, announced_more, state_more}

abbrev told_by : Option Held → Bool → BlobState
told_by o b = option_map_or (λ a. if a.private then blob.Private (length a.bytes) else blob.Public (length a.bytes)) o (if b then blob.Shunned else blob.Absent)

abbrev public : Held → Held
public a = record { private = false; bytes = a.bytes }

-- an item of another name stays
stays : (name : List ℕ) (i : Item) (entry : List ℕ × Held) → IsItemOf entry i → eq_by_cmp bytes_cmp entry.0 name ≡ false → public_at name i ≡ i
stays name i entry is apart =
    ap (λ (b : Bool). if b then record i { private = false } else i) (texts_ties i.name name ∙ ap (λ (n : List ℕ). eq_by_cmp bytes_cmp n name) is.name ∙ apart)

-- a name above another isn't it
above : (name other : List ℕ) → is_eq (bytes_cmp name other) ≡ false → eq_by_cmp bytes_cmp other name ≡ false
above name other h = (eq_by_cmp_equiv bytes_cmp-IsTotalOrder).symm other name ∙ h

all_stay : (name : List ℕ) (es : List (List ℕ × Held)) (items : List Item) → AllZip IsItemOf es items → T (below_all bytes_cmp name es) → AllZip IsItemOf es (map (public_at name) items)
all_stay name [] [] all h = tt
all_stay name [] (i ∷ items) all h = absurd all
all_stay name (e ∷ es) [] all h = absurd all
all_stay name (e ∷ es) (i ∷ items) all h =
    let less = front_first (is_lt (bytes_cmp name e.0)) (below_all bytes_cmp name es) h in (
      subst (IsItemOf e) (sym (stays name i e all.0 (above name e.0 (other_less (bytes_cmp name e.0) less)))) all.0,
      all_stay name es items all.1 (front_second (is_lt (bytes_cmp name e.0)) (below_all bytes_cmp name es) h),
    )

items_published : (name : List ℕ) (a : Held) (es : List (List ℕ × Held)) (items : List Item) → T (is_sorted bytes_cmp es) → AllZip IsItemOf es items → find bytes_cmp name es ≡ Some a
    → AllZip IsItemOf (put bytes_cmp name (public a) es) (map (public_at name) items)
items_published name a [] [] rise all found = absurd cc
items_published name a [] (i ∷ items) rise all found = absurd all
items_published name a (e ∷ es) [] rise all found = absurd all
items_published name a (e ∷ es) (i ∷ items) rise all found =
    let under = front_first (below_all bytes_cmp e.0 es) (is_sorted bytes_cmp es) rise in
    elim (bytes_cmp name e.0) as (λ r. bytes_cmp name e.0 ≡ r → cond (is_eq r) (Some e.1) (find bytes_cmp name es) ≡ Some a
    → AllZip IsItemOf (by_order r ((name, public a) ∷ e ∷ es) ((e.0, public a) ∷ es) (e ∷ put bytes_cmp name (public a) es)) (public_at name i ∷ map (public_at name) items)) [
      | Less ↦ λ p h. let none = none_below name es (below_less name e.0 es p under) in absurd cc
      | Equal ↦ λ p h.
          let same : name ≡ e.0 = bytes_cmp-IsAntisymmetric name e.0 p in
          let bytes : e.1 ≡ a = cc in
          let is_it : bytes_eq i.name name ≡ true = texts_ties i.name name ∙ ap (λ (n : List ℕ). eq_by_cmp bytes_cmp n name) all.0.name ∙ (eq_by_cmp_equiv bytes_cmp-IsTotalOrder).symm e.0 name ∙ ap is_eq p in (
            subst (λ (b : Bool). IsItemOf (e.0, public a) (if b then record i { private = false } else i)) (sym is_it)
                (record { name = all.0.name; private = refl; kind = subst (λ (x : Held). IsKind x.bytes i.artifact) bytes all.0.kind }),
            all_stay name es items all.1 (subst (λ (n : List ℕ). T (below_all bytes_cmp n es)) (sym same) under),
          )
      | Greater ↦ λ p h. (
        subst (IsItemOf e) (sym (stays name i e all.0 (above name e.0 (ap is_eq p)))) all.0,
        items_published name a es items (front_second (below_all bytes_cmp e.0 es) (is_sorted bytes_cmp es) rise) all.1 h,
      )
    ] refl found

is_private_held : (o : Option Held) (b : Bool) → is_private (told_by o b) ≡ true → (a : Held) × (o ≡ Some a)
is_private_held None true h = absurd cc
is_private_held None false h = absurd cc
is_private_held (Some a) b h = (a, refl)

-- ---- the item of a private artifact

alike : (i : Item) (entry : List ℕ × Held) (name : List ℕ) → IsItemOf entry i → bytes_eq i.name name ≡ eq_by_cmp bytes_cmp name entry.0
alike i entry name is = texts_ties i.name name ∙ ap (λ (n : List ℕ). eq_by_cmp bytes_cmp n name) is.name ∙ (eq_by_cmp_equiv bytes_cmp-IsTotalOrder).symm entry.0 name

named_private : (name : List ℕ) (a : Held) (es : List (List ℕ × Held)) (items : List Item) → AllZip IsItemOf es items → find bytes_cmp name es ≡ Some a → option_map (λ i. i.private) (named (λ i. i.name) items name) ≡ Some a.private
named_private name a [] [] all found = absurd cc
named_private name a [] (i ∷ items) all found = absurd all
named_private name a (e ∷ es) [] all found = absurd all
named_private name a (e ∷ es) (i ∷ items) all found =
    ap (λ (b : Bool). option_map (λ i. i.private) (cond b (Some i) (named (λ i. i.name) items name))) (alike i e name all.0)
    ∙ elim (is_eq (bytes_cmp name e.0)) as (λ b. cond b (Some e.1) (find bytes_cmp name es) ≡ Some a → option_map (λ i. i.private) (cond b (Some i) (named (λ i. i.name) items name)) ≡ Some a.private) [
      | true ↦ λ h. let same : e.1 ≡ a = cc in ap Some (all.0.private ∙ ap (λ (x : Held). x.private) same)
      | false ↦ λ h. named_private name a es items all.1 h
    ] found

private_by : (o : Option Held) (b : Bool) → is_private (told_by o b) ≡ true → (a : Held) × (o ≡ Some a) × (a.private ≡ true)
private_by None true h = absurd cc
private_by None false h = absurd cc
private_by (Some a) b h = (a, refl, is_so a.private (length a.bytes) h)
  where
    is_so : (p : Bool) (n : ℕ) → is_private (if p then blob.Private n else blob.Public n) ≡ true → p ≡ true
    is_so true n h = refl
    is_so false n h = absurd cc

pub private_item : (c : Contents) (items : List Item) (name : List ℕ) → AreItems c.held items → is_private (answers.state_of c name) ≡ true → option_map (λ i. i.private) (named (λ i. i.name) items name) ≡ Some true
private_item c items name each private =
    let there = private_by (map_of.get c.held name) (set.contains c.shunned name) private in
    named_private name there.0 (map_of.entries c.held) items each (sym (map_of.get-entries c.held name) ∙ there.1) ∙ ap Some there.2

-- ---- what is kept

module _ (log : Log) (held : blobs.Seen) (all : tables.Seen) (start count : ℕ) (disk : DiskState) (kept : IsKept log held all start count disk) (name : List ℕ)
    (private : is_private (answers.state_of (contents log.records) name) ≡ true)
    (log2 : Log) (held2 : blobs.Seen) (all2 : tables.Seen) (runs : log.stopped ≡ None) where
  abbrev r : Record
  r = record_of.Publish name

  abbrev c : Contents
  c = contents log.records

  there : (a : Held) × (map_of.get c.held name ≡ Some a)
  there = is_private_held (map_of.get c.held name) (set.contains c.shunned name) private

  abbrev c2 : Contents
  c2 = record c { held = map_of.insert c.held name (public there.0) }

  after_is : after c r ≡ c2
  after_is = ap (λ (o : Option Held). option_map_or (λ a. record c { held = map_of.insert c.held name (public a) }) o c) there.1

  module _ (more : log2 ≡ appended log r) (goes : held2 ≡ applied held (next_place log r) r) where
    records2 : log2.records ≡ log.records ++ r ∷ []
    records2 = records_more log log2 held held2 r more goes

    contents2 : contents log2.records ≡ c2
    contents2 = ap contents records2 ∙ contents_more log.records r ∙ after_is

    -- publishing takes no name out of the announced ones, since the name is held and so isn't announced
    announced2 : held2.announced ≡ held.announced
    announced2 =
        announced_more log log2 held held2 r more goes kept.same ∙ ap (λ (x : Contents). still_new x held.announced) after_is
        ∙ set.same_set bytes_cmp-IsTotalOrder bytes_cmp-IsAntisymmetric (still_new c2 held.announced) held.announced
        (λ q.
        set.contains-retain held.announced (is_new c2) q (λ x same. ap (is_new c2) (sym (bytes_cmp-IsAntisymmetric q x same)))
        ∙ keeps (set.contains held.announced q) (is_new c2 q) (λ h. new_after q (kept.announced q h)))
      where
        keeps : (a b : Bool) → (a ≡ true → b ≡ true) → (a && b) ≡ a
        keeps true b h = h refl
        keeps false b h = refl

        new_by : (same shunned : Bool) (o : Option Held) (a : Held) → not (is_some o || shunned) ≡ true → (same ≡ true → is_some o ≡ true) → not (is_some (cond same (Some a) o) || shunned) ≡ true
        new_by true shunned None a h k = absurd (false≢true (k refl))
        new_by true shunned (Some x) a h k = h
        new_by false shunned o a h k = h

        tied : (q : List ℕ) (b : Bool) → eq_by_cmp bytes_cmp q name ≡ b → b ≡ true → is_some (map_of.get c.held q) ≡ true
        tied q b e h =
            let same : q ≡ name = bytes_cmp-IsAntisymmetric q name (is_equal (bytes_cmp q name) (e ∙ h)) in
            ap (λ (n : List ℕ). is_some (map_of.get c.held n)) same ∙ ap is_some there.1
          where
            is_equal : (o : Ordering) → is_eq o ≡ true → o ≡ Equal
            is_equal Less h = absurd cc
            is_equal Equal h = refl
            is_equal Greater h = absurd cc

        new_after : (q : List ℕ) → is_new c q ≡ true → is_new c2 q ≡ true
        new_after q h =
            ap (λ (o : Option Held). not (is_some o || set.contains c.shunned q)) (map_of.get-insert bytes_cmp-IsTotalOrder c.held name (public there.0) q)
            ∙ new_by (eq_by_cmp bytes_cmp q name) (set.contains c.shunned q) (map_of.get c.held q) (public there.0) h (tied q (eq_by_cmp bytes_cmp q name) refl)

    blobs_same : (records : List Record) → whole.blobs (records ++ r ∷ []) ≡ whole.blobs records
    blobs_same records =
        sym (length-filter whole.is_blob (records ++ r ∷ [])) ∙ ap length (filter-append whole.is_blob records (r ∷ []))
        ∙ omega (arith, length-append (filter whole.is_blob records) [], length-filter whole.is_blob records)

    pub published_kept : AreRecords log2.records → all2.items ≡ published name all.items → all2.fields ≡ all.fields → ((q : List ℕ) → set.contains held2.announced q ≡ true → is_new (contents held2.records) q ≡ true)
        → IsKept log2 held2 all2 start count disk
    published_kept fit added same_fields new = record {
      belongs = belongs_append log log2 r (next_place log r) disk kept.belongs runs more;
      records = fit;
      same = same_more log log2 held held2 r more goes kept.same;
      cached = cached_more log log2 held held2 r more goes disk kept.cached;
      items = subst (λ (items : List Item). AreItems (contents log2.records).held items) (sym added)
          (subst (λ (x : Contents). AreItems x.held (published name all.items)) (sym contents2)
          (subst (λ (es : List (List ℕ × Held)). AllZip IsItemOf es (published name all.items)) (sym (map_of.entries-insert bytes_cmp-IsTotalOrder c.held name (public there.0)))
          (items_published name there.0 (map_of.entries c.held) all.items (map_of.entries_sorted c.held) kept.items (sym (map_of.get-entries c.held name) ∙ there.1))));
      fields = same_fields ∙ kept.fields ∙ sym (ap configured contents2);
      announced = λ q h. subst (λ (rs : List Record). is_new (contents rs) q ≡ true) (same_more log log2 held held2 r more goes kept.same).records (new q h);
      loaded = subst (λ (l : Log). start ≤ l.stable) (sym more) kept.loaded;
      stored =
          kept.stored ∙ sym (ap whole.blobs (ap (drop start) records2 ∙ drop-append-le start log.records (r ∷ []) (omega (arith, kept.loaded, kept.belongs.counts))) ∙ blobs_same (drop start log.records));
    }

    pub published_step : IsDueOrMemory (state_of log held disk.faults (is_modelled disk)) (IsPublishing (state_of log held disk.faults (is_modelled disk)) name) (Err arrive_fault.Memory) ⊤ (Ok arrival.Published) (state_of log2 held2 disk.faults (is_modelled disk))
    published_step =
        let s = state_of log held disk.faults (is_modelled disk) in
        inl (
          record s { records = s.records ++ r ∷ [] },
          (refl, refl),
          record { state = state_more log log2 held held2 r more goes held.announced disk.faults (is_modelled disk) announced2; faults = omega arith },
        )
