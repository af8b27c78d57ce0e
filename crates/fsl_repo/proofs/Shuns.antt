-- A repository that shuns a name.
use Rattle.std.proofs.Common.{◌≡◌, inl, ℕ, ◌≤◌, Bool, true, false, cond, not, List, [], ◌∷◌, ◌++◌, length, drop, Option, Some, None, Result, Ok, Err, refl, sym, ap, subst, ◌∙◌, arith}
use Rattle.std.specs.Prelude.{◌&&◌, ◌||◌, IsTrue, if◌then◌else◌, is_some, filter}
use Rattle.std.specs.List.{AllZip}
use Rattle.std.specs.Str.{bytes_eq}
use Rattle.std.specs.Ordering.{eq_by_cmp}
use Rattle.std.specs.Cmp.{eq_by_cmp_equiv}
use Rattle.std.specs.Cmp.Lexicographic.{texts_ties}
use Rattle.std.specs.Option.{option_map_or}
use Rattle.std.specs.FinMap as map_of
use Rattle.std.specs.FinMap.Entries.{where_key}
use Rattle.std.specs.FinSet as set
use Rattle.std.specs.FinSet.{FinSet}
use Rattle.std.proofs.lemmas.List.{drop-append-le, length-append}
use Rattle.std.proofs.lemmas.List.Sums.{length-filter}
use Rattle.std.proofs.lemmas.List.Elements.{filter-append}
use Rattle.fsl_order.specs.Names.{bytes_cmp}
use Rattle.fsl_order.proofs.Orders.{bytes_cmp-IsTotalOrder, bytes_cmp-IsAntisymmetric}
use Rattle.fsl_disk.specs.Disk.{DiskState}
use Rattle.fsl_record.specs.declared.Record.{Record}
use Rattle.fsl_record.specs.declared.Record.TheVariants as record_of
use Rattle.fsl_record.specs.Records.{AreRecords}
use Rattle.fsl_journal.specs.Log.{Log}
use Rattle.fsl_journal.specs.Places.{next_place}
use Rattle.fsl_journal.proofs.Belonging.{belongs_append}
use Rattle.fsl_blobs.proofs.Totals.{other, entries_less}
use Rattle.fsl_blobs.specs.Seen as blobs
use Rattle.fsl_blobs.specs.Seen.{applied}
use Rattle.fsl_blobs.specs.Fold.{Held, HeldSet, Contents, contents, is_new}
use Rattle.fsl_blobs.specs.Held.{still_new}
use Rattle.fsl_cross.specs.declared.Item.{Item}
use Rattle.fsl_cross.specs.Tables as tables
use Rattle.fsl_cross.specs.Tables.{without}
use Rattle.fsl_blobs.specs.Held.{state_of as state_of_name}
use Rattle.fsl_blobs.specs.declared.BlobState.TheVariants as blob
use Rattle.fsl_repo.specs.declared.Shunning.{Shunning}
use Rattle.fsl_repo.specs.declared.Shunning.TheVariants as shunning
use Rattle.fsl_repo.specs.declared.ShunFault.{ShunFault}
use Rattle.fsl_repo.specs.declared.ShunFault.TheVariants as shun_fault
use Rattle.fsl_blobs.specs.Laws.{ShunnedAreNotHeld}
use Rattle.fsl_repo.specs.Machine.{State, AreItems, IsItemOf, configured, now, shun, shunned, ShunStep}
use Rattle.fsl_repo.specs.Keeping.{state_of, IsKept}
use Rattle.fsl_repo.specs.Whole as whole
use Rattle.fsl_repo.specs.Whole.{is_modelled}
use Rattle.fsl_repo.specs.Arriving.{appended}
use Rattle.fsl_repo.proofs.HeldMore.{contents_more, absent_is}
use Rattle.fsl_repo.proofs.OneMore.{records_more, same_more, cached_more, announced_more, state_more}
use Rattle.fsl_repo.proofs.Arrivals.{shunned_by, held_by, public_is, private_is}

-- ---- the held artifacts without one

both_less : (name : List ℕ) (es : List (List ℕ × Held)) (items : List Item) → AllZip IsItemOf es items → AllZip IsItemOf (where_key bytes_cmp (other name) es) (without name items)
both_less name [] [] all = tt
both_less name [] (i ∷ items) all = absurd all
both_less name (e ∷ es) [] all = absurd all
both_less name (e ∷ es) (i ∷ items) all =
    let test : not (bytes_eq i.name name) ≡ other name e.0 =
    ap not (texts_ties i.name name ∙ ap (λ (n : List ℕ). eq_by_cmp bytes_cmp n name) all.0.name ∙ (eq_by_cmp_equiv bytes_cmp-IsTotalOrder).symm e.0 name) in
    let rest = both_less name es items all.1 in
    subst (λ (b : Bool). AllZip IsItemOf (cond (other name e.0) (e ∷ where_key bytes_cmp (other name) es) (where_key bytes_cmp (other name) es)) (cond b (i ∷ without name items) (without name items))) (sym test)
    (elim (other name e.0) as (λ b. AllZip IsItemOf (cond b (e ∷ where_key bytes_cmp (other name) es) (where_key bytes_cmp (other name) es)) (cond b (i ∷ without name items) (without name items))) [ true ↦ (all.0, rest) | false ↦ rest ])

pub items_less : (held : HeldSet) (items : List Item) (name : List ℕ) → AreItems held items → AreItems (map_of.remove held name) (without name items)
items_less held items name each = subst (λ (es : List (List ℕ × Held)). AllZip IsItemOf es (without name items)) (sym (entries_less held name)) (both_less name (map_of.entries held) items each)

-- ---- the announced names

abbrev gone : Contents → List ℕ → Contents
gone c name = record c { held = map_of.remove c.held name; receipts = map_of.remove c.receipts name; shunned = set.insert c.shunned name }

new_by : (same shunned : Bool) (o : Option Held) → not (is_some (cond same None o) || (same || shunned)) ≡ (not same && not (is_some o || shunned))
new_by true shunned o = refl
new_by false shunned o = refl

kept_by : (in_it same new : Bool) → (in_it ≡ true → new ≡ true) → (in_it && (not same && new)) ≡ (not same && in_it)
kept_by true true new h = refl
kept_by true false new h = h refl
kept_by false true new h = refl
kept_by false false new h = refl

announced_less : (c : Contents) (announced : FinSet bytes_cmp) (name : List ℕ) → ((q : List ℕ) → IsTrue (set.contains announced q) → IsTrue (is_new c q)) → still_new (gone c name) announced ≡ set.remove announced name
announced_less c announced name new =
    set.same_set bytes_cmp-IsTotalOrder bytes_cmp-IsAntisymmetric (still_new (gone c name) announced) (set.remove announced name)
    (λ q.
    let is : is_new (gone c name) q ≡ (not (eq_by_cmp bytes_cmp q name) && is_new c q) =
    (λ i. not (is_some (map_of.get-remove bytes_cmp-IsTotalOrder c.held name q i) || set.contains-insert bytes_cmp-IsTotalOrder c.shunned name q i))
    ∙ new_by (eq_by_cmp bytes_cmp q name) (set.contains c.shunned q) (map_of.get c.held q) in
    set.contains-retain announced (is_new (gone c name)) q (λ x same. ap (is_new (gone c name)) (sym (bytes_cmp-IsAntisymmetric q x same)))
    ∙ ap (λ (b : Bool). set.contains announced q && b) is
    ∙ kept_by (set.contains announced q) (eq_by_cmp bytes_cmp q name) (is_new c q) (new q)
    ∙ sym (set.contains-remove bytes_cmp-IsTotalOrder announced name q))

-- ---- what is kept

module _ (log : Log) (held : blobs.Seen) (all : tables.Seen) (start count : ℕ) (disk : DiskState) (kept : IsKept log held all start count disk) (name : List ℕ)
    (log2 : Log) (held2 : blobs.Seen) (all2 : tables.Seen) (runs : log.stopped ≡ None) (more : log2 ≡ appended log (record_of.Shun name))
    (goes : held2 ≡ applied held (next_place log (record_of.Shun name)) (record_of.Shun name)) where
  abbrev r : Record
  r = record_of.Shun name

  abbrev c : Contents
  c = contents log.records

  records2 : log2.records ≡ log.records ++ r ∷ []
  records2 = records_more log log2 held held2 r more goes

  contents2 : contents log2.records ≡ gone c name
  contents2 = ap contents records2 ∙ contents_more log.records r

  announced2 : held2.announced ≡ set.remove held.announced name
  announced2 = announced_more log log2 held held2 r more goes kept.same ∙ announced_less c held.announced name kept.announced

  blobs_same : (records : List Record) → whole.blobs (records ++ r ∷ []) ≡ whole.blobs records
  blobs_same records =
      sym (length-filter whole.is_blob (records ++ r ∷ [])) ∙ ap length (filter-append whole.is_blob records (r ∷ []))
      ∙ omega (arith, length-append (filter whole.is_blob records) [], length-filter whole.is_blob records)

  pub shunned_kept : AreRecords log2.records → all2.items ≡ without name all.items → all2.fields ≡ all.fields → ((q : List ℕ) → set.contains held2.announced q ≡ true → is_new (contents held2.records) q ≡ true)
      → IsKept log2 held2 all2 start count disk
  shunned_kept fit added same_fields new = record {
    belongs = belongs_append log log2 r (next_place log r) disk kept.belongs runs more;
    records = fit;
    same = same_more log log2 held held2 r more goes kept.same;
    cached = cached_more log log2 held held2 r more goes disk kept.cached;
    items = subst (λ (items : List Item). AreItems (contents log2.records).held items) (sym added)
        (subst (λ (x : Contents). AreItems x.held (without name all.items)) (sym contents2) (items_less c.held all.items name kept.items));
    fields = same_fields ∙ kept.fields ∙ sym (ap configured contents2);
    announced = λ q h. subst (λ (rs : List Record). is_new (contents rs) q ≡ true) (same_more log log2 held held2 r more goes kept.same).records (new q h);
    loaded = subst (λ (l : Log). start ≤ l.stable) (sym more) kept.loaded;
    stored =
        kept.stored ∙ sym (ap whole.blobs (ap (drop start) records2 ∙ drop-append-le start log.records (r ∷ []) (omega (arith, kept.loaded, kept.belongs.counts))) ∙ blobs_same (drop start log.records));
  }

  pub shunned_state : (faults : ℕ) (honest : Bool) → state_of log2 held2 faults honest ≡ record (state_of log held faults honest) { records = log.records ++ r ∷ []; announced = set.remove held.announced name }
  shunned_state faults honest = state_more log log2 held held2 r more goes (set.remove held.announced name) faults honest announced2

-- ---- what a shun answers

abbrev Told : Type 0
Told = Result Shunning ShunFault

abbrev told_by : Bool → Bool → Told
told_by b h = if b then Ok shunning.Already else (if h then Ok shunning.Removed else Ok shunning.Listed)

module _ (s : State) (name : List ℕ) where
  pub stopped_step : (n : ℕ) → s.stopped ≡ Some n → ShunStep s name (Err (shun_fault.Stopped n)) s
  stopped_step n is =
      let told : Told = Err (shun_fault.Stopped n) in
      let answer : told ≡ shun s name = ap (λ (o : Option ℕ). option_map_or (λ faults. Err (shun_fault.Stopped faults)) o (told_by (set.contains (now s).shunned name) (map_of.contains_key (now s).held name))) (sym is) in
      inl (s, (answer, refl), record { state = refl; faults = omega arith })

  module _ (runs : s.stopped ≡ None) where
    value : (b h : Bool) → set.contains (now s).shunned name ≡ b → map_of.contains_key (now s).held name ≡ h → told_by b h ≡ shun s name
    value b h p q = λ i. option_map_or (λ faults. Err (shun_fault.Stopped faults)) (sym runs i) (told_by (sym p i) (sym q i))

    pub already_step : state_of_name (now s) name ≡ blob.Shunned → ShunStep s name (Ok shunning.Already) s
    already_step is = inl (s, (value true (map_of.contains_key (now s).held name) (shunned_by (map_of.get (now s).held name) (set.contains (now s).shunned name) is) refl, refl), record { state = refl; faults = omega arith })

    abbrev due : State
    due = record s { records = s.records ++ record_of.Shun name ∷ []; announced = set.remove s.announced name }

    listed_due : (r : Told) → r ≡ shun s name → shunned s name r ≡ due → (new : State) → new ≡ due → ShunStep s name r new
    listed_due r is same new goes =
        inl (
          shunned s name r,
          (is, refl),
          record {
            state = goes ∙ (λ i. record (sym same i) { faults = sym (ap (λ (x : State). x.faults) goes) i });
            faults = omega (arith, ap (λ (x : State). x.faults) goes);
          },
        )

    pub listed_step : state_of_name (now s) name ≡ blob.Absent → (new : State) → new ≡ due → ShunStep s name (Ok shunning.Listed) new
    listed_step is new goes =
        let out = absent_is (now s) name is in
        listed_due (Ok shunning.Listed) (value false false out.1 (ap is_some out.0)) refl new goes

    not_shunned : ShunnedAreNotHeld → (a : Held) → map_of.get (now s).held name ≡ Some a → (b : Bool) → set.contains (now s).shunned name ≡ b → set.contains (now s).shunned name ≡ false
    not_shunned law a held true is = let none = law s.records name is in absurd cc
    not_shunned law a held false is = is

    pub removed_step : ShunnedAreNotHeld → (a : Held) → map_of.get (now s).held name ≡ Some a → (new : State) → new ≡ due → ShunStep s name (Ok shunning.Removed) new
    removed_step law a held new goes =
        listed_due (Ok shunning.Removed) (value false true (not_shunned law a held (set.contains (now s).shunned name) refl) (ap is_some held)) refl new goes

    pub public_held : (n : ℕ) → state_of_name (now s) name ≡ blob.Public n → (a : Held) × (map_of.get (now s).held name ≡ Some a)
    public_held n is = let h = held_by false (map_of.get (now s).held name) (set.contains (now s).shunned name) (blob.Public n) is refl (public_is n).0 (public_is n).1 in (h.0, h.1)

    pub private_held : (n : ℕ) → state_of_name (now s) name ≡ blob.Private n → (a : Held) × (map_of.get (now s).held name ≡ Some a)
    private_held n is = let h = held_by true (map_of.get (now s).held name) (set.contains (now s).shunned name) (blob.Private n) is refl (private_is n).0 (private_is n).1 in (h.0, h.1)
