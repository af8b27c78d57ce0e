-- Files that arrive in a set.
use Rattle.std.proofs.Common.{◌≡◌, inl, ℕ, suc, ◌+◌, ◌≤◌, ◌<◌, take, get_or, Bool, true, false, cond, not, List, [], ◌∷◌, ◌++◌, length, map, Option, Some, None, Result, Ok, Err, refl, sym, ap, subst, ◌∙◌, arith}
use Rattle.std.specs.Prelude.{◌^◌, ◌&&◌, ◌||◌, nat_lt, filter, flat_map, codes, sum_by, if◌then◌else◌, is_some}
use Rattle.std.proofs.lemmas.Bool.{le-ltb, ltb-false, or_parts}
use Rattle.std.specs.List.{AllZip, list_any}
use Rattle.std.specs.List.Sorted.{IsStrictlySortedBy}
use Rattle.std.specs.Option.{option_map_or}
use Rattle.std.specs.Str.{bytes_eq}
use Rattle.std.specs.Cmp.Lexicographic.{texts_ties, bytes_decides}
use Rattle.std.specs.BTreeSet.{BTreeSet, contains, Updates}
use Rattle.std.specs.Prelude.{IfOk, OnOk}
use Rattle.std.specs.Cmp.{eq_by_cmp_equiv}
use Rattle.std.proofs.lemmas.List.{take_more}
use Rattle.std.proofs.lemmas.List.Folds.{list_any-append}
use Rattle.fsl_order.proofs.Orders.{bytes_cmp-IsTotalOrder}
use Rattle.fsl_text.specs.declared.memory.Memory.{Memory}
use Rattle.fsl_artifact.specs.declared.Artifact.{Artifact}
use Rattle.fsl_artifact.specs.Kind.{IsKind}
use Rattle.std.specs.FinMap as map_of
use Rattle.std.specs.FinSet as set
use Rattle.fsl_name.specs.Name.{name_of}
use Rattle.fsl_order.specs.Names.{bytes_cmp, has}
use Rattle.fsl_order.proofs.AscendingLemmas.{has-ascending}
use Rattle.fsl_order.proofs.SortedLemmas.{ascending-from}
use Rattle.fsl_record.specs.declared.Record.{Record}
use Rattle.fsl_record.specs.declared.Record.TheVariants as record_of
use Rattle.fsl_blobs.specs.Fold.{Held, HeldSet, Contents, contents, after, held_bytes}
use Rattle.fsl_blobs.specs.Held.{state_of}
use Rattle.fsl_blobs.specs.Laws.{ShunnedAreNotHeld}
use Rattle.fsl_blobs.specs.declared.BlobState.TheVariants as blob
use Rattle.fsl_blobs.proofs.Totals.{bytes_more}
use Rattle.fsl_cluster.specs.declared.Fact.{Fact}
use Rattle.fsl_cluster.specs.Clusters.{names, missing, unclustered, wants}
use Rattle.fsl_cross.specs.declared.Item.{Item}
use Rattle.fsl_cross.specs.Facts.{cluster_fact}
use Rattle.fsl_cross.specs.Tables.{with_item}
use Rattle.fsl_repo.specs.declared.Arrival.{Arrival}
use Rattle.fsl_repo.specs.declared.Arrival.TheVariants as arrival
use Rattle.fsl_repo.specs.declared.ArriveFault.{ArriveFault}
use Rattle.fsl_repo.specs.declared.ArriveFault.TheVariants as arrive_fault
use Rattle.fsl_repo.specs.Machine.{State, now, AreItems, IsItemOf, IsArrival, arrived, room, room_of, IsRoom, with_blob}
use Rattle.fsl_repo.proofs.HeldMore.{absent_is, blob_after, contents_more}
use Rattle.fsl_repo.proofs.OneList.{are_one_list}
use Rattle.fsl_repo.proofs.Arrivals as steps
use Rattle.fossil.specs.declared.reading.gathering.Gathered.{Gathered}
use Rattle.fossil.specs.declared.reading.message.MessageFile.{MessageFile}
use Rattle.fossil.specs.Printed.{Printed, name_line}
use Rattle.fossil.specs.Arrivals.{Taken, none_taken, refusal_of, and_taken, Arrive}
use Rattle.fossil.specs.Ingest.{fresh, IsSetPrinted}
use Rattle.fossil.specs.Taking.{IsGathered, IsGatheredBy, WantsUnnoted, is_noted, IsAdded, MakesPublic, AreNoted, IsNotedAs, IsFactOf, report_of}
use Rattle.fsl_repo.proofs.SomeArrival.{some_items}
use Rattle.fossil.proofs.ArrivalLemmas.{is_arrival, never_stopped, GoesOn, one_more, refused_here, none_left}
use Rattle.std.specs.BTreeMap.{get, insert_entry, values}
use Rattle.std.proofs.lemmas.List.{nil_from_length}
use Rattle.fossil.proofs.NotedLemmas.{none_held, some_held, noted_held, noted_more, facts_noted}
use Rattle.fossil.proofs.SetLemmas.{bytes_published, facts_of, public, names_held, none_shunned, items_with, missing_with, missing_published, items_of_facts}

abbrev Told : Type 0
Told = Result Arrival ArriveFault

-- ---- rooms

room_by : (b n w : ℕ) (t : Bool) (told : Told) → told ≡ (if t then Err (arrive_fault.Full b n w) else Ok arrival.Stored) → told ≡ Err arrive_fault.Memory → ⊥
room_by b n w true told is e = cc
room_by b n w false told is e = cc

room_no_memory : (b n w : ℕ) → room_of b n w ≡ Err arrive_fault.Memory → ⊥
room_no_memory b n w e = room_by b n w _ (room_of b n w) refl e

stored_by : (b n w : ℕ) (t : Bool) (a : Arrival) → Ok a ≡ (if t then Err (arrive_fault.Full b n w) else Ok arrival.Stored) → a ≡ arrival.Stored
stored_by b n w true a e = absurd cc
stored_by b n w false a e = cc

room_stored : (b n w : ℕ) (a : Arrival) → Ok a ≡ room_of b n w → a ≡ arrival.Stored
room_stored b n w a e = stored_by b n w _ a e

-- what is stored has few bytes
few_by : (b n w : ℕ) (t more : Bool) (a : Arrival) → nat_lt (2 ^ 30) b ≡ t → Ok a ≡ (if t || more then Err (arrive_fault.Full b n w) else Ok arrival.Stored) → b ≤ 2 ^ 30
few_by b n w true more a e is = absurd cc
few_by b n w false more a e is = ltb-false (2 ^ 30) b e

room_few : (b n w : ℕ) (a : Arrival) → Ok a ≡ room_of b n w → b ≤ 2 ^ 30
room_few b n w a is = few_by b n w (nat_lt (2 ^ 30) b) (nat_lt (2 ^ 20) n || nat_lt (2 ^ 20) w) a refl (is ∙ ap (λ (t : Bool). if t then Err (arrive_fault.Full b n w) else Ok arrival.Stored) (or_apart (nat_lt (2 ^ 30) b) (nat_lt (2 ^ 20) n) (nat_lt (2 ^ 20) w))) where
  or_apart : (x y z : Bool) → (x || y || z) ≡ (x || (y || z))
  or_apart true y z = refl
  or_apart false y z = refl

turned_true : (b : Bool) → not b ≡ false → b ≡ true
turned_true true e = refl
turned_true false e = cc

all_zip_length : (es : List (List ℕ × Held)) (fs : List (List ℕ × Fact)) → AllZip IsNotedAs es fs → length es ≡ length fs
all_zip_length [] [] all = refl
all_zip_length [] (f ∷ fs) all = absurd all
all_zip_length (e ∷ es) [] all = absurd all
all_zip_length (e ∷ es) (f ∷ fs) all = ap suc (all_zip_length es fs all.1)

faults_same : (s : State) (name bytes : List ℕ) (private : Bool) (r : Told) → (arrived s name None bytes private r).faults ≡ s.faults
faults_same s name bytes private (Ok arrival.Shunned) = refl
faults_same s name bytes private (Ok arrival.Present) = refl
faults_same s name bytes private (Ok arrival.Published) = refl
faults_same s name bytes private (Ok arrival.Stored) = refl
faults_same s name bytes private (Err fault) = refl

-- ---- a fresh set

no_entries : {held : HeldSet} → held ≡ map_of.empty → map_of.entries held ≡ []
no_entries is =
    ap map_of.entries is
    ∙ nil_from_length (map_of.entries (map_of.empty {K = List ℕ} {X = Held} {R = bytes_cmp})) (sym (map_of.len-entries (map_of.empty {K = List ℕ} {X = Held} {R = bytes_cmp})) ∙ map_of.len-empty bytes_cmp Held)

-- nothing is held, so there is no item
no_items : (items : List Item) → AreItems map_of.empty items → items ≡ []
no_items [] are = refl
no_items (x ∷ items) are =
    absurd
    (let none : (bytes_eq x.name x.name || has (names (facts_of items)) x.name) ≡ false = names_held map_of.empty (x ∷ items) x.name are ∙ ap is_some (map_of.get-empty bytes_cmp x.name) in
    let parts = or_parts (bytes_eq x.name x.name) (has (names (facts_of items)) x.name) none in
    let same = (bytes_decides x.name x.name).1 refl in cc)

pub fresh_gathered : (g : Gathered) → g.facts.entries ≡ [] → g.bytes ≡ 0 → g.wanted.keys ≡ [] → IsGathered fresh g
fresh_gathered g facts bytes none = record {
  runs = refl;
  none = refl;
  noted =
      subst (λ (es : List (List ℕ × Held)). AllZip IsNotedAs es g.facts.entries) (sym (no_entries refl))
      (subst (λ (fs : List (List ℕ × Fact)). AllZip IsNotedAs [] fs) (sym facts) tt);
  bytes = bytes ∙ sym (ap (λ (es : List (List ℕ × Held)). sum_by (λ (a : Held). length a.bytes) (map (λ e. e.1) es)) (no_entries refl));
  few = omega (arith, bytes);
  wanted = λ items are name.
      ap (λ (keys : List (List ℕ)). contains bytes_cmp (record { keys = keys }) name) none ∙ ap (λ (xs : List Item). has (missing (facts_of xs)) name) (sym (no_items items are));
}

-- an artifact of this name is held, and is private or public
abbrev IsHeldSo : State → List ℕ → Bool → Type 0
IsHeldSo s name private =
    (a : Held) × (map_of.get (now s).held name ≡ Some a) × (state_of (now s) name ≡ (if private then blob.Private (length a.bytes) else blob.Public (length a.bytes)))

-- ---- what a set looks at

module _ (s : State) (g : Gathered) (is : IsGathered s g) where
  -- a name without a fact is neither held nor shunned
  pub absent_here : (name : List ℕ) → is_some (get bytes_cmp g.facts name) ≡ false → state_of (now s) name ≡ blob.Absent
  absent_here name none =
      (λ i. option_map_or (λ a. if a.private then blob.Private (length a.bytes) else blob.Public (length a.bytes)) (none_held (now s).held g.facts name is.noted none i)
      (if set.contains (is.none i) name then blob.Shunned else blob.Absent))
      ∙ ap (λ (b : Bool). if b then blob.Shunned else blob.Absent) (set.contains-empty bytes_cmp name)

  -- and one with a fact is that of an artifact, which is as private
  pub held_here : (name : List ℕ) (f : Fact) → get bytes_cmp g.facts name ≡ Some f → IsHeldSo s name f.private
  held_here name f known =
      let h = some_held (now s).held g.facts name f is.noted known in (
        h.0,
        h.1,
        ap (λ (o : Option Held). option_map_or (λ a. if a.private then blob.Private (length a.bytes) else blob.Public (length a.bytes)) o (if set.contains (now s).shunned name then blob.Shunned else blob.Absent)) h.1
            ∙ ap (λ (b : Bool). if b then blob.Private (length (h.0).bytes) else blob.Public (length (h.0).bytes)) (sym h.2),
      )

  -- ---- an artifact that becomes public

  pub published_gathered : (new : Gathered) (name : List ℕ) (a : Held) → map_of.get (now s).held name ≡ Some a → MakesPublic name g.facts new.facts → new.bytes ≡ g.bytes → new.wanted ≡ g.wanted
      → IsGathered (record s { records = s.records ++ record_of.Publish name ∷ [] }) new
  published_gathered new name a there turns bytes wanted =
      let r = record_of.Publish name in
      let due : contents (s.records ++ r ∷ []) ≡ record (now s) { held = map_of.insert (now s).held name (public a) } =
      contents_more s.records r ∙ ap (λ (o : Option Held). option_map_or (λ a. record (now s) { held = map_of.insert (now s).held name (record a { private = false }) }) o (now s)) there in
      record {
        runs = is.runs;
        none = ap (λ (d : Contents). d.shunned) due ∙ is.none;
        noted = subst (λ (held : HeldSet). AreNoted held new.facts) (sym (ap (λ (d : Contents). d.held) due)) (turns (now s).held a there is.noted);
        bytes = bytes ∙ is.bytes ∙ sym (bytes_published (now s).held name a there) ∙ sym (ap (λ (d : Contents). held_bytes d.held) due);
        few = omega (arith, bytes, is.few);
        wanted = λ items are q.
            let old = some_items (now s).held in
            ap (λ (w : BTreeSet (List ℕ)). contains bytes_cmp w q) wanted ∙ is.wanted old.0 old.1 q
            ∙ ap (λ (ns : List (List ℕ)). has ns q) (sym (missing_published (now s).held name a old.0 items there old.1 (subst (λ held. AreItems held items) (ap (λ (d : Contents). d.held) due) are)));
      }

  -- ---- an artifact that is stored

  module _ (name bytes : List ℕ) (private : Bool) (new : Gathered) (none : is_some (get bytes_cmp g.facts name) ≡ false) (added : IsAdded name (record { private = private; bytes = bytes }) g new) where
    abbrev a : Held
    a = record { private = private; bytes = bytes }

    abbrev r : Record
    r = record_of.Blob private name None bytes

    abbrev item : Item
    item = added.is_fact.0

    abbrev old : List Item
    old = (some_items (now s).held).0

    old_are : AreItems (now s).held old
    old_are = (some_items (now s).held).1

    fits : IsItemOf (item.name, a) item
    fits = record { name = refl; private = added.is_fact.1.private; kind = added.is_fact.1.kind }

    out : (map_of.get (now s).held name ≡ None) × (set.contains (now s).shunned name ≡ false)
    out = absent_is (now s) name (absent_here name none)

    absent : map_of.get (now s).held item.name ≡ None
    absent = ap (λ (n : List ℕ). map_of.get (now s).held n) added.is_fact.1.name ∙ out.0

    abbrev held2 : HeldSet
    held2 = map_of.insert (now s).held name a

    after_is : after (now s) r ≡ record (now s) { held = held2 }
    after_is = blob_after (now s) private name None bytes out.0 out.1

    items2_are : AreItems held2 (with_item item old)
    items2_are =
        subst (λ (n : List ℕ). AreItems (map_of.insert (now s).held n a) (with_item item old)) added.is_fact.1.name (items_with (now s).held old old_are item a fits absent)

    wanted2 : (items : List Item) → AreItems held2 items → (q : List ℕ) → contains bytes_cmp new.wanted q ≡ has (missing (facts_of items)) q
    wanted2 items are q =
        added.wanted q
        ∙ (λ i. cond (bytes_eq q (sym added.is_fact.1.name i)) false (is.wanted old old_are q i || (has (added.is_fact.2 i).refs q && not (noted_held (now s).held g.facts q is.noted i))))
        ∙ missing_with (now s).held old old_are item a fits absent q
        ∙ ap (λ (xs : List Item). has (missing (facts_of xs)) q) (are_one_list held2 (with_item item old) items items2_are are)

    noted2 : AreNoted held2 new.facts
    noted2 = noted_more (now s).held g.facts new.facts name a added.fact is.noted added.is_fact added.facts

    bytes2 : new.bytes ≡ held_bytes held2
    bytes2 = added.bytes ∙ ap (λ (n : ℕ). n + length bytes) is.bytes ∙ sym (bytes_more (now s).held name a out.0)

    count2 : length new.facts.entries ≡ map_of.len held2
    count2 = sym (all_zip_length (map_of.entries held2) new.facts.entries noted2) ∙ sym (map_of.len-entries held2)

    module _ (ordered : IsStrictlySortedBy bytes_cmp new.wanted.keys) where
      abbrev facts2 : List Fact
      facts2 = facts_of (with_item item old)

      keys_are : new.wanted.keys ≡ missing facts2
      keys_are =
          ascending-from (filter (λ q. not (has (names facts2) q)) (flat_map (λ f. f.refs) facts2)) new.wanted.keys ordered
          (λ q. (λ i. list_any (λ k. texts_ties q k i) new.wanted.keys) ∙ wanted2 (with_item item old) items2_are q ∙ has-ascending (filter (λ n. not (has (names facts2) n)) (flat_map (λ f. f.refs) facts2)) q)

      room_is : room_of new.bytes (length new.facts.entries) (length new.wanted.keys) ≡ room (after (now s) r) (with_item item old)
      room_is =
          (λ i. room_of (bytes2 i) (count2 i) (length (keys_are i)))
          ∙ (λ i. room_of (held_bytes held2) (map_of.len held2) (length (sym (none_shunned facts2) i)))
          ∙ ap (λ shunned. room_of (held_bytes held2) (map_of.len held2) (length (wants facts2 (set.items shunned)))) (sym is.none)
          ∙ ap (λ (d : Contents). room d (with_item item old)) (sym after_is)

      stored_arrival : (told : Told) → nat_lt (2 ^ 24) (length bytes) ≡ false → bytes_eq (name_of bytes) name ≡ true → told ≡ room_of new.bytes (length new.facts.entries) (length new.wanted.keys)
          → IsArrival s name bytes private told
      stored_arrival told small named is_room =
          let due = arrived s name None bytes private told in
          let storing : IsRoom (with_blob s name bytes private) told = (with_item item old, subst (λ (d : Contents). AreItems d.held (with_item item old)) (sym after_is) items2_are, is_room ∙ room_is) in
          (is_arrival None s due name bytes private told
          (steps.stored_step s name None bytes private is.runs small named (absent_here name none) told due
          (inl (due, (storing, refl), record { state = refl; faults = omega (arith, faults_same s name bytes private told) })))
          (λ e. room_no_memory new.bytes (length new.facts.entries) (length new.wanted.keys) (sym is_room ∙ e))).0

    stored_gathered : new.bytes ≤ 2 ^ 30 → IsGathered (arrived s name None bytes private (Ok arrival.Stored)) new
    stored_gathered few =
        let due : contents (s.records ++ r ∷ []) ≡ record (now s) { held = held2 } = contents_more s.records r ∙ after_is in
        record {
          runs = is.runs;
          none = ap (λ (d : Contents). d.shunned) due ∙ is.none;
          noted = subst (λ (held : HeldSet). AreNoted held new.facts) (sym (ap (λ (d : Contents). d.held) due)) noted2;
          bytes = bytes2 ∙ sym (ap (λ (d : Contents). held_bytes d.held) due);
          few = few;
          wanted = λ items are q. wanted2 items (subst (λ (d : Contents). AreItems d.held items) due are) q;
        }

-- ---- answers

-- a fault but want of memory is that of the arrival
pub fault_in : (f : MessageFile) (g new : Gathered) (fault : ArriveFault) → ((s : State) → IsGathered s g → IsArrival s f.name f.bytes f.private (Err fault)) → IsGatheredBy f g new (Err fault)
fault_in f g new (arrive_fault.Stopped n) is = is
fault_in f g new (arrive_fault.TooLarge n) is = is
fault_in f g new (arrive_fault.NameWrong found) is = is
fault_in f g new (arrive_fault.Full b n w) is = is
fault_in f g new arrive_fault.Memory is = tt

fault_of : (f : MessageFile) (g new : Gathered) (fault : ArriveFault) → IsGatheredBy f g new (Err fault) → (fault ≡ arrive_fault.Memory → ⊥) → (s : State) → IsGathered s g → IsArrival s f.name f.bytes f.private (Err fault)
fault_of f g new (arrive_fault.Stopped n) by other s is = by s is
fault_of f g new (arrive_fault.TooLarge n) by other s is = by s is
fault_of f g new (arrive_fault.NameWrong found) by other s is = by s is
fault_of f g new (arrive_fault.Full b n w) by other s is = by s is
fault_of f g new arrive_fault.Memory by other s is = absurd (other refl)

module _ (f : MessageFile) (g : Gathered) where
  pub large_in : (new : Gathered) → nat_lt (2 ^ 24) (length f.bytes) ≡ true → IsGatheredBy f g new (Err (arrive_fault.TooLarge (length f.bytes)))
  large_in new large s is = (is_arrival None s s f.name f.bytes f.private (Err (arrive_fault.TooLarge (length f.bytes))) (steps.large_step s f.name None f.bytes f.private is.runs large) (λ e. cc)).0

  module _ (small : nat_lt (2 ^ 24) (length f.bytes) ≡ false) where
    pub wrong_in : (new : Gathered) (found : List ℕ) → found ≡ name_of f.bytes → bytes_eq (name_of f.bytes) f.name ≡ false → IsGatheredBy f g new (Err (arrive_fault.NameWrong found))
    wrong_in new found named other =
        subst (λ (n : List ℕ). IsGatheredBy f g new (Err (arrive_fault.NameWrong n))) (sym named)
        (λ s is. (is_arrival None s s f.name f.bytes f.private (Err (arrive_fault.NameWrong (name_of f.bytes))) (steps.wrong_step s f.name None f.bytes f.private is.runs small other) (λ e. cc)).0)

    module _ (named : bytes_eq (name_of f.bytes) f.name ≡ true) where
      pub present_in : ShunnedAreNotHeld → (fact : Fact) → get bytes_cmp g.facts f.name ≡ Some fact → (not fact.private || f.private) ≡ true → IsGatheredBy f g g (Ok arrival.Present)
      present_in law fact known stays s is = (present_by law s is (held_here s g is f.name fact known) fact.private refl, is) where
        present_by : ShunnedAreNotHeld → (s : State) → IsGathered s g → IsHeldSo s f.name fact.private → (b : Bool) → fact.private ≡ b → IsArrival s f.name f.bytes f.private (Ok arrival.Present)
        present_by law s is h true e =
            let at : state_of (now s) f.name ≡ blob.Private (length (h.0).bytes) = h.2 ∙ ap (λ (p : Bool). if p then blob.Private (length (h.0).bytes) else blob.Public (length (h.0).bytes)) e in
            let kept : f.private ≡ true = sym (ap (λ (p : Bool). not p || f.private) e) ∙ stays in
            (is_arrival None s s f.name f.bytes f.private (Ok arrival.Present) (steps.private_step s f.name None f.bytes f.private is.runs small named law (length (h.0).bytes) at kept) (λ e. cc)).0
        present_by law s is h false e =
            let at : state_of (now s) f.name ≡ blob.Public (length (h.0).bytes) = h.2 ∙ ap (λ (p : Bool). if p then blob.Private (length (h.0).bytes) else blob.Public (length (h.0).bytes)) e in
            (is_arrival None s s f.name f.bytes f.private (Ok arrival.Present) (steps.public_step s f.name None f.bytes f.private is.runs small named law (length (h.0).bytes) at) (λ e. cc)).0

      pub published_in : ShunnedAreNotHeld → (fact : Fact) (new : Gathered) → get bytes_cmp g.facts f.name ≡ Some fact → (not fact.private || f.private) ≡ false
          → MakesPublic f.name g.facts new.facts → new.bytes ≡ g.bytes → new.wanted ≡ g.wanted → IsGatheredBy f g new (Ok arrival.Published)
      published_in law fact new known goes turns bytes wanted s is =
          let h = held_here s g is f.name fact known in
          let parts = or_parts (not fact.private) f.private goes in
          let private : fact.private ≡ true = turned_true fact.private parts.0 in
          let at : state_of (now s) f.name ≡ blob.Private (length (h.0).bytes) = h.2 ∙ ap (λ (p : Bool). if p then blob.Private (length (h.0).bytes) else blob.Public (length (h.0).bytes)) private in
          let due : State = record s { records = s.records ++ record_of.Publish f.name ∷ [] } in (
            (is_arrival None s due f.name f.bytes f.private (Ok arrival.Published)
                (steps.published_step s f.name None f.bytes f.private is.runs small named law (length (h.0).bytes) at parts.1 (Ok arrival.Published) due
                (inl (due, (refl, refl), record { state = refl; faults = omega arith }))) (λ e. cc)).0,
            published_gathered s g is new f.name h.0 h.1 turns bytes wanted,
          )

  module _ (new : Gathered) (small : length f.bytes ≤ 2 ^ 24) (named : bytes_eq (name_of f.bytes) f.name ≡ true) (none : is_some (get bytes_cmp g.facts f.name) ≡ false)
      (added : IsAdded f.name (record { private = f.private; bytes = f.bytes }) g new) (ordered : IsStrictlySortedBy bytes_cmp new.wanted.keys) where
    abbrev Room : Told
    Room = room_of new.bytes (length new.facts.entries) (length new.wanted.keys)

    pub stored_in : (stored : Arrival) → Ok stored ≡ Room → IsGatheredBy f g new (Ok stored)
    stored_in stored fits =
        let is_stored : stored ≡ arrival.Stored = (room_stored new.bytes (length new.facts.entries) (length new.wanted.keys) stored fits) in
        let few : new.bytes ≤ 2 ^ 30 = room_few new.bytes (length new.facts.entries) (length new.wanted.keys) stored fits in
        subst (λ (a : Arrival). IsGatheredBy f g new (Ok a)) (sym is_stored)
        (λ s is. (
          stored_arrival s g is f.name f.bytes f.private new none added ordered (Ok arrival.Stored) (le-ltb (2 ^ 24) (length f.bytes) small) named (ap Ok (sym is_stored) ∙ fits),
          stored_gathered s g is f.name f.bytes f.private new none added few,
        ))

    pub full_in : (fault : ArriveFault) → Err fault ≡ Room → IsGatheredBy f g new (Err fault)
    full_in fault full =
        fault_in f g new fault
        (λ s is. stored_arrival s g is f.name f.bytes f.private new none added ordered (Err fault) (le-ltb (2 ^ 24) (length f.bytes) small) named full)

    pub room_in : (told : Told) → told ≡ Room → IsGatheredBy f g new told
    room_in (Ok stored) is = stored_in stored is
    room_in (Err fault) is = full_in fault is

-- ---- files one after another

-- files were taken, and these are left of all
pub record AreGathered (all left : List MessageFile) (g : Gathered) : Type 0 where
  pub taken : Taken
  pub goes_on : GoesOn None (none_taken fresh) all taken left
  pub state : IsGathered taken.state g

module _ (all left rest : List MessageFile) (f : MessageFile) (g new : Gathered) (are : AreGathered all left g) (split : left ≡ f ∷ rest) where
  pub gathered_more : (a : Arrival) → IsGatheredBy f g new (Ok a) → AreGathered all rest new
  gathered_more a by = let one = by are.taken.state are.state in
      record { taken = and_taken None are.taken f (Ok a); goes_on = one_more None (none_taken fresh) are.taken all left rest f a are.goes_on split one.0; state = one.1 }

  module _ (fault : ArriveFault) (by : IsGatheredBy f g new (Err fault)) where
    pub never_so : (n : ℕ) → fault ≡ arrive_fault.Stopped n → ⊥
    never_so n same =
        never_stopped are.taken.state f.name f.bytes f.private n are.state.runs (subst (λ (x : ArriveFault). IsGatheredBy f g new (Err x)) same by are.taken.state are.state)

    pub gathered_refused : (refusal : Printed) → refusal_of f.name (Err fault) ≡ Some refusal → Arrive None (none_taken fresh) all (Err refusal)
    gathered_refused refusal refuses =
        let other : fault ≡ arrive_fault.Memory → ⊥ = (λ e. let same : refusal_of f.name (Err arrive_fault.Memory) ≡ Some refusal = subst (λ (x : ArriveFault). refusal_of f.name (Err x) ≡ Some refusal) e refuses in cc) in
        refused_here None (none_taken fresh) are.taken all left rest f fault refusal are.goes_on split (fault_of f g new fault by other are.taken.state are.state) refuses

pub all_gathered : (all left : List MessageFile) (g : Gathered) → AreGathered all left g → left ≡ [] → (taken : Taken) × Arrive None (none_taken fresh) all (Ok taken) × IsGathered taken.state g
all_gathered all left g are none = (are.taken, none_left None (none_taken fresh) are.taken all left are.goes_on none, are.state)

-- ---- what is printed

pub set_printed : (s : State) (g : Gathered) (text : List ℕ) → IsGathered s g → text ≡ report_of (values g.facts) → IsSetPrinted s (record { status = 0; text = text })
set_printed s g text is printed =
    let items = items_of_facts (map_of.entries (now s).held) (values g.facts) (facts_noted (map_of.entries (now s).held) g.facts.entries is.noted) in
    let whole : text ≡ flat_map (name_line (codes "unclustered")) (unclustered (facts_of items.0)) ++ flat_map (name_line (codes "wanted")) (wants (facts_of items.0) (set.items (now s).shunned)) =
    printed ∙ ap report_of items.2
    ∙ (λ i. flat_map (name_line (codes "unclustered")) (unclustered (facts_of items.0)) ++ flat_map (name_line (codes "wanted")) (sym (none_shunned (facts_of items.0)) i))
    ∙ (λ i. flat_map (name_line (codes "unclustered")) (unclustered (facts_of items.0)) ++ flat_map (name_line (codes "wanted")) (wants (facts_of items.0) (set.items (sym is.none i)))) in
    (items.0, items.1, λ i. record { status = 0; text = whole i })

-- the same of what was written
pub printed_set : (g : Gathered) (printed : List Fact) (r : Result (List ℕ) Memory) → printed ≡ values g.facts → IfOk r (λ text. text ≡ report_of printed)
    → IfOk r (λ text. (s : State) → IsGathered s g → IsSetPrinted s (record { status = 0; text = text }))
printed_set g printed (Err fault) same told = tt
printed_set g printed (Ok text) same told = λ s is. set_printed s g text is (told ∙ ap report_of same)

-- ---- what is read of bytes

-- the fact of an artifact is that of what its bytes are
pub is_fact_of : (name bytes : List ℕ) (private : Bool) (a : Artifact) (r : Result Fact Memory) → IsKind bytes a
    → IfOk r (λ fact. fact ≡ cluster_fact (record { name = name; private = private; artifact = a })) → IfOk r (IsFactOf (name, record { private = private; bytes = bytes }))
is_fact_of name bytes private a (Ok fact) is told = (record { name = name; private = private; artifact = a }, record { name = refl; private = refl; kind = is }, told)
is_fact_of name bytes private a (Err fault) is told = tt

turned : (a b : List ℕ) → bytes_eq a b ≡ bytes_eq b a
turned a b = texts_ties a b ∙ (eq_by_cmp_equiv bytes_cmp-IsTotalOrder).symm a b ∙ sym (texts_ties b a)

-- a name more is wanted, unless it is held
pub wanted_more : (was new : BTreeSet (List ℕ)) (name : List ℕ) (held : List ℕ → Bool) → Updates bytes_cmp was new name true → held name ≡ false
    → (q : List ℕ) → contains bytes_cmp new q ≡ (contains bytes_cmp was q || (bytes_eq q name && not (held q)))
wanted_more was new name held updates absent q =
    updates.0 q ∙ ap (λ (b : Bool). cond b true (contains bytes_cmp was q)) (sym (texts_ties name q)) ∙ by (bytes_eq name q) refl
  where
    or_true : (b : Bool) → true ≡ (b || true)
    or_true true = refl
    or_true false = refl

    or_false : (b : Bool) → b ≡ (b || false)
    or_false true = refl
    or_false false = refl

    by : (b : Bool) → bytes_eq name q ≡ b → cond b true (contains bytes_cmp was q) ≡ (contains bytes_cmp was q || (bytes_eq q name && not (held q)))
    by true e =
        let same : name ≡ q = (bytes_decides name q).0 e in
        or_true (contains bytes_cmp was q) ∙ (λ i. contains bytes_cmp was q || (sym (turned q name ∙ e) i && not (sym (ap held (sym same) ∙ absent) i)))
    by false e = or_false (contains bytes_cmp was q) ∙ (λ i. contains bytes_cmp was q || (sym (turned q name ∙ e) i && not (held q)))

pub wanted_same : (was : BTreeSet (List ℕ)) (name : List ℕ) (held : List ℕ → Bool) → held name ≡ true → (q : List ℕ) → contains bytes_cmp was q ≡ (contains bytes_cmp was q || (bytes_eq q name && not (held q)))
wanted_same was name held there q = by (bytes_eq q name) refl
  where
    or_false : (b : Bool) → b ≡ (b || false)
    or_false true = refl
    or_false false = refl

    by : (b : Bool) → bytes_eq q name ≡ b → contains bytes_cmp was q ≡ (contains bytes_cmp was q || (bytes_eq q name && not (held q)))
    by true e =
        let same : q ≡ name = (bytes_decides q name).0 e in
        or_false (contains bytes_cmp was q) ∙ (λ i. contains bytes_cmp was q || (sym e i && not (sym (ap held same ∙ there) i)))
    by false e = or_false (contains bytes_cmp was q) ∙ (λ i. contains bytes_cmp was q || (sym e i && not (held q)))

-- a name less
pub wanted_less : (was mid new : BTreeSet (List ℕ)) (name : List ℕ) (refs : List (List ℕ)) (held : List ℕ → Bool) → ((q : List ℕ) → contains bytes_cmp mid q ≡ (contains bytes_cmp was q || (has refs q && not (held q)))) → Updates bytes_cmp mid new name false
    → (q : List ℕ) → contains bytes_cmp new q ≡ cond (bytes_eq q name) false (contains bytes_cmp was q || (has refs q && not (held q)))
wanted_less was mid new name refs held grown updates q =
    updates.0 q ∙ ap (λ (b : Bool). cond b false (contains bytes_cmp mid q)) (sym (texts_ties name q) ∙ turned name q) ∙ ap (λ (b : Bool). cond (bytes_eq q name) false b) (grown q)

-- one name more of a list
pub wanted_next : (some : List (List ℕ)) (i : ℕ) (name : List ℕ) (first was new : BTreeSet (List ℕ)) (held : List ℕ → Bool) → i < length some → name ≡ get_or some i name
    → ((q : List ℕ) → contains bytes_cmp was q ≡ (contains bytes_cmp first q || (has (take i some) q && not (held q))))
    → ((q : List ℕ) → contains bytes_cmp new q ≡ (contains bytes_cmp was q || (bytes_eq q name && not (held q))))
    → (q : List ℕ) → contains bytes_cmp new q ≡ (contains bytes_cmp first q || (has (take (i + 1) some) q && not (held q)))
wanted_next some i name first was new held lt is so_far more q =
    let next : take (i + 1) some ≡ take i some ++ name ∷ [] = take_more some i name lt ∙ ap (λ (x : List ℕ). take i some ++ x ∷ []) (sym is) in
    more q ∙ ap (λ (b : Bool). b || (bytes_eq q name && not (held q))) (so_far q)
    ∙ by (contains bytes_cmp first q) (has (take i some) q) (bytes_eq q name) (not (held q))
    ∙ ap (λ (b : Bool). contains bytes_cmp first q || (b && not (held q))) (sym (list_any-append (bytes_eq q) (take i some) (name ∷ [])) ∙ sym (ap (λ (ns : List (List ℕ)). has ns q) next))
  where
    by : (a b c d : Bool) → ((a || (b && d)) || (c && d)) ≡ (a || ((b || (c || false)) && d))
    by true b c d = refl
    by false true c true = refl
    by false true true false = refl
    by false true false false = refl
    by false false true d = refl
    by false false false d = refl

-- an artifact was added, by what its parts say
pub was_added : {A E : Type 0} (name : List ℕ) (a : Held) (was new : Gathered) (fact : Fact) (mid : BTreeSet (List ℕ)) (r : Result A E) → IsFactOf (name, a) fact
    → WantsUnnoted (has fact.refs) was.facts was.wanted mid → Updates bytes_cmp mid new.wanted name false → new.bytes ≡ was.bytes + length a.bytes
    → OnOk r (new.facts.entries ≡ insert_entry bytes_cmp was.facts.entries name fact) → OnOk r (IsAdded name a was new)
was_added name a was new fact mid (Err fault) is grown updates bytes put = tt
was_added name a was new fact mid (Ok done) is grown updates bytes put = record {
  fact = fact;
  is_fact = is;
  facts = put;
  bytes = bytes;
  wanted = wanted_less was.wanted mid new.wanted name fact.refs (is_noted was.facts) grown updates;
}
