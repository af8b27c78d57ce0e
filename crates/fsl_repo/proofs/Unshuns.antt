-- A repository that takes a name off the list of the shunned ones.
use mir.Val.{bool_byte}
use Rattle.std.proofs.Common.{◌≡◌, inl, inr, ℕ, ◌+◌, ◌≤◌, ◌<◌, ◌^◌, Bool, true, false, cond, not, List, [], ◌∷◌, ◌++◌, length, map, drop, Option, Some, None, Result, Ok, Err, refl, sym, ap, subst, ◌∙◌, arith}
use Rattle.std.specs.Prelude.{⊤, ◌&&◌, ◌||◌, nat_lt, if◌then◌else◌, is_some, is_none, filter, flat_map, MatchBool, MatchOption}
use Rattle.std.specs.Str.{bytes_eq}
use Rattle.std.specs.Ordering.{is_eq, is_lt, eq_by_cmp}
use Rattle.std.specs.declared.cmp.Ordering.{Ordering}
use Rattle.std.specs.declared.cmp.Ordering.TheVariants.{Less, Equal, Greater}
use Rattle.std.specs.Cmp.{eq_by_cmp_equiv}
use Rattle.std.specs.Cmp.Lexicographic.{texts_ties}
use Rattle.std.specs.FinMap as map_of
use Rattle.std.specs.FinSet as set
use Rattle.std.specs.FinSet.{FinSet}
use Rattle.std.proofs.lemmas.List.{drop-append-le, length-append}
use Rattle.std.proofs.lemmas.List.Sums.{length-filter}
use Rattle.std.proofs.lemmas.List.Elements.{filter-append}
use Rattle.std.proofs.lemmas.Bool.{le-ltb, lt-ltb}
use Rattle.fsl_order.specs.Names.{bytes_cmp, has, is_before}
use Rattle.fsl_order.specs.Rows.{rises}
use Rattle.fsl_order.proofs.Ascending.{ascending_is_the_set}
use Rattle.fsl_order.proofs.Booleans.{first_holds, second_holds}
use Rattle.fsl_order.proofs.Orders.{bytes_cmp-IsTotalOrder, bytes_cmp-IsAntisymmetric, less_from}
use Rattle.fsl_disk.specs.Disk.{DiskState}
use Rattle.fsl_record.specs.declared.Record.{Record}
use Rattle.fsl_record.specs.declared.Record.TheVariants as record_of
use Rattle.fsl_record.specs.Records.{AreRecords}
use Rattle.fsl_journal.specs.Log.{Log}
use Rattle.fsl_journal.specs.Places.{next_place}
use Rattle.fsl_journal.proofs.Belonging.{belongs_append}
use Rattle.fsl_blobs.specs.Seen as blobs
use Rattle.fsl_blobs.specs.Seen.{applied}
use Rattle.fsl_blobs.specs.Fold.{Held, Contents, contents, after, is_new}
use Rattle.fsl_blobs.specs.Held.{still_new}
use Rattle.fsl_cluster.specs.declared.Fact.{Fact}
use Rattle.fsl_cluster.specs.Clusters as clusters
use Rattle.fsl_cross.specs.declared.Item.{Item}
use Rattle.fsl_cross.specs.Facts.{cluster_fact}
use Rattle.fsl_cross.specs.Tables as tables
use Rattle.fsl_repo.specs.declared.Unshunning.{Unshunning}
use Rattle.fsl_repo.specs.declared.Unshunning.TheVariants as unshunning
use Rattle.fsl_repo.specs.declared.UnshunFault.{UnshunFault}
use Rattle.fsl_repo.specs.declared.UnshunFault.TheVariants as unshun_fault
use Rattle.fsl_repo.specs.Arriving.{appended}
use Rattle.fsl_repo.specs.Machine.{State, AreItems, configured, now, wants, IsDueOrMemory, IsUnshunning, UnshunStep, unshun_room, unshun_wants, unshunned}
use Rattle.fsl_repo.specs.Keeping.{state_of, IsKept}
use Rattle.fsl_repo.specs.Whole as whole
use Rattle.fsl_repo.proofs.HeldMore.{contents_more}
use Rattle.fsl_repo.proofs.OneMore.{records_more, same_more, cached_more, announced_more, state_more}
use Rattle.fsl_repo.proofs.Storing.{wants_by}

-- ---- a name stands once in a rising list

is_equal : (o : Ordering) → is_eq o ≡ true → o ≡ Equal
is_equal Less h = absurd cc
is_equal Equal h = refl
is_equal Greater h = absurd cc

same_is : (a b : List ℕ) → bytes_eq a b ≡ true → a ≡ b
same_is a b h = bytes_cmp-IsAntisymmetric a b (is_equal (bytes_cmp a b) (sym (texts_ties a b) ∙ h))

before_trans : (a b c : List ℕ) → is_before a b ≡ true → is_before b c ≡ true → is_before a c ≡ true
before_trans a b c h k = ap is_lt (bytes_cmp-IsTotalOrder.trans a b c (less_from (bytes_cmp a b) h) (less_from (bytes_cmp b c) k))

not_itself : (x a : List ℕ) → is_before x a ≡ true → bytes_eq x a ≡ false
not_itself x a h = texts_ties x a ∙ ap is_eq (less_from (bytes_cmp x a) h)

none_after : (x a : List ℕ) (xs : List (List ℕ)) → is_before x a ≡ true → rises (a ∷ xs) ≡ true → has (a ∷ xs) x ≡ false
none_after x a [] h r = λ i. not_itself x a h i || false
none_after x a (b ∷ xs) h r =
    let rest = none_after x b xs (before_trans x a b h (first_holds (is_before a b) (rises (b ∷ xs)) r)) (second_holds (is_before a b) (rises (b ∷ xs)) r) in
    λ i. not_itself x a h i || rest i

alone : (a : List ℕ) (xs : List (List ℕ)) → rises (a ∷ xs) ≡ true → has xs a ≡ false
alone a [] r = refl
alone a (b ∷ xs) r = none_after a b xs (first_holds (is_before a b) (rises (b ∷ xs)) r) (second_holds (is_before a b) (rises (b ∷ xs)) r)

tail_rises : (a : List ℕ) (xs : List (List ℕ)) → rises (a ∷ xs) ≡ true → rises xs ≡ true
tail_rises a [] r = refl
tail_rises a (b ∷ xs) r = second_holds (is_before a b) (rises (b ∷ xs)) r

-- how many of some names pass a test
abbrev count : (List ℕ → Bool) → List (List ℕ) → ℕ
count p [] = 0
count p (x ∷ xs) = cond (p x) 1 0 + count p xs

count_is : (p : List ℕ → Bool) (xs : List (List ℕ)) → length (filter p xs) ≡ count p xs
count_is p [] = refl
count_is p (x ∷ xs) =
    let rest = count_is p xs in
    elim (p x) as (λ b. length (cond b (x ∷ filter p xs) (filter p xs)) ≡ cond b 1 0 + count p xs) [ true ↦ omega (arith, rest) | false ↦ omega (arith, rest) ]

counted : (name : List ℕ) (ms : List (List ℕ)) → rises ms ≡ true → count (bytes_eq name) ms ≡ cond (has ms name) 1 0
counted name [] r = refl
counted name (m ∷ ms) r =
    let rest = counted name ms (tail_rises m ms r) in
    elim (bytes_eq name m) as (λ t. bytes_eq name m ≡ t → cond t 1 0 + count (bytes_eq name) ms ≡ cond (t || has ms name) 1 0) [
      | true ↦ λ e. let none = rest ∙ ap (λ (t : Bool). cond t 1 0) (ap (has ms) (same_is name m e) ∙ alone m ms r) in omega (arith, none)
      | false ↦ λ e. omega (arith, rest)
    ] refl

-- ---- the wanted names with a name off the list

one_by : (b k : Bool) → (b ≡ true → k ≡ true) → cond (not (not b && k)) 1 0 ≡ cond (not k) 1 0 + cond b 1 0
one_by true true h = refl
one_by true false h = let e = h refl in absurd cc
one_by false true h = refl
one_by false false h = refl

regroup : (a b c d : ℕ) → (a + b) + (c + d) ≡ (a + c) + (b + d)
regroup a b c d = omega arith

module _ (shunned : FinSet bytes_cmp) (name : List ℕ) (listed : set.contains shunned name ≡ true) where
  split : (q : List ℕ) → cond (not (set.contains (set.remove shunned name) q)) 1 0 ≡ cond (not (set.contains shunned q)) 1 0 + cond (bytes_eq name q) 1 0
  split q =
      let tie : eq_by_cmp bytes_cmp q name ≡ bytes_eq name q = (eq_by_cmp_equiv bytes_cmp-IsTotalOrder).symm q name ∙ sym (texts_ties name q) in
      ap (λ (b : Bool). cond (not b) 1 0) (set.contains-remove bytes_cmp-IsTotalOrder shunned name q ∙ ap (λ (b : Bool). not b && set.contains shunned q) tie)
      ∙ one_by (bytes_eq name q) (set.contains shunned q) (λ e. ap (set.contains shunned) (sym (same_is name q e)) ∙ listed)

  counts : (ms : List (List ℕ)) → count (λ q. not (set.contains (set.remove shunned name) q)) ms ≡ count (λ q. not (set.contains shunned q)) ms + count (bytes_eq name) ms
  counts [] = refl
  counts (m ∷ ms) =
      (λ i. split m i + counts ms i)
      ∙ regroup (cond (not (set.contains shunned m)) 1 0) (cond (bytes_eq name m) 1 0) (count (λ q. not (set.contains shunned q)) ms) (count (bytes_eq name) ms)

  pub wants_more : (facts : List Fact) → length (clusters.wants facts (set.items (set.remove shunned name))) ≡ length (clusters.wants facts (set.items shunned)) + cond (has (clusters.missing facts) name) 1 0
  wants_more facts =
      let ms = clusters.missing facts in
      let less : length (clusters.wants facts (set.items (set.remove shunned name))) ≡ count (λ q. not (set.contains (set.remove shunned name) q)) ms =
      ap length (sym (wants_by facts (set.remove shunned name))) ∙ count_is (λ q. not (set.contains (set.remove shunned name) q)) ms in
      let was : length (clusters.wants facts (set.items shunned)) ≡ count (λ q. not (set.contains shunned q)) ms =
      ap length (sym (wants_by facts shunned)) ∙ count_is (λ q. not (set.contains shunned q)) ms in
      less ∙ counts ms ∙ (λ i. sym was i + counted name ms (ascending_is_the_set.rise (filter (λ n. not (has (clusters.names facts) n)) (flat_map (λ f. f.refs) facts))) i)

-- a truth value as a number
pub byte_is : (b : Bool) → bool_byte b ≡ cond b 1 0
byte_is true = refl
byte_is false = refl

-- ---- what is kept

module _ (log : Log) (held : blobs.Seen) (all : tables.Seen) (start count : ℕ) (disk : DiskState) (kept : IsKept log held all start count disk) (name : List ℕ)
    (log2 : Log) (held2 : blobs.Seen) (runs : log.stopped ≡ None) (more : log2 ≡ appended log (record_of.Unshun name))
    (goes : held2 ≡ applied held (next_place log (record_of.Unshun name)) (record_of.Unshun name)) where
  abbrev r : Record
  r = record_of.Unshun name

  abbrev c : Contents
  c = contents log.records

  abbrev c2 : Contents
  c2 = record c { shunned = set.remove c.shunned name }

  records2 : log2.records ≡ log.records ++ r ∷ []
  records2 = records_more log log2 held held2 r more goes

  contents2 : contents log2.records ≡ c2
  contents2 = ap contents records2 ∙ contents_more log.records r

  keeps : (a b : Bool) → (a ≡ true → b ≡ true) → (a && b) ≡ a
  keeps true b h = h refl
  keeps false b h = refl

  new_by : (there same shunned : Bool) → not (there || shunned) ≡ true → not (there || (not same && shunned)) ≡ true
  new_by true same shunned h = h
  new_by false true shunned h = refl
  new_by false false shunned h = h

  new_after : (q : List ℕ) → is_new c q ≡ true → is_new c2 q ≡ true
  new_after q h =
      ap (λ (b : Bool). not (map_of.contains_key c.held q || b)) (set.contains-remove bytes_cmp-IsTotalOrder c.shunned name q)
      ∙ new_by (map_of.contains_key c.held q) (eq_by_cmp bytes_cmp q name) (set.contains c.shunned q) h

  -- an announced name isn't shunned, and so stays announced
  announced2 : held2.announced ≡ held.announced
  announced2 =
      announced_more log log2 held held2 r more goes kept.same
      ∙ set.same_set bytes_cmp-IsTotalOrder bytes_cmp-IsAntisymmetric (still_new c2 held.announced) held.announced
      (λ q.
      set.contains-retain held.announced (is_new c2) q (λ x same. ap (is_new c2) (sym (bytes_cmp-IsAntisymmetric q x same)))
      ∙ keeps (set.contains held.announced q) (is_new c2 q) (λ h. new_after q (kept.announced q h)))

  blobs_same : (records : List Record) → whole.blobs (records ++ r ∷ []) ≡ whole.blobs records
  blobs_same records =
      sym (length-filter whole.is_blob (records ++ r ∷ [])) ∙ ap length (filter-append whole.is_blob records (r ∷ []))
      ∙ omega (arith, length-append (filter whole.is_blob records) [], length-filter whole.is_blob records)

  pub unlisted_kept : AreRecords log2.records → ((q : List ℕ) → set.contains held2.announced q ≡ true → is_new (contents held2.records) q ≡ true) → IsKept log2 held2 all start count disk
  unlisted_kept fit new =
      let same = same_more log log2 held held2 r more goes kept.same in record {
        belongs = belongs_append log log2 r (next_place log r) disk kept.belongs runs more;
        records = fit;
        same = same;
        cached = cached_more log log2 held held2 r more goes disk kept.cached;
        items = subst (λ (x : Contents). AreItems x.held all.items) (sym contents2) kept.items;
        fields = kept.fields ∙ sym (ap configured contents2);
        announced = λ q h. subst (λ (rs : List Record). is_new (contents rs) q ≡ true) same.records (new q h);
        loaded = subst (λ (l : Log). start ≤ l.stable) (sym more) kept.loaded;
        stored =
            kept.stored ∙ sym (ap whole.blobs (ap (drop start) records2 ∙ drop-append-le start log.records (r ∷ []) (omega (arith, kept.loaded, kept.belongs.counts))) ∙ blobs_same (drop start log.records));
      }

  pub unlisted_state : (faults : ℕ) (honest : Bool) → state_of log2 held2 faults honest ≡ record (state_of log held faults honest) { records = log.records ++ r ∷ [] }
  unlisted_state faults honest = state_more log log2 held held2 r more goes held.announced faults honest announced2

-- ---- what an unshun answers

abbrev Told : Type 0
Told = Result Unshunning UnshunFault

-- the answer of an unshun, with the state that is due
abbrev pub IsUnlisting : State → List ℕ → Told → State → Type 0
IsUnlisting s name r due = IsUnshunning s name r × (due ≡ unshunned s name r)

module _ (s : State) (name : List ℕ) where
  abbrev Listed : Told → Type 0
  Listed r = (items : List Item) × AreItems (now s).held items × (r ≡ unshun_room (after (now s) (record_of.Unshun name)) items)

  abbrev Running : Bool → Told → Type 0
  Running b r = MatchBool b (Listed r) (r ≡ Ok unshunning.NotShunned)

  abbrev By : Option ℕ → Told → Type 0
  By o r = MatchOption o (Running (set.contains (now s).shunned name) r) (λ faults. r ≡ Err (unshun_fault.Stopped faults))

  pub stopped_step : (n : ℕ) → s.stopped ≡ Some n → UnshunStep s name (Err (unshun_fault.Stopped n)) s
  stopped_step n is =
      let told : Told = Err (unshun_fault.Stopped n) in
      inl (s, (subst (λ (o : Option ℕ). By o told) (sym is) refl, refl), record { state = refl; faults = omega arith })

  module _ (runs : s.stopped ≡ None) where
    running : (r : Told) → Running (set.contains (now s).shunned name) r → IsUnshunning s name r
    running r h = subst (λ (o : Option ℕ). By o r) (sym runs) h

    pub not_shunned_step : set.contains (now s).shunned name ≡ false → UnshunStep s name (Ok unshunning.NotShunned) s
    not_shunned_step is =
        let told : Told = Ok unshunning.NotShunned in
        inl (s, (running told (subst (λ (b : Bool). Running b told) (sym is) refl), refl), record { state = refl; faults = omega arith })

    module _ (listed : set.contains (now s).shunned name ≡ true) where
      -- where the name is listed, an unshun takes memory
      pub unlisting_step : (r : Told) (new : State) → IsDueOrMemory s (IsUnlisting s name) (Err unshun_fault.Memory) ⊤ r new → UnshunStep s name r new
      unlisting_step r new (inl told) = inl told
      unlisting_step r new (inr told) =
          inr (told.0, (λ i. is_none (runs i) && listed i) ∙ refl, told.2)

      module _ (items : List Item) (each : AreItems (now s).held items) where
        told_by : (r : Told) → r ≡ unshun_room (after (now s) (record_of.Unshun name)) items → IsUnshunning s name r
        told_by r is = running r (subst (λ (b : Bool). Running b r) (sym listed) (items, each, is))

        -- so many names are wanted then
        abbrev wanted_then : ℕ
        wanted_then = length (wants (after (now s) (record_of.Unshun name)) items)

        pub wanted_is : (n m : ℕ) → n ≡ length (wants (now s) items) → m ≡ cond (has (clusters.missing (map cluster_fact items)) name) 1 0 → n + m ≡ wanted_then
        wanted_is n m p q = (λ i. p i + q i) ∙ sym (wants_more (now s).shunned name listed (map cluster_fact items))

        abbrev told_of : Bool → Told
        told_of b = if b then Err (unshun_fault.Full wanted_then) else Ok unshunning.Unshunned

        pub full_step : (n : ℕ) → n ≡ wanted_then → 2 ^ 20 < n → IsDueOrMemory s (IsUnlisting s name) (Err unshun_fault.Memory) ⊤ (Err (unshun_fault.Full n)) s
        full_step n is many =
            let test : nat_lt (2 ^ 20) wanted_then ≡ true = lt-ltb (2 ^ 20) wanted_then (omega (arith, is, many)) in
            let told : Told = Err (unshun_fault.Full n) in
            inl (s, (told_by told (ap (λ (x : ℕ). Err (unshun_fault.Full x)) is ∙ ap told_of (sym test)), refl), record { state = refl; faults = omega arith })

        pub unlisted_step : (n : ℕ) → n ≡ wanted_then → n ≤ 2 ^ 20 → (new : State) → new ≡ record s { records = s.records ++ record_of.Unshun name ∷ [] }
            → IsDueOrMemory s (IsUnlisting s name) (Err unshun_fault.Memory) ⊤ (Ok unshunning.Unshunned) new
        unlisted_step n is few new goes =
            let test : nat_lt (2 ^ 20) wanted_then ≡ false = le-ltb (2 ^ 20) wanted_then (omega (arith, is, few)) in
            let told : Told = Ok unshunning.Unshunned in
            inl (
              record s { records = s.records ++ record_of.Unshun name ∷ [] },
              (told_by told (ap told_of (sym test)), refl),
              record {
                state = goes ∙ (λ i. record s { records = s.records ++ record_of.Unshun name ∷ []; faults = sym (ap (λ (x : State). x.faults) goes) i });
                faults = omega (arith, ap (λ (x : State). x.faults) goes);
              },
            )
