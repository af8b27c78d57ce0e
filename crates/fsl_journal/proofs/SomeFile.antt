-- Bytes stand for records, or fail to be a file at a place.
use Rattle.std.proofs.Common.{◌≡◌, ◌≢◌, ◌⊎◌, inl, inr, ℕ, zero, suc, ◌<◌, ◌≤◌, ◌^◌, true, List, [], ◌∷◌, ◌++◌, length, get_or, take, drop, IsTrue, refl, sym, ap, subst, ◌∙◌, arith, append_assoc, length-append}
use Rattle.std.specs.List.{AllByRecursion, list_all}
use Rattle.std.specs.Int.{from_be_bytes, w64}
use Rattle.std.proofs.lemmas.Nat.{from_be_bytes-to_be_bytes_8}
use Rattle.std.proofs.lemmas.List.{take_at, drop_at, append-nil, take-append-drop, length-take-le, length-drop}
use Rattle.std.proofs.lemmas.Bool.{and_parts}
use Rattle.fsl_record.specs.declared.Record.{Record}
use Rattle.fsl_record.specs.Records.{record_bytes, records_bytes, IsFit, IsOfVersion, AreRecords}
use Rattle.fsl_record.proofs.Deciding.{Decided, decide_text, decide_nat, decide_four, decide_le}
use Rattle.fsl_record.proofs.FirstRecord.{Begins, Mores, decide_front, no_records, decide_mores}
use Rattle.fsl_record.proofs.ReadAgain.{Piece}
use Rattle.fsl_record.proofs.Unique.{record_same, record_some}
use Rattle.fsl_journal.specs.Commit.{eight}
use Rattle.fsl_journal.specs.File.{header, version_of, IsGroup, IsFileOf, AreRecordsOf, FailsAt}
use Rattle.fsl_journal.specs.Reading.{group_body}
use Rattle.fsl_journal.proofs.Failing.{stuck_fails}
use Rattle.fsl_journal.proofs.Files.{groups_bytes, records_in, length-eight}
use Rattle.fsl_journal.proofs.Groups.{records_push}
use Rattle.fsl_journal.proofs.Records.{may_follow, all_append, all_right, all_fit, are_more, AreReadSoFar}

-- ---- the records of a group behind others

record IsNext (v : ℕ) (old : List Record) (bytes : List ℕ) (group : List Record) : Type 0 where
  some : group ≢ []
  layout : bytes ≡ records_bytes group
  are : AreRecordsOf v (old ++ group)

abbrev Nexts : ℕ → List Record → List ℕ → Type 0
Nexts v old bytes = (group : List Record) × IsNext v old bytes group

-- the first group begins with a Config
first_nexts : (v : ℕ) (bytes : List ℕ) → Decided (Nexts v [] bytes)
first_nexts v bytes = by (decide_front v true bytes)
  where
    by_rest : (p : Piece) → Begins v true bytes p → Decided (Mores v p.1) → Decided (Nexts v [] bytes)
    by_rest p h (inl (rs, m)) = inl (
      p.0 ∷ rs,
      record {
        some = λ e. cc;
        layout = h.0 ∙ ap (λ (l : List ℕ). record_bytes p.0 ++ l) m.layout;
        are = ((h.1, m.others, (h.2, m.fit)), (h.3, m.known));
      },
    )
    by_rest p h (inr none) = inr no
      where
        no : Nexts v [] bytes → ⊥
        no ([], g) = g.some refl
        no (r ∷ rs, g) =
            let same = record_same p.0 r p.1 (records_bytes rs) h.2 g.are.0.2.0 (sym h.0 ∙ g.layout) in
            none (rs, record { layout = same.rest; others = g.are.0.1; fit = g.are.0.2.1; known = g.are.1.1 })

    by : Decided ((p : Piece) × Begins v true bytes p) → Decided (Nexts v [] bytes)
    by (inl (p, h)) = by_rest p h (decide_mores v p.1)
    by (inr none) = inr no
      where
        no : Nexts v [] bytes → ⊥
        no ([], g) = g.some refl
        no (r ∷ rs, g) = none ((r, records_bytes rs), (g.layout, g.are.0.0, g.are.0.2.0, g.are.1.0))

more_others : (r : Record) (old group : List Record) → AreRecords (r ∷ old ++ group) → IsTrue (list_all may_follow group)
more_others r [] group are = are.1
more_others r (o ∷ old) group are = right (o ∷ old) group are.1
  where
    right : (xs ys : List Record) → IsTrue (list_all may_follow (xs ++ ys)) → IsTrue (list_all may_follow ys)
    right [] ys all = all
    right (x ∷ xs) ys all = right xs ys (and_parts (may_follow x) (list_all may_follow (xs ++ ys)) all).1

later_nexts : (v : ℕ) (r : Record) (old : List Record) (bytes : List ℕ) → AreRecordsOf v (r ∷ old) → Decided (Nexts v (r ∷ old) bytes)
later_nexts v r old [] are = inr no
  where
    no : Nexts v (r ∷ old) [] → ⊥
    no ([], g) = g.some refl
    no (x ∷ xs, g) = record_some x (records_bytes xs) (sym g.layout)
later_nexts v r old (b ∷ bytes) are = by (decide_mores v (b ∷ bytes))
  where
    by : Decided (Mores v (b ∷ bytes)) → Decided (Nexts v (r ∷ old) (b ∷ bytes))
    by (inl ([], m)) = absurd (no_records v b bytes m)
    by (inl (x ∷ xs, m)) = inl (x ∷ xs, record { some = λ e. cc; layout = m.layout; are = (are_more (r ∷ old) (x ∷ xs) are.0 m.others m.fit, all_append (IsOfVersion v) (r ∷ old) (x ∷ xs) are.1 m.known) })
    by (inr none) =
        inr (λ h. none (
          h.0,
          record {
            layout = h.1.layout;
            others = more_others r old h.0 h.1.are.0;
            fit = all_right IsFit (r ∷ old) h.0 (all_fit (r ∷ old ++ h.0) h.1.are.0);
            known = all_right (IsOfVersion v) (r ∷ old) h.0 h.1.are.1;
          },
        ))

decide_nexts : (v : ℕ) (old : List Record) (bytes : List ℕ) → AreReadSoFar v old → Decided (Nexts v old bytes)
decide_nexts v [] bytes is = first_nexts v bytes
decide_nexts v (r ∷ old) bytes (inl none) = absurd (cc)
decide_nexts v (r ∷ old) bytes (inr are) = later_nexts v r old bytes are

-- ---- a group behind an open gate, with a byte after it

record IsGroupThere (v : ℕ) (old : List Record) (behind : List ℕ) (group : List Record) (more : List ℕ) : Type 0 where
  is : IsGroup group
  are : AreRecordsOf v (old ++ group)
  some : 0 < length more
  same : behind ≡ group_body group ++ more

abbrev GroupThere : ℕ → List Record → List ℕ → Type 0
GroupThere v old behind = (group : List Record) × (more : List ℕ) × IsGroupThere v old behind group more

eight_again : (n : ℕ) → n < 2 ^ 64 → from_be_bytes w64 (eight n) ≡ n
unfolding eight
eight_again n fits = from_be_bytes-to_be_bytes_8 n fits

-- the number that the bytes begin with, and what stands behind it
module _ (v : ℕ) (old : List Record) (behind : List ℕ) where
  abbrev size : ℕ
  size = from_be_bytes w64 (take 8 behind)

  abbrev rest : List ℕ
  rest = drop 8 behind

  parts : (group : List Record) (more : List ℕ) → IsGroupThere v old behind group more → (behind ≡ eight (length (records_bytes group)) ++ (records_bytes group ++ more)) × (size ≡ length (records_bytes group)) × (rest ≡ records_bytes group ++ more)
  parts group more g =
      let split = g.same ∙ append_assoc (eight (length (records_bytes group))) (records_bytes group) more in (
        split,
        ap (λ (l : List ℕ). from_be_bytes w64 (take 8 l)) split ∙ ap (from_be_bytes w64) (take_at (eight (length (records_bytes group))) (records_bytes group ++ more) 8 (length-eight (length (records_bytes group)))) ∙ eight_again (length (records_bytes group)) g.is.1,
        ap (drop 8) split ∙ drop_at (eight (length (records_bytes group))) (records_bytes group ++ more) 8 (length-eight (length (records_bytes group))),
      )

  -- what such a group's bytes meet
  fits : GroupThere v old behind → (size < 2 ^ 64) × (behind ≡ eight size ++ rest) × (size < length rest) × Nexts v old (take size rest)
  fits (group, more, g) =
      let p = parts group more g in (
        omega (arith, p.1, g.is.1),
        p.0 ∙ (λ i. eight (sym p.1 i) ++ sym p.2 i),
        omega (arith, p.1, g.some, ap length p.2, length-append (records_bytes group) more),
        (group, record { some = g.is.0; layout = (λ i. take (p.1 i) (p.2 i)) ∙ take_at (records_bytes group) more (length (records_bytes group)) refl; are = g.are }),
      )

  made : (size < 2 ^ 64) × (behind ≡ eight size ++ rest) × (size < length rest) × Nexts v old (take size rest) → GroupThere v old behind
  made (small, split, short, (group, next)) =
      let long : length (records_bytes group) ≡ size = sym (ap length next.layout) ∙ length-take-le size rest (omega (arith, short)) in (
        group,
        drop size rest,
        record {
          is = (next.some, omega (arith, long, small));
          are = next.are;
          some = omega (arith, short, length-drop size rest);
          same = split ∙ (λ i. eight (sym long i) ++ sym (take-append-drop size rest) i) ∙ (λ i. eight (length (records_bytes group)) ++ (next.layout i ++ drop size rest)) ∙ sym (append_assoc (eight (length (records_bytes group))) (records_bytes group) (drop size rest));
        },
      )

  decide_group : AreReadSoFar v old → Decided (GroupThere v old behind)
  decide_group is = by (decide_four (decide_le (suc size) (2 ^ 64)) (decide_text behind (eight size ++ rest)) (decide_le (suc size) (length rest)) (decide_nexts v old (take size rest) is))
    where
      by : Decided ((size < 2 ^ 64) × (behind ≡ eight size ++ rest) × (size < length rest) × Nexts v old (take size rest)) → Decided (GroupThere v old behind)
      by (inl h) = inl (made h)
      by (inr n) = inr (λ g. n (fits g))

-- ---- the groups

abbrev IsSome : List ℕ → Type 0
IsSome file = ((at : ℕ) × FailsAt file at) ⊎ ((records : List Record) × IsFileOf file records)

-- groups that read, and what stands behind them
record Walk (file : List ℕ) (mark : ℕ) (groups : List (List Record)) (rest : List ℕ) : Type 0 where
  split : file ≡ header mark ++ (groups_bytes groups ++ rest)
  whole : AllByRecursion IsGroup groups
  read : (groups ≡ []) ⊎ AreRecordsOf (version_of mark) (records_in groups)
  left : (groups ≡ []) ⊎ (0 < length rest)

old_read : (v : ℕ) (groups : List (List Record)) → (groups ≡ []) ⊎ AreRecordsOf v (records_in groups) → AreReadSoFar v (records_in groups)
old_read v groups (inl none) = inl (ap records_in none)
old_read v groups (inr are) = inr are

walk_on : (file : List ℕ) (mark : ℕ) (groups : List (List Record)) (behind : List ℕ) → Walk file mark groups (79 ∷ behind) → (group : List Record) (more : List ℕ) → IsGroupThere (version_of mark) (records_in groups) behind group more → Walk file mark (groups ++ group ∷ []) more
walk_on file mark groups behind w group more g = record {
  split = w.split ∙ ap (λ (l : List ℕ). header mark ++ l) (sym (pushed ∙ ap (λ (l : List ℕ). groups_bytes groups ++ 79 ∷ l) (sym g.same)));
  whole = all_append IsGroup groups (group ∷ []) w.whole (g.is, tt);
  read = inr (subst (AreRecordsOf (version_of mark)) (sym (records_push groups group)) g.are);
  left = inr g.some;
}
  where
    bytes_push : (gs : List (List Record)) → groups_bytes (gs ++ group ∷ []) ++ more ≡ groups_bytes gs ++ 79 ∷ (group_body group ++ more)
    bytes_push [] = ap (λ (l : List ℕ). 79 ∷ l) (ap (λ (l : List ℕ). l ++ more) (append-nil (group_body group)))
    bytes_push (k ∷ ks) =
        append_assoc (79 ∷ group_body k) (groups_bytes (ks ++ group ∷ [])) more ∙ ap (λ (l : List ℕ). (79 ∷ group_body k) ++ l) (bytes_push ks)
        ∙ sym (append_assoc (79 ∷ group_body k) (groups_bytes ks) (79 ∷ (group_body group ++ more)))

    pushed : groups_bytes (groups ++ group ∷ []) ++ more ≡ groups_bytes groups ++ 79 ∷ (group_body group ++ more)
    pushed = bytes_push groups

stopped : (file : List ℕ) (mark : ℕ) (groups : List (List Record)) (behind : List ℕ) → Walk file mark groups (79 ∷ behind) → (GroupThere (version_of mark) (records_in groups) behind → ⊥) → IsSome file
stopped file mark groups behind w none =
    inl (
      length (header mark ++ groups_bytes groups),
      stuck_fails file (length (header mark ++ groups_bytes groups)) (record {
        mark = mark;
        groups = groups;
        rest = behind;
        split = w.split;
        whole = w.whole;
        read = w.read;
        place = refl;
        none = λ group more is are some same. none (group, more, record { is = is; are = are; some = some; same = same });
      }),
    )

ended : (file : List ℕ) (mark : ℕ) (groups : List (List Record)) (gate : ℕ) (rest : List ℕ) → Walk file mark groups (gate ∷ rest) → gate ≢ 79 → (groups ≡ []) ⊎ AreRecordsOf (version_of mark) (records_in groups) → IsSome file
unfolding eight
ended file mark groups gate rest w shut (inl none) =
    inl (15, inr (inl (refl, mark, inr (gate, rest, w.split ∙ ap (λ (gs : List (List Record)). header mark ++ (groups_bytes gs ++ gate ∷ rest)) none, shut))))
ended file mark groups gate rest w shut (inr are) =
    inr (records_in groups, record { mark = mark; groups = groups; gate = gate; rest = rest; layout = w.split; closed = shut; formed = w.whole; contents = refl; fit = are.0; known = are.1 })

at_end : (file : List ℕ) (mark : ℕ) (groups : List (List Record)) → Walk file mark groups [] → (groups ≡ []) ⊎ (0 < length {A = ℕ} []) → IsSome file
at_end file mark groups w (inl none) = inl (15, inr (inl (refl, mark, inl (w.split ∙ ap (λ (gs : List (List Record)). header mark ++ (groups_bytes gs ++ [])) none))))
at_end file mark groups w (inr some) = absurd (omega (arith, some))

module _ (n : ℕ) (file : List ℕ) (mark : ℕ) (further : (groups : List (List Record)) (rest : List ℕ) → length rest ≤ n → Walk file mark groups rest → IsSome file) (groups : List (List Record)) where
  at_open : (rest : List ℕ) → length (79 ∷ rest) ≤ suc n → Walk file mark groups (79 ∷ rest) → Decided (GroupThere (version_of mark) (records_in groups) rest) → IsSome file
  at_open rest bound w (inr none) = stopped file mark groups rest w none
  at_open rest bound w (inl (group, more, g)) =
      further (groups ++ group ∷ []) more (omega (arith, bound, ap length g.same, length-append (group_body group) more)) (walk_on file mark groups rest w group more g)

  at_gate : (gate : ℕ) (rest : List ℕ) → length (gate ∷ rest) ≤ suc n → Walk file mark groups (gate ∷ rest) → Decided (gate ≡ 79) → IsSome file
  at_gate gate rest bound w (inr shut) = ended file mark groups gate rest w shut w.read
  at_gate gate rest bound w (inl is_open) = at_open rest bound (subst (λ (g : ℕ). Walk file mark groups (g ∷ rest)) is_open w) (decide_group (version_of mark) (records_in groups) rest (old_read (version_of mark) groups w.read))

walk_up_to : (n : ℕ) (file : List ℕ) (mark : ℕ) (groups : List (List Record)) (rest : List ℕ) → length rest ≤ n → Walk file mark groups rest → IsSome file
walk_up_to n file mark groups [] bound w = at_end file mark groups w w.left
walk_up_to zero file mark groups (gate ∷ rest) bound w = absurd (omega (arith, bound))
walk_up_to (suc n) file mark groups (gate ∷ rest) bound w = at_gate n file mark (λ gs more b v. walk_up_to n file mark gs more b v) groups gate rest bound w (decide_nat gate 79)

pub some_file : (bytes : List ℕ) → IsSome bytes
some_file bytes = by (decide_text bytes (header (get_or bytes 13 0) ++ drop 15 bytes))
  where
    by : Decided (bytes ≡ header (get_or bytes 13 0) ++ drop 15 bytes) → IsSome bytes
    by (inl is) = walk_up_to (length bytes) bytes (get_or bytes 13 0) [] (drop 15 bytes) (omega (arith, length-drop 15 bytes)) (record { split = is; whole = tt; read = inl refl; left = inl refl })
    by (inr none) = inl (0, inl (refl, λ mark rest e. none (e ∙ (λ i. header (ap (λ (l : List ℕ). get_or l 13 0) (sym e) i) ++ ap (λ (l : List ℕ). drop 15 l) (sym e) i))))
