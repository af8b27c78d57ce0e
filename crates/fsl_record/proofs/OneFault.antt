-- Bytes have one fault at most.
use Rattle.std.proofs.Common.{◌≡◌, ◌≢◌, ◌⊎◌, ℕ, ◌+◌, ◌<◌, ◌≤◌, ◌^◌, Bool, true, false, List, [], ◌∷◌, ◌++◌, length, get_or, drop, refl, sym, ◌∙◌, ap, subst, arith, append_assoc, length-append, inl, inr}
use Rattle.std.specs.Prelude.{◌&&◌}
use Rattle.std.specs.Int.{to_be_bytes, w16, w64}
use Rattle.std.specs.List.{flat_map, AllByRecursion}
use Rattle.std.proofs.lemmas.List.{append-nil}
use Rattle.fsl_text.specs.Bytes.{is_empty}
use Rattle.fsl_name.specs.Name.{name_of}
use Rattle.fsl_record.specs.declared.Record.{Record}
use Rattle.fsl_record.specs.declared.RecordFault.{RecordFault}
use Rattle.fsl_record.specs.declared.RecordFault.TheVariants as record_fault
use Rattle.fsl_order.specs.Names.{has}
use Rattle.fsl_record.specs.Records.{field_bytes, is_field, record_bytes, records_bytes, IsFit, IsOfVersion, AreFields}
use Rattle.fsl_record.specs.Groups.{StandInGroup, blob_head, config_head, OtherFails, FailsFirst, IsGroupFault}
use Rattle.fsl_record.specs.Brought.{BroughtFails}
use Rattle.fsl_record.proofs.Unique.{SamePiece, append_same, length_same, count_same, first_same, rest_same, pieces_same, record_same}
use Rattle.fsl_record.proofs.Exclusive.{none_behind, not_field, no_name_kind, name_kind_known, due_other, both_fail, record_well, kind_due}
use Rattle.fsl_record.proofs.Parts.{brought_one}

-- ---- no Config is due

record SameHeads (m n : List ℕ) (a b : ℕ) (r s : List ℕ) : Type 0 where
  pub name : m ≡ n
  pub sized : a ≡ b
  pub behind : r ≡ s

blob_heads : (p q a b : ℕ) (m n r s : List ℕ) → length m ≡ 20 → length n ≡ 20 → a < 2 ^ 64 → b < 2 ^ 64 → blob_head p m a ++ r ≡ blob_head q n b ++ s → SameHeads m n a b r s
blob_heads p q a b m n r s m_long n_long a_fits b_fits same =
    let tail : ((m ++ to_be_bytes w64 a) ++ []) ++ r ≡ ((n ++ to_be_bytes w64 b) ++ []) ++ s =
    ap (λ (l : List ℕ). l ++ r) (append-nil (m ++ to_be_bytes w64 a)) ∙ ap (λ (l : List ℕ). drop 2 l) same ∙ ap (λ (l : List ℕ). l ++ s) (sym (append-nil (n ++ to_be_bytes w64 b))) in
    let pieces = pieces_same m n (to_be_bytes w64 a) (to_be_bytes w64 b) [] [] r s (m_long ∙ sym n_long) refl tail in
    record { name = pieces.first; sized = length_same a b a_fits b_fits pieces.second; behind = pieces.rest }

length-blob : (q a : ℕ) (m r : List ℕ) → length m ≡ 20 → length (blob_head q m a ++ r) ≡ 30 + length r
length-blob q a m r long = omega (arith, length-append (m ++ to_be_bytes w64 a) r, length-append m (to_be_bytes w64 a), long)

second_same : (a b c d : ℕ) (r s : List ℕ) → a ∷ b ∷ r ≡ c ∷ d ∷ s → b ≡ d
second_same a b c d r s same = ap (λ (l : List ℕ). get_or l 1 0) same

-- a blob's head goes with no fault of its kind
kind_or_blob : (v : ℕ) (found q : ℕ) (bytes r : List ℕ) → OtherFails v false bytes (record_fault.Kind found) → bytes ≡ 66 ∷ q ∷ r → q ≤ 1 → ⊥
kind_or_blob v found q bytes r fails is small =
    elim fails [
      | inl other ↦ other.2.0 (first_same _ _ _ _ (sym other.1 ∙ is))
      | inr private ↦ omega (arith, second_same _ _ _ _ _ _ (sym private.1 ∙ is), private.3, small)
    ]

kind_one : (v : ℕ) (a b : ℕ) (bytes : List ℕ) → OtherFails v false bytes (record_fault.Kind a) → OtherFails v false bytes (record_fault.Kind b) → a ≡ b
kind_one v a b bytes one two =
    elim one [
      | inl other ↦ elim two [
        | inl also ↦ first_same _ _ _ _ (sym other.1 ∙ also.1)
        | inr also ↦ absurd (other.2.0 (first_same _ _ _ _ (sym other.1 ∙ also.1)))
      ]
      | inr private ↦ elim two [
        | inl also ↦ absurd (also.2.0 (first_same _ _ _ _ (sym also.1 ∙ private.1)))
        | inr also ↦ second_same _ _ _ _ _ _ (sym private.1 ∙ also.1)
      ]
    ]

kind_or_short : (v : ℕ) (found : ℕ) (bytes : List ℕ) → OtherFails v false bytes (record_fault.Kind found) → OtherFails v false bytes record_fault.Short → ⊥
kind_or_short v found bytes kind short =
    elim short [
      | inl none ↦ elim kind [ inl other ↦ absurd (let e = sym none ∙ other.1 in cc) | inr private ↦ absurd (let e = sym none ∙ private.1 in cc) ]
      | inr cut ↦ elim cut.2 [
        | inl blob ↦ elim kind [
          | inl other ↦ other.2.0 (first_same _ _ _ _ (ap (λ (l : List ℕ). l ++ cut.0) (sym other.1) ∙ blob.3))
          | inr private ↦ flag found blob.0 private.0 cut.0 _ bytes private.1 private.3 blob.3 blob.5
        ]
        | inr named ↦ elim kind [
          | inl other ↦ name_kind_known v named.0 found named.5 (sym (first_same _ _ _ _ (ap (λ (l : List ℕ). l ++ cut.0) (sym other.1) ∙ named.2))) other.2
          | inr private ↦ no_name_kind v named.0 (first_same _ _ _ _ (ap (λ (l : List ℕ). l ++ cut.0) (sym private.1) ∙ named.2)) named.5
        ]
      ]
    ]
  where
    flag : (found q : ℕ) (rest tail s bytes : List ℕ) → bytes ≡ 66 ∷ found ∷ rest → 1 < found → bytes ++ tail ≡ 66 ∷ q ∷ s → (length bytes < 2) ⊎ (q ≤ 1) → ⊥
    flag found q rest tail s bytes is great same so_far =
        elim so_far [
          | inl few ↦ omega (arith, few, ap length is)
          | inr small ↦ omega (arith, second_same _ _ _ _ _ _ (ap (λ (l : List ℕ). l ++ tail) (sym is) ∙ same), small, great)
        ]

-- a whole head, and a cut behind it: the length is that of a content that may be there
cut_size : (q a : ℕ) (m r bytes : List ℕ) → bytes ≡ blob_head q m a ++ r → length m ≡ 20 → a < 2 ^ 64 → (tail : List ℕ) (p : ℕ) (n content : List ℕ) → length n ≡ 20
    → bytes ++ tail ≡ blob_head p n (length content) ++ content → (length bytes < 30) ⊎ (length content ≤ 2 ^ 24) → (length content ≡ a) × (length content ≤ 2 ^ 24) × (r ++ tail ≡ content)
cut_size q a m r bytes is m_long fits tail p n content n_long same so_far =
    elim so_far [
      | inl few ↦ absurd (omega (arith, few, ap length is, length-blob q a m r m_long))
      | inr small ↦
          let heads = blob_heads q p a (length content) m n (r ++ tail) content m_long n_long fits (omega (arith, small)) (sym (append_assoc (blob_head q m a) r tail) ∙ ap (λ (l : List ℕ). l ++ tail) (sym is) ∙ same) in
          (sym heads.sized, small, heads.behind)
    ]

length_or_short : (v : ℕ) (found : ℕ) (bytes : List ℕ) → OtherFails v false bytes (record_fault.Length found) → OtherFails v false bytes record_fault.Short → ⊥
length_or_short v found bytes long short =
    elim short [
      | inl none ↦ absurd (let e = sym none ∙ long.3 in cc)
      | inr cut ↦ elim cut.2 [
        | inl blob ↦
            let size = cut_size long.0 found long.1 long.2 bytes long.3 long.5 long.7 cut.0 blob.0 blob.1 blob.2 blob.4 blob.3 blob.6 in
            omega (arith, size.0, size.1, long.6)
        | inr named ↦ no_name_kind v named.0 (first_same _ _ _ _ (ap (λ (l : List ℕ). l ++ cut.0) (sym long.3) ∙ named.2)) named.5
      ]
    ]

name_or_short : (v : ℕ) (kept found bytes : List ℕ) → OtherFails v false bytes (record_fault.NameWrong kept found) → OtherFails v false bytes record_fault.Short → ⊥
name_or_short v kept found bytes wrong short =
    let whole : bytes ≡ blob_head wrong.0 kept (length wrong.1) ++ (wrong.1 ++ wrong.2) = wrong.3 ∙ append_assoc (blob_head wrong.0 kept (length wrong.1)) wrong.1 wrong.2 in
    elim short [
      | inl none ↦ absurd (let e = sym none ∙ whole in cc)
      | inr cut ↦ elim cut.2 [
        | inl blob ↦
            let size = cut_size wrong.0 (length wrong.1) kept (wrong.1 ++ wrong.2) bytes whole wrong.6 (omega (arith, wrong.7)) cut.0 blob.0 blob.1 blob.2 blob.4 blob.3 blob.6 in
            let content = append_same wrong.1 blob.2 (wrong.2 ++ cut.0) [] (sym size.0) (sym (append_assoc wrong.1 wrong.2 cut.0) ∙ size.2 ∙ sym (append-nil blob.2)) in
            cut.1 (none_behind wrong.2 cut.0 content.rest)
        | inr named ↦ no_name_kind v named.0 (first_same _ _ _ _ (ap (λ (l : List ℕ). l ++ cut.0) (sym whole) ∙ named.2)) named.5
      ]
    ]

length_one : (v : ℕ) (a b : ℕ) (bytes : List ℕ) → OtherFails v false bytes (record_fault.Length a) → OtherFails v false bytes (record_fault.Length b) → a ≡ b
length_one v a b bytes one two = (blob_heads one.0 two.0 a b one.1 two.1 one.2 two.2 one.5 two.5 one.7 two.7 (sym one.3 ∙ two.3)).sized

length_or_name : (v : ℕ) (a : ℕ) (kept found bytes : List ℕ) → OtherFails v false bytes (record_fault.Length a) → OtherFails v false bytes (record_fault.NameWrong kept found) → ⊥
length_or_name v a kept found bytes long wrong =
    let whole = wrong.3 ∙ append_assoc (blob_head wrong.0 kept (length wrong.1)) wrong.1 wrong.2 in
    let heads = blob_heads long.0 wrong.0 a (length wrong.1) long.1 kept long.2 (wrong.1 ++ wrong.2) long.5 wrong.6 long.7 (omega (arith, wrong.7)) (sym long.3 ∙ whole) in
    omega (arith, heads.sized, wrong.7, long.6)

name_one : (v : ℕ) (kept found known seen bytes : List ℕ) → OtherFails v false bytes (record_fault.NameWrong kept found) → OtherFails v false bytes (record_fault.NameWrong known seen) → record_fault.NameWrong kept found ≡ record_fault.NameWrong known seen
name_one v kept found known seen bytes one two =
    let first = one.3 ∙ append_assoc (blob_head one.0 kept (length one.1)) one.1 one.2 in
    let second = two.3 ∙ append_assoc (blob_head two.0 known (length two.1)) two.1 two.2 in
    let heads = blob_heads one.0 two.0 (length one.1) (length two.1) kept known (one.1 ++ one.2) (two.1 ++ two.2) one.6 two.6 (omega (arith, one.7)) (omega (arith, two.7)) (sym first ∙ second) in
    let content = append_same one.1 two.1 one.2 two.2 heads.sized heads.behind in
    let names : found ≡ seen = one.8 ∙ ap name_of content.piece ∙ sym two.8 in
    (λ i. record_fault.NameWrong (heads.name i) (names i))

later_one : (v : ℕ) (bytes : List ℕ) (a b : RecordFault) → OtherFails v false bytes a → OtherFails v false bytes b → a ≡ b
later_one v bytes record_fault.Memory b one two = absurd one
later_one v bytes a record_fault.Memory one two = absurd two
later_one v bytes (record_fault.Kind a) (record_fault.Kind b) one two = ap (λ (n : ℕ). record_fault.Kind n) (kind_one v a b bytes one two)
later_one v bytes (record_fault.Kind a) (record_fault.Length b) one two = absurd (kind_or_blob v a two.0 bytes _ one two.3 two.4)
later_one v bytes (record_fault.Kind a) (record_fault.NameWrong m n) one two = absurd (kind_or_blob v a two.0 bytes _ one two.3 two.5)
later_one v bytes (record_fault.Kind a) record_fault.Short one two = absurd (kind_or_short v a bytes one two)
later_one v bytes (record_fault.Length a) (record_fault.Kind b) one two = absurd (kind_or_blob v b one.0 bytes _ two one.3 one.4)
later_one v bytes (record_fault.Length a) (record_fault.Length b) one two = ap (λ (n : ℕ). record_fault.Length n) (length_one v a b bytes one two)
later_one v bytes (record_fault.Length a) (record_fault.NameWrong m n) one two = absurd (length_or_name v a m n bytes one two)
later_one v bytes (record_fault.Length a) record_fault.Short one two = absurd (length_or_short v a bytes one two)
later_one v bytes (record_fault.NameWrong m n) (record_fault.Kind b) one two = absurd (kind_or_blob v b one.0 bytes _ two one.3 one.5)
later_one v bytes (record_fault.NameWrong m n) (record_fault.Length b) one two = absurd (length_or_name v b m n bytes two one)
later_one v bytes (record_fault.NameWrong m n) (record_fault.NameWrong k l) one two = name_one v m n k l bytes one two
later_one v bytes (record_fault.NameWrong m n) record_fault.Short one two = absurd (name_or_short v m n bytes one two)
later_one v bytes record_fault.Short (record_fault.Kind b) one two = absurd (kind_or_short v b bytes two one)
later_one v bytes record_fault.Short (record_fault.Length b) one two = absurd (length_or_short v b bytes two one)
later_one v bytes record_fault.Short (record_fault.NameWrong m n) one two = absurd (name_or_short v m n bytes two one)
later_one v bytes record_fault.Short record_fault.Short one two = refl

-- ---- a Config is due

record SameCounts (a b : ℕ) (r s : List ℕ) : Type 0 where
  pub counted : a ≡ b
  pub behind : r ≡ s

config_heads : (c d : List ℕ) (a b : ℕ) (r s : List ℕ) → length c ≡ 40 → length d ≡ 40 → a < 2 ^ 16 → b < 2 ^ 16 → config_head c a ++ r ≡ config_head d b ++ s → SameCounts a b r s
config_heads c d a b r s c_long d_long a_fits b_fits same =
    let both = config_tails c d a b r s c_long d_long same in
    record { counted = count_same a b a_fits b_fits both.piece; behind = both.rest }
  where
    config_tails : (c d : List ℕ) (a b : ℕ) (r s : List ℕ) → length c ≡ 40 → length d ≡ 40 → config_head c a ++ r ≡ config_head d b ++ s → SamePiece (to_be_bytes w16 a) (to_be_bytes w16 b) r s
    config_tails c d a b r s c_long d_long same =
        let tail : ((c ++ to_be_bytes w16 a) ++ []) ++ r ≡ ((d ++ to_be_bytes w16 b) ++ []) ++ s =
        ap (λ (l : List ℕ). l ++ r) (append-nil (c ++ to_be_bytes w16 a)) ∙ ap (λ (l : List ℕ). drop 1 l) same ∙ ap (λ (l : List ℕ). l ++ s) (sym (append-nil (d ++ to_be_bytes w16 b))) in
        let pieces = pieces_same c d (to_be_bytes w16 a) (to_be_bytes w16 b) [] [] r s (c_long ∙ sym d_long) refl tail in
        record { piece = pieces.second; rest = pieces.rest }

-- one list of fields goes on behind another
record GoesOn (front all : List (List ℕ)) (s t : List ℕ) : Type 0 where
  pub next : List ℕ
  pub more : List (List ℕ)
  pub split : all ≡ front ++ next ∷ more
  pub behind : s ≡ length next ∷ (next ++ (flat_map field_bytes more ++ t))

abbrev Fronts : List (List ℕ) → List (List ℕ) → List ℕ → List ℕ → Type 0
Fronts fs gs s t = ((fs ≡ gs) × (s ≡ t)) ⊎ (GoesOn fs gs s t ⊎ GoesOn gs fs t s)

fronts_more : (f g : List ℕ) (fs gs : List (List ℕ)) (s t : List ℕ) → f ≡ g → Fronts fs gs s t → Fronts (f ∷ fs) (g ∷ gs) s t
fronts_more f g fs gs s t is fronts =
    elim fronts [
      | inl same ↦ inl ((λ i. is i ∷ same.0 i), same.1)
      | inr (inl on) ↦ inr (inl (record { next = on.next; more = on.more; split = (λ i. sym is i ∷ on.split i); behind = on.behind }))
      | inr (inr on) ↦ inr (inr (record { next = on.next; more = on.more; split = (λ i. is i ∷ on.split i); behind = on.behind }))
    ]

fronts_of : (fs gs : List (List ℕ)) (s t : List ℕ) → flat_map field_bytes fs ++ s ≡ flat_map field_bytes gs ++ t → Fronts fs gs s t
fronts_of [] [] s t same = inl (refl, same)
fronts_of [] (g ∷ gs) s t same = inr (inl (record { next = g; more = gs; split = refl; behind = same ∙ ap (λ (l : List ℕ). length g ∷ l) (append_assoc g (flat_map field_bytes gs) t) }))
fronts_of (f ∷ fs) [] s t same = inr (inr (record { next = f; more = fs; split = refl; behind = sym same ∙ ap (λ (l : List ℕ). length f ∷ l) (append_assoc f (flat_map field_bytes fs) s) }))
fronts_of (f ∷ fs) (g ∷ gs) s t same =
    let all : length f ∷ (f ++ (flat_map field_bytes fs ++ s)) ≡ length g ∷ (g ++ (flat_map field_bytes gs ++ t)) =
    ap (λ (l : List ℕ). length f ∷ l) (sym (append_assoc f (flat_map field_bytes fs) s)) ∙ same ∙ ap (λ (l : List ℕ). length g ∷ l) (append_assoc g (flat_map field_bytes gs) t) in
    let here = append_same f g (flat_map field_bytes fs ++ s) (flat_map field_bytes gs ++ t) (first_same _ _ _ _ all) (rest_same _ _ _ _ all) in
    fronts_more f g fs gs s t here.piece (fronts_of fs gs s t here.rest)

-- a field that is none, or is there already, where well-formed fields go on
bad_goes_on : (good all : List (List ℕ)) (field rest t : List ℕ) (found : ℕ) → GoesOn good all (found ∷ (field ++ rest)) t → AreFields all → length field ≡ found → (is_field field ≡ false) ⊎ (has good field ≡ true) → ⊥
bad_goes_on good all field rest t found on fit sized bad =
    let same = append_same on.next field (flat_map field_bytes on.more ++ t) rest (sym (first_same _ _ _ _ on.behind) ∙ sym sized) (sym (rest_same _ _ _ _ on.behind)) in
    not_field good on.more on.next field same.piece (subst (λ (l : List (List ℕ)). AreFields l) on.split fit) bad

length-config : (c r : List ℕ) (a : ℕ) → length c ≡ 40 → length (config_head c a ++ r) ≡ 43 + length r
length-config c r a long = omega (arith, length-append (c ++ to_be_bytes w16 a) r, length-append c (to_be_bytes w16 a), long)

-- a field that fails, behind a Config's head and good fields
record BadField (bytes : List ℕ) (found : ℕ) : Type 0 where
  pub codes : List ℕ
  pub rest : List ℕ
  pub count : ℕ
  pub good : List (List ℕ)
  pub field : List ℕ
  pub long : length codes ≡ 40
  pub layout : bytes ≡ config_head codes count ++ (flat_map field_bytes good ++ (found ∷ (field ++ rest)))
  pub few : count ≤ 256
  pub fit : AreFields good
  pub sized : length field ≡ found
  pub bad : (is_field field ≡ false) ⊎ (has good field ≡ true)

-- too many fields
record TooMany (bytes : List ℕ) (found : ℕ) : Type 0 where
  pub codes : List ℕ
  pub rest : List ℕ
  pub long : length codes ≡ 40
  pub layout : bytes ≡ config_head codes found ++ rest
  pub many : 256 < found
  pub fits : found < 2 ^ 16

length_cases : (v : ℕ) (bytes : List ℕ) (found : ℕ) → OtherFails v true bytes (record_fault.Length found) → TooMany bytes found ⊎ BadField bytes found
length_cases v bytes found fails =
    elim fails.3 [
      | inl many ↦ inl (record { codes = fails.0; rest = fails.1; long = fails.2; layout = many.0; many = many.1; fits = many.2 })
      | inr bad ↦ inr (record {
        codes = fails.0;
        rest = fails.1;
        count = bad.0;
        good = bad.1;
        field = bad.2;
        long = fails.2;
        layout = bad.3 ∙ append_assoc (config_head fails.0 bad.0 ++ flat_map field_bytes bad.1) (found ∷ bad.2) fails.1 ∙ append_assoc (config_head fails.0 bad.0) (flat_map field_bytes bad.1) (found ∷ (bad.2 ++ fails.1));
        few = bad.4;
        fit = bad.6;
        sized = bad.7;
        bad = bad.8;
      })
    ]

many_or_bad : (bytes : List ℕ) (a b : ℕ) → TooMany bytes a → BadField bytes b → ⊥
many_or_bad bytes a b many bad =
    let heads = config_heads many.codes bad.codes a bad.count many.rest (flat_map field_bytes bad.good ++ (b ∷ (bad.field ++ bad.rest))) many.long bad.long many.fits (omega (arith, bad.few)) (sym many.layout ∙ bad.layout) in
    omega (arith, heads.counted, bad.few, many.many)

bad_one : (bytes : List ℕ) (a b : ℕ) → BadField bytes a → BadField bytes b → a ≡ b
bad_one bytes a b one two =
    let s = a ∷ (one.field ++ one.rest) in
    let t = b ∷ (two.field ++ two.rest) in
    let heads = config_heads one.codes two.codes one.count two.count (flat_map field_bytes one.good ++ s) (flat_map field_bytes two.good ++ t) one.long two.long (omega (arith, one.few)) (omega (arith, two.few)) (sym one.layout ∙ two.layout) in
    elim (fronts_of one.good two.good s t heads.behind) [
      | inl same ↦ first_same _ _ _ _ same.1
      | inr (inl on) ↦ absurd (bad_goes_on one.good two.good one.field one.rest t a on two.fit one.sized one.bad)
      | inr (inr on) ↦ absurd (bad_goes_on two.good one.good two.field two.rest s b on one.fit two.sized two.bad)
    ]

first_length_one : (v : ℕ) (a b : ℕ) (bytes : List ℕ) → OtherFails v true bytes (record_fault.Length a) → OtherFails v true bytes (record_fault.Length b) → a ≡ b
first_length_one v a b bytes one two =
    elim (length_cases v bytes a one) [
      | inl many ↦ elim (length_cases v bytes b two) [
        | inl also ↦ (config_heads many.codes also.codes a b many.rest also.rest many.long also.long many.fits also.fits (sym many.layout ∙ also.layout)).counted
        | inr bad ↦ absurd (many_or_bad bytes a b many bad)
      ]
      | inr bad ↦ elim (length_cases v bytes b two) [
        | inl many ↦ absurd (many_or_bad bytes b a many bad)
        | inr also ↦ bad_one bytes a b bad also
      ]
    ]

-- a cut within a Config's fields
record CutFields (bytes : List ℕ) : Type 0 where
  pub tail : List ℕ
  pub codes : List ℕ
  pub count : ℕ
  pub good : List (List ℕ)
  pub field : List ℕ
  pub some : tail ≢ []
  pub long : length codes ≡ 40
  pub fit : AreFields good
  pub layout : bytes ++ tail ≡ config_head codes count ++ (flat_map field_bytes good ++ (length field ∷ field))
  pub few : count ≤ 256

cut_fields : (v : ℕ) (bytes : List ℕ) → OtherFails v true bytes record_fault.Short → 43 ≤ length bytes → CutFields bytes
cut_fields v bytes fails whole =
    elim fails [
      | inl none ↦ absurd (omega (arith, ap length none, whole))
      | inr cut ↦ elim cut.2.7 [
        | inl short ↦ absurd (omega (arith, short, whole))
        | inr within ↦ record {
          tail = cut.0;
          codes = cut.2.0;
          count = cut.2.1;
          good = cut.2.2;
          field = cut.2.3;
          some = cut.1;
          long = cut.2.4;
          fit = cut.2.5;
          layout = cut.2.6 ∙ append_assoc (config_head cut.2.0 cut.2.1) (flat_map field_bytes cut.2.2) (length cut.2.3 ∷ cut.2.3);
          few = within.0;
        }
      ]
    ]

many_or_cut : (bytes : List ℕ) (a : ℕ) → TooMany bytes a → CutFields bytes → ⊥
many_or_cut bytes a many cut =
    let heads = config_heads many.codes cut.codes a cut.count (many.rest ++ cut.tail) (flat_map field_bytes cut.good ++ (length cut.field ∷ cut.field)) many.long cut.long many.fits (omega (arith, cut.few))
    (sym (append_assoc (config_head many.codes a) many.rest cut.tail) ∙ ap (λ (l : List ℕ). l ++ cut.tail) (sym many.layout) ∙ cut.layout) in
    omega (arith, heads.counted, cut.few, many.many)

bad_or_cut : (bytes : List ℕ) (a : ℕ) → BadField bytes a → CutFields bytes → ⊥
bad_or_cut bytes a bad cut =
    let s = a ∷ (bad.field ++ (bad.rest ++ cut.tail)) in
    let t = length cut.field ∷ cut.field in
    let layout : config_head bad.codes bad.count ++ (flat_map field_bytes bad.good ++ s) ≡ config_head cut.codes cut.count ++ (flat_map field_bytes cut.good ++ t) =
    ap (λ (l : List ℕ). config_head bad.codes bad.count ++ (flat_map field_bytes bad.good ++ (a ∷ l))) (sym (append_assoc bad.field bad.rest cut.tail))
    ∙ ap (λ (l : List ℕ). config_head bad.codes bad.count ++ l) (sym (append_assoc (flat_map field_bytes bad.good) (a ∷ (bad.field ++ bad.rest)) cut.tail))
    ∙ sym (append_assoc (config_head bad.codes bad.count) (flat_map field_bytes bad.good ++ (a ∷ (bad.field ++ bad.rest))) cut.tail)
    ∙ ap (λ (l : List ℕ). l ++ cut.tail) (sym bad.layout) ∙ cut.layout in
    let heads = config_heads bad.codes cut.codes bad.count cut.count (flat_map field_bytes bad.good ++ s) (flat_map field_bytes cut.good ++ t) bad.long cut.long (omega (arith, bad.few)) (omega (arith, cut.few)) layout in
    elim (fronts_of bad.good cut.good s t heads.behind) [
      | inl same ↦
          let field = append_same bad.field cut.field (bad.rest ++ cut.tail) [] (bad.sized ∙ first_same _ _ _ _ same.1) (rest_same _ _ _ _ same.1 ∙ sym (append-nil cut.field)) in
          cut.some (none_behind bad.rest cut.tail field.rest)
      | inr (inl on) ↦ bad_goes_on bad.good cut.good bad.field (bad.rest ++ cut.tail) t a on cut.fit bad.sized bad.bad
      | inr (inr on) ↦
          let over = append_same cut.field on.next [] (flat_map field_bytes on.more ++ s) (first_same _ _ _ _ on.behind) (append-nil cut.field ∙ rest_same _ _ _ _ on.behind) in
          not_nil a (bad.field ++ (bad.rest ++ cut.tail)) (none_behind (flat_map field_bytes on.more) s (sym over.rest))
    ]
  where
    not_nil : (x : ℕ) (l : List ℕ) → x ∷ l ≡ [] → ⊥
    not_nil x l none = absurd cc

first_length_or_short : (v : ℕ) (found : ℕ) (bytes : List ℕ) → OtherFails v true bytes (record_fault.Length found) → OtherFails v true bytes record_fault.Short → ⊥
first_length_or_short v found bytes long short =
    elim (length_cases v bytes found long) [
      | inl many ↦ many_or_cut bytes found many (cut_fields v bytes short (omega (arith, ap length many.layout, length-config many.codes many.rest found many.long)))
      | inr bad ↦ bad_or_cut bytes found bad (cut_fields v bytes short (omega (arith, ap length bad.layout, length-config bad.codes (flat_map field_bytes bad.good ++ (found ∷ (bad.field ++ bad.rest))) bad.count bad.long)))
    ]

first_kind : (v : ℕ) (found : ℕ) (bytes : List ℕ) → OtherFails v true bytes (record_fault.Kind found) → (rest : List ℕ) × (bytes ≡ found ∷ rest) × (found ≢ 67)
first_kind v found bytes fails = elim fails [ inl other ↦ other | inr private ↦ absurd cc ]

first_kind_or_length : (v : ℕ) (found a : ℕ) (bytes : List ℕ) → OtherFails v true bytes (record_fault.Kind found) → OtherFails v true bytes (record_fault.Length a) → ⊥
first_kind_or_length v found a bytes kind long =
    let other = first_kind v found bytes kind in
    elim (length_cases v bytes a long) [
      | inl many ↦ other.2 (first_same _ _ _ _ (sym other.1 ∙ many.layout))
      | inr bad ↦ other.2 (first_same _ _ _ _ (sym other.1 ∙ bad.layout))
    ]

first_kind_or_short : (v : ℕ) (found : ℕ) (bytes : List ℕ) → OtherFails v true bytes (record_fault.Kind found) → OtherFails v true bytes record_fault.Short → ⊥
first_kind_or_short v found bytes kind short =
    let other = first_kind v found bytes kind in
    elim short [
      | inl none ↦ absurd (let e = sym none ∙ other.1 in cc)
      | inr cut ↦ other.2 (first_same _ _ _ _ (ap (λ (l : List ℕ). l ++ cut.0) (sym other.1) ∙ cut.2.6))
    ]

no_name_due : (v : ℕ) (m n bytes : List ℕ) → OtherFails v true bytes (record_fault.NameWrong m n) → ⊥
no_name_due v m n bytes fails = let e = fails.4 in cc

first_one : (v : ℕ) (bytes : List ℕ) (a b : RecordFault) → OtherFails v true bytes a → OtherFails v true bytes b → a ≡ b
first_one v bytes record_fault.Memory b one two = absurd one
first_one v bytes a record_fault.Memory one two = absurd two
first_one v bytes (record_fault.NameWrong m n) b one two = absurd (no_name_due v m n bytes one)
first_one v bytes a (record_fault.NameWrong m n) one two = absurd (no_name_due v m n bytes two)
first_one v bytes (record_fault.Kind a) (record_fault.Kind b) one two = ap (λ (n : ℕ). record_fault.Kind n) (first_same _ _ _ _ (sym (first_kind v a bytes one).1 ∙ (first_kind v b bytes two).1))
first_one v bytes (record_fault.Kind a) (record_fault.Length b) one two = absurd (first_kind_or_length v a b bytes one two)
first_one v bytes (record_fault.Kind a) record_fault.Short one two = absurd (first_kind_or_short v a bytes one two)
first_one v bytes (record_fault.Length a) (record_fault.Kind b) one two = absurd (first_kind_or_length v b a bytes two one)
first_one v bytes (record_fault.Length a) (record_fault.Length b) one two = ap (λ (n : ℕ). record_fault.Length n) (first_length_one v a b bytes one two)
first_one v bytes (record_fault.Length a) record_fault.Short one two = absurd (first_length_or_short v a bytes one two)
first_one v bytes record_fault.Short (record_fault.Kind b) one two = absurd (first_kind_or_short v b bytes two one)
first_one v bytes record_fault.Short (record_fault.Length b) one two = absurd (first_length_or_short v b bytes two one)
first_one v bytes record_fault.Short record_fault.Short one two = refl

-- a Blob with a receipt and another record don't both fail
other_or_brought : (v : ℕ) (bytes rest : List ℕ) (a b : RecordFault) → v ≡ 2 → bytes ≡ 82 ∷ rest → FailsFirst v false bytes a → BroughtFails rest b → a ≡ b
other_or_brought v bytes rest a b two is one brought = brought_one rest a b (both_fail v bytes rest a two is one) brought

record_one_fault : (v : ℕ) (due : Bool) (bytes : List ℕ) (a b : RecordFault) → FailsFirst v due bytes a → FailsFirst v due bytes b → a ≡ b
record_one_fault v true bytes a b one two = first_one v bytes a b (due_other v bytes a one) (due_other v bytes b two)
record_one_fault v false bytes a b (inl one) (inl two) = later_one v bytes a b one two
record_one_fault v false bytes a b (inr one) two = sym (other_or_brought v bytes one.2 b a one.0 one.3 two one.4)
record_one_fault v false bytes a b (inl one) (inr two) = other_or_brought v bytes two.2 a b two.0 two.3 (inl one) two.4

-- ---- a group

-- one list of records goes on behind another
record RecordsGoOn (v : ℕ) (front all : List Record) (s : List ℕ) : Type 0 where
  pub next : Record
  pub more : List Record
  pub rest : List ℕ
  pub split : all ≡ front ++ next ∷ more
  pub behind : s ≡ record_bytes next ++ rest
  pub fit : IsFit next
  pub known : IsOfVersion v next

abbrev RecordFronts : ℕ → List Record → List Record → List ℕ → List ℕ → Type 0
RecordFronts v a b s t = ((a ≡ b) × (s ≡ t)) ⊎ (RecordsGoOn v a b s ⊎ RecordsGoOn v b a t)

records_more : (v : ℕ) (x y : Record) (a b : List Record) (s t : List ℕ) → x ≡ y → RecordFronts v a b s t → RecordFronts v (x ∷ a) (y ∷ b) s t
records_more v x y a b s t is fronts =
    elim fronts [
      | inl same ↦ inl ((λ i. is i ∷ same.0 i), same.1)
      | inr (inl on) ↦ inr (inl (record { next = on.next; more = on.more; rest = on.rest; split = (λ i. sym is i ∷ on.split i); behind = on.behind; fit = on.fit; known = on.known }))
      | inr (inr on) ↦ inr (inr (record { next = on.next; more = on.more; rest = on.rest; split = (λ i. is i ∷ on.split i); behind = on.behind; fit = on.fit; known = on.known }))
    ]

record_fronts : (v : ℕ) (a b : List Record) (s t : List ℕ) → AllByRecursion IsFit a → AllByRecursion IsFit b → AllByRecursion (IsOfVersion v) a → AllByRecursion (IsOfVersion v) b → records_bytes a ++ s ≡ records_bytes b ++ t
    → RecordFronts v a b s t
record_fronts v [] [] s t a_fit b_fit a_known b_known same = inl (refl, same)
record_fronts v [] (y ∷ b) s t a_fit b_fit a_known b_known same = inr (inl (record { next = y; more = b; rest = records_bytes b ++ t; split = refl; behind = same ∙ append_assoc (record_bytes y) (records_bytes b) t; fit = b_fit.0; known = b_known.0 }))
record_fronts v (x ∷ a) [] s t a_fit b_fit a_known b_known same = inr (inr (record { next = x; more = a; rest = records_bytes a ++ s; split = refl; behind = sym same ∙ append_assoc (record_bytes x) (records_bytes a) s; fit = a_fit.0; known = a_known.0 }))
record_fronts v (x ∷ a) (y ∷ b) s t a_fit b_fit a_known b_known same =
    let here = record_same x y (records_bytes a ++ s) (records_bytes b ++ t) a_fit.0 b_fit.0 (sym (append_assoc (record_bytes x) (records_bytes a) s) ∙ same ∙ append_assoc (record_bytes y) (records_bytes b) t) in
    records_more v x y a b s t here.piece (record_fronts v a b s t a_fit.1 b_fit.1 a_known.1 b_known.1 here.rest)

-- where records go on, the bytes don't fail
no_fault_before : (v : ℕ) (first : Bool) (front all : List Record) (rest : List ℕ) (fault : RecordFault) → RecordsGoOn v front all rest → StandInGroup first all → FailsFirst v (first && is_empty front) rest fault → ⊥
no_fault_before v first front all rest fault on stand fails =
    record_well v (first && is_empty front) on.next on.rest fault on.fit on.known (kind_due first front on.more on.next (subst (λ (l : List Record). StandInGroup first l) on.split stand))
    (subst (λ (l : List ℕ). FailsFirst v (first && is_empty front) l fault) on.behind fails)

-- Bytes have one fault at most.
pub group_one_fault : (v : ℕ) (first : Bool) (bytes : List ℕ) (a b : RecordFault) → IsGroupFault v first bytes a → IsGroupFault v first bytes b → a ≡ b
group_one_fault v first bytes a b one two =
    elim (record_fronts v one.front two.front one.rest two.rest one.fit two.fit one.known two.known (sym one.layout ∙ two.layout)) [
      | inl same ↦
          record_one_fault v (first && is_empty two.front) two.rest a b
          (subst (λ (l : List ℕ). FailsFirst v (first && is_empty two.front) l a) same.1 (subst (λ (l : List Record). FailsFirst v (first && is_empty l) one.rest a) same.0 one.fails)) two.fails
      | inr (inl on) ↦ absurd (no_fault_before v first one.front two.front one.rest a on two.stand one.fails)
      | inr (inr on) ↦ absurd (no_fault_before v first two.front one.front two.rest b on one.stand two.fails)
    ]
