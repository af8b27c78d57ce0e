-- Bytes at whose front a fit record stands don't fail, so bytes are a group or have a fault, and not both.
use Rattle.std.proofs.Common.{◌≡◌, ◌≢◌, ◌⊎◌, ℕ, ◌<◌, ◌≤◌, ◌^◌, Bool, true, false, List, [], ◌∷◌, ◌++◌, length, get_or, drop, None, Some, refl, sym, ◌∙◌, ap, subst, arith, append_assoc, length-append, inl, inr}
use Rattle.std.specs.Prelude.{◌&&◌, not, if◌then◌else◌}
use Rattle.std.specs.Int.{to_be_bytes, w16, w64}
use Rattle.std.specs.List.{flat_map, list_all, AllByRecursion}
use Rattle.std.proofs.lemmas.Bool.{both_ways, and_parts, not-true}
use Rattle.std.proofs.lemmas.List.{append-nil}
use Rattle.fsl_order.specs.Names.{has}
use Rattle.fsl_order.proofs.Booleans.{and_false, and_true}
use Rattle.fsl_text.specs.Bytes.{is_empty}
use Rattle.fsl_name.specs.Name.{name_of}
use Rattle.fsl_record.specs.Receipts.{Brought, receipt_bytes}
use Rattle.fsl_record.specs.Brought.{BroughtFails}
use Rattle.fsl_record.specs.declared.Config.{Config}
use Rattle.fsl_record.specs.declared.Record.{Record}
use Rattle.fsl_record.specs.declared.Record.TheVariants as record_of
use Rattle.fsl_record.specs.declared.RecordFault.{RecordFault}
use Rattle.fsl_record.specs.declared.RecordFault.TheVariants as record_fault
use Rattle.fsl_record.specs.Records.{field_bytes, is_field, record_bytes, records_bytes, is_config, IsFit, IsOfVersion, AreFields}
use Rattle.fsl_record.specs.Groups.{StandInGroup, IsGroupOf, IsNameKind, blob_head, config_head, OtherFails, FailsFirst, IsGroupFault}
use Rattle.fsl_record.proofs.Unique.{append_same, length_same, count_same, first_same, rest_same, pieces_same, records_left}
use Rattle.fsl_record.proofs.FieldLists.{fields_at}
use Rattle.fsl_record.proofs.Parts.{brought_well}

-- ---- a blob at the front

-- two blobs' heads, and what stands behind them
record SameBlobs (n : List ℕ) (b : List ℕ) (r : List ℕ) (m : List ℕ) (size : ℕ) (s : List ℕ) : Type 0 where
  pub name : n ≡ m
  pub sized : length b ≡ size
  pub behind : b ++ r ≡ s

same_blobs : (p : Bool) (n b r : List ℕ) (q : ℕ) (m : List ℕ) (size : ℕ) (s : List ℕ) → length n ≡ 20 → length m ≡ 20 → length b < 2 ^ 64 → size < 2 ^ 64 → record_bytes (record_of.Blob p n None b) ++ r ≡ blob_head q m size ++ s → SameBlobs n b r m size s
same_blobs p n b r q m size s n_long m_long b_fits fits same =
    let tail : ((n ++ to_be_bytes w64 (length b)) ++ b) ++ r ≡ ((m ++ to_be_bytes w64 size) ++ []) ++ s =
    ap (λ (l : List ℕ). drop 2 l) same ∙ ap (λ (l : List ℕ). l ++ s) (sym (append-nil (m ++ to_be_bytes w64 size))) in
    let pieces = pieces_same n m (to_be_bytes w64 (length b)) (to_be_bytes w64 size) b [] r s (n_long ∙ sym m_long) refl tail in
    record { name = pieces.first; sized = length_same (length b) size b_fits fits pieces.second; behind = pieces.rest }

flag_is : (p : Bool) (r : List ℕ) (q : ℕ) (s : List ℕ) → (66 ∷ (if p then 1 else 0) ∷ r) ≡ 66 ∷ q ∷ s → q ≤ 1
flag_is true r q s same = omega (arith, ap (λ (l : List ℕ). get_or l 1 0) same)
flag_is false r q s same = omega (arith, ap (λ (l : List ℕ). get_or l 1 0) same)

-- the letter of a Blob is none of a record that has a name alone, and each of these may stand
pub no_name_kind : (v kind : ℕ) → 66 ≡ kind → IsNameKind v kind → ⊥
no_name_kind v kind is (inl publish) = omega (arith, is, publish)
no_name_kind v kind is (inr (inl shun)) = omega (arith, is, shun)
no_name_kind v kind is (inr (inr unshun)) = omega (arith, is, unshun.1)

pub name_kind_known : (v kind found : ℕ) → IsNameKind v kind → kind ≡ found → (found ≢ 66) × (found ≢ 80) × (found ≢ 83) × (v ≡ 2 → (found ≢ 82) × (found ≢ 85)) → ⊥
name_kind_known v kind found (inl publish) is other = other.1 (sym is ∙ publish)
name_kind_known v kind found (inr (inl shun)) is other = other.2 (sym is ∙ shun)
name_kind_known v kind found (inr (inr unshun)) is other = (other.3 unshun.0).1 (sym is ∙ unshun.1)

pub none_behind : (a b : List ℕ) → a ++ b ≡ [] → b ≡ []
none_behind [] b none = none
none_behind (x ∷ a) b none = absurd cc

-- ---- a Config at the front

record SameConfigs (c : Config) (r : List ℕ) (count : ℕ) (s : List ℕ) : Type 0 where
  pub counted : length c.fields ≡ count
  pub behind : flat_map field_bytes c.fields ++ r ≡ s

same_configs : (c : Config) (r codes : List ℕ) (count : ℕ) (s : List ℕ) → IsFit (record_of.Config c) → length codes ≡ 40 → count < 2 ^ 16 → record_bytes (record_of.Config c) ++ r ≡ config_head codes count ++ s → SameConfigs c r count s
same_configs c r codes count s fit long fits same =
    let behind = flat_map field_bytes c.fields ++ r in
    let tail : (((c.project ++ c.server) ++ to_be_bytes w16 (length c.fields)) ++ []) ++ (flat_map field_bytes c.fields ++ r) ≡ ((codes ++ to_be_bytes w16 count) ++ []) ++ s =
    ap (λ (l : List ℕ). l ++ (flat_map field_bytes c.fields ++ r)) (append-nil ((c.project ++ c.server) ++ to_be_bytes w16 (length c.fields)))
    ∙ sym (append_assoc ((c.project ++ c.server) ++ to_be_bytes w16 (length c.fields)) (flat_map field_bytes c.fields) r)
    ∙ ap (λ (l : List ℕ). drop 1 l) same ∙ ap (λ (l : List ℕ). l ++ s) (sym (append-nil (codes ++ to_be_bytes w16 count))) in
    let pieces = pieces_same (c.project ++ c.server) codes (to_be_bytes w16 (length c.fields)) (to_be_bytes w16 count) [] [] (flat_map field_bytes c.fields ++ r) s
    (omega (arith, length-append c.project c.server, fit.0.0, fit.0.1, long)) refl tail in
    record { counted = count_same (length c.fields) count (omega (arith, fit.1.few)) fits pieces.second; behind = pieces.rest }

-- fewer fields in front: the next one
record NextField (good fields : List (List ℕ)) (r s : List ℕ) : Type 0 where
  pub next : List ℕ
  pub more : List (List ℕ)
  pub split : fields ≡ good ++ next ∷ more
  pub behind : length next ∷ (next ++ (flat_map field_bytes more ++ r)) ≡ s

next_field : (good fields : List (List ℕ)) (r s : List ℕ) → length good < length fields → flat_map field_bytes fields ++ r ≡ flat_map field_bytes good ++ s → NextField good fields r s
next_field [] [] r s fewer same = absurd (omega (arith, fewer))
next_field [] (f ∷ fields) r s fewer same = record {
  next = f;
  more = fields;
  split = refl;
  behind = ap (λ (l : List ℕ). length f ∷ l) (sym (append_assoc f (flat_map field_bytes fields) r)) ∙ same;
}
next_field (g ∷ good) [] r s fewer same = absurd (omega (arith, fewer))
next_field (g ∷ good) (f ∷ fields) r s fewer same =
    let all : length f ∷ (f ++ (flat_map field_bytes fields ++ r)) ≡ length g ∷ (g ++ (flat_map field_bytes good ++ s)) =
    ap (λ (l : List ℕ). length f ∷ l) (sym (append_assoc f (flat_map field_bytes fields) r)) ∙ same ∙ ap (λ (l : List ℕ). length g ∷ l) (append_assoc g (flat_map field_bytes good) s) in
    let here = append_same f g (flat_map field_bytes fields ++ r) (flat_map field_bytes good ++ s) (first_same _ _ _ _ all) (rest_same _ _ _ _ all) in
    let left = next_field good fields r s (omega (arith, fewer)) here.rest in
    record { next = left.next; more = left.more; split = (λ i. here.piece i ∷ left.split i); behind = left.behind }

-- ---- no fault where a fit record stands

pub not_field : (good more : List (List ℕ)) (next field : List ℕ) → next ≡ field → AreFields (good ++ next ∷ more) → ((is_field field ≡ false) ⊎ (has good field ≡ true)) → ⊥
not_field good more next field is fit bad =
    let well = fields_at good more next fit in
    elim bad [
      | inl unformed ↦ both_ways (is_field field) unformed (ap is_field (sym is) ∙ well.formed)
      | inr repeated ↦ both_ways (has good field) (ap (has good) (sym is) ∙ well.fresh) repeated
    ]

config_well : (v : ℕ) (c : Config) (r : List ℕ) (fault : RecordFault) → IsFit (record_of.Config c) → OtherFails v true (record_bytes (record_of.Config c) ++ r) fault → ⊥
config_well v c r record_fault.Memory fit fails = fails
config_well v c r (record_fault.NameWrong kept found) fit fails = absurd cc
config_well v c r (record_fault.Kind found) fit fails =
    elim fails [
      | inl other ↦ other.2 (sym (first_same _ _ _ _ other.1))
      | inr private ↦ absurd (omega (arith, first_same _ _ _ _ private.1))
    ]
config_well v c r (record_fault.Length found) fit fails =
    elim fails.3 [
      | inl many ↦
          let same = same_configs c r fails.0 found fails.1 fit fails.2 many.2 many.0 in
          omega (arith, same.counted, fit.1.few, many.1)
      | inr bad ↦
          let behind : record_bytes (record_of.Config c) ++ r ≡ config_head fails.0 bad.0 ++ (flat_map field_bytes bad.1 ++ (found ∷ (bad.2 ++ fails.1))) =
          bad.3 ∙ append_assoc (config_head fails.0 bad.0 ++ flat_map field_bytes bad.1) (found ∷ bad.2) fails.1 ∙ append_assoc (config_head fails.0 bad.0) (flat_map field_bytes bad.1) (found ∷ (bad.2 ++ fails.1)) in
          let same = same_configs c r fails.0 bad.0 (flat_map field_bytes bad.1 ++ (found ∷ (bad.2 ++ fails.1))) fit fails.2 (omega (arith, bad.4)) behind in
          let next = next_field bad.1 c.fields r (found ∷ (bad.2 ++ fails.1)) (omega (arith, same.counted, bad.5)) same.behind in
          let field = append_same next.next bad.2 (flat_map field_bytes next.more ++ r) fails.1 (first_same _ _ _ _ next.behind ∙ sym bad.7) (rest_same _ _ _ _ next.behind) in
          not_field bad.1 next.more next.next bad.2 field.piece (subst (λ (l : List (List ℕ)). AreFields l) next.split fit.1) bad.8
    ]
config_well v c r record_fault.Short fit fails =
    elim fails [
      | inl none ↦ absurd cc
      | inr cut ↦ cut.1 (config_cut c r cut.0 cut.2.0 cut.2.1 cut.2.2 cut.2.3 fit cut.2.4 cut.2.6 cut.2.7)
    ]
  where
    config_cut : (c : Config) (r tail codes : List ℕ) (count : ℕ) (good : List (List ℕ)) (field : List ℕ) → IsFit (record_of.Config c) → length codes ≡ 40
        → (record_bytes (record_of.Config c) ++ r) ++ tail ≡ (config_head codes count ++ flat_map field_bytes good) ++ (length field ∷ field)
        → (length (record_bytes (record_of.Config c) ++ r) < 43) ⊎ ((count ≤ 256) × (length good < count)) → tail ≡ []
    config_cut c r tail codes count good field fit long same so_far =
        elim so_far [
          | inl short ↦ absurd (omega (
            arith,
            short,
            length-append (record_bytes (record_of.Config c)) r,
            length-append (((c.project ++ c.server) ++ to_be_bytes w16 (length c.fields))) (flat_map field_bytes c.fields),
            length-append (c.project ++ c.server) (to_be_bytes w16 (length c.fields)),
            length-append c.project c.server,
            fit.0.0,
            fit.0.1,
          ))
          | inr fewer ↦
              let behind = sym (append_assoc (record_bytes (record_of.Config c)) r tail) ∙ same ∙ append_assoc (config_head codes count) (flat_map field_bytes good) (length field ∷ field) in
              let both = same_configs c (r ++ tail) codes count (flat_map field_bytes good ++ (length field ∷ field)) fit long (omega (arith, fewer.0)) behind in
              let next = next_field good c.fields (r ++ tail) (length field ∷ field) (omega (arith, both.counted, fewer.1)) both.behind in
              let rest = append_same next.next field (flat_map field_bytes next.more ++ (r ++ tail)) [] (first_same _ _ _ _ next.behind) (rest_same _ _ _ _ next.behind ∙ sym (append-nil field)) in
              none_behind r tail (none_behind (flat_map field_bytes next.more) (r ++ tail) rest.rest)
        ]

blob_well : (v : ℕ) (p : Bool) (n b r : List ℕ) (fault : RecordFault) → IsFit (record_of.Blob p n None b) → OtherFails v false (record_bytes (record_of.Blob p n None b) ++ r) fault → ⊥
blob_well v p n b r record_fault.Memory fit fails = fails
blob_well v p n b r (record_fault.Kind found) fit fails =
    elim fails [
      | inl other ↦ other.2.0 (sym (first_same _ _ _ _ other.1))
      | inr private ↦ absurd (omega (arith, flag_is p _ found private.0 private.1, private.3))
    ]
blob_well v p n b r (record_fault.Length found) fit fails =
    let same = same_blobs p n b r fails.0 fails.1 found fails.2 fit.0 fails.5 (omega (arith, fit.1.1)) fails.7 fails.3 in
    omega (arith, same.sized, fit.1.1, fails.6)
blob_well v p n b r (record_fault.NameWrong kept found) fit fails =
    let behind = fails.3 ∙ append_assoc (blob_head fails.0 kept (length fails.1)) fails.1 fails.2 in
    let same = same_blobs p n b r fails.0 kept (length fails.1) (fails.1 ++ fails.2) fit.0 fails.6 (omega (arith, fit.1.1)) (omega (arith, fails.7)) behind in
    let content = append_same b fails.1 r fails.2 same.sized same.behind in
    fails.9 (sym same.name ∙ fit.1.0 ∙ ap name_of content.piece ∙ sym fails.8)
blob_well v p n b r record_fault.Short fit fails =
    elim fails [
      | inl none ↦ absurd cc
      | inr cut ↦
          elim cut.2 [
            | inl blob ↦ cut.1 (blob_cut p n b r cut.0 blob.0 blob.1 blob.2 fit blob.4 blob.3 blob.6)
            | inr named ↦ no_name_kind v named.0 (first_same _ _ _ _ named.2) named.5
          ]
    ]
  where
    blob_cut : (p : Bool) (n b r tail : List ℕ) (q : ℕ) (m content : List ℕ) → IsFit (record_of.Blob p n None b) → length m ≡ 20
        → (record_bytes (record_of.Blob p n None b) ++ r) ++ tail ≡ blob_head q m (length content) ++ content
        → (length (record_bytes (record_of.Blob p n None b) ++ r) < 30) ⊎ (length content ≤ 2 ^ 24) → tail ≡ []
    blob_cut p n b r tail q m content fit long same so_far =
        elim so_far [
          | inl short ↦ absurd (omega (arith, short, length-append (record_bytes (record_of.Blob p n None b)) r, length-append (n ++ to_be_bytes w64 (length b)) b, length-append n (to_be_bytes w64 (length b)), fit.0))
          | inr small ↦
              let both = same_blobs p n b (r ++ tail) q m (length content) content fit.0 long (omega (arith, fit.1.1)) (omega (arith, small)) (sym (append_assoc (record_bytes (record_of.Blob p n None b)) r tail) ∙ same) in
              none_behind r tail (append_same b content (r ++ tail) [] both.sized (both.behind ∙ sym (append-nil content))).rest
        ]

named_well : (v k : ℕ) (n r : List ℕ) (fault : RecordFault) → IsNameKind v k → length n ≡ 20 → OtherFails v false ((k ∷ n) ++ r) fault → ⊥
named_well v k n r record_fault.Memory is long fails = fails
named_well v k n r (record_fault.Kind found) is long fails =
    elim fails [
      | inl other ↦ name_kind_known v k found is (first_same _ _ _ _ other.1) other.2
      | inr private ↦ no_name_kind v k (sym (first_same _ _ _ _ private.1)) is
    ]
named_well v k n r (record_fault.Length found) is long fails = no_name_kind v k (sym (first_same _ _ _ _ fails.3)) is
named_well v k n r (record_fault.NameWrong kept found) is long fails = no_name_kind v k (sym (first_same _ _ _ _ fails.3)) is
named_well v k n r record_fault.Short is long fails =
    elim fails [
      | inl none ↦ absurd cc
      | inr cut ↦
          elim cut.2 [
            | inl blob ↦ no_name_kind v k (sym (first_same _ _ _ _ blob.3)) is
            | inr named ↦ cut.1 (none_behind r cut.0 (append_same n named.1 (r ++ cut.0) [] (long ∙ sym named.3) (sym (append_assoc n r cut.0) ∙ rest_same _ _ _ _ named.2 ∙ sym (append-nil named.1))).rest)
          ]
    ]

-- a Blob with a receipt at the front, behind its letter
brought_layout : (p : Bool) (n : List ℕ) (r : Brought) (b rest : List ℕ)
    → record_bytes (record_of.Blob p n (Some r) b) ++ rest ≡ 82 ∷ (if p then 1 else 0) ∷ (n ++ (receipt_bytes r ++ (to_be_bytes w64 (length b) ++ (b ++ rest))))
brought_layout p n r b rest =
    ap (λ (l : List ℕ). 82 ∷ (if p then 1 else 0) ∷ l)
    (append_assoc ((n ++ receipt_bytes r) ++ to_be_bytes w64 (length b)) b rest ∙ append_assoc (n ++ receipt_bytes r) (to_be_bytes w64 (length b)) (b ++ rest)
    ∙ append_assoc n (receipt_bytes r) (to_be_bytes w64 (length b) ++ (b ++ rest)))

-- a fault that isn't of a Blob with a receipt, where one stands
not_other : (v : ℕ) (bytes rest : List ℕ) (fault : RecordFault) → v ≡ 2 → bytes ≡ 82 ∷ rest → OtherFails v false bytes fault → ⊥
not_other v bytes rest record_fault.Memory two is fails = fails
not_other v bytes rest (record_fault.Kind found) two is (inl other) = (other.2.3 two).0 (first_same _ _ _ _ (sym other.1 ∙ is))
not_other v bytes rest (record_fault.Kind found) two is (inr private) = omega (arith, first_same _ _ _ _ (sym private.1 ∙ is))
not_other v bytes rest (record_fault.Length found) two is fails = omega (arith, first_same _ _ _ _ (sym fails.3 ∙ is))
not_other v bytes rest (record_fault.NameWrong kept found) two is fails = omega (arith, first_same _ _ _ _ (sym fails.3 ∙ is))
not_other v bytes rest record_fault.Short two is (inl none) = absurd (let e = sym none ∙ is in cc)
not_other v bytes rest record_fault.Short two is (inr (tail, some, inl blob)) = omega (arith, first_same _ _ _ _ (sym blob.3 ∙ ap (λ (l : List ℕ). l ++ tail) is))
not_other v bytes rest record_fault.Short two is (inr (tail, some, inr named)) = no_name named.0 (first_same _ _ _ _ (sym named.2 ∙ ap (λ (l : List ℕ). l ++ tail) is)) named.5
  where
    no_name : (kind : ℕ) → kind ≡ 82 → IsNameKind v kind → ⊥
    no_name kind is (inl publish) = omega (arith, is, publish)
    no_name kind is (inr (inl shun)) = omega (arith, is, shun)
    no_name kind is (inr (inr unshun)) = omega (arith, is, unshun.1)

-- and one of a Blob with a receipt, where another record stands
not_brought : (v k : ℕ) (bytes rest : List ℕ) (fault : RecordFault) → (k ≢ 82) → bytes ≡ k ∷ rest → FailsFirst v false bytes fault → OtherFails v false bytes fault
not_brought v k bytes rest fault other is (inl fails) = fails
not_brought v k bytes rest fault other is (inr brought) = absurd (other (first_same _ _ _ _ (sym is ∙ brought.3)))

pub due_other : (v : ℕ) (bytes : List ℕ) (fault : RecordFault) → FailsFirst v true bytes fault → OtherFails v true bytes fault
due_other v bytes fault (inl fails) = fails
due_other v bytes fault (inr brought) = absurd (let e = brought.1 in cc)

pub both_fail : (v : ℕ) (bytes rest : List ℕ) (f : RecordFault) → v ≡ 2 → bytes ≡ 82 ∷ rest → FailsFirst v false bytes f → BroughtFails rest f
both_fail v bytes rest f two is (inl fails) = absurd (not_other v bytes rest f two is fails)
both_fail v bytes rest f two is (inr brought) = subst (λ (l : List ℕ). BroughtFails l f) (rest_same _ _ _ _ (sym brought.3 ∙ is)) brought.4

-- where a fit record of the version stands, of the kind that is due, the bytes don't fail
pub record_well : (v : ℕ) (due : Bool) (a : Record) (r : List ℕ) (fault : RecordFault) → IsFit a → IsOfVersion v a → is_config a ≡ due → FailsFirst v due (record_bytes a ++ r) fault → ⊥
record_well v true (record_of.Config c) r fault fit known kind fails = config_well v c r fault fit (due_other v _ fault fails)
record_well v true (record_of.Blob p n receipt b) r fault fit known kind fails = absurd cc
record_well v true (record_of.Publish n) r fault fit known kind fails = absurd cc
record_well v true (record_of.Shun n) r fault fit known kind fails = absurd cc
record_well v true (record_of.Unshun n) r fault fit known kind fails = absurd cc
record_well v false (record_of.Config c) r fault fit known kind fails = absurd cc
record_well v false (record_of.Blob p n None b) r fault fit known kind fails = blob_well v p n b r fault fit (not_brought v 66 _ _ fault (λ e. omega (arith, e)) refl fails)
record_well v false (record_of.Blob p n (Some receipt) b) r fault fit known kind fails = brought_well p n receipt b r fault fit (both_fail v _ _ fault known (brought_layout p n receipt b r) fails)
record_well v false (record_of.Publish n) r fault fit known kind fails = named_well v 80 n r fault (inl refl) fit.0 (not_brought v 80 _ _ fault (λ e. omega (arith, e)) refl fails)
record_well v false (record_of.Shun n) r fault fit known kind fails = named_well v 83 n r fault (inr (inl refl)) fit.0 (not_brought v 83 _ _ fault (λ e. omega (arith, e)) refl fails)
record_well v false (record_of.Unshun n) r fault fit known kind fails = named_well v 85 n r fault (inr (inr (known, refl))) fit.0 (not_brought v 85 _ _ fault (λ e. omega (arith, e)) refl fails)

-- ---- a group has no fault

none_config : (front more : List Record) (a : Record) → list_all (λ r. not (is_config r)) (front ++ a ∷ more) ≡ true → is_config a ≡ false
none_config [] more a all = not-true (is_config a) (and_parts (not (is_config a)) (list_all (λ r. not (is_config r)) more) all).0
none_config (x ∷ front) more a all = none_config front more a (and_parts (not (is_config x)) (list_all (λ r. not (is_config r)) (front ++ a ∷ more)) all).1

-- behind records that stand in a group the next is of the kind that is due
pub kind_due : (first : Bool) (front more : List Record) (a : Record) → StandInGroup first (front ++ a ∷ more) → is_config a ≡ (first && is_empty front)
kind_due first [] more a stand = stand.0 ∙ sym (and_true first)
kind_due first (x ∷ front) more a stand = none_config front more a stand.1 ∙ sym (and_false first)

-- what stands behind a front is of the version too
known_left : (v : ℕ) (front more : List Record) → AllByRecursion (IsOfVersion v) (front ++ more) → AllByRecursion (IsOfVersion v) more
known_left v [] more all = all
known_left v (x ∷ front) more all = known_left v front more all.1

-- Bytes that are a group have no fault.
pub group_no_fault : (v : ℕ) (first : Bool) (bytes : List ℕ) (records : List Record) (fault : RecordFault) → IsGroupOf v first bytes records → IsGroupFault v first bytes fault → ⊥
group_no_fault v first bytes records fault group bad =
    let left = records_left bad.front records bad.rest bad.fit group.fit (sym bad.layout ∙ group.layout) in
    at left.more left.whole left.bytes left.fit
  where
    at : (more : List Record) → records ≡ bad.front ++ more → bad.rest ≡ records_bytes more → AllByRecursion IsFit more → ⊥
    at [] whole none fit = group.some (whole ∙ append-nil bad.front ∙ bad.not_at_end none)
    at (a ∷ more) whole is fit =
        record_well v (first && is_empty bad.front) a (records_bytes more) fault fit.0
        (known_left v bad.front (a ∷ more) (subst (λ (l : List Record). AllByRecursion (IsOfVersion v) l) whole group.known)).0
        (kind_due first bad.front more a (subst (λ (l : List Record). StandInGroup first l) whole group.stand))
        (subst (λ (l : List ℕ). FailsFirst v (first && is_empty bad.front) l fault) is bad.fails)
