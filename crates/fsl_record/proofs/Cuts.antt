-- Bytes that are the front of a record and go on with a tail.
use Rattle.std.proofs.Common.{◌≡◌, ◌≢◌, ℕ, zero, suc, ◌+◌, ◌-◌, ◌<◌, ◌≤◌, ◌^◌, true, false, List, [], ◌∷◌, ◌++◌, length, get_or, take, drop, replicate, refl, sym, ◌∙◌, ap, arith, append_assoc, length-append, length-take, length-drop, inl, inr}
use Rattle.std.specs.Int.{to_be_bytes, from_be_bytes, w16, w32, w64}
use Rattle.std.proofs.lemmas.Nat.{be_bytes_2, be_bytes_4, be_bytes_8}
use Rattle.std.proofs.lemmas.List.{take-append-drop, get_or-drop, length-replicate, nil_from_length}
use Rattle.fsl_record.specs.declared.RecordFault.TheVariants as record_fault
use Rattle.fsl_record.specs.Groups.{OtherFails, IsNameKind, blob_head, config_head}
use Rattle.fsl_record.specs.Reading.{FieldFails}
use Rattle.fsl_record.proofs.FieldLists.{fields_none}

-- each is a byte
abbrev pub AllBytes : List ℕ → Type 0
AllBytes bytes = (i : ℕ) → get_or bytes i 0 < 256

zeros : ℕ → List ℕ
zeros n = replicate n 0

length-zeros : (n : ℕ) → length (zeros n) ≡ n
unfolding zeros
length-zeros n = length-replicate n 0

bytes_zeros : (n : ℕ) → AllBytes (zeros n)
unfolding zeros
bytes_zeros zero i = omega arith
bytes_zeros (suc n) zero = omega arith
bytes_zeros (suc n) (suc i) = bytes_zeros n i

bytes_append : (a b : List ℕ) → AllBytes a → AllBytes b → AllBytes (a ++ b)
bytes_append [] b a_bytes b_bytes i = b_bytes i
bytes_append (x ∷ a) b a_bytes b_bytes zero = a_bytes zero
bytes_append (x ∷ a) b a_bytes b_bytes (suc i) = bytes_append a b (λ j. a_bytes (suc j)) b_bytes i

bytes_drop : (n : ℕ) (bytes : List ℕ) → AllBytes bytes → AllBytes (drop n bytes)
bytes_drop n bytes all i = rw (get_or-drop n bytes i 0) (all (n + i))

some_zeros : (n : ℕ) (rest : List ℕ) → 0 < n → zeros n ++ rest ≢ []
some_zeros n rest some none = absurd (omega (arith, ap length none, length-append (zeros n) rest, length-zeros n))

-- ---- numbers and their bytes

pub number_of_8 : (l : List ℕ) → length l ≡ 8 → AllBytes l → l ≡ to_be_bytes w64 (from_be_bytes w64 l)
number_of_8 l long all = sym (be_bytes_8 l (from_be_bytes w64 l) long all refl)

pub number_of_4 : (l : List ℕ) → length l ≡ 4 → AllBytes l → l ≡ to_be_bytes w32 (from_be_bytes w32 l)
number_of_4 l long all = sym (be_bytes_4 l (from_be_bytes w32 l) long all refl)

pub number_of_2 : (l : List ℕ) → length l ≡ 2 → AllBytes l → l ≡ to_be_bytes w16 (from_be_bytes w16 l)
number_of_2 l long all = sym (be_bytes_2 l (from_be_bytes w16 l) long all refl)

-- bytes filled up with zeros
filled : (more : List ℕ) (n : ℕ) → List ℕ
filled more n = more ++ zeros (n - length more)

length-filled : (more : List ℕ) (n : ℕ) → length more ≤ n → length (filled more n) ≡ n
unfolding filled
length-filled more n short = omega (arith, length-append more (zeros (n - length more)), length-zeros (n - length more))

bytes_filled : (more : List ℕ) (n : ℕ) → AllBytes more → AllBytes (filled more n)
unfolding filled
bytes_filled more n all = bytes_append more (zeros (n - length more)) all (bytes_zeros (n - length more))

-- ---- a blob

pub blob_cut_at_flag : (v : ℕ) → OtherFails v false (66 ∷ []) record_fault.Short
blob_cut_at_flag v = inr (replicate 29 0, (λ none. absurd cc), inl (0, replicate 20 0, [], refl, refl, inl (omega arith), inl (omega arith)))

-- the head of a blob whose name and length aren't there whole
blob_head_is : (more content : List ℕ) (private : ℕ) → length more < 28 → AllBytes more → length content ≡ from_be_bytes w64 (drop 20 (filled more 28))
    → 66 ∷ private ∷ (more ++ (zeros (28 - length more) ++ content)) ≡ blob_head private (take 20 (filled more 28)) (length content) ++ content
unfolding filled
blob_head_is more content private short all sized =
    let long = length-filled more 28 (omega (arith, short)) in
    let number = number_of_8 (drop 20 (filled more 28)) (omega (arith, length-drop 20 (filled more 28), long)) (bytes_drop 20 (filled more 28) (bytes_filled more 28 all)) in
    let split : filled more 28 ≡ take 20 (filled more 28) ++ to_be_bytes w64 (length content) =
    sym (take-append-drop 20 (filled more 28)) ∙ ap (λ (l : List ℕ). take 20 (filled more 28) ++ l) (number ∙ ap (λ (n : ℕ). to_be_bytes w64 n) (sym sized)) in
    ap (λ (l : List ℕ). 66 ∷ private ∷ l) (sym (append_assoc more (zeros (28 - length more)) content) ∙ ap (λ (l : List ℕ). l ++ content) split)

pub blob_cut_at_head : (v private : ℕ) (more : List ℕ) → private ≤ 1 → length more < 28 → AllBytes more → OtherFails v false (66 ∷ private ∷ more) record_fault.Short
blob_cut_at_head v private more flag short all =
    let long = length-filled more 28 (omega (arith, short)) in
    let size = from_be_bytes w64 (drop 20 (filled more 28)) in
    let content = zeros size in
    inr (
      zeros (28 - length more) ++ content,
      some_zeros (28 - length more) content (omega (arith, short)),
      inl (
        private,
        take 20 (filled more 28),
        content,
        blob_head_is more content private short all (length-zeros size),
        omega (arith, length-take 20 (filled more 28), long),
        inr flag,
        inl (omega (arith, short)),
      ),
    )

pub blob_cut_at_content : (v private n : ℕ) (name got : List ℕ) → private ≤ 1 → length name ≡ 20 → n ≤ 2 ^ 24 → length got < n
    → OtherFails v false (66 ∷ private ∷ (name ++ (to_be_bytes w64 n ++ got))) record_fault.Short
blob_cut_at_content v private n name got flag long small short =
    let tail = zeros (n - length got) in
    let whole : length (got ++ tail) ≡ n = omega (arith, length-append got tail, length-zeros (n - length got), short) in
    let layout : 66 ∷ private ∷ ((name ++ (to_be_bytes w64 n ++ got)) ++ tail) ≡ blob_head private name (length (got ++ tail)) ++ (got ++ tail) =
    ap (λ (l : List ℕ). 66 ∷ private ∷ l) (ap (λ (l : List ℕ). l ++ tail) (sym (append_assoc name (to_be_bytes w64 n) got)) ∙ append_assoc (name ++ to_be_bytes w64 n) got tail)
    ∙ ap (λ (k : ℕ). blob_head private name k ++ (got ++ tail)) (sym whole) in
    inr (
      tail,
      some (n - length got) (omega (arith, short)),
      inl (private, name, got ++ tail, layout, long, inr flag, inr (omega (arith, whole, small))),
    )
  where
    some : (k : ℕ) → 0 < k → zeros k ≢ []
    some k positive none = absurd (omega (arith, ap length none, length-zeros k))

-- ---- a name alone

pub name_cut : (v kind : ℕ) (more : List ℕ) → IsNameKind v kind → length more < 20 → OtherFails v false (kind ∷ more) record_fault.Short
unfolding filled
name_cut v kind more is short =
    inr (
      zeros (20 - length more),
      some (20 - length more) (omega (arith, short)),
      inr (kind, filled more 20, refl, length-filled more 20 (omega (arith, short)), (λ none. absurd cc), is),
    )
  where
    some : (k : ℕ) → 0 < k → zeros k ≢ []
    some k positive none = absurd (omega (arith, ap length none, length-zeros k))

-- ---- a Config

pub config_cut_at_head : (v : ℕ) (more : List ℕ) → length more < 42 → AllBytes more → OtherFails v true (67 ∷ more) record_fault.Short
unfolding filled
config_cut_at_head v more short all =
    let whole = filled more 42 in
    let long = length-filled more 42 (omega (arith, short)) in
    let count = from_be_bytes w16 (drop 40 whole) in
    let number = number_of_2 (drop 40 whole) (omega (arith, length-drop 40 whole, long)) (bytes_drop 40 whole (bytes_filled more 42 all)) in
    let layout : 67 ∷ (more ++ (zeros (42 - length more) ++ 0 ∷ [])) ≡ config_head (take 40 whole) count ++ [] ++ 0 ∷ [] =
    ap (λ (l : List ℕ). 67 ∷ l) (sym (append_assoc more (zeros (42 - length more)) (0 ∷ [])) ∙ ap (λ (l : List ℕ). l ++ 0 ∷ []) (sym (take-append-drop 40 whole) ∙ ap (λ (l : List ℕ). take 40 whole ++ l) number ∙ sym (append_nil (take 40 whole ++ to_be_bytes w16 count)))) in
    inr (
      zeros (42 - length more) ++ 0 ∷ [],
      some_zeros (42 - length more) (0 ∷ []) (omega (arith, short)),
      (take 40 whole, count, [], [], omega (arith, length-take 40 whole, long), fields_none, layout, inl (omega (arith, short))),
    )
  where
    append_nil : (l : List ℕ) → l ++ [] ≡ l
    append_nil [] = refl
    append_nil (x ∷ l) = ap (λ (k : List ℕ). x ∷ k) (append_nil l)

-- ---- a field

pub field_cut : (before : List (List ℕ)) (bytes more : List ℕ) (n : ℕ) → bytes ≡ n ∷ more → length more < n → FieldFails before bytes record_fault.Short
unfolding filled
field_cut before bytes more n is short =
    let long = length-filled more n (omega (arith, short)) in (
      filled more n,
      zeros (n - length more),
      ap (λ (l : List ℕ). l ++ zeros (n - length more)) is ∙ ap (λ (k : ℕ). k ∷ (more ++ zeros (n - length more))) (sym long),
      λ none. absurd (omega (arith, ap length none, length-zeros (n - length more), short)),
    )

pub field_missing : (before : List (List ℕ)) (bytes : List ℕ) → length bytes ≡ 0 → FieldFails before bytes record_fault.Short
field_missing before bytes none = ([], 0 ∷ [], ap (λ (l : List ℕ). l ++ 0 ∷ []) (nil_from_length bytes none), λ empty. absurd cc)
