-- Where the contents of records stand.
use Rattle.std.proofs.Common.{◌≡◌, ◌⊎◌, inl, inr, ℕ, zero, suc, ◌+◌, ◌-◌, ◌≤◌, List, [], ◌∷◌, ◌++◌, length, take, drop, Some, None, refl, sym, ◌∙◌, ap, subst, arith, append_assoc, length-append, length-take-le, take-append-drop}
use Rattle.std.specs.Prelude.{if◌then◌else◌}
use Rattle.std.specs.Int.{to_be_bytes, w64}
use Rattle.std.proofs.lemmas.List.{take_at, drop_at, take-append-le, drop-append-le}
use Rattle.fsl_disk.specs.Disk.{Begins}
use Rattle.fsl_disk.proofs.Pieces.{split}
use Rattle.fsl_record.specs.declared.Record.{Record}
use Rattle.fsl_record.specs.declared.Record.TheVariants as record_of
use Rattle.fsl_record.specs.Receipts.{receipt_bytes}
use Rattle.fsl_record.specs.Records.{record_bytes, records_bytes}
use Rattle.fsl_journal.specs.Places.{content_place, content_places, IsContent, HasContent, AreNumbered, StandsAt}

-- ---- bytes

-- a content between others
stands_between : (front content back : List ℕ) → StandsAt (length front) content (front ++ (content ++ back))
stands_between front content back = record {
  inside = omega (arith, length-append front (content ++ back), length-append content back);
  same = ap (λ (l : List ℕ). take (length content) l) (drop_at front (content ++ back) (length front) refl) ∙ take_at content back (length content) refl;
}

-- whatever stands behind
pub stands_on : (at : ℕ) (content bytes more : List ℕ) → StandsAt at content bytes → StandsAt at content (bytes ++ more)
stands_on at content bytes more there = record {
  inside = omega (arith, there.inside, length-append bytes more);
  same =
      ap (λ (l : List ℕ). take (length content) l) (drop-append-le at bytes more (omega (arith, there.inside)))
      ∙ take-append-le (length content) (drop at bytes) more (omega (arith, there.inside, length-drop-le at bytes (omega (arith, there.inside))))
      ∙ there.same;
}
  where
    length-drop-le : (n : ℕ) (l : List ℕ) → n ≤ length l → n + length (drop n l) ≡ length l
    length-drop-le n l fits = omega (arith, ap length (take-append-drop n l), length-append (take n l) (drop n l), length-take-le n l fits)

pub stands_begun : (at : ℕ) (content held c : List ℕ) → Begins held c → StandsAt at content held → StandsAt at content c
stands_begun at content held c begins there = subst (StandsAt at content) (sym (split held c begins)) (stands_on at content held (drop (length held) c) there)

-- in a front of the bytes
pub stands_front : (n at : ℕ) (content c : List ℕ) → StandsAt at content (take n c) → StandsAt at content c
stands_front n at content c there = subst (StandsAt at content) (take-append-drop n c) (stands_on at content (take n c) (drop n c) there)

-- ---- records

-- a Blob's bytes end with its content
record BlobSplit (r : Record) (content : List ℕ) : Type 0 where
  head : List ℕ
  layout : record_bytes r ≡ head ++ content

blob_split : (r : Record) (content : List ℕ) → IsContent r content → BlobSplit r content
blob_split (record_of.Config c) content is = absurd is
blob_split (record_of.Publish n) content is = absurd is
blob_split (record_of.Shun n) content is = absurd is
blob_split (record_of.Unshun n) content is = absurd is
blob_split (record_of.Blob p n None b) content is = record {
  head = 66 ∷ (if p then 1 else 0) ∷ (n ++ to_be_bytes w64 (length b));
  layout = ap (λ (l : List ℕ). 66 ∷ (if p then 1 else 0) ∷ ((n ++ to_be_bytes w64 (length b)) ++ l)) is;
}
blob_split (record_of.Blob p n (Some r) b) content is = record {
  head = 82 ∷ (if p then 1 else 0) ∷ ((n ++ receipt_bytes r) ++ to_be_bytes w64 (length b));
  layout = ap (λ (l : List ℕ). 82 ∷ (if p then 1 else 0) ∷ (((n ++ receipt_bytes r) ++ to_be_bytes w64 (length b)) ++ l)) is;
}

blob_place : (start : ℕ) (r : Record) (content : List ℕ) → IsContent r content → content_place start r ≡ start + (length (record_bytes r) - length content)
blob_place start (record_of.Config c) content is = absurd is
blob_place start (record_of.Publish n) content is = absurd is
blob_place start (record_of.Shun n) content is = absurd is
blob_place start (record_of.Unshun n) content is = absurd is
blob_place start (record_of.Blob p n receipt b) content is = ap (λ (l : List ℕ). start + (length (record_bytes (record_of.Blob p n receipt b)) - length l)) is

blob_fits : (r : Record) (content : List ℕ) → IsContent r content → length content ≤ length (record_bytes r)
blob_fits r content is = let parts = blob_split r content is in omega (arith, ap length parts.layout, length-append parts.head content)

record_stands : (front : List ℕ) (r : Record) (back content : List ℕ) (base at : ℕ) → content_place (base + length front) r ≡ at → IsContent r content → StandsAt (at - base) content (front ++ (record_bytes r ++ back))
record_stands front r back content base at place is =
    let parts = blob_split r content is in
    let at_is : length (front ++ parts.head) ≡ at - base =
    omega (arith, length-append front parts.head, ap length parts.layout, length-append parts.head content, blob_place (base + length front) r content is, place) in
    let layout : (front ++ parts.head) ++ (content ++ back) ≡ front ++ (record_bytes r ++ back) =
    append_assoc front parts.head (content ++ back) ∙ ap (λ (l : List ℕ). front ++ l) (sym (append_assoc parts.head content back) ∙ ap (λ (l : List ℕ). l ++ back) (sym parts.layout)) in
    subst (λ (n : ℕ). StandsAt n content (front ++ (record_bytes r ++ back))) at_is
    (subst (StandsAt (length (front ++ parts.head)) content) layout (stands_between (front ++ parts.head) content back))

-- contents of records that follow each other, in bytes that stand from a base on
pub contents_stand : (records : List Record) (front : List ℕ) (base start at : ℕ) (content : List ℕ) → start ≡ base + length front → HasContent records (content_places start records) at content
    → StandsAt (at - base) content (front ++ records_bytes records)
contents_stand [] front base start at content start_is has = absurd has
contents_stand (r ∷ records) front base start at content start_is (inl here) =
    record_stands front r (records_bytes records) content base at (ap (λ (n : ℕ). content_place n r) (sym start_is) ∙ here.0) here.1
contents_stand (r ∷ records) front base start at content start_is (inr more) =
    subst (StandsAt (at - base) content) (append_assoc front (record_bytes r) (records_bytes records))
    (contents_stand records (front ++ record_bytes r) base (start + length (record_bytes r)) at content (omega (arith, start_is, length-append front (record_bytes r))) more)

-- they end with the last byte
pub contents_within : (records : List Record) (start at : ℕ) (content : List ℕ) → HasContent records (content_places start records) at content → at + length content ≤ start + length (records_bytes records)
contents_within [] start at content has = absurd has
contents_within (r ∷ records) start at content (inl here) =
    omega (arith, here.0, blob_place start r content here.1, blob_fits r content here.1, length-append (record_bytes r) (records_bytes records))
contents_within (r ∷ records) start at content (inr more) =
    let within = contents_within records (start + length (record_bytes r)) at content more in
    omega (arith, within, length-append (record_bytes r) (records_bytes records))

-- they begin behind the first byte
pub contents_behind : (records : List Record) (start at : ℕ) (content : List ℕ) → HasContent records (content_places start records) at content → start ≤ at
contents_behind [] start at content has = absurd has
contents_behind (r ∷ records) start at content (inl here) = omega (arith, here.0, blob_place start r content here.1)
contents_behind (r ∷ records) start at content (inr more) = let behind = contents_behind records (start + length (record_bytes r)) at content more in omega (arith, behind)

-- ---- lists of places

pub length-places : (start : ℕ) (records : List Record) → length (content_places start records) ≡ length records
length-places start [] = refl
length-places start (r ∷ records) = ap suc (length-places (start + length (record_bytes r)) records)

pub places_append : (start : ℕ) (records more : List Record) → content_places start (records ++ more) ≡ content_places start records ++ content_places (start + length (records_bytes records)) more
places_append start [] more = ap (λ (n : ℕ). content_places n more) (omega arith)
places_append start (r ∷ records) more =
    ap (λ (l : List ℕ). content_place start r ∷ l)
    (places_append (start + length (record_bytes r)) records more
    ∙ ap (λ (n : ℕ). content_places (start + length (record_bytes r)) records ++ content_places n more) (omega (arith, length-append (record_bytes r) (records_bytes records))))

pub places_take : (n start : ℕ) (records : List Record) → take n (content_places start records) ≡ content_places start (take n records)
places_take zero start records = refl
places_take (suc n) start [] = refl
places_take (suc n) start (r ∷ records) = ap (λ (l : List ℕ). content_place start r ∷ l) (places_take n (start + length (record_bytes r)) records)

pub has_same : (a b : List Record) (p q : List ℕ) (at : ℕ) (content : List ℕ) → a ≡ b → p ≡ q → HasContent a p at content → HasContent b q at content
has_same a b p q at content records places has = subst (λ (rs : List Record). HasContent rs q at content) records (subst (λ (ps : List ℕ). HasContent a ps at content) places has)

pub numbered_length : (records : List Record) (places : List ℕ) → AreNumbered records places → length places ≡ length records
numbered_length [] [] are = refl
numbered_length [] (p ∷ places) are = absurd are
numbered_length (r ∷ records) [] are = absurd (none r are)
  where
    none : (r : Record) → AreNumbered (r ∷ records) [] → ⊥
    none (record_of.Config c) are = are
    none (record_of.Blob p n receipt b) are = are
    none (record_of.Publish n) are = are
    none (record_of.Shun n) are = are
    none (record_of.Unshun n) are = are
numbered_length (r ∷ records) (p ∷ places) are = ap suc (numbered_length records places (rest r are))
  where
    rest : (r : Record) → AreNumbered (r ∷ records) (p ∷ places) → AreNumbered records places
    rest (record_of.Config c) are = are.1
    rest (record_of.Blob q n receipt b) are = are
    rest (record_of.Publish n) are = are.1
    rest (record_of.Shun n) are = are.1
    rest (record_of.Unshun n) are = are.1

numbered_one : (r : Record) (start : ℕ) (records : List Record) (places : List ℕ) → AreNumbered records places → AreNumbered (r ∷ records) (content_place start r ∷ places)
numbered_one (record_of.Config c) start records places are = (refl, are)
numbered_one (record_of.Blob p n receipt b) start records places are = are
numbered_one (record_of.Publish n) start records places are = (refl, are)
numbered_one (record_of.Shun n) start records places are = (refl, are)
numbered_one (record_of.Unshun n) start records places are = (refl, are)

pub numbered_places : (start : ℕ) (records : List Record) → AreNumbered records (content_places start records)
numbered_places start [] = tt
numbered_places start (r ∷ records) = numbered_one r start records (content_places (start + length (record_bytes r)) records) (numbered_places (start + length (record_bytes r)) records)

pub numbered_append : (records more : List Record) (places others : List ℕ) → AreNumbered records places → AreNumbered more others → AreNumbered (records ++ more) (places ++ others)
numbered_append [] more [] others are also = also
numbered_append [] more (p ∷ places) others are also = absurd are
numbered_append (r ∷ records) more [] others are also = absurd (omega (arith, numbered_length (r ∷ records) [] are))
numbered_append (record_of.Config c ∷ records) more (p ∷ places) others are also = (are.0, numbered_append records more places others are.1 also)
numbered_append (record_of.Blob q n receipt b ∷ records) more (p ∷ places) others are also = numbered_append records more places others are also
numbered_append (record_of.Publish n ∷ records) more (p ∷ places) others are also = (are.0, numbered_append records more places others are.1 also)
numbered_append (record_of.Shun n ∷ records) more (p ∷ places) others are also = (are.0, numbered_append records more places others are.1 also)
numbered_append (record_of.Unshun n ∷ records) more (p ∷ places) others are also = (are.0, numbered_append records more places others are.1 also)

-- a content of a front is one of the whole
pub has_more : (records more : List Record) (places others : List ℕ) (at : ℕ) (content : List ℕ) → HasContent records places at content → HasContent (records ++ more) (places ++ others) at content
has_more [] more places others at content has = absurd has
has_more (r ∷ records) more [] others at content has = absurd has
has_more (r ∷ records) more (p ∷ places) others at content (inl here) = inl here
has_more (r ∷ records) more (p ∷ places) others at content (inr has) = inr (has_more records more places others at content has)

-- and so is one of what follows
pub has_behind : (records more : List Record) (places others : List ℕ) (at : ℕ) (content : List ℕ) → length places ≡ length records → HasContent more others at content → HasContent (records ++ more) (places ++ others) at content
has_behind [] more [] others at content long has = has
has_behind [] more (p ∷ places) others at content long has = absurd (omega (arith, long))
has_behind (r ∷ records) more [] others at content long has = absurd (omega (arith, long))
has_behind (r ∷ records) more (p ∷ places) others at content long has = inr (has_behind records more places others at content (omega (arith, long)) has)

-- the record just appended
pub has_last : (records : List Record) (places : List ℕ) (r : Record) (at : ℕ) (content : List ℕ) → length places ≡ length records → IsContent r content → HasContent (records ++ r ∷ []) (places ++ at ∷ []) at content
has_last records places r at content long is = has_behind records (r ∷ []) places (at ∷ []) at content long (inl (refl, is))

-- a content is one of a front, or of what follows
pub has_parts : (records more : List Record) (places others : List ℕ) (at : ℕ) (content : List ℕ) → length places ≡ length records → HasContent (records ++ more) (places ++ others) at content
    → HasContent records places at content ⊎ HasContent more others at content
has_parts [] more [] others at content long has = inr has
has_parts [] more (p ∷ places) others at content long has = absurd (omega (arith, long))
has_parts (r ∷ records) more [] others at content long has = absurd (omega (arith, long))
has_parts (r ∷ records) more (p ∷ places) others at content long (inl here) = inl (inl here)
has_parts (r ∷ records) more (p ∷ places) others at content long (inr has) =
    elim (has_parts records more places others at content (omega (arith, long)) has) [ inl front ↦ inl (inr front) | inr behind ↦ inr behind ]

pub has_split : (n : ℕ) (records : List Record) (places : List ℕ) (at : ℕ) (content : List ℕ) → length places ≡ length records → n ≤ length records → HasContent records places at content
    → HasContent (take n records) (take n places) at content ⊎ HasContent (drop n records) (drop n places) at content
has_split n records places at content long fits has =
    has_parts (take n records) (drop n records) (take n places) (drop n places) at content (length-take-le n places (omega (arith, long, fits)) ∙ sym (length-take-le n records fits))
    (subst (λ (rs : List Record). HasContent rs (take n places ++ drop n places) at content) (sym (take-append-drop n records))
    (subst (λ (ps : List ℕ). HasContent records ps at content) (sym (take-append-drop n places)) has))
