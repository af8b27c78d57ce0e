-- What one record more does to the places, and to what the records leave.
use Rattle.std.proofs.Common.{◌≡◌, ℕ, ◌+◌, ◌-◌, ◌<◌, ◌≤◌, Bool, true, false, cond, List, [], ◌∷◌, ◌++◌, length, take, Option, Some, zero, suc, refl, sym, ap, ◌∙◌, arith}
use Rattle.std.specs.Prelude.{◌&&◌, if◌then◌else◌, slice_get, filter}
use Rattle.std.specs.List.{range_with_len}
use Rattle.std.specs.Option.{option_map_or}
use Rattle.std.specs.declared.cmp.Ordering.TheVariants.{Less}
use Rattle.std.specs.Ordering.{is_lt, nat_cmp}
use Rattle.std.specs.Cmp.{nat_cmp_is, nat_cmp_total}
use Rattle.std.proofs.Math.ListN.{get_or-append}
use Rattle.std.proofs.Math.Seq.{get_or-append_seam, take-append_seam}
use Rattle.std.proofs.lemmas.List.{take-append-le, length-append}
use Rattle.std.proofs.lemmas.List.Elements.{filter-append}
use Rattle.std.proofs.lemmas.List.Sums.{fold-append}
use Rattle.std.proofs.lemmas.Option.{slice_get-get_or}
use Rattle.fsl_order.specs.Rows.{greater, greatest}
use Rattle.fsl_order.proofs.GreatestLemmas.{greater-assoc, greater-none, greatest-append}
use Rattle.fsl_record.specs.declared.Record.{Record}
use Rattle.fsl_blobs.specs.Fold.{contents, nothing, after, is_new, is_blob_of, adds, place}

pub contents_push : (records : List Record) (r : Record) → contents (records ++ r ∷ []) ≡ after (contents records) r
contents_push records r = fold-append after nothing records (r ∷ [])

-- ---- numbers in a row

range_more : (a n : ℕ) → range_with_len a (suc n) ≡ range_with_len a n ++ (a + n) ∷ []
range_more a zero = let e : a ≡ a + 0 = omega arith in ap (λ (k : ℕ). k ∷ []) e
range_more a (suc n) =
    let e : a + 1 + n ≡ a + suc n = omega arith in
    ap (λ (ns : List ℕ). a ∷ ns) (range_more (a + 1) n ∙ ap (λ (k : ℕ). range_with_len (a + 1) n ++ k ∷ []) e)

filter_alike : (p q : ℕ → Bool) (a n : ℕ) → ((k : ℕ) → a ≤ k → k < a + n → p k ≡ q k) → filter p (range_with_len a n) ≡ filter q (range_with_len a n)
filter_alike p q a zero same = refl
filter_alike p q a (suc n) same =
    let rest : filter p (range_with_len (a + 1) n) ≡ filter q (range_with_len (a + 1) n) = filter_alike p q (a + 1) n (λ k low high. same k (omega arith) (omega arith)) in
    let first : p a ≡ q a = same a (omega arith) (omega arith) in
    λ i. cond (first i) (a ∷ rest i) (rest i)

is_below : (x y : ℕ) → x < y → is_lt (nat_cmp x y) ≡ true
is_below x y h = ap is_lt (sym (nat_cmp_is x y Less h))

-- a number past a row is the greatest
past : (p : ℕ → Bool) (a n y : ℕ) → a + n ≤ y → greater nat_cmp (greatest nat_cmp (filter p (range_with_len a n))) (Some y) ≡ Some y
past p a zero y h = refl
past p a (suc n) y h =
    let rest : greater nat_cmp (greatest nat_cmp (filter p (range_with_len (a + 1) n))) (Some y) ≡ Some y = past p (a + 1) n y (omega arith) in
    let low : a < y = omega arith in
    elim (p a) as (λ b. greater nat_cmp (greatest nat_cmp (cond b (a ∷ filter p (range_with_len (a + 1) n)) (filter p (range_with_len (a + 1) n)))) (Some y) ≡ Some y) [
      | true ↦
          sym (greater-assoc nat_cmp nat_cmp_total (Some a) (greatest nat_cmp (filter p (range_with_len (a + 1) n))) (Some y))
          ∙ ap (greater nat_cmp (Some a)) rest ∙ ap (λ (b : Bool). Some (if b then y else a)) (is_below a y low)
      | false ↦ rest
    ]

-- ---- the places

get_before : (records : List Record) (r : Record) (i : ℕ) → i < length records → slice_get (records ++ r ∷ []) i ≡ slice_get records i
get_before records r i lt =
    let longer : i < length (records ++ r ∷ []) = omega (arith, length-append records (r ∷ [])) in
    slice_get-get_or (records ++ r ∷ []) i r longer ∙ ap Some (get_or-append records (r ∷ []) r i lt) ∙ sym (slice_get-get_or records i r lt)

pub get_last : {X : Type 0} (records : List X) (r : X) → slice_get (records ++ r ∷ []) (length records) ≡ Some r
get_last records r =
    let longer : length records < length (records ++ r ∷ []) = omega (arith, length-append records (r ∷ [])) in
    slice_get-get_or (records ++ r ∷ []) (length records) r longer ∙ ap Some (get_or-append_seam records r [] r)

abbrev adds_at : List ℕ → Option Record → List Record → Bool
adds_at name r front = option_map_or (is_blob_of name) r false && is_new (contents front) name

adds_before : (records : List Record) (r : Record) (name : List ℕ) (n : ℕ) → 1 ≤ n → n < 1 + length records → adds (records ++ r ∷ []) name n ≡ adds records name n
adds_before records r name n low high =
    let lt : n - 1 < length records = omega arith in
    let le : n - 1 ≤ length records = omega arith in
    let at = get_before records r (n - 1) lt in
    let front = take-append-le (n - 1) records (r ∷ []) le in
    λ i. adds_at name (at i) (front i)

adds_last : (records : List Record) (r : Record) (name : List ℕ) → adds (records ++ r ∷ []) name (1 + length records) ≡ (is_blob_of name r && is_new (contents records) name)
adds_last records r name =
    let e : (1 + length records) - 1 ≡ length records = omega arith in
    let at = ap (slice_get (records ++ r ∷ [])) e ∙ get_last records r in
    let front = ap (λ (k : ℕ). take k (records ++ r ∷ [])) e ∙ take-append_seam records (r ∷ []) in
    λ i. adds_at name (at i) (front i)

-- the place of a name after one record more
pub place_push : (records : List Record) (r : Record) (name : List ℕ) →
    place (records ++ r ∷ []) name ≡ cond (is_blob_of name r && is_new (contents records) name) (Some (length records + 1)) (place records name)
place_push records r name =
    let all = records ++ r ∷ [] in
    let n = length records in
    let count : length (records ++ r ∷ []) ≡ suc n = omega (arith, length-append records (r ∷ [])) in
    let row = range_with_len 1 n in
    let same : filter (adds (records ++ r ∷ []) name) (range_with_len 1 n) ≡ filter (adds records name) (range_with_len 1 n) =
    filter_alike (adds (records ++ r ∷ []) name) (adds records name) 1 n (λ k low high. adds_before records r name k low high) in
    let last = adds_last records r name in
    let number : 1 + n ≡ n + 1 = omega arith in
    ap (λ (k : ℕ). greatest nat_cmp (filter (adds (records ++ r ∷ []) name) (range_with_len 1 k))) count
    ∙ ap (λ (ns : List ℕ). greatest nat_cmp (filter (adds (records ++ r ∷ []) name) ns)) (range_more 1 n)
    ∙ ap (greatest nat_cmp) (filter-append (adds (records ++ r ∷ []) name) (range_with_len 1 n) ((1 + n) ∷ []))
    ∙ greatest-append nat_cmp nat_cmp_total (filter (adds (records ++ r ∷ []) name) (range_with_len 1 n)) (filter (adds (records ++ r ∷ []) name) ((1 + n) ∷ []))
    ∙ (λ i. greater nat_cmp (greatest nat_cmp (same i)) (greatest nat_cmp (cond (last i) ((1 + n) ∷ []) [])))
    ∙ elim (is_blob_of name r && is_new (contents records) name) as (λ b. greater nat_cmp (place records name) (greatest nat_cmp (cond b ((1 + n) ∷ []) [])) ≡ cond b (Some (n + 1)) (place records name)) [
      | true ↦ past (adds records name) 1 n (1 + n) (omega arith) ∙ ap Some number
      | false ↦ greater-none nat_cmp nat_cmp_total (place records name)
    ]
