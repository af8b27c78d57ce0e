-- Lists of fields, one field more and each field in its place.
use Rattle.std.proofs.Common.{◌≡◌, ℕ, suc, ◌+◌, ◌<◌, ◌≤◌, Bool, true, false, List, [], ◌∷◌, ◌++◌, length, get_or, take, drop, refl, sym, ◌∙◌, ap, subst, arith}
use Rattle.std.specs.Prelude.{◌&&◌, not, nat_le}
use Rattle.std.specs.List.{list_all, list_any, AllByRecursion, IsDistinct}
use Rattle.std.specs.Str.{bytes_eq}
use Rattle.std.proofs.lemmas.Bool.{both_ways, and_parts, and_from, or_parts, or_from}
use Rattle.std.proofs.lemmas.Bool.Decides.{nat_tests}
use Rattle.std.proofs.Math.Seq.{split_at}
use Rattle.std.proofs.lemmas.List.{length_push, length-take, take_more}
use Rattle.std.proofs.lemmas.List.Folds.{list_all-append}
use Rattle.std.proofs.lemmas.Slice.Eq.{bytes_eq-Decides}
use Rattle.fsl_order.specs.Names.{has}
use Rattle.fsl_record.specs.Records.{is_letter, is_field_byte, is_field, AreFields}

-- ---- differing lists

differs_back : (xs ys : List ℕ) → bytes_eq xs ys ≡ false → bytes_eq ys xs ≡ false
differs_back xs ys differ = by (bytes_eq ys xs) refl
  where
    by : (t : Bool) → bytes_eq ys xs ≡ t → bytes_eq ys xs ≡ false
    by false is = is
    by true is = absurd (both_ways (bytes_eq xs ys) differ ((bytes_eq-Decides xs ys).1 (sym ((bytes_eq-Decides ys xs).0 is))))

all_push : (P : List ℕ → Type 0) (xs : List (List ℕ)) (x : List ℕ) → AllByRecursion P xs → P x → AllByRecursion P (xs ++ x ∷ [])
all_push P [] x all here = (here, tt)
all_push P (y ∷ xs) x all here = (all.0, all_push P xs x all.1 here)

all_at : (P : List ℕ → Type 0) (xs ys : List (List ℕ)) (x : List ℕ) → AllByRecursion P (xs ++ x ∷ ys) → P x
all_at P [] ys x all = all.0
all_at P (y ∷ xs) ys x all = all_at P xs ys x all.1

distinct_push : (xs : List (List ℕ)) (x : List ℕ) → IsDistinct bytes_eq xs → list_any (bytes_eq x) xs ≡ false → IsDistinct bytes_eq (xs ++ x ∷ [])
unfolding IsDistinct
distinct_push [] x distinct none = (tt, tt)
distinct_push (y ∷ xs) x distinct none =
    let apart = or_parts (bytes_eq x y) (list_any (bytes_eq x) xs) none in
    (all_push (λ z. bytes_eq y z ≡ false) xs x distinct.0 (differs_back x y apart.0), distinct_push xs x distinct.1 apart.1)

distinct_at : (xs ys : List (List ℕ)) (x : List ℕ) → IsDistinct bytes_eq (xs ++ x ∷ ys) → list_any (bytes_eq x) xs ≡ false
unfolding IsDistinct
distinct_at [] ys x distinct = refl
distinct_at (y ∷ xs) ys x distinct =
    or_from (bytes_eq x y) (list_any (bytes_eq x) xs) (differs_back y x (all_at (λ z. bytes_eq y z ≡ false) xs ys x distinct.0)) (distinct_at xs ys x distinct.1)

distinct_none : IsDistinct bytes_eq []
unfolding IsDistinct
distinct_none = tt

-- ---- fields

pub fields_none : AreFields []
fields_none = record { few = omega arith; formed = refl; differ = distinct_none }

pub fields_push : (good : List (List ℕ)) (field : List ℕ) → AreFields good → length good < 256 → is_field field ≡ true → has good field ≡ false → AreFields (good ++ field ∷ [])
fields_push good field fit room formed fresh = record {
  few = omega (arith, length_push good field);
  formed = list_all-append is_field good (field ∷ []) ∙ and_from (list_all is_field good) (is_field field && true) fit.formed (and_from (is_field field) true formed refl);
  differ = distinct_push good field fit.differ fresh;
}

-- a field among others is one, and none before it is the same
pub record IsGoodField (good : List (List ℕ)) (field : List ℕ) : Type 0 where
  pub formed : is_field field ≡ true
  pub fresh : has good field ≡ false

pub fields_at : (good more : List (List ℕ)) (field : List ℕ) → AreFields (good ++ field ∷ more) → IsGoodField good field
fields_at good more field fit = record {
  formed = (and_parts (is_field field) (list_all is_field more) (and_parts (list_all is_field good) (list_all is_field (field ∷ more)) (sym (list_all-append is_field good (field ∷ more)) ∙ fit.formed)).1).0;
  fresh = distinct_at good more field fit.differ;
}

-- a field has at most 64 bytes
pub field_short : (field : List ℕ) → is_field field ≡ true → length field ≤ 64
field_short [] is = omega arith
field_short (b ∷ bs) is =
    let short : nat_le (length bs) 63 ≡ true = (and_parts (is_letter b && list_all is_field_byte bs) (nat_le (length bs) 63) is).1 in
    grind (arith, nat_tests)

new_parts : (a b : Bool) → (a && not b) ≡ true → (a ≡ true) × (b ≡ false)
new_parts true true both = absurd cc
new_parts true false both = (refl, refl)
new_parts false b both = absurd cc

old_parts : (a b : Bool) → (a && not b) ≡ false → (a ≡ true) → (b ≡ false) → ⊥
old_parts a b neither is_a not_b = both_ways (a && not b) neither (and_from a (not b) is_a (ap (λ (t : Bool). not t) not_b))

pub fields_push_new : (good : List (List ℕ)) (field : List ℕ) → AreFields good → length good < 256 → (is_field field && not (has good field)) ≡ true → AreFields (good ++ field ∷ [])
fields_push_new good field fit room new = let parts = new_parts (is_field field) (has good field) new in fields_push good field fit room parts.0 parts.1

pub fields_not : (fields : List (List ℕ)) (place : ℕ) (field : List ℕ) → place < length fields → field ≡ get_or fields place field → (is_field field && not (has (take place fields) field)) ≡ false → AreFields fields → ⊥
fields_not fields place field within is old fit =
    let split : fields ≡ take place fields ++ field ∷ drop (suc place) fields =
    split_at fields place field within ∙ ap (λ (x : List ℕ). take place fields ++ x ∷ drop (suc place) fields) (sym is) in
    let good = fields_at (take place fields) (drop (suc place) fields) field (subst (λ (l : List (List ℕ)). AreFields l) split fit) in
    old_parts (is_field field) (has (take place fields) field) old good.formed good.fresh

pub fields_more : (fields : List (List ℕ)) (place : ℕ) (field : List ℕ) → place < length fields → length fields ≤ 256 → field ≡ get_or fields place field → (is_field field && not (has (take place fields) field)) ≡ true → AreFields (take place fields) → AreFields (take (place + 1) fields)
fields_more fields place field within few is new fit =
    let front : length (take place fields) < 256 = omega (arith, length-take place fields) in
    subst (λ (l : List (List ℕ)). AreFields l) (ap (λ (x : List ℕ). take place fields ++ x ∷ []) is ∙ sym (take_more fields place field within)) (fields_push_new (take place fields) field fit front new)
