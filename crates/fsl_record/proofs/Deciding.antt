-- What can be decided of bytes and of records.
use Rattle.std.proofs.Common.{◌≡◌, ◌⊎◌, inl, inr, Option, None, Some, ℕ, suc, ◌≤◌, ◌^◌, Bool, true, false, List, [], ◌∷◌, length, IsTrue, refl, ap, arith}
use Rattle.std.specs.Prelude.{nat_lt}
use Rattle.std.specs.List.{AllByRecursion, IsDistinct, list_all}
use Rattle.std.specs.Str.{bytes_eq}
use Rattle.std.specs.Cmp.Lexicographic.{bytes_decides}
use Rattle.std.proofs.lemmas.Bool.{ltb-false}
use Rattle.fsl_name.specs.Name.{name_of}
use Rattle.fsl_record.specs.declared.Record.{Record}
use Rattle.fsl_record.specs.declared.Record.TheVariants as record_of
use Rattle.fsl_record.specs.Records.{is_field, IsFit, IsOfVersion, AreFields}
use Rattle.fsl_record.specs.Receipts.{Brought, IsReceiptOr}

-- it holds, or it doesn't
abbrev pub Decided : Type 0 → Type 0
Decided P = P ⊎ (P → ⊥)

-- the first of two decides, or the second where the first holds
pub decide_by : {A B : Type 0} → Decided A → (A → Decided B) → ((A → ⊥) → B → ⊥) → Decided B
decide_by (inl a) more none = more a
decide_by (inr n) more none = inr (none n)

decide_true : (b : Bool) → Decided (IsTrue b)
decide_true true = inl refl
decide_true false = inr no
  where
    no : false ≡ true → ⊥
    no e = cc

pub decide_text : (a b : List ℕ) → Decided (a ≡ b)
decide_text a b = decide_by (decide_true (bytes_eq a b)) (λ e. inl ((bytes_decides a b).0 e)) (λ n e. n ((bytes_decides a b).1 e))

pub decide_nat : (a b : ℕ) → Decided (a ≡ b)
decide_nat a b = decide_by (decide_text (a ∷ []) (b ∷ [])) (λ e. inl (inside e)) (λ n e. n (ap (λ (x : ℕ). x ∷ []) e))
  where
    inside : a ∷ [] ≡ b ∷ [] → a ≡ b
    inside e = cc

pub decide_bool : (a b : Bool) → Decided (a ≡ b)
decide_bool true true = inl refl
decide_bool false false = inl refl
decide_bool true false = inr no
  where
    no : true ≡ false → ⊥
    no e = cc
decide_bool false true = inr no
  where
    no : false ≡ true → ⊥
    no e = cc

decide_both : {A B : Type 0} → Decided A → Decided B → Decided (A × B)
decide_both (inl a) (inl b) = inl (a, b)
decide_both (inl a) (inr n) = inr (λ h. n h.1)
decide_both (inr n) b = inr (λ h. n h.0)

pub decide_three : {A B C : Type 0} → Decided A → Decided B → Decided C → Decided (A × B × C)
decide_three (inl a) (inl b) (inl c) = inl (a, b, c)
decide_three (inl a) (inl b) (inr n) = inr (λ h. n h.2)
decide_three (inl a) (inr n) c = inr (λ h. n h.1)
decide_three (inr n) b c = inr (λ h. n h.0)

pub decide_four : {A B C D : Type 0} → Decided A → Decided B → Decided C → Decided D → Decided (A × B × C × D)
decide_four (inl a) (inl b) (inl c) (inl d) = inl (a, b, c, d)
decide_four (inl a) (inl b) (inl c) (inr n) = inr (λ h. n h.3)
decide_four (inl a) (inl b) (inr n) d = inr (λ h. n h.2)
decide_four (inl a) (inr n) c d = inr (λ h. n h.1)
decide_four (inr n) b c d = inr (λ h. n h.0)

pub decide_le : (a b : ℕ) → Decided (a ≤ b)
decide_le a b = by (nat_lt b a) refl
  where
    by : (t : Bool) → nat_lt b a ≡ t → Decided (a ≤ b)
    by false e = inl (ltb-false b a e)
    by true e = inr (λ h. grind (arith, e, h))

decide_all : {X : Type 0} (P : X → Type 0) → ((x : X) → Decided (P x)) → (xs : List X) → Decided (AllByRecursion P xs)
decide_all P each [] = inl tt
decide_all P each (x ∷ xs) = decide_both (each x) (decide_all P each xs)

decide_distinct : (xs : List (List ℕ)) → Decided (IsDistinct bytes_eq xs)
unfolding IsDistinct
decide_distinct [] = inl tt
decide_distinct (x ∷ xs) = decide_both (decide_all (λ z. bytes_eq x z ≡ false) (λ z. decide_bool (bytes_eq x z) false) xs) (decide_distinct xs)

decide_fields : (fields : List (List ℕ)) → Decided (AreFields fields)
decide_fields fields =
    decide_by (decide_le (length fields) 256) (λ few.
    decide_by (decide_true (list_all is_field fields)) (λ formed.
    decide_by (decide_distinct fields) (λ differ. inl (record { few = few; formed = formed; differ = differ }))
    (λ n h. n h.differ)) (λ n h. n h.formed)) (λ n h. n h.few)

decide_receipt : (receipt : Option Brought) → Decided (IsReceiptOr receipt)
decide_receipt None = inl tt
decide_receipt (Some r) = decide_both (decide_le (length r.login) (2 ^ 20)) (decide_le (suc r.moment) 315569520000000)

-- whether a record is fit
pub decide_fit : (r : Record) → Decided (IsFit r)
decide_fit (record_of.Config c) = decide_three (decide_both (decide_nat (length c.project) 20) (decide_nat (length c.server) 20)) (decide_fields c.fields) (inl tt)
decide_fit (record_of.Blob private name receipt bytes) = decide_three (decide_nat (length name) 20) (decide_both (decide_text name (name_of bytes)) (decide_le (length bytes) (2 ^ 24))) (decide_receipt receipt)
decide_fit (record_of.Publish name) = decide_three (decide_nat (length name) 20) (inl tt) (inl tt)
decide_fit (record_of.Shun name) = decide_three (decide_nat (length name) 20) (inl tt) (inl tt)
decide_fit (record_of.Unshun name) = decide_three (decide_nat (length name) 20) (inl tt) (inl tt)

-- and whether it is of a version
pub decide_version : (v : ℕ) (r : Record) → Decided (IsOfVersion v r)
decide_version v (record_of.Config c) = inl tt
decide_version v (record_of.Blob private name None bytes) = inl tt
decide_version v (record_of.Blob private name (Some r) bytes) = decide_nat v 2
decide_version v (record_of.Publish name) = inl tt
decide_version v (record_of.Shun name) = inl tt
decide_version v (record_of.Unshun name) = decide_nat v 2
