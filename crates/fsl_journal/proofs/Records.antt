-- The records of a repository, in parts.
use Rattle.std.proofs.Common.{◌≡◌, ◌≢◌, ◌⊎◌, inl, inr, ℕ, suc, ◌<◌, ◌==◌, List, [], ◌∷◌, ◌++◌, length, Bool, true, false, not, ◌&&◌, sym, ◌∙◌, arith, IsTrue}
use Rattle.std.specs.List.{AllByRecursion, list_all}
use Rattle.std.proofs.lemmas.Bool.Decides.{nat_tests}
use Rattle.std.proofs.lemmas.List.Folds.{list_all-append}
use Rattle.fsl_record.specs.declared.Record.{Record}
use Rattle.fsl_record.specs.Records.{is_config, records_bytes, IsFit, IsOfVersion, AreRecords}
use Rattle.fsl_journal.specs.File.{AreRecordsOf}
use Rattle.fsl_record.specs.Groups.{IsGroupOf}

module _ {X : Type 0} (P : X → Type 0) where
  pub all_append : (xs ys : List X) → AllByRecursion P xs → AllByRecursion P ys → AllByRecursion P (xs ++ ys)
  all_append [] ys _ more = more
  all_append (x ∷ xs) ys all more = (all.0, all_append xs ys all.1 more)

  pub all_left : (xs ys : List X) → AllByRecursion P (xs ++ ys) → AllByRecursion P xs
  all_left [] ys _ = tt
  all_left (x ∷ xs) ys all = (all.0, all_left xs ys all.1)

  pub all_right : (xs ys : List X) → AllByRecursion P (xs ++ ys) → AllByRecursion P ys
  all_right [] ys all = all
  all_right (x ∷ xs) ys all = all_right xs ys all.1

-- whether it is a record that may follow another
abbrev pub may_follow : Record → Bool
may_follow r = not (is_config r)

and_left : (a b : Bool) → IsTrue (a && b) → IsTrue a
and_left true b _ = λ i. true
and_left false b is = is

and_right : (a b : Bool) → IsTrue (a && b) → IsTrue b
and_right true b is = is
and_right false b is = absurd (cc)

follow_left : (rs more : List Record) → IsTrue (list_all may_follow (rs ++ more)) → IsTrue (list_all may_follow rs)
follow_left rs more is = and_left (list_all may_follow rs) (list_all may_follow more) (sym (list_all-append may_follow rs more) ∙ is)

follow_right : (rs more : List Record) → IsTrue (list_all may_follow (rs ++ more)) → IsTrue (list_all may_follow more)
follow_right rs more is = and_right (list_all may_follow rs) (list_all may_follow more) (sym (list_all-append may_follow rs more) ∙ is)

pub all_fit : (rs : List Record) → AreRecords rs → AllByRecursion IsFit rs
all_fit [] none = absurd none
all_fit (r ∷ rs) are = are.2

pub are_more : (rs more : List Record) → AreRecords rs → IsTrue (list_all may_follow more) → AllByRecursion IsFit more → AreRecords (rs ++ more)
are_more [] more none _ _ = absurd none
are_more (r ∷ rs) more are others fit = (
  are.0,
  list_all-append may_follow rs more ∙ (λ i. are.1 i && others i),
  all_append IsFit (r ∷ rs) more are.2 fit,
)

pub are_left : (rs more : List Record) → rs ≢ [] → AreRecords (rs ++ more) → AreRecords rs
are_left [] more some _ = absurd (some (λ i. []))
are_left (r ∷ rs) more _ are = (are.0, follow_left rs more are.1, all_left IsFit (r ∷ rs) more are.2)

pub are_some : (rs : List Record) → AreRecords rs → 0 < length rs
are_some [] none = absurd none
are_some (r ∷ rs) _ = omega arith

not_zero : (n : ℕ) → (suc n == 0) ≡ false
not_zero n = grind (arith, nat_tests)

are_behind : (v : ℕ) (records group : List Record) (bytes : List ℕ) (first : Bool) → first ≡ (length records == 0) → (records ≡ []) ⊎ AreRecords records → IsGroupOf v first bytes group → AreRecords (records ++ group)
are_behind v [] [] bytes first is before read = absurd (read.some (λ i. []))
are_behind v [] (g ∷ group) bytes first is before read = (read.stand.0 ∙ is, read.stand.1, read.fit)
are_behind v (r ∷ rs) [] bytes first is before read = absurd (read.some (λ i. []))
are_behind v (r ∷ rs) (g ∷ group) bytes first is before read = elim before [
  | inl none ↦ absurd (cc)
  | inr are ↦
      let other : is_config g ≡ false = read.stand.0 ∙ is ∙ not_zero (length rs) in
      are_more (r ∷ rs) (g ∷ group) are (λ i. not (other i) && read.stand.1 i) read.fit
]

-- no records, or those of a repository, in a file of this version
abbrev pub AreReadSoFar : ℕ → List Record → Type 0
AreReadSoFar v records = (records ≡ []) ⊎ AreRecordsOf v records

so_far_known : (v : ℕ) (records : List Record) → AreReadSoFar v records → AllByRecursion (IsOfVersion v) records
so_far_known v [] before = tt
so_far_known v (r ∷ rs) (inl none) = absurd (cc)
so_far_known v (r ∷ rs) (inr are) = are.1

so_far_are : (v : ℕ) (records : List Record) → AreReadSoFar v records → (records ≡ []) ⊎ AreRecords records
so_far_are v records (inl none) = inl none
so_far_are v records (inr are) = inr are.0

-- a group that was read goes on with the records before it
pub are_with : (v : ℕ) (records group : List Record) (bytes : List ℕ) (first : Bool) → first ≡ (length records == 0) → AreReadSoFar v records → IsGroupOf v first bytes group → AreRecordsOf v (records ++ group)
are_with v records group bytes first is before read = (
  are_behind v records group bytes first is (so_far_are v records before) read,
  all_append (IsOfVersion v) records group (so_far_known v records before) read.known,
)

-- and records that go on with those before them are a group
pub is_group_of : (v : ℕ) (records group : List Record) (bytes : List ℕ) (first : Bool) → first ≡ (length records == 0) → group ≢ [] → bytes ≡ records_bytes group → AreRecordsOf v (records ++ group) → IsGroupOf v first bytes group
is_group_of v records [] bytes first is some layout are = absurd (some (λ i. []))
is_group_of v [] (g ∷ group) bytes first is some layout are = record { some = some; layout = layout; stand = (are.0.0 ∙ sym is, are.0.1); fit = are.0.2; known = are.1 }
is_group_of v (r ∷ rs) (g ∷ group) bytes first is some layout are =
    let others = follow_right rs (g ∷ group) are.0.1 in
    record {
      some = some;
      layout = layout;
      stand = (other (is_config g) (and_left (may_follow g) (list_all may_follow group) others) ∙ sym (not_zero (length rs)) ∙ sym is, and_right (may_follow g) (list_all may_follow group) others);
      fit = all_right IsFit (r ∷ rs) (g ∷ group) are.0.2;
      known = all_right (IsOfVersion v) (r ∷ rs) (g ∷ group) are.1;
    }
  where
    other : (b : Bool) → IsTrue (not b) → b ≡ false
    other true is_not = absurd (cc)
    other false is_not = λ i. false

pub of_left : (v : ℕ) (rs more : List Record) → rs ≢ [] → AreRecordsOf v (rs ++ more) → AreRecordsOf v rs
of_left v rs more some are = (are_left rs more some are.0, all_left (IsOfVersion v) rs more are.1)
