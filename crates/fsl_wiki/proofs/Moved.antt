-- The current technote doesn't depend on the order of the facts.
use Rattle.std.specs.Prelude.{◌≡◌, ℕ, List, [], ◌∷◌, Bool, true, false, cond, Option, Some, None, map, filter, filter_map, Contains, IsPermutation}
use Rattle.std.proofs.Common.{refl, sym, ap, ◌∙◌, subst, arith}
use Rattle.std.specs.declared.cmp.Ordering.TheVariants.{Equal}
use Rattle.std.specs.Cmp.{on_total}
use Rattle.std.specs.Ordering.{on}
use Rattle.std.specs.List.{cons_option}
use Rattle.std.specs.Map.{lookup, keys_of}
use Rattle.std.specs.Str.{bytes_eq}
use Rattle.std.specs.Cmp.Lexicographic.{nat_list_eq_equiv}
use Rattle.std.proofs.lemmas.List.{length-map, get_or-map}
use Rattle.std.proofs.lemmas.List.Sorted.{Contains-permutation, IsPermutation-sym}
use Rattle.std.proofs.lemmas.Map.Views.{lookup-from_Contains}
use Rattle.fsl_order.specs.Names.{dated_cmp}
use Rattle.fsl_order.specs.Rows.{by_name, greatest, AreDistinct}
use Rattle.fsl_order.proofs.Orders.{dated_cmp-IsTotalOrder, dated_cmp-IsAntisymmetric}
use Rattle.fsl_order.proofs.RowLemmas.{pairs}
use Rattle.fsl_order.proofs.GreatestLemmas.{greatest-alike}
use Rattle.fsl_order.proofs.Gathered.{distinct-given, moved-given}
use Rattle.fsl_wiki.specs.declared.Fact.{Fact}
use Rattle.fsl_wiki.specs.declared.Fact.TheVariants as fact
use Rattle.fsl_wiki.specs.declared.Note.{Note}
use Rattle.fsl_wiki.specs.declared.Attached.{Attached}
use Rattle.fsl_wiki.specs.Pages.{fact_name, as_note, as_attached, current_note}

-- ---- items with dates and distinct names

module _ {Y : Type 0} (date : Y → ℕ) (name : Y → List ℕ) where
  abbrev place : Y → ℕ × List ℕ
  place y = (date y, name y)

  names-pairs : (ys : List Y) → keys_of (pairs name ys) ≡ map name ys
  names-pairs [] = refl
  names-pairs (y ∷ ys) = ap (λ names. name y ∷ names) (names-pairs ys)

  found : (ys : List Y) (y : Y) → AreDistinct (map name ys) → Contains ys y → lookup (bytes_eq (name y)) (pairs name ys) ≡ Some y
  found ys y d c =
      lookup-from_Contains nat_list_eq_equiv (name y) y (pairs name ys) (subst AreDistinct (sym (names-pairs ys)) d)
      (c.0, omega (arith, c.1, length-map {B = List ℕ × Y} ys (λ y. (name y, y))), get_or-map {Y = List ℕ × Y} (λ y. (name y, y)) ys c.0 y (name y, y) c.1 ∙ ap {B = List ℕ × Y} (λ y. (name y, y)) c.2)

  -- of two items with one name each is the other
  same_item : (ys : List Y) (y z : Y) → AreDistinct (map name ys) → Contains ys y → Contains ys z → name y ≡ name z → y ≡ z
  same_item ys y z d cy cz e = inside (sym (found ys y d cy) ∙ ap (λ n. lookup (bytes_eq n) (pairs name ys)) e ∙ found ys z d cz)
    where
      inside : Some y ≡ Some z → y ≡ z
      inside h = cc

  ties : (ys : List Y) (y z : Y) → AreDistinct (map name ys) → Contains ys y → Contains ys z → dated_cmp (place y) (place z) ≡ Equal → y ≡ z
  ties ys y z d cy cz e = same_item ys y z d cy cz (ap (λ p. p.1) (dated_cmp-IsAntisymmetric (place y) (place z) e))

  module _ (ys zs : List Y) (d : AreDistinct (map name ys)) (moved : IsPermutation ys zs) where
    greatest-moved : greatest (on place dated_cmp) ys ≡ greatest (on place dated_cmp) zs
    greatest-moved =
        greatest-alike (on place dated_cmp) (on_total place dated_cmp-IsTotalOrder) ys zs (λ y z cy cz e. ties ys y z d cy cz e)
        (λ y c. Contains-permutation ys zs y moved c) (λ y c. Contains-permutation zs ys y (IsPermutation-sym ys zs moved) c)

-- ---- the items of one kind that pass a test

module _ {Y : Type 0} (kind : Fact → Option Y) (test : Y → Bool) where
  abbrev only : Option Y → Option Y
  only None = None
  only (Some y) = cond (test y) (Some y) None

  filter-is : (facts : List Fact) → filter test (filter_map kind facts) ≡ filter_map (λ f. only (kind f)) facts
  filter-is [] = refl
  filter-is (f ∷ facts) =
      elim (kind f) as (λ p. filter test (cons_option p (filter_map kind facts)) ≡ cons_option (only p) (filter_map (λ f. only (kind f)) facts)) [
        | None ↦ filter-is facts
        | Some y ↦ elim (test y) as (λ b. cond b (y ∷ filter test (filter_map kind facts)) (filter test (filter_map kind facts)) ≡ cons_option (cond b (Some y) None) (filter_map (λ f. only (kind f)) facts)) [
          | true ↦ ap (λ l. y ∷ l) (filter-is facts)
          | false ↦ filter-is facts
        ]
      ]

  module _ (date : Y → ℕ) (name : Y → List ℕ) (same : (f : Fact) (y : Y) → kind f ≡ Some y → name y ≡ fact_name f) (facts : List Fact) (d : AreDistinct (map fact_name facts)) where
    same-only : (f : Fact) (y : Y) → only (kind f) ≡ Some y → name y ≡ fact_name f
    same-only f y e =
        same f y (elim (kind f) as (λ p. only p ≡ Some y → p ≡ Some y) [
          | None ↦ λ h. h
          | Some z ↦ elim (test z) as (λ b. cond b (Some z) None ≡ Some y → Some z ≡ Some y) [ true ↦ λ h. h | false ↦ λ h. cc ]
        ] e)

    abbrev items : List Fact → List Y
    items facts = filter test (filter_map kind facts)

    distinct-items : AreDistinct (map name (items facts))
    distinct-items = subst (λ l. AreDistinct (map name l)) (sym (filter-is facts)) (distinct-given (λ f. only (kind f)) fact_name name same-only facts d)

    moved-items : IsPermutation (items facts) (items (by_name fact_name facts))
    moved-items =
        subst (λ l. IsPermutation l (items (by_name fact_name facts))) (sym (filter-is facts))
        (subst (IsPermutation (filter_map (λ f. only (kind f)) facts)) (sym (filter-is (by_name fact_name facts))) (moved-given (λ f. only (kind f)) fact_name name same-only facts d))

    greatest-items : greatest (on (λ y. (date y, name y)) dated_cmp) (items facts) ≡ greatest (on (λ y. (date y, name y)) dated_cmp) (items (by_name fact_name facts))
    greatest-items = greatest-moved date name (items facts) (items (by_name fact_name facts)) distinct-items moved-items

-- ---- technotes and attachments

pub note_name : (f : Fact) (n : Note) → as_note f ≡ Some n → n.name ≡ fact_name f
note_name (fact.Page p) n e = cc
note_name (fact.Note m) n e = let same : m ≡ n = cc in ap (λ n. n.name) (sym same)
note_name (fact.Attached a) n e = cc

pub attached_name : (f : Fact) (a : Attached) → as_attached f ≡ Some a → a.name ≡ fact_name f
attached_name (fact.Page p) a e = cc
attached_name (fact.Note n) a e = cc
attached_name (fact.Attached b) a e = let same : b ≡ a = cc in ap (λ a. a.name) (sym same)

module _ (facts : List Fact) (d : AreDistinct (map fact_name facts)) where
  pub note-by_name : (id : List ℕ) → current_note facts id ≡ current_note (by_name fact_name facts) id
  note-by_name id = greatest-items as_note (λ n. bytes_eq n.id id) (λ n. n.date) (λ n. n.name) note_name facts d
