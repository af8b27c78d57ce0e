-- The names whose rows aren't those that were noted are those that have changed.
use mathlib.Core.Bool.{true≢false}
use Rattle.std.specs.Prelude.{◌≡◌, ◌≢◌, ℕ, zero, suc, ◌+◌, ◌<◌, List, [], ◌∷◌, ◌++◌, Bool, true, false, ◌&&◌, ◌||◌, not, cond, Some, None, map, filter, take, get_or, length}
use Rattle.std.proofs.Common.{refl, sym, ap, ◌∙◌, subst, arith}
use Rattle.std.specs.Bool.{MatchBool}
use Rattle.std.specs.Str.{bytes_eq}
use Rattle.std.specs.List.{AllByRecursion}
use Rattle.std.specs.List.Sorted.{IsStrictlySortedBy}
use Rattle.std.specs.Ordering.{is_eq}
use Rattle.std.specs.Cmp.Lexicographic.{texts_ties, bytes_decides, nat_list_eq_equiv}
use Rattle.std.specs.declared.cmp.Ordering.TheVariants.{Less}
use Rattle.std.proofs.lemmas.List.{take_more, map-append}
use Rattle.std.proofs.lemmas.List.Folds.{list_any-append}
use Rattle.std.proofs.lemmas.List.Kept.{IsStrictlySortedBy-filter}
use Rattle.std.proofs.lemmas.Bool.{and_parts}
use Rattle.fsl_order.specs.Names.{bytes_cmp, has}
use Rattle.fsl_order.specs.Rows.{ListsChanged}
use Rattle.fsl_order.proofs.RowLemmas.{has-filter}
use Rattle.fsl_forum.specs.declared.PostKind.{PostKind}
use Rattle.fsl_forum.specs.declared.PostKind.TheVariants.{Start, Edit, Reply}
use Rattle.fsl_forum.specs.declared.rows.Noted.{Noted}
use Rattle.fsl_forum.specs.Rows.{Row, differing, noted_in, same_kind, same_row}

-- ---- rows that are one

kind-itself : (k : PostKind) → same_kind k k ≡ true
kind-itself Start = refl
kind-itself Edit = refl
kind-itself Reply = refl

kind-one : (k l : PostKind) → same_kind k l ≡ true → k ≡ l
kind-one Start Start h = refl
kind-one Edit Edit h = refl
kind-one Reply Reply h = refl
kind-one Start Edit h = cc
kind-one Start Reply h = cc
kind-one Edit Start h = cc
kind-one Edit Reply h = cc
kind-one Reply Start h = cc
kind-one Reply Edit h = cc

pub row-itself : (r : Row) → same_row r r ≡ true
row-itself None = refl
row-itself (Some r) = ap (λ b. b && same_kind r.1 r.1) (nat_list_eq_equiv.refl r.0) ∙ kind-itself r.1

pub row-one : (r s : Row) → same_row r s ≡ true → r ≡ s
row-one None None h = refl
row-one None (Some s) h = cc
row-one (Some r) None h = cc
row-one (Some r) (Some s) h = let b = and_parts (bytes_eq r.0 s.0) (same_kind r.1 s.1) h in λ i. Some ((bytes_decides r.0 s.0).0 b.0 i, kind-one r.1 s.1 b.1 i)

-- ---- the list of names

pub noted-more : (rows : List ℕ → Row) (names : List (List ℕ)) (i : ℕ) (x : List ℕ) → i < length names → x ≡ get_or names i x → map (noted_in rows) (take i names) ++ noted_in rows x ∷ [] ≡ map (noted_in rows) (take (i + 1) names)
noted-more rows names i x within is = sym (ap (map (noted_in rows)) (take_more names i x within ∙ ap (λ y. take i names ++ y ∷ []) (sym is)) ∙ map-append (noted_in rows) (take i names) (x ∷ []))

differing-append : (rows : List ℕ → Row) (ns ms : List Noted) → differing rows (ns ++ ms) ≡ differing rows ns ++ differing rows ms
differing-append rows [] ms = refl
differing-append rows (n ∷ ns) ms =
    elim (same_row n.row (rows n.name)) as (λ b. cond b (differing rows (ns ++ ms)) (n.name ∷ differing rows (ns ++ ms)) ≡ cond b (differing rows ns) (n.name ∷ differing rows ns) ++ differing rows ms) [
      | true ↦ differing-append rows ns ms
      | false ↦ ap (λ l. n.name ∷ l) (differing-append rows ns ms)
    ]

pub differing-more : (rows : List ℕ → Row) (ns : List Noted) (i : ℕ) (n : Noted) → i < length ns → n ≡ get_or ns i n → differing rows (take i ns) ++ cond (same_row n.row (rows n.name)) [] (n.name ∷ []) ≡ differing rows (take (i + 1) ns)
differing-more rows ns i n within is = sym (ap (differing rows) (take_more ns i n within ∙ ap (λ m. take i ns ++ m ∷ []) (sym is)) ∙ differing-append rows (take i ns) (n ∷ []))

-- ---- what has changed

module _ (before now : List ℕ → Row) where
  abbrev changes : List ℕ → Bool
  changes x = not (same_row (before x) (now x))

  differing-filter : (names : List (List ℕ)) → differing now (map (noted_in before) names) ≡ filter changes names
  differing-filter [] = refl
  differing-filter (x ∷ names) =
      elim (same_row (before x) (now x)) as (λ b. cond b (differing now (map (noted_in before) names)) (x ∷ differing now (map (noted_in before) names)) ≡ cond (not b) (x ∷ filter changes names) (filter changes names)) [
        | true ↦ differing-filter names
        | false ↦ ap (λ l. x ∷ l) (differing-filter names)
      ]

  pub lists_changed : (names : List (List ℕ)) → IsStrictlySortedBy bytes_cmp names → ((x : List ℕ) → has names x ≡ false → before x ≡ now x) → ListsChanged before now (differing now (map (noted_in before) names))
  lists_changed names up same = subst (ListsChanged before now) (sym (differing-filter names)) (record {
    rising = IsStrictlySortedBy-filter bytes_cmp changes names up;
    differ = λ x. subst (λ b. MatchBool b (before x ≢ now x) (before x ≡ now x)) (sym (has-filter changes names x)) (one x (has names x) refl);
  })
    where
      one : (x : List ℕ) (b : Bool) → has names x ≡ b → MatchBool (b && changes x) (before x ≢ now x) (before x ≡ now x)
      one x false h = same x h
      one x true h =
          elim (same_row (before x) (now x)) as (λ b. same_row (before x) (now x) ≡ b → MatchBool (not b) (before x ≢ now x) (before x ≡ now x)) [
            | true ↦ λ e. row-one (before x) (now x) e
            | false ↦ λ e is. true≢false (sym (row-itself (before x)) ∙ ap (same_row (before x)) is ∙ e)
          ] refl

-- ---- names in order stand once each

pub all-at : {X : Type 0} (P : X → Type 0) (xs : List X) (i : ℕ) (x d : X) → AllByRecursion P xs → i < length xs → x ≡ get_or xs i d → P x
all-at P [] i x d all h is = absurd (omega (arith, h))
all-at P (y ∷ xs) zero x d all h is = subst P (sym is) all.0
all-at P (y ∷ xs) (suc i) x d all h is = all-at P xs i x d all.1 (omega (arith, h)) is

module _ {X : Type 0} (f : X → List ℕ) where
  all-mapped : (P : List ℕ → Type 0) (xs : List X) → AllByRecursion P (map f xs) → AllByRecursion (λ x. P (f x)) xs
  all-mapped P [] all = tt
  all-mapped P (x ∷ xs) all = (all.0, all-mapped P xs all.1)

  pub not-before : (xs : List X) (i : ℕ) (x d : X) → IsStrictlySortedBy bytes_cmp (map f xs) → i < length xs → x ≡ get_or xs i d → has (map f (take i xs)) (f x) ≡ false
  unfolding IsStrictlySortedBy
  not-before [] i x d up h is = absurd (omega (arith, h))
  not-before (y ∷ xs) zero x d up h is = refl
  not-before (y ∷ xs) (suc i) x d up h is =
      let less : bytes_cmp (f y) (f x) ≡ Less = all-at (λ z. bytes_cmp (f y) (f z) ≡ Less) xs i x d (all-mapped (λ z. bytes_cmp (f y) z ≡ Less) xs up.0) (omega (arith, h)) is in
      let other : bytes_eq (f x) (f y) ≡ false = nat_list_eq_equiv.symm (f x) (f y) ∙ texts_ties (f y) (f x) ∙ ap is_eq less in
      (λ j. other j || has (map f (take i xs)) (f x)) ∙ not-before xs i x d up.1 (omega (arith, h)) is

  -- those up to one more
  pub has-more : (xs : List X) (i : ℕ) (x : X) → i < length xs → x ≡ get_or xs i x → (q : List ℕ) → has (map f (take (i + 1) xs)) q ≡ (bytes_eq q (f x) || has (map f (take i xs)) q)
  has-more xs i x within is q =
      ap (λ l. has (map f l) q) (take_more xs i x within ∙ ap (λ y. take i xs ++ y ∷ []) (sym is)) ∙ ap (λ l. has l q) (map-append f (take i xs) (x ∷ []))
      ∙ list_any-append (bytes_eq q) (map f (take i xs)) (f x ∷ []) ∙ either (bytes_eq q (f x)) (has (map f (take i xs)) q)
    where
      either : (a b : Bool) → (b || (a || false)) ≡ (a || b)
      either true true = refl
      either true false = refl
      either false true = refl
      either false false = refl

pub over : {X : Type 0} (a b : Bool) (v r : X) → cond a v (cond b v r) ≡ cond (a || b) v r
over true b v r = refl
over false b v r = refl

same-names : (xs : List (List ℕ)) → map (λ x. x) xs ≡ xs
same-names [] = refl
same-names (x ∷ xs) = ap (λ l. x ∷ l) (same-names xs)

-- of names themselves
pub has-next : (xs : List (List ℕ)) (i : ℕ) (x : List ℕ) → i < length xs → x ≡ get_or xs i x → (q : List ℕ) → has (take (i + 1) xs) q ≡ (bytes_eq q x || has (take i xs) q)
has-next xs i x within is q =
    ap (λ l. has l q) (sym (same-names (take (i + 1) xs))) ∙ has-more (λ y. y) xs i x within is q ∙ ap (λ l. bytes_eq q x || has l q) (same-names (take i xs))

pub names-noted : (rows : List ℕ → Row) (names : List (List ℕ)) → map (λ n. n.name) (map (noted_in rows) names) ≡ names
names-noted rows [] = refl
names-noted rows (x ∷ names) = ap (λ l. x ∷ l) (names-noted rows names)

pub all-noted : (rows : List ℕ → Row) (P : Noted → Type 0) → ((x : List ℕ) → P (noted_in rows x)) → (names : List (List ℕ)) → AllByRecursion P (map (noted_in rows) names)
all-noted rows P all [] = tt
all-noted rows P all (x ∷ names) = (all x, all-noted rows P all names)
